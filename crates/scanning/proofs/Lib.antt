-- What the proofs of the readers need: of numbers, and of forms.
pub mod Numbers
pub mod Forms
