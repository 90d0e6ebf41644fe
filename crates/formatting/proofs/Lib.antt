-- What the proofs of the writers need: of numbers, and of forms.
pub mod Texts
pub mod Forms
