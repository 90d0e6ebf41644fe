-- What the lookup has found, in the model's terms.
pub mod States
