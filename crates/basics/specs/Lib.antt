-- What the definitions of `model` say of whole numbers and of lists beyond the kit's own words. This is read with `model`, and before it:
-- definitions, and the two facts without which a fraction's definition cannot be written. Every other law of them stands in `integers` and
-- `sequences`, which pass these names on.
pub mod Orders
pub mod Numbers
pub mod Lists
