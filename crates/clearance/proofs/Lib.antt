-- What the promises say of an accepted call.
pub mod Accepted
