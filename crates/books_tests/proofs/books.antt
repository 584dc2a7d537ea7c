-- What the tests of this crate need.
mod Draws
