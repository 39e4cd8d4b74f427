-- The values of docs/REFERENCE.md, Values, that are theorems.
pub mod Values
