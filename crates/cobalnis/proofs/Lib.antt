-- The laws that the proofs of the library's functions share.
pub mod Tables
pub mod Turns
pub mod Back
pub mod LayoutNumber
