-- The laws that the proofs of the text share.
pub mod Puts
pub mod Prefix
pub mod NoBytes
pub mod OneFinish
