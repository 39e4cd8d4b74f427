-- The laws that the proofs of a run share, and the laws about a whole stream.
pub mod Stream
pub mod Answers
pub mod Prefix
pub mod Never
pub mod Built
pub mod Coasting
pub mod NoCard
pub mod Cut
