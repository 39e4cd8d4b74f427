-- Laws of the tests: their order, and what they have shown once passed. Laws of the rows of F finishes, and of lists in chunks.
pub mod Order
pub mod Held
pub mod Finishes
pub mod Chunks
