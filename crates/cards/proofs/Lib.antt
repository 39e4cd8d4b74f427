-- The laws that the proofs of the cards share, and laws about a whole card: how far it reaches, its arrays, its count bytes, its finishes, a part's roughness.
pub mod Numbers
pub mod Extents
pub mod Says
pub mod Arrays
pub mod CountByte
pub mod Finishes
pub mod Roughness
