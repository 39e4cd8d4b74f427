-- The laws that the functions' proofs share, laws on the fixed steps: the root and the floor are what they should be, and how large the steps' results are; and how far
-- a rounded result is from the exact one.
pub mod Floats
pub mod Classes
pub mod Bits
pub mod Root
pub mod Powers
pub mod Value
pub mod Sizes
pub mod Bounds
pub mod Ranges
pub mod LnBound
pub mod ExpBound
pub mod Same
pub mod ZeroWeight
pub mod Nearest
pub mod Unique
pub mod RootBound
pub mod Floor
pub mod Rounding
pub mod Series
pub mod RootOperation
pub mod RootScaled
