-- The laws that the functions' proofs share, the bound of the 3:1 cone's curve, the law of the measured noses, that no weight goes by half a
-- gap, and from which Mach on a shape's curve is marked.
pub mod Cycle
pub mod ConeBound
pub mod Measured
pub mod Weights
pub mod Beyond
