-- What the contracts of nose_drag cite: its constants, a definition for each of its functions, and how deep the code's cycle goes.
-- The definitions have no depth: the cone's curve comes first, then references, then methods, then curves. `Values` has the code's shorter ways,
-- `Weights` what holds of the weights, `Between` between which references `new_curve` puts a shape, `Answered` what a curve refuses,
-- `Beyond` whether it rests on a table beyond its last point.
pub mod Constants
pub mod Forms
pub mod Below
pub mod Methods
pub mod Values
pub mod Curves
pub mod Depth
pub mod Weights
pub mod Between
pub mod Answered
pub mod Beyond
