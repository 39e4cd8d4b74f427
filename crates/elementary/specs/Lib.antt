-- The definitions of the crate `elementary`: the notation, the constants, a float taken apart, IEEE 754's classes, the fixed steps (docs/REFERENCE.md, Fixed steps), tests on
-- floats, their order, when two are one, what a root is, and how far a float is from a fraction.
pub mod Arithmetic
pub mod Constants
pub mod Figures
pub mod Split
pub mod Classes
pub mod Root
pub mod Steps
pub mod Tests
pub mod Order
pub mod Equal
pub mod Nearest
pub mod Distance
