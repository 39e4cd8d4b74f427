-- When a stored line of the formulas, noses and curves agrees.
pub mod Lines
