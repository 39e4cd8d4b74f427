-- What the contracts of drag cite: its constants, and a definition for each of its functions; `Walls` and `Flows` have the code's shorter ways to a friction,
-- `Answered` where they give a number.
pub mod Constants
pub mod Decimals
pub mod Friction
pub mod Walls
pub mod Flows
pub mod Pressure
pub mod Answered
