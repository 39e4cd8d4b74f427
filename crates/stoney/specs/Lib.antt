-- Stoney's tables as they were read, the points that the program stores, what a table says at a Mach number, the steps of the walk along a
-- stretch of points, what the laws of the segments speak of, the exact broken line through the points, and how far from it the lookup is.
pub mod Tables
pub mod Points
pub mod Lookup
pub mod Stored
pub mod Segments
pub mod BrokenLine
pub mod Distance
