-- How a stored line is read, how a list of them is replayed, and what is counted.
pub mod Words
pub mod Lines
pub mod Counts
