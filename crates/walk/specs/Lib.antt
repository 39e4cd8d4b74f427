-- What the contracts of walk cite: the tests of the queries, the walk as it is told and what it costs, what a call answers, and the walker of the program.
pub mod Tests
pub mod Walk
pub mod Cost
pub mod Answers
pub mod Walker
