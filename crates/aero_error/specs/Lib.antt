-- What the contracts of aero_error cite: the numbers of the refusals, what an answer tells of them, and the tests.
pub mod Refusals
pub mod Told
pub mod Checks
pub mod CheckLaws
