-- The definitions of the crate `sheet_data`: where the cells of a sheet lie, what a sheet holds, the tests of a sheet given in the order of docs/REFERENCE.md,
-- Order of tests, and the laws of lists by index and of rows that the crates above share.
pub mod Layout
pub mod Contents
pub mod Tests
pub mod Tables
pub mod Rows
pub mod RowLaws
