-- The definitions of the crate `drag_sheet`: the formulas of a sheet's cells (docs/REFERENCE.md, Rows), a sheet built from nothing, rows written over cells, the calls,
-- the model that a list of calls is held against, and the statement over lists.
pub mod Formulas
pub mod Planes
pub mod Body
pub mod Build
pub mod Writing
pub mod Calls
pub mod Edits
pub mod Model
pub mod Lists
