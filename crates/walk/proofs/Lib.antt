-- The count by hand at two walks, its bound, and what it is; the walk's values are the single lookup's; a turn of the program's loops.
pub mod ByHand
pub mod Count
pub mod SingleLookup
pub mod Turns
