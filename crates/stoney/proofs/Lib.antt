-- That Mach rises within each table, which segment holds a Mach number, the law of the two tables that are run down to Mach 0.8, the lookup as one walk through the
-- corners of the broken line, that what a table says is bounded, how far it is from that line, which Machs are
-- beyond a table, and that no table is empty.
pub mod Rises
pub mod Segments
pub mod RunDown
pub mod Corners
pub mod Bounded
pub mod Segment
pub mod Distance
pub mod Beyond
pub mod Table
