-- The definitions of the crate `sheet_text`: what the program `sheet` prints, byte for byte.
pub mod Bytes
pub mod Text
