-- The definitions of the crate `cards`: what the bytes of a card say.
pub mod Fields
pub mod Cards
