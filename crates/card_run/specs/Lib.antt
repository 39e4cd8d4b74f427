-- The definitions of the crate `card_run`: what a whole stream of cards comes to, and what its cards say.
pub mod Run
pub mod Said
