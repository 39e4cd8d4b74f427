-- What answers to a `?` cite.
pub mod HandedOn
