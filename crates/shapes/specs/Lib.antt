-- What the contract of shapes cites.
pub mod Numbers
