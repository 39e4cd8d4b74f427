-- What the library's functions promise to a program in C or Rust.
pub mod Answers
pub mod Version
pub mod Words
