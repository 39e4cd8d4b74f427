-- That the friction of a flow that passed its test is a number.
pub mod Answered
