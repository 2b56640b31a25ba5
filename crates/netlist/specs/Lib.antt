-- What the parts of the evaluator ask for, and what the maker of sound blocks answers.
pub mod Taken
pub mod Made
