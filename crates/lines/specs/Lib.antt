-- What the functions that read a text find, said with the definitions of the rules.
pub mod Found
pub mod Sections
