-- What the two passes of the reader find and leave, said with the definitions of the rules.
pub mod Stored
pub mod Checked
