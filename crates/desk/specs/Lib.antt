-- What the desk's functions promise.
pub mod Written
pub mod Line
pub mod Kind
