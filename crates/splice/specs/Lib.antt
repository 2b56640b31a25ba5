-- What it is to put new terms into a store in place.
pub mod Splicing
