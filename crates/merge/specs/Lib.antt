-- What the merge of the streams of a step is.
pub mod Streams
pub mod Heads
