-- What the box grid of the trace answers to a request.
pub mod Meaning
