-- What the two grids of the trace answer to a request.
pub mod Meaning
pub mod Inner
