-- What spread and gather share, and the laws.
pub mod LoopLaws
pub mod laws
