-- Where each point stands after deferred calls and maintain, what a circle reports then, and what maintain counts.
pub mod Meaning
pub mod Inner
