-- What the calls take, made of its numbers, and what the structs of numbers tell.
pub mod Meaning
