-- The record of an object, its columns, its states, when an occupied record holds, the entry of an object in its cell's list, and spans that are kept.
pub mod Meaning
pub mod Inner
