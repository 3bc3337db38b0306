-- Sixteenths and binary32: every count that a field can hold has its binary32 number, and comes back from it.
pub mod Meaning
