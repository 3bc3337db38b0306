-- Trackers that share a point grid: the order in which their deferred calls interleave changes nothing.
pub mod Meaning
