-- What the merge of a tail of new entries into the sorted pool promises, and its laws; and the sort by digits.
pub mod Inner
