-- `point_pool::run_end`: every entry from `from` to j is right in the list, and the marks say which slots were named. Assumes nothing.
use Rattle.basics.specs.Words.{ℕ, ◌≤◌, ◌<◌, ◌≡◌, length}
use Rattle.basics.specs.Meaning.Limits.{most_slots}
use Rattle.point_pool.specs.Inner.Pass.{Here, Named}
use Rattle.point_pool.proofs.run_end.Given as goal

abbrev pub invariant-loop-j : goal.invariant-loop-j
invariant-loop-j l = record {
  each : (i : ℕ) → i < l.j → l.from ≤ i → Here l.nums l.reals l.ints l.pool l.spots l.fn.spans.size l.key l.mark i;
  named : Named l.pool l.marks l.j;
  length_marks : length l.marks ≡ most_slots;
  same_size : l.spans.size ≡ l.fn.spans.size;
}
