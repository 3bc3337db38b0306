-- `point_pool::pool_ok`: with r rows met, all is right up to entry j, the marks say which slots were named, entry j is not right in the list of the last
-- row, and y is the span of its line. Assumes nothing.
use Rattle.basics.specs.Words.{◌-◌, ◌≤◌, ◌<◌, ◌≡◌, length}
use Rattle.basics.specs.Meaning.Limits.{most_slots}
use Rattle.cells.specs.Inner.Key.{cell_of_key}
use Rattle.cells.specs.Inner.Span.{Spans}
use Rattle.storage.specs.Meaning.Packed.{first, second}
use Rattle.point_pool.specs.Inner.Pass.{Here, Named}
use Rattle.point_pool.proofs.laws.PassLaws.{Passed}
use Rattle.point_pool.proofs.pool_ok.Given as goal

abbrev pub invariant-loop-r : goal.invariant-loop-r
invariant-loop-r l = record {
  most : l.j ≤ l.used;
  passed : Passed l.nums l.reals l.ints l.pool l.spots l.cells l.size l.rows l.j l.r;
  named : Named l.pool l.marks l.j;
  length_marks : length l.marks ≡ most_slots;
  none : l.r ≡ 0 → l.last ≡ 0;
  behind : 0 < l.r → l.last ≡ first l.cells (l.r - 1);
  stop : 0 < l.r → l.j < l.used → Here l.nums l.reals l.ints l.pool l.spots l.size (first l.cells (l.r - 1)) (second l.cells (l.r - 1)) l.j → ⊥;
  line : Spans l.size (cell_of_key l.last).y l.y.lo l.y.hi;
  same_size : l.spans.size ≡ l.size;
}
