-- `point_search::fill::fill_many`: the first k places of the small array stand in the large one. Assumes nothing.
use Rattle.basics.specs.Words.{◌≡◌, replicate, take}
use Rattle.storage.specs.Meaning.Keyed.{written}
use Rattle.point_search.proofs.fill.fill_many.Given as goal

abbrev pub invariant-loop-k : goal.invariant-loop-k
invariant-loop-k l = l.all ≡ written (take l.k l.few) (replicate 4096 0)
