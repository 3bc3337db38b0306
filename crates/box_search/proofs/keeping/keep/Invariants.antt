-- `box_search::keeping::keep`: of the slots passed, those that are kept stand first. Assumes nothing.
use Rattle.geometry.specs.Meaning.Intersects.{intersects}
use Rattle.box_tables.specs.Meaning.Tables.{aabb_at}
use Rattle.box_search.proofs.laws.KeepLaws.{Kept}
use Rattle.box_search.proofs.keeping.keep.Given as goal

abbrev pub invariant-loop-j : goal.invariant-loop-j
invariant-loop-j l = Kept (λ s. intersects l.q (aabb_at l.reals s)) l.fn.found l.found l.k l.j
