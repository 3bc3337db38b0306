-- `box_search::gathering::gather_run`: the slots of the entries passed that had no mark stand behind the first n. Assumes nothing.
use Rattle.box_search.specs.Inner.Gather.{slots_in}
use Rattle.box_search.specs.Inner.Collected.{Collected}
use Rattle.box_search.proofs.gathering.gather_run.Given as goal

abbrev pub invariant-loop-j : goal.invariant-loop-j
invariant-loop-j l = Collected l.fn.marks l.fn.found l.n (slots_in l.pool l.from l.j) l.marks l.found l.k
