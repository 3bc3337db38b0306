-- Assumes nothing.
use Rattle.basics.specs.Words.{ℕ, ◌+◌, ◌<◌, ◌≡◌, false, List, [], ◌∷◌, ◌++◌, get_or, arith}
use Rattle.storage.specs.Meaning.Keyed.{All}
use Rattle.box_tables.specs.Meaning.Tables.{slot_of}
use Rattle.box_search.specs.Inner.Gather.{slots_in}
use Rattle.box_search.proofs.laws.CollectLaws.{slots_next, slots-none, slots-below, collected-none, collected-room, collected-taken, collected-passed, collected_as}
use Rattle.box_search.proofs.gathering.gather_run.Goals as goal
use Rattle.box_search.proofs.gathering.gather_run.Goals.{In-loop-j, then-not-marks-s, else-not-marks-s}

pub loop-j-init : goal.loop-j-init
loop-j-init c = let a = c.args in collected-none a.marks.now a.found.now a.n _ (slots-none a.pool.now a.from)

-- what is collected at the loop's head, and the slot at hand
abbrev so_far : In-loop-j → List ℕ
so_far c = slots_in c.args.pool.now c.args.from c.loop-j.j

abbrev slot : In-loop-j → ℕ
slot c = slot_of (get_or c.args.pool.now c.loop-j.j [])

below : (c : In-loop-j) → All (λ s. s < 256) (so_far c)
below c = slots-below c.args.pool.now c.args.from c.args.to c.requires.2 c.loop-j.j (omega arith) c.requires.1

room : (c : In-loop-j) → get_or c.loop-j.marks (slot c) false ≡ false → c.loop-j.k < 256
room c e = collected-room c.args.marks.now c.args.found.now c.args.n (so_far c) c.loop-j.marks c.loop-j.found c.loop-j.k (slot c) c.loop-j.invariant c.requires.4 (below c) c.requires.3 (c.requires.2 c.loop-j.j (omega arith)) e

pub bounds-found-k : goal.bounds-found-k
bounds-found-k c = room (goal.at.bounds-found-k c).In-loop-j c.if-not-marks-s.true

pub loop-j-preserved : goal.loop-j-preserved
loop-j-preserved c =
    let i = (goal.at.loop-j-preserved c).In-loop-j in
    let a = c.args in
    let l = c.loop-j in
    let e : slots_in a.pool.now a.from (l.j + 1) ≡ so_far i ++ (slot i ∷ []) = slots_next a.pool.now a.from l.j (omega arith) (omega (arith, c.requires.1)) in
    elim c.if-not-marks-s.branch [
      | then-not-marks-s w ↦ collected_as a.marks.now a.found.now a.n _ _ _ _ _ _ _ e w.found-is w.k-is (collected-taken a.marks.now a.found.now a.n (so_far i) l.marks l.found l.k (slot i) l.invariant w.if-not-marks-s.true (omega (arith, room i w.if-not-marks-s.true, c.requires.5)))
      | else-not-marks-s w ↦ collected_as a.marks.now a.found.now a.n _ _ _ _ _ _ _ e w.found-is w.k-is (collected-passed a.marks.now a.found.now a.n (so_far i) l.marks l.found l.k (slot i) l.invariant w.if-not-marks-s.false)
    ]
