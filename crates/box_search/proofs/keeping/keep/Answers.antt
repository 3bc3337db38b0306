-- Assumes nothing.
use Rattle.basics.specs.Words.{ℕ, ◌+◌, ◌<◌, ◌≡◌, sym, ap, ◌∙◌, length, get_or, arith}
use Rattle.geometry.specs.Meaning.Intersects.{intersects}
use Rattle.box_tables.specs.Meaning.Tables.{aabb_at}
use Rattle.box_search.proofs.laws.KeepLaws.{kept_here, kept-taken, kept-passed, kept_as}
use Rattle.box_search.proofs.keeping.keep.Goals as goal
use Rattle.box_search.proofs.keeping.keep.Goals.{In-loop-j, then-intersects, else-intersects}

inside : (c : In-loop-j) → c.loop-j.j < length c.args.found.now
inside c = omega (arith, c.requires.most, c.requires.size)

-- the slot at hand is the one that was found
here : (c : In-loop-j) → get_or c.loop-j.found c.loop-j.j 0 ≡ get_or c.args.found.now c.loop-j.j 0
here c = kept_here (λ s. intersects c.args.q (aabb_at c.args.reals.now s)) c.args.found.now c.loop-j.found c.loop-j.k c.loop-j.j c.loop-j.invariant (inside c)

pub load_box-requires : goal.load_box-requires
load_box-requires c = let i = (goal.at.load_box-requires c).In-loop-j in rw (here i) (c.requires.each c.loop-j.j (omega arith))

pub loop-j-preserved : goal.loop-j-preserved
loop-j-preserved c =
    let i = (goal.at.loop-j-preserved c).In-loop-j in
    let a = c.args in
    let l = c.loop-j in
    let test = λ (s : ℕ). intersects a.q (aabb_at a.reals.now s) in
    let said : c.intersects.result ≡ test (get_or l.found l.j 0) = c.intersects.ensures ∙ ap (intersects a.q) c.load_box.ensures in
    elim c.if-intersects.branch [
      | then-intersects w ↦ kept_as test a.found.now _ _ _ _ (l.j + 1) w.found-is w.k-is (kept-taken test a.found.now l.found l.k l.j l.invariant (inside i) _ (here i) (sym said ∙ w.if-intersects.true))
      | else-intersects w ↦ kept_as test a.found.now _ _ _ _ (l.j + 1) w.found-is w.k-is (kept-passed test a.found.now l.found l.k l.j l.invariant (inside i) _ (here i) (sym said ∙ w.if-intersects.false))
    ]
