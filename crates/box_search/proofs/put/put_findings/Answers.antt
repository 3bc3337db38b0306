-- Assumes nothing.
use Rattle.basics.specs.Words.{◌<◌, ◌≡◌, refl, ap, ◌∙◌, List, [], ◌∷◌, length, get_or, get_or-take, length-take-le, arith}
use Rattle.std.specs.Float.{nan}
use Rattle.slot_walks.specs.Meaning.Live.{obj_at, handle_at}
use Rattle.storage.proofs.laws.PutLaws.{put_next}
use Rattle.box_search.specs.Meaning.Search.{box_row}
use Rattle.box_search.proofs.put.put_findings.Goals as goal

-- a row of four is its numbers one by one
row-four : {A : Type 0} (d : A) (r : List A) → length r ≡ 4 → r ≡ get_or r 0 d ∷ get_or r 1 d ∷ get_or r 2 d ∷ get_or r 3 d ∷ []
row-four d [] e = absurd (omega (arith, e))
row-four d (a ∷ []) e = absurd (omega (arith, e))
row-four d (a ∷ b ∷ []) e = absurd (omega (arith, e))
row-four d (a ∷ b ∷ c ∷ []) e = absurd (omega (arith, e))
row-four d (a ∷ b ∷ c ∷ x ∷ []) e = refl
row-four d (a ∷ b ∷ c ∷ x ∷ y ∷ r) e = absurd (omega (arith, e))

pub loop-k-preserved : goal.loop-k-preserved
loop-k-preserved c =
    let a = c.args in
    let l = c.loop-k in
    let g = c.requires.0 in
    let room = length-take-le a.n a.found.now (omega (arith, g.most, g.size)) in
    let h : l.k < a.n = omega (arith, room) in
    let e = get_or-take a.n a.found.now l.k 0 h in
    let box = row-four nan (get_or a.reals.now _ []) (c.told-reals _ (omega (arith, e, g.each l.k h, c.requires.1))) in (
      put_next a.found.now l.invariant.0 (omega (arith, g.most, g.size)) c.requires.2 h refl (ap (handle_at a.nums.now) e),
      put_next a.found.now l.invariant.1 (omega (arith, g.most, g.size)) c.requires.3 h refl (box ∙ ap (box_row a.reals.now) e),
      put_next a.found.now l.invariant.2 (omega (arith, g.most, g.size)) c.requires.4 h refl (ap (obj_at a.nums.now) e),
    )
