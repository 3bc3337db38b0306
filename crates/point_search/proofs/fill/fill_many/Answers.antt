-- Assumes nothing.
use Rattle.basics.specs.Words.{ℕ, ◌+◌, ◌≤◌, ◌<◌, ◌≡◌, sym, ap, ◌∙◌, List, [], ◌∷◌, ◌++◌, length, get_or, set, take, replicate, length-replicate, length-take-le, take-suc, add-one, arith}
use Rattle.storage.specs.Meaning.Keyed.{written}
use Rattle.storage.proofs.laws.WrittenLaws.{written_next}
use Rattle.std.specs.Prelude.{Float}
use Rattle.cells.specs.declared.Cell.{Cell}
use Rattle.point_search.specs.declared.Test.{Test}
use Rattle.point_search.specs.Inner.Fill.{Findable}
use Rattle.point_search.specs.Inner.Begun.{Begun}
use Rattle.point_search.proofs.laws.BegunLaws.{begun-few, begun-room, begun-each}
use Rattle.point_search.proofs.fill.fill_many.Goals as goal

-- what is collected has room in its array, and in one of 4,096 places
module _ {a b : Cell} {test : Test} {pool : List (List ℕ)} {spots : List (List Float)} {n i : ℕ} {few : List ℕ} (h : Begun a b test pool spots n i few) where
  room : n ≤ length few
  room = begun-room a b test pool spots n i few h

  most : i ≤ 4096 → n ≤ 4096
  most l = omega (arith, begun-few a b test pool spots n i few h)

-- one place more of an array stands in another
next : (few o all : List ℕ) (k : ℕ) → k < length few → k < length o → all ≡ written (take k few) o → set all k (get_or few k 0) ≡ written (take (k + 1) few) o
next few o all k h m e =
    let n : length (take k few) ≡ k = length-take-le k few (omega arith) in
    let more : take (k + 1) few ≡ take k few ++ (get_or few k 0 ∷ []) = rw (add-one, take-suc few k 0 h) in
    (λ z. set (e z) (sym n z) (get_or few k 0)) ∙ written_next 0 (take k few) o (get_or few k 0) (omega arith) ∙ ap (λ (l : List ℕ). written l o) (sym more)

pub bounds-all-k : goal.bounds-all-k
bounds-all-k c = omega (arith, most c.requires.2 (omega arith))

pub loop-k-preserved : goal.loop-k-preserved
loop-k-preserved c =
    let r = room c.requires.2 in
    let m = most c.requires.2 (omega arith) in
    next c.args.few.now (replicate 4096 0) c.loop-k.all c.loop-k.k (omega arith) (omega (arith, length-replicate {A = ℕ} 4096 0)) c.loop-k.invariant

pub report-requires : goal.report-requires
report-requires c =
    let a = c.args in
    let r = c.gather-whole.result in
    let begun = c.gather-whole.ensures.0 in (
      (
        room begun,
        c.requires.0.3,
        begun-each a.a a.b a.test a.pool.now a.spots.now r.number r.place c.gather-whole.new.places begun (Findable a.nums.now a.pool.now a.spots.now)
            (λ j l. c.requires.0.4 j (omega (arith, l, c.gather-whole.ensures.1))),
      ),
      most begun (omega (arith, c.gather-whole.ensures.1, c.requires.0.0.most)),
    )
