-- The walk by tags is the walk by states: a list keeps the same entries. Assumes nothing.
use Rattle.basics.specs.Words.{ℕ, zero, suc, ◌<◌, ◌≤◌, ◌≡◌, refl, ap, ◌∙◌, List, [], ◌∷◌, ◌++◌, length, get_or, eqb, ℤ, pos, arith, eqb-true, eqb-false, ne_eqb}
use lib.Ieee.{Float, nan}
use Rattle.cells.specs.declared.Cell.{Cell}
use Rattle.storage.specs.Meaning.Entries.{Entry, entry}
use Rattle.storage.proofs.laws.FilterLaws.{by_test}
use Rattle.point_records.specs.Meaning.Columns.{state_of}
use Rattle.point_tables.specs.Meaning.Tables.{Tables, size_of, slot_of}
use Rattle.point_maintain.specs.Meaning.Walk.{Fate, stays, leaves, fate_by, fate, staying, rest}
use Rattle.point_maintain.specs.Inner.Kept.{kept_in, kept}
use Rattle.point_maintain_lists.specs.Inner.Tags.{spot_by, fate_of_tag, tag_on, fate_in}

-- two fates that keep the same, and leave the same to look at
pub record Alike (f g : Fate) : Type 0 where
  pub keep : staying f ≡ staying g
  pub next : (es : List Entry) → rest f es ≡ rest g es

module _ (f g : Entry → Fate) (a : (e : Entry) → Alike (f e) (g e)) where
  in_alike : (n : ℕ) (es : List Entry) → kept_in f n es ≡ kept_in g n es
  unfolding kept_in
  in_alike zero es = refl
  in_alike (suc n) [] = refl
  in_alike (suc n) (e ∷ es) = (λ z. (a e).keep z ++ kept_in f n ((a e).next es z)) ∙ ap (λ (l : List Entry). staying (g e) ++ l) (in_alike n (rest (g e) es))

  pub kept-alike : (es : List Entry) → kept f es ≡ kept g es
  unfolding kept
  kept-alike es = in_alike (length es) es

-- ---- the tag and the state
abbrev pending_cell : List ℤ → Cell
pending_cell z = record { x = get_or z 2 (pos 0); y = get_or z 3 (pos 0) }

state-alike : (size tag : ℕ) (e : Entry) (q : List Float) (c : Cell) → Alike (fate_of_tag tag q e) (fate_by size e (state_of tag (record { x = get_or q 2 nan; y = get_or q 3 nan }) c))
state-alike size tag e q c =
    by_test (eqb tag 0)
    (λ a. rw a (record { keep = refl; next = λ es. refl }))
    (λ a. by_test (eqb tag 1)
    (λ b. rw (a, b) (record { keep = refl; next = λ es. refl }))
    (λ b. by_test (eqb tag 2)
    (λ d. rw (a, b, d) (record { keep = refl; next = λ es. refl }))
    (λ d. rw (a, b, d) (record { keep = refl; next = λ es. refl }))))

pub kept_by_tag : (t : Tables) (es : List Entry) → kept (fate_in t.nums t.reals) es ≡ kept (fate t) es
kept_by_tag t es = kept-alike (fate_in t.nums t.reals) (fate t) (λ e. state-alike (size_of t) (tag_on t.nums e) e (get_or t.reals (slot_of e) []) (pending_cell (get_or t.ints (slot_of e) []))) es

-- ---- as the code tests it
module _ (tag : ℕ) (q : List Float) (e : Entry) where
  pub tag_stays : tag < 2 → fate_of_tag tag q e ≡ stays (entry e.row (spot_by tag q e.spot))
  tag_stays h =
      by_test (eqb tag 0)
      (λ a. rw (eqb-true tag 0 a))
      (λ a. by_test (eqb tag 1)
      (λ b. rw (eqb-true tag 1 b))
      (λ b. let x = eqb-false tag 0 a in let y = eqb-false tag 1 b in absurd (omega (arith, x, y))))

  pub tag-leaves : 2 ≤ tag → fate_of_tag tag q e ≡ leaves []
  tag-leaves h = rw (ne_eqb tag 0 (λ z. omega arith), ne_eqb tag 1 (λ z. omega arith))
