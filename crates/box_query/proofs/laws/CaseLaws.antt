-- What the two queries make of document 01's cases, whatever else the grid holds: a box that intersects by rounding is reported at size 10
-- and not at size 1, where no cell is shared; a range of 4,096 cells is accepted, and one of 4,160 gets answer 7. Assumes nothing.
use Rattle.basics.specs.Words.{ℕ, ◌<◌, ◌≡◌, refl, sym, ap, ◌∙◌, true, false, List, Memᴰ, T, arith}
use lib.Ieee.{Float, of_bits, lt, le, eq, add, sub, neg, fits}
use Rattle.basics.proofs.laws.Says.{apart}
use Rattle.geometry.specs.Meaning.Domain.{aabb_in_domain}
use Rattle.geometry.specs.Meaning.Intersects.{overlaps, intersects}
use Rattle.cells.specs.Meaning.CellRule.{cell_of}
use Rattle.cells.specs.Meaning.Range.{cells_in}
use Rattle.slots.specs.Meaning.Slot.{live, phase_at}
use Rattle.box_tables.specs.Meaning.Tables.{Tables, size_of, slots_of, aabb_on, covers}
use Rattle.box_tables.specs.Meaning.Holds.{Holds}
use Rattle.box_tables.specs.Meaning.Decide.{holds}
use Rattle.box_search.specs.Meaning.Search.{broad, narrow}
use Rattle.box_query.specs.Meaning.Queries.{handles_of, broad_of, findings, query_of}
use Rattle.box_search.proofs.laws.Shared.{ranged}
use Rattle.box_query.specs.Inner.Look.{early_of}
use Rattle.box_query.proofs.laws.AnswerLaws.{early_7, early_0, broad_early, query_early}
use Rattle.box_search.proofs.laws.BroadLaws.{broad-met, query_exactly}
use Rattle.box_search.proofs.laws.SharedLaws.{broad_ranged, ranged_broad}
use Rattle.box_query.proofs.laws.Cases.{stored, asked, square, wider}
use Rattle.replies.specs.Meaning.Replies.{count}

asked-fits : T (aabb_in_domain asked)
unfolding of_bits le lt eq fits
asked-fits = tt

asked_meets : intersects asked stored ≡ true
unfolding of_bits lt le eq add sub neg overlaps intersects
asked_meets = refl

shared_at_10 : ranged 10 asked stored ≡ true
unfolding of_bits cell_of
shared_at_10 = refl

apart_at_1 : ranged 1 asked stored ≡ false
unfolding of_bits cell_of
apart_at_1 = refl

module _ (t : Tables) (h : Holds t) (s : ℕ) (b : aabb_on t s ≡ stored) where
  pub rounding_reported : s < slots_of t → phase_at t.nums s ≡ live → size_of t ≡ 10 → Memᴰ s (narrow t asked)
  rounding_reported l o e =
      let r : ranged (size_of t) asked (aabb_on t s) ≡ true = (λ z. ranged (e z) asked (b z)) ∙ shared_at_10 in
      (query_exactly t h asked asked-fits s).1 (broad-met t h asked asked-fits s (ranged_broad t h asked asked-fits s l o r)) (ap (intersects asked) b ∙ asked_meets)

  pub rounding_missed : size_of t ≡ 1 → Memᴰ s (broad t asked) → ⊥
  rounding_missed e m =
      let r : ranged (size_of t) asked (aabb_on t s) ≡ false = (λ z. ranged (e z) asked (b z)) ∙ apart_at_1 in
      apart (sym r ∙ broad_ranged t h asked asked-fits s m)

square-fits : aabb_in_domain square ≡ true
unfolding of_bits le lt eq fits
square-fits = refl

wider-fits : aabb_in_domain wider ≡ true
unfolding of_bits le lt eq fits
wider-fits = refl

square-cells : covers 1 square ≡ 4096
unfolding of_bits cell_of cells_in
square-cells = refl

wider-cells : covers 1 wider ≡ 4160
unfolding of_bits cell_of cells_in
wider-cells = refl

module _ (t : Tables) (h : holds t ≡ true) (one : size_of t ≡ 1) where
  -- neither 3, nor 6, nor 7
  pub square-accepted : early_of t square ≡ 0
  square-accepted = early_0 t square h square-fits (omega (arith, ap (λ (n : ℕ). covers n square) one ∙ square-cells))

  wider_early : early_of t wider ≡ 7
  wider_early = early_7 t wider h wider-fits (omega (arith, ap (λ (n : ℕ). covers n wider) one ∙ wider-cells))

  some : early_of t wider ≡ 0 → ⊥
  some e = omega (arith, wider_early)

  pub broad_too_wide : (handles : List (List ℕ)) → handles_of (count 7 0) handles ≡ broad_of t wider handles
  broad_too_wide handles = ap (λ (n : ℕ). handles_of (count n 0) handles) (sym wider_early) ∙ broad_early t wider handles some

  pub query_too_wide : (handles : List (List ℕ)) (boxes : List (List Float)) (objs : List ℕ) → findings (count 7 0) handles boxes objs ≡ query_of t wider handles boxes objs
  query_too_wide handles boxes objs = ap (λ (n : ℕ). findings (count n 0) handles boxes objs) (sym wider_early) ∙ query_early t wider handles boxes objs some
