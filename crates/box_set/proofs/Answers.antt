-- `set_aabb` by its answer: the answer test by test, what holds where it is 0, and the outcome either way. Assumes nothing.
use Rattle.basics.specs.Words.{ℕ, ◌+◌, ◌<◌, ◌≤◌, ◌≡◌, refl, sym, ◌∙◌, ap, Bool, true, false, List, [], ◌∷◌, length, T, arith, ne_eqb, le-leb, lt-leb}
use Rattle.std.specs.Prelude.{Ok, Err}
use Rattle.basics.proofs.laws.Says.{says_t}
use Rattle.basics.proofs.laws.NumberLaws.{not_zero}
use Rattle.basics.specs.declared.Refusal.{Refusal as Why}
use Rattle.basics.specs.declared.Refusal.TheVariants.{Tables as NoGrid, OutsideDomain, TooManyCells, PoolFull}
use Rattle.basics.specs.Meaning.Answers.{number_of}
use Rattle.basics.specs.Meaning.Refusals.{Refusal, unless, or_else, first_of}
use Rattle.geometry.specs.Meaning.Domain.{aabb_in_domain}
use Rattle.geometry.specs.declared.Aabb.{Aabb}
use Rattle.slots.specs.declared.Handle.{Handle}
use Rattle.slots.specs.Meaning.Slot.{why_not_good, handle_test, handle_refusal}
use Rattle.slots.proofs.laws.HandleLaws.{why_some}
use Rattle.box_tables.specs.Meaning.Tables.{Tables, size_of, used_of, aabb_on, covers}
use Rattle.box_tables.specs.Meaning.Holds.{Holds}
use Rattle.box_tables.specs.Meaning.Decide.{holds, holds_says}
use Rattle.box_tables.specs.Meaning.Outcome.{outcome}
use Rattle.box_tables.specs.declared.Span.{Span}
use Rattle.box_insert.specs.Meaning.Insert.{few_cells}
use Rattle.box_insert.proofs.laws.InsertLaws.{few_says}
use Rattle.box_set.specs.Meaning.SetAabb.{with_other_box, has_room_for, set_aabb_answer, set_aabb_of}
use Rattle.box_remove.proofs.laws.RemoveLaws.{is_good, Names, names}
use Rattle.box_set.proofs.laws.SetAabbLaws.{answer_by, room_for_says}
use Rattle.box_set.proofs.Shifted.{Movable}
use Rattle.box_set.specs.Inner.Steps.{old_span, new_span, Judged}

cells_are : {p q : Span} → p ≡ q → p.cells ≡ q.cells
cells_are e = ap (λ (x : Span). x.cells) e

-- a test that does not pass gives the answer, whatever comes after it
first_lost : (r : Refusal) (rs : List Refusal) → (first_of (r ∷ []) ≡ 0 → ⊥) → first_of (r ∷ rs) ≡ first_of (r ∷ [])
first_lost r rs = go r.passes
  where
    go : (b : Bool) → (or_else b r.number 0 ≡ 0 → ⊥) → or_else b r.number (first_of rs) ≡ or_else b r.number 0
    go true n = absurd (n refl)
    go false n = refl

by_five : (t : Tables) (h : Handle) (b : Aabb) → answer_by (holds t) (aabb_in_domain b) (is_good t h) (why_not_good t.nums h) (few_cells (size_of t) b) (has_room_for t h.slot b) ≡ set_aabb_answer t h b
unfolding set_aabb_answer
by_five t h b = refl

-- the tests of the tables, the box and the handle passed
pub record Passed (t : Tables) (h : Handle) (b : Aabb) : Type 0 where
  pub held : holds t ≡ true
  pub inside : aabb_in_domain b ≡ true
  pub good : is_good t h ≡ true

module _ {t : Tables} {h : Handle} {b : Aabb} (w : Passed t h b) where
  holding : Holds t
  holding = (holds_says t).yes w.held

  object : Names t h
  object = names t h w.good

  pub slot-inside : h.slot < length t.reals
  slot-inside = rw holding.sized.of_reals object.inside

  pub old_inside : T (aabb_in_domain (aabb_on t h.slot))
  old_inside = (holding.boxes h.slot object.inside object.occupied).within_domain

  -- the sums are small
  pub used-small : {q : Span} → q ≡ new_span t.map b → q.cells ≤ 4096 → used_of t + q.cells ≤ 12288
  used-small eq l = omega (arith, holding.counted.used-most, holding.sized.pool-most)

  pub room_small : {p : Span} → p ≡ old_span t.reals t.map h.slot → length t.pool + p.cells ≤ 12288
  room_small ep = omega (arith, cells_are ep, (holding.boxes h.slot object.inside object.occupied).cells-most, holding.sized.pool-most)

few : (t : Tables) (b : Aabb) {q : Span} → q ≡ new_span t.map b → q.cells ≤ 4096 → few_cells (size_of t) b ≡ true
few t b eq l = le-leb (covers (size_of t) b) 4096 (omega (arith, cells_are eq))

-- ---- the answer, test by test
module _ {t : Tables} {h : Handle} {b : Aabb} where
  refuses : (why : Why) → number_of why ≡ set_aabb_answer t h b → Judged t h b (Err why)
  refuses why q = record { answers = q; spans = tt }

  pub told_3 : holds t ≡ false → Judged t h b (Err NoGrid)
  told_3 e = refuses NoGrid (rw e at (by_five t h b))

  pub told_6 : holds t ≡ true → aabb_in_domain b ≡ false → Judged t h b (Err OutsideDomain)
  told_6 e i = refuses OutsideDomain (rw (e, i) at (by_five t h b))

  pub told_lost : (why : Why) → holds t ≡ true → aabb_in_domain b ≡ true → number_of why ≡ handle_refusal t.nums h → Judged t h b (Err why)
  told_lost why e i q =
      refuses why
      (q
      ∙ sym (first_lost (handle_test t.nums h) (unless (few_cells (size_of t) b) 7 ∷ unless (has_room_for t h.slot b) 8 ∷ []) (λ z. not_zero why (q ∙ z)))
      ∙ (rw (e, i) at (by_five t h b)))

  module _ (w : Passed t h b) {q : Span} (eq : q ≡ new_span t.map b) where
    pub told_7 : 4096 < q.cells → Judged t h b (Err TooManyCells)
    told_7 l =
        let x : few_cells (size_of t) b ≡ false = lt-leb (covers (size_of t) b) 4096 (omega (arith, cells_are eq)) in
        refuses TooManyCells (rw (w.held, w.inside, w.good, x) at (by_five t h b))

    module _ (l : q.cells ≤ 4096) {p : Span} (ep : p ≡ old_span t.reals t.map h.slot) where
      pub told_8 : length t.pool + p.cells < used_of t + q.cells → Judged t h b (Err PoolFull)
      told_8 m =
          let x : has_room_for t h.slot b ≡ false = lt-leb (used_of t + covers (size_of t) b) (length t.pool + covers (size_of t) (aabb_on t h.slot)) (omega (arith, cells_are eq, cells_are ep)) in
          refuses PoolFull (rw (w.held, w.inside, w.good, few t b eq l, x) at (by_five t h b))

      pub told_0 : used_of t + q.cells ≤ length t.pool + p.cells → Judged t h b (Ok (record { old = p; new = q }))
      told_0 m =
          let x : has_room_for t h.slot b ≡ true = le-leb (used_of t + covers (size_of t) b) (length t.pool + covers (size_of t) (aabb_on t h.slot)) (omega (arith, cells_are eq, cells_are ep)) in
          record { answers = (rw (w.held, w.inside, w.good, few t b eq l, x) at (by_five t h b)); spans = (ep, eq) }

-- ---- the outcome
all_passed : (a i g f r : Bool) (n : ℕ) → (n ≡ 0 → ⊥) → answer_by a i g n f r ≡ 0 → (a ≡ true) × (i ≡ true) × (g ≡ true) × (f ≡ true) × (r ≡ true)
all_passed true true true true true n z e = (refl, refl, refl, refl, refl)
all_passed true true true true false n z e = absurd (omega arith)
all_passed true true true false r n z e = absurd (omega arith)
all_passed true true false f r n z e = absurd (z e)
all_passed true false g f r n z e = absurd (omega arith)
all_passed false i g f r n z e = absurd (omega arith)

module _ (t : Tables) (h : Handle) (b : Aabb) (a : ℕ) (ea : a ≡ set_aabb_answer t h b) where
  pub movable : (w : ℕ) → w ≡ h.slot → a ≡ 0 → Movable t w b
  unfolding set_aabb_answer
  movable w ew z =
      let k = all_passed (holds t) (aabb_in_domain b) (is_good t h) (few_cells (size_of t) b) (has_room_for t h.slot b) (why_not_good t.nums h) (why_some t.nums h) (sym ea ∙ z) in
      let n = names t h k.2 in
      rw ew
      (record {
        object = record { held = (holds_says t).yes k.0; inside = n.inside; occupied = n.occupied };
        within_domain = (says_t (aabb_in_domain b)).yes k.1;
        few = (few_says t b).yes k.3;
        room = (room_for_says t h.slot b).yes k.4;
      })

  pub refused : (a ≡ 0 → ⊥) → outcome a t ≡ set_aabb_of t h b
  unfolding set_aabb_of
  refused n = rw (← ea, ne_eqb a 0 n)

  pub done : (w : ℕ) → w ≡ h.slot → a ≡ 0 → (u : Tables) → u ≡ with_other_box t w b → outcome 0 u ≡ set_aabb_of t h b
  unfolding set_aabb_of
  done w ew z u q = rw (← ea, z, q, ew)
