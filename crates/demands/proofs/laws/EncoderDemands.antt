-- Demand 1 on the encoder's layer: bad input gets the refusal that is listed, and a refused call leaves the map as it was. The grids are lent by `&`, so
-- their tables stay. And what is pending does not count in the map. Assumes nothing.
use Rattle.basics.specs.Words.{ℕ, ◌≡◌, refl, sym, ap, ◌∙◌, Bool, true, false, not, List, [], ◌∷◌, ⊎_elim, eqb, arith, eqb-true, ne_eqb}
use lib.Ieee.{Float}
use Rattle.basics.specs.Meaning.Refusals.{Refusal, first_of, pick, first_that}
use Rattle.basics.proofs.laws.RefusalLaws.{in_order}
use Rattle.basics.proofs.laws.Says.{d_eq}
use Rattle.storage.proofs.laws.FilterLaws.{by_test}
use Rattle.point_tables.specs.Meaning.Tables as Points
use Rattle.point_tables.specs.Meaning.Decide.{holds, holds_says}
use Rattle.point_deferred.specs.Meaning.Moves.{pended}
use Rattle.point_deferred.specs.Meaning.Calls.{Call, call_of, tables_after}
use Rattle.point_deferred.proofs.laws.MovesKeeps.{call_keeps}
use Rattle.point_deferred.proofs.laws.AnswerLaws.{call_unheld, call-refused}
use Rattle.whereabouts.proofs.laws.CallLaws.{given}
use Rattle.box_tables.specs.Meaning.Tables as Boxes
use Rattle.encoder.specs.Meaning.Map.{map_of}
use Rattle.encoder.specs.Meaning.FillMap.{fill_map_tests, MapFilled, map_filled, fill_map_of}
use Rattle.demands.proofs.laws.EncoderLaws.{lists_of, fill_same}

module _ (t : Points.Tables) (b : Boxes.Tables) (circles : List (List Float)) (bytes : List ℕ) where
  abbrev tests : List Refusal
  tests = fill_map_tests t b circles bytes

  -- the first that applies
  pub encoder_answer : (fill_map_of t b circles bytes).answer ≡ first_that (fill_map_tests t b circles bytes)
  unfolding fill_map_of
  encoder_answer = go (eqb (first_of tests) 0) refl ∙ in_order tests refl
    where
      go : (z : Bool) → eqb (first_of tests) 0 ≡ z → (pick z (map_filled 0 (map_of t b circles)) (map_filled (first_of tests) bytes)).answer ≡ first_of tests
      go true e = sym (eqb-true (first_of tests) 0 e)
      go false e = refl

  -- and a call that is refused leaves the map as it was
  pub encoder_unchanged : (first_that (fill_map_tests t b circles bytes) ≡ 0 → ⊥) → fill_map_of t b circles bytes ≡ map_filled (first_that (fill_map_tests t b circles bytes)) bytes
  unfolding fill_map_of
  encoder_unchanged n =
      let e : first_of tests ≡ first_that tests = in_order tests refl in
      rw (ne_eqb (first_of tests) 0 (λ z. n (sym e ∙ z))) (ap (λ a. map_filled a bytes) e)

  -- any two results that the promise permits are equal, answer and map
  pub encoder_determined : (r₁ r₂ : MapFilled) → r₁ ≡ fill_map_of t b circles bytes → r₂ ≡ fill_map_of t b circles bytes → r₁ ≡ r₂
  encoder_determined r₁ r₂ e f = e ∙ sym f

-- ---- a deferred call leaves the lists, and a grid where there was one
module _ (t : Points.Tables) (c : Call) where
  lists_stay : lists_of (call_of t c).after ≡ lists_of t
  unfolding pended
  lists_stay =
      ⊎_elim
      (λ a. ap lists_of (given t c a).after)
      (λ n. ap lists_of (call-refused t c n).0)
      (d_eq (call_of t c).result.answer 0)

  holds-stays : holds (call_of t c).after ≡ holds t
  holds-stays =
      by_test (holds t)
      (λ k. (holds_says (call_of t c).after).no (call_keeps t c ((holds_says t).yes k)) ∙ sym k)
      (λ k. ap holds (call-refused t c (λ z. omega (arith, (call_unheld t c).yes (ap not k)))).0)

-- what is pending does not count: deferred calls, whatever they are answered, change no byte of the map that a call fills, and no answer
pub pending_unseen : (t : Points.Tables) (calls : List Call) (b : Boxes.Tables) (circles : List (List Float)) (bytes : List ℕ)
    → fill_map_of (tables_after t calls) b circles bytes ≡ fill_map_of t b circles bytes
unfolding tables_after
pending_unseen t [] b circles bytes = refl
pending_unseen t (c ∷ cs) b circles bytes =
    let u = (call_of t c).after in
    pending_unseen u cs b circles bytes ∙ fill_same u t (lists_stay t c) b circles bytes (holds-stays t c)
