-- `remove_maintain` by its tests, in the words of the code's goals: whose object it is, and its outcome either way. Assumes nothing.
use Rattle.basics.specs.Words.{ℕ, ◌≡◌, ◌∙◌, sym, true, false, List, ℤ}
use lib.Ieee.{Float}
use Rattle.basics.proofs.laws.AnswerLaws.{one_refuses}
use Rattle.basics.specs.declared.Refusal.{Refusal}
use Rattle.basics.specs.declared.Refusal.TheVariants.{Tables as NoGrid}
use Rattle.basics.specs.Meaning.Answers.{number_of}
use Rattle.basics.specs.Meaning.Refusals.{first_of}
use Rattle.slots.specs.declared.Handle.{Handle}
use Rattle.slots.proofs.laws.HandleLaws.{good_says}
use Rattle.point_records.specs.Meaning.Trackers.{own_tests}
use Rattle.point_records.proofs.laws.OwnLaws.{own-passed}
use Rattle.point_tables.specs.Meaning.Tables.{Tables, tables}
use Rattle.point_tables.specs.Meaning.Decide.{holds, holds_says}
use Rattle.point_tables.specs.Meaning.Outcome.{outcome}
use Rattle.point_remove.specs.Meaning.RemoveMaintain.{remove_maintain_tests, remove_maintain_of}
use Rattle.point_remove.proofs.laws.RemoveLaws.{remove-done}
use Rattle.point_remove.specs.Inner.{Object, taken_from}
use Rattle.replies.specs.Meaning.Replies.{reply}

module _ (ns : List (List ℕ)) (qs : List (List Float)) (zs : List (List ℤ)) (m : List ℕ) (pool : List (List ℕ)) (spots : List (List Float)) (cells : List (List ℕ)) (h : Handle) (k : ℕ) where
  abbrev t : Tables
  t = tables ns qs zs m pool spots cells

  refused : (why : Refusal) → number_of why ≡ first_of (remove_maintain_tests t h k) → outcome (reply (number_of why) 0) t ≡ remove_maintain_of t h k
  unfolding remove_maintain_of
  refused why e = one_refuses (remove_maintain_tests t h k) _ (λ a. outcome (reply a 0) t) why e

  pub no_grid : holds t ≡ false → outcome (reply 3 0) t ≡ remove_maintain_of t h k
  no_grid e = refused NoGrid (rw e)

  pub not_own : (why : Refusal) → holds t ≡ true → number_of why ≡ first_of (own_tests ns h k) → outcome (reply (number_of why) 0) t ≡ remove_maintain_of t h k
  not_own why e q = refused why (rw e q)

  module _ (e : holds t ≡ true) (z : 0 ≡ first_of (own_tests ns h k)) where
    pub object : Object t h.slot
    object =
        let g = (good_says ns h.slot h.version).yes (own-passed ns h k (sym z)).is_good_lem in
        record { held = (holds_says t).yes e; inside = g.0; occupied = g.1 }

    pub done : (d : ℕ) (w : Tables) → outcome d w ≡ taken_from t h.slot → outcome (reply 0 d) w ≡ remove_maintain_of t h k
    done d w q = (λ i. outcome (reply 0 (q i).result) (q i).after) ∙ sym (remove-done t h k e (own-passed ns h k (sym z)))

-- the refusals of `take`
pub ruleset removing = (no_grid, not_own)
