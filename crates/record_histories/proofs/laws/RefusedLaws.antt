-- Bad input: a record table of another length, and records that are no grid (a target that disagrees with the cell rule, a NaN, a version 0),
-- get 3, and the records are as they were; the columns have them. Assumes nothing.
use Rattle.basics.specs.Words.{ℕ, ◌≡◌, refl, sym, ap, ◌∙◌, false, List, ⊎_elim, length}
use Rattle.basics.proofs.laws.Says.{d_eq}
use Rattle.geometry.specs.declared.Position.{Position}
use Rattle.slots.specs.declared.Handle.{Handle}
use Rattle.replies.specs.Meaning.Replies.{reply, inserted}
use Rattle.storage.proofs.laws.FilterLaws.{by_test}
use Rattle.point_records.specs.declared.Record.{Record}
use Rattle.point_tables.specs.Meaning.Tables.{Tables, slots_of}
use Rattle.point_tables.specs.Meaning.Holds.{Holds}
use Rattle.point_tables.specs.Meaning.Decide.{holds, holds_says}
use Rattle.point_tables.specs.Meaning.Outcome.{Outcome, outcome}
use Rattle.point_deferred.specs.Meaning.Moves.{set_position_answer, set_position_of, remove_answer, remove_of}
use Rattle.point_insert.proofs.laws.InsertLaws.{insert_unheld}
use Rattle.point_insert.specs.Meaning.Insert.{insert_of}
use Rattle.point_maintain.specs.Meaning.Maintain.{maintained_counts, maintain_of}
use Rattle.point_maintain.proofs.laws.MaintainLaws.{maintain-refused}
use Rattle.records.specs.Meaning.Spread.{besides}
use Rattle.records.specs.Meaning.Seen.{seen, back, on_records}
use Rattle.records.proofs.laws.SpreadLaws.{spread_gathered}
use Rattle.records.proofs.laws.SeenLaws.{rows_same, rows_other}
use Rattle.record_deferred.specs.Meaning.Calls.{set_position_on, remove_on}
use Rattle.record_insert.specs.Meaning.Calls.{insert_on}
use Rattle.record_maintain.specs.Meaning.Calls.{maintain_on}

module _ {R : Type 0} (call : Tables → Outcome R) (refused : R) (rs : List Record) (t : Tables) where
  abbrev b : Tables
  b = besides rs t

  stays : back rs (outcome refused b) ≡ seen refused rs b
  stays = ap (λ (xs : List Record). seen refused xs b) (spread_gathered t rs)

  pub other_length : (length rs ≡ slots_of b → ⊥) → on_records call refused rs t ≡ seen refused rs b
  other_length n = ap (back rs) (sym (rows_other (length rs) (slots_of b) (call b) (outcome refused b) n)) ∙ stays

  pub no_grid : ((w : Tables) → (Holds w → ⊥) → call w ≡ outcome refused w) → (Holds b → ⊥) → on_records call refused rs t ≡ seen refused rs b
  no_grid unheld n =
      ⊎_elim
      (λ e. ap (back rs) (sym (rows_same (length rs) (slots_of b) (call b) (outcome refused b) e) ∙ unheld b n) ∙ stays)
      other_length
      (d_eq (length rs) (slots_of b))

-- ---- the calls that change a grid
not_held : (t : Tables) → (Holds t → ⊥) → holds t ≡ false
not_held t n = by_test (holds t) (λ e. absurd (n ((holds_says t).yes e))) (λ e. e)

set_unheld : (h : Handle) (at : Position) (k : ℕ) (t : Tables) → (Holds t → ⊥) → set_position_of t h at k ≡ outcome (reply 3 0) t
unfolding set_position_of set_position_answer
set_unheld h at k t n = rw (not_held t n) refl

remove_unheld : (h : Handle) (k : ℕ) (t : Tables) → (Holds t → ⊥) → remove_of t h k ≡ outcome (reply 3 0) t
unfolding remove_of remove_answer
remove_unheld h k t n = rw (not_held t n) refl

module _ (rs : List Record) (t : Tables) (n : Holds (besides rs t) → ⊥) where
  pub set-position_no_grid : (h : Handle) (at : Position) (k : ℕ) → set_position_on rs t h at k ≡ seen (reply 3 0) rs (besides rs t)
  set-position_no_grid h at k = no_grid (λ w. set_position_of w h at k) (reply 3 0) rs t (set_unheld h at k) n

  pub remove_no_grid : (h : Handle) (k : ℕ) → remove_on rs t h k ≡ seen (reply 3 0) rs (besides rs t)
  remove_no_grid h k = no_grid (λ w. remove_of w h k) (reply 3 0) rs t (remove_unheld h k) n

  pub insert_no_grid : (p : Position) (d k : ℕ) → insert_on rs t p d k ≡ seen (inserted 3 0 0) rs (besides rs t)
  insert_no_grid p d k = no_grid (λ w. insert_of w p d k) (inserted 3 0 0) rs t (λ w x. insert_unheld w p d k x) n

  pub maintain_no_grid : maintain_on rs t ≡ seen (maintained_counts 3 0 0) rs (besides rs t)
  maintain_no_grid = no_grid maintain_of (maintained_counts 3 0 0) rs t maintain-refused n
