-- What the code of a deferred call makes, from what each of its steps gives. Assumes nothing.
use Rattle.basics.specs.Words.{ℕ, zero, suc, ◌<◌, ◌≤◌, ◌≡◌, refl, ap, sym, ◌∙◌, subst, true, false, List, [], ◌∷◌, ⊎_elim, length, get_or, take}
use Rattle.basics.specs.Words.{ℤ, arith, eq-eqb, ne_eqb}
use lib.Ieee.{Float}
use Rattle.geometry.specs.declared.Position.{Position}
use Rattle.cells.specs.Meaning.Key.{key_of}
use Rattle.storage.specs.Meaning.Keyed.{written}
use Rattle.storage.specs.Meaning.Entries.{row_key}
use Rattle.storage.specs.Meaning.CellTable.{marked}
use Rattle.storage.specs.Inner.Tables.{Rising}
use Rattle.point_records.specs.Meaning.Columns.{record_at, state_of}
use Rattle.point_records.specs.declared.State.TheVariants.{NewPos, Relocate}
use Rattle.point_records.specs.Meaning.States.{is_removed, aimed}
use Rattle.point_tables.specs.Meaning.Tables.{Tables, tables}
use Rattle.point_tables.specs.Meaning.Outcome.{Outcome, outcome}
use Rattle.slots.specs.declared.Handle.{Handle}
use Rattle.point_tables.specs.Meaning.Tables.{rows_of}
use Rattle.point_tables.specs.Meaning.Decide.{holds, holds_says}
use Rattle.basics.proofs.laws.Says.{d_eq, said_says}
use Rattle.basics.specs.Meaning.Says.{said}
use Rattle.cells.specs.declared.Cell.{Cell}
use Rattle.cells.specs.Meaning.CellRule.{cell_at}
use Rattle.storage.proofs.laws.FilterLaws.{by_test}
use Rattle.point_records.specs.Inner.Decide.{d_cell}
use Rattle.replies.specs.declared.Reply.{Reply}
use Rattle.point_deferred.specs.Meaning.Moves.{pended, set_position_answer, set_position_of, remove_answer, remove_of}
use Rattle.point_deferred.specs.Meaning.Calls.{Call, call_of}
use Rattle.point_deferred.proofs.laws.MovesLaws.{set-done, set-refused}
use Rattle.point_deferred.specs.Inner.Ready.{Ready}
use Rattle.point_deferred.proofs.laws.ReadyLaws.{rows_rise}
use Rattle.point_deferred.specs.Inner.Held.{poolless, call, PendedRows, pended_only, unmarked_of, worked, held_answer, held_of}
use Rattle.point_deferred.proofs.laws.Held.{with_pool}
use Rattle.point_deferred.proofs.laws.HeldLaws.{held-refused, held-done, call-worked}
use Rattle.replies.specs.Meaning.Replies.{reply}

-- ---- tags
pub above-two : (tag : ℕ) (p : Position) (c : Cell) → 2 < tag → is_removed (state_of tag p c) ≡ true
above-two tag p c h = rw (ne_eqb tag 0 (λ e. omega arith), ne_eqb tag 1 (λ e. omega arith), ne_eqb tag 2 (λ e. omega arith))

pub up_to_two : (tag : ℕ) (p : Position) (c : Cell) → tag ≤ 2 → is_removed (state_of tag p c) ≡ false
up_to_two zero p c h = refl
up_to_two (suc zero) p c h = refl
up_to_two (suc (suc zero)) p c h = refl
up_to_two (suc (suc (suc n))) p c h = absurd (omega arith)

-- ---- the state that becomes pending
pub leads : (size : ℕ) (c : Cell) (at : Position) (d : Cell) → d ≡ cell_at size at → d ≡ c → NewPos at ≡ aimed size c at
unfolding aimed
leads size c at d e h = rw (← e, (said_says (d_cell d c)).no h)

pub leaves : (size : ℕ) (c : Cell) (at : Position) (d : Cell) → d ≡ cell_at size at → (d ≡ c → ⊥) → Relocate at d ≡ aimed size c at
unfolding aimed
leaves size c at d e n = by_test (said (d_cell d c)) (λ g. absurd (n ((said_says (d_cell d c)).yes g))) (λ g. rw (← e, g))

-- the object of slot s has something pending, and its cell, read as e, is marked
pub made : (ns : List (List ℕ)) (qs : List (List Float)) (zs : List (List ℤ)) (map : List ℕ) (cells : List (List ℕ)) (s kind : ℕ) (at : Position) (e : Cell) (key rows d : ℕ) (ns' : List (List ℕ)) (qs' : List (List Float)) (zs' : List (List ℤ)) (cells' : List (List ℕ)) → e ≡ (record_at ns qs zs s).cell → key ≡ key_of e → rows ≡ get_or map 2 0 → cells' ≡ written (marked key (take rows cells)) cells → PendedRows ns qs zs (get_or map 0 0) s kind at d ns' qs' zs' → outcome d (poolless ns' qs' zs' map cells') ≡ worked (poolless ns qs zs map cells) s kind at
unfolding worked pended
made ns qs zs map cells s kind at e key rows d ns' qs' zs' cells' ee ek em ec p =
    let g : cells' ≡ written (marked (key_of (record_at ns qs zs s).cell) (take (get_or map 2 0) cells)) cells =
    ec ∙ ap (λ (n : ℕ). written (marked key (take n cells)) cells) em
    ∙ ap (λ (k : ℕ). written (marked k (take (get_or map 2 0) cells)) cells) (ek ∙ ap key_of ee) in
    λ i. outcome (p.answer i) (tables (p.nums i) (p.reals i) (p.ints i) map [] [] (g i))

-- the rows that the mark is asked of
pub rising : (t : Tables) (rows : ℕ) → Ready t → rows ≡ rows_of t → (rows ≤ length t.cells) × Rising row_key (take rows t.cells)
rising t rows r e = rw e (r.of_cells, rows_rise t r)

-- ---- one call, refused and done
pub refused : (t : Tables) (c : Call) (a : ℕ) → a ≡ held_answer t c → (a ≡ 0 → ⊥) → outcome (reply a 0) t ≡ held_of t c
refused t c a e n = ap (λ (k : ℕ). outcome (reply k 0) t) e ∙ sym (held-refused t c (λ z. n (e ∙ z)))

pub done : (t u : Tables) (c : Call) (a d : ℕ) → a ≡ held_answer t c → a ≡ 0 → outcome d u ≡ worked t c.handle.slot c.kind c.at → outcome (reply 0 d) u ≡ held_of t c
done t u c a d e z w = ap (λ (o : Outcome ℕ). outcome (reply 0 o.result) o.after) w ∙ sym (held-done t c (sym e ∙ z))

-- ---- the public calls: on tables that hold no grid, and on those that do
pub set_no_grid : (t : Tables) (h : Handle) (at : Position) (k : ℕ) → holds t ≡ false → outcome (reply 3 0) t ≡ set_position_of t h at k
unfolding set_position_of set_position_answer
set_no_grid t h at k e = rw e

pub remove_no_grid : (t : Tables) (h : Handle) (k : ℕ) → holds t ≡ false → outcome (reply 3 0) t ≡ remove_of t h k
unfolding remove_of remove_answer
remove_no_grid t h k e = rw e

set_returns : (t : Tables) (h : Handle) (at : Position) (k : ℕ) → (set_position_of t h at k).result.obj ≡ 0
set_returns t h at k = ⊎_elim (λ e. rw (set-done t h at k e)) (λ n. rw (set-refused t h at k n)) (d_eq (set_position_answer t h at k) 0)

module _ (t u : Tables) (pool : List (List ℕ)) (spots : List (List Float)) (h : Handle) (at : Position) (k : ℕ) (r : Reply) (g : holds (with_pool t pool spots) ≡ true) where
  worked-call : (kind : ℕ) → outcome r u ≡ held_of t (call kind h at k) → outcome r (with_pool u pool spots) ≡ call_of (with_pool t pool spots) (call kind h at k)
  worked-call kind e =
      ap (λ (o : Outcome Reply). outcome o.result (with_pool o.after pool spots)) e
      ∙ sym (call-worked pool spots t ((holds_says (with_pool t pool spots)).yes g) (call kind h at k))

  pub remove-held : outcome r u ≡ held_of t (call 1 h at k) → outcome r (with_pool u pool spots) ≡ remove_of (with_pool t pool spots) h k
  unfolding call_of
  remove-held e = worked-call 1 e

  pub set-held : outcome r u ≡ held_of t (call 0 h at k) → outcome (reply r.answer 0) (with_pool u pool spots) ≡ set_position_of (with_pool t pool spots) h at k
  unfolding call_of
  set-held e =
      let w : outcome r (with_pool u pool spots) ≡ set_position_of (with_pool t pool spots) h at k = worked-call 0 e in
      let z : r.obj ≡ 0 = ap (λ (o : Outcome Reply). o.result.obj) w ∙ set_returns (with_pool t pool spots) h at k in
      ap (λ (d : ℕ). outcome (reply r.answer d) (with_pool u pool spots)) (sym z) ∙ w

-- ---- a call without its mark, refused and done
pub refused-unmarked : (t : Tables) (c : Call) (a : ℕ) → a ≡ held_answer t c → (a ≡ 0 → ⊥) → outcome (reply a 0) t ≡ unmarked_of t c
unfolding unmarked_of
refused-unmarked t c a e n = rw (ne_eqb (held_answer t c) 0 (λ z. n (e ∙ z))) (ap (λ (k : ℕ). outcome (reply k 0) t) e)

pub done-unmarked : (ns : List (List ℕ)) (qs : List (List Float)) (zs : List (List ℤ)) (size : ℕ) (c : Call) (a d s : ℕ) (ns' : List (List ℕ)) (qs' : List (List Float)) (zs' : List (List ℤ)) → a ≡ held_answer (poolless ns qs zs (size ∷ []) []) c → a ≡ 0 → s ≡ c.handle.slot → PendedRows ns qs zs size s c.kind c.at d ns' qs' zs'
    → outcome (reply 0 d) (poolless ns' qs' zs' (size ∷ []) []) ≡ unmarked_of (poolless ns qs zs (size ∷ []) []) c
unfolding unmarked_of pended_only
done-unmarked ns qs zs size c a d s ns' qs' zs' e z es p =
    let q : PendedRows ns qs zs size c.handle.slot c.kind c.at d ns' qs' zs' = subst (λ (k : ℕ). PendedRows ns qs zs size k c.kind c.at d ns' qs' zs') es p in
    rw (eq-eqb (held_answer (poolless ns qs zs (size ∷ []) []) c) 0 (sym e ∙ z))
    (λ i. outcome (reply 0 (q.answer i)) (tables (q.nums i) (q.reals i) (q.ints i) (size ∷ []) [] [] []))
