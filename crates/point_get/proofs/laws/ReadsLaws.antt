-- The reading calls, answer by answer. Assumes nothing.
use Rattle.basics.specs.Words.{ℕ, ◌<◌, ◌≤◌, ◌≡◌, refl, sym, ap, Bool, true, false, ◌&&◌, List, [], ◌∷◌, length, eqb, ltb, arith, ltb-true, ne_eqb, le-leb}
use Rattle.basics.specs.Words.{lt-leb}
use Rattle.basics.proofs.laws.Says.{both_true}
use Rattle.slots.specs.declared.Handle.{Handle}
use Rattle.slots.specs.Meaning.Slot.{live, good, handle_refusal, phase_at, version_at}
use Rattle.storage.specs.Meaning.Keyed.{written}
use Rattle.point_records.specs.Meaning.Word.{tracker_at}
use Rattle.point_tables.specs.Meaning.Tables.{Tables, slots_of, record_on}
use Rattle.point_tables.specs.Meaning.Decide.{holds}
use Rattle.basics.specs.Meaning.Refusals.{unless, by_tests}
use Rattle.geometry.specs.Meaning.Zero.{zero-position}
use Rattle.replies.specs.declared.Count.{Count}
use Rattle.point_get.specs.Meaning.{got, listing, get_of, live_handles, len_of, handles_of}
use Rattle.replies.specs.Meaning.Replies.{count}

-- a good handle's slot is one of the slots, and live
pub good-inside : (t : Tables) (h : Handle) → good t.nums h.slot h.version ≡ true → h.slot < slots_of t
unfolding good
good-inside t h e = ltb-true _ _ (both_true (ltb h.slot (slots_of t)) (eqb (phase_at t.nums h.slot) live && eqb (version_at t.nums h.slot) h.version) e).0

module _ (t : Tables) (h : Handle) where
  pub get_3 : holds t ≡ false → got 3 zero-position 0 0 ≡ get_of t h
  unfolding get_of
  get_3 e = simp e

  pub get_refused : holds t ≡ true → (a : ℕ) → a ≡ handle_refusal t.nums h → (a ≡ 0 → ⊥) → got a zero-position 0 0 ≡ get_of t h
  unfolding get_of
  get_refused e a q n = rw (e, ← q, ne_eqb a 0 n)

  pub get_0 :
      holds t ≡ true → good t.nums h.slot h.version ≡ true
      → got 0 (record_on t h.slot).position (record_on t h.slot).obj (tracker_at t.nums h.slot) ≡ get_of t h
  unfolding get_of
  get_0 e f = simp (e, f)

module _ (t : Tables) where
  pub len_3 : holds t ≡ false → count 3 0 ≡ len_of t
  unfolding len_of
  len_3 e = simp e

  pub len_0 : holds t ≡ true → count 0 (length (live_handles t)) ≡ len_of t
  unfolding len_of
  len_0 e = simp e

module _ (t : Tables) (out : List (List ℕ)) where
  pub handles_3 : holds t ≡ false → listing (count 3 0) out ≡ handles_of t out
  unfolding handles_of
  handles_3 e = simp e

  pub handles_9 : holds t ≡ true → length out < length (live_handles t) → listing (count 9 (length (live_handles t))) out ≡ handles_of t out
  unfolding handles_of
  handles_9 e l = simp (e, lt-leb _ _ l)

  pub handles_0 : holds t ≡ true → length (live_handles t) ≤ length out → listing (count 0 (length (live_handles t))) (written (live_handles t) out) ≡ handles_of t out
  unfolding handles_of
  handles_0 e l = simp (e, le-leb _ _ l)

-- what `len` says: 0 with the number of handles on tables that hold a grid, else 3
module _ (t : Tables) where
  by_verdict : (b : Bool) (n : ℕ) → (by_tests (unless b 3 ∷ []) (count 0 n) (λ a. count a 0)).answer ≡ 0 → b ≡ true
  by_verdict true n e = refl
  by_verdict false n e = absurd (omega arith)

  pub len-done : (len_of t).answer ≡ 0 → holds t ≡ true
  unfolding len_of
  len-done e = by_verdict (holds t) (length (live_handles t)) e

  pub len-refused : ((len_of t).answer ≡ 0 → ⊥) → holds t ≡ false
  len-refused n = none (holds t) refl
    where
      none : (b : Bool) → holds t ≡ b → holds t ≡ false
      none true e = absurd (n (ap (λ (c : Count). c.answer) (sym (len_0 t e))))
      none false e = e
