-- The reading calls, answer by answer. Assumes nothing.
use Rattle.basics.specs.Words.{ℕ, ◌≡◌, sym, ap, ◌∙◌, true, false, List, length, eq-eqb, ne_eqb}
use Rattle.basics.specs.Inner.Counting.{count_below}
use Rattle.geometry.specs.Meaning.Zero.{zero-aabb}
use Rattle.slots.specs.declared.Handle.{Handle}
use Rattle.slots.specs.Meaning.Slot.{good, handle_refusal}
use Rattle.storage.specs.Meaning.Keyed.{written}
use Rattle.slot_walks.proofs.laws.Live.{live_at}
use Rattle.slot_walks.specs.Meaning.Live.{handles_in}
use Rattle.box_tables.specs.Meaning.Tables.{Tables, slots_of, aabb_on, obj_on}
use Rattle.box_tables.specs.Meaning.Holds.{Holds}
use Rattle.box_tables.specs.Meaning.Decide.{holds, holds_says}
use Rattle.box_get.specs.Meaning.Live.{live_slots}
use Rattle.box_get.proofs.laws.LiveLaws.{list_answer, list_count, live-count}
use Rattle.box_get.specs.Meaning.Reads.{got, listing, get_of, len_of, handles_of}
use Rattle.replies.specs.Meaning.Replies.{count}

module _ (t : Tables) (h : Handle) where
  pub get_3 : holds t ≡ false → got 3 zero-aabb 0 ≡ get_of t h
  unfolding get_of
  get_3 e = simp e

  pub get_refused : holds t ≡ true → (a : ℕ) → a ≡ handle_refusal t.nums h → (a ≡ 0 → ⊥) → got a zero-aabb 0 ≡ get_of t h
  unfolding get_of
  get_refused e a q n = rw (e, ← q, ne_eqb a 0 n)

  pub get_0 : holds t ≡ true → good t.nums h.slot h.version ≡ true → got 0 (aabb_on t h.slot) (obj_on t h.slot) ≡ get_of t h
  unfolding get_of
  get_0 e f = simp (e, f)

module _ (t : Tables) where
  pub len_3 : holds t ≡ false → count 3 0 ≡ len_of t
  unfolding len_of
  len_3 e = simp e

  pub len_0 : holds t ≡ true → count 0 (length (live_slots t)) ≡ len_of t
  unfolding len_of
  len_0 e = simp e

  -- the number that the length law counts
  pub len-counts : Holds t → len_of t ≡ count 0 (count_below (live_at t.nums) (slots_of t))
  len-counts h = sym (len_0 ((holds_says t).no h)) ∙ ap (count 0) (live-count t)

module _ (t : Tables) (out : List (List ℕ)) where
  pub handles-refused : (list_answer t (length out) ≡ 0 → ⊥) → listing (list_count t (length out)) out ≡ handles_of t out
  unfolding handles_of list_answer list_count
  handles-refused n = rw (ne_eqb (list_answer t (length out)) 0 n)

  pub handles_0 : list_answer t (length out) ≡ 0 → listing (list_count t (length out)) (written (handles_in t.nums) out) ≡ handles_of t out
  unfolding handles_of list_answer list_count
  handles_0 e = rw (eq-eqb (list_answer t (length out)) 0 e)
