-- `clear`: what each answer leaves and writes, and that tables that hold a grid still do after it. Assumes nothing.
use Rattle.basics.specs.Words.{ℕ, min, ◌≡◌, sym, ap, ◌∙◌, true, List, map, ⊎_elim, length, arith, eq-eqb, ne_eqb}
use lib.Ieee.{Float}
use Rattle.basics.proofs.laws.Says.{d_eq}
use Rattle.basics.specs.Inner.Counting.{count_below}
use Rattle.slots.specs.declared.Handle.{Handle}
use Rattle.slots.specs.Meaning.Slot.{live, phase_at, good, gone}
use Rattle.slots.proofs.laws.HandleLaws.{good_says}
use Rattle.slot_walks.proofs.laws.ClearedLaws.{cleared-row-gone}
use Rattle.storage.specs.Meaning.Keyed.{written}
use Rattle.slot_walks.proofs.laws.Live.{live_at}
use Rattle.slot_walks.specs.Meaning.Live.{obj_at}
use Rattle.box_tables.specs.Meaning.Tables.{Tables, slots_of}
use Rattle.box_tables.specs.Meaning.Holds.{Holds}
use Rattle.box_tables.specs.Meaning.Decide.{holds_says}
use Rattle.box_tables.specs.Meaning.Outcome.{Outcome, outcome}
use Rattle.box_get.specs.Meaning.Live.{live_slots}
use Rattle.box_get.proofs.laws.LiveLaws.{list_answer, list_count, answer_of_lem, list_passed, live-count, list_counts}
use Rattle.box_clear.specs.Meaning.Clear.{cleared, box_at, Written, wrote, clear_of}
use Rattle.box_clear.proofs.laws.ClearKeeps.{cleared-none, cleared_keeps}
use Rattle.replies.specs.declared.Count.{Count}

module _ (t : Tables) (boxes : List (List Float)) (objs : List ℕ) where
  -- the places that both outputs have
  abbrev room : ℕ
  room = min (length boxes) (length objs)

  abbrev done : Outcome Written
  done = outcome (wrote (list_count t room) (written (map (box_at t.reals) (live_slots t)) boxes) (written (map (obj_at t.nums) (live_slots t)) objs)) (cleared t)

  abbrev refused : Outcome Written
  refused = outcome (wrote (list_count t room) boxes objs) t

  -- ---- accepted: the outputs are written and the grid is empty; refused: nothing changes
  pub clear_0 : list_answer t room ≡ 0 → clear_of t boxes objs ≡ done
  unfolding clear_of list_answer list_count
  clear_0 e = rw (eq-eqb (list_answer t room) 0 e)

  pub clear_no : (list_answer t room ≡ 0 → ⊥) → clear_of t boxes objs ≡ refused
  unfolding clear_of list_answer list_count
  clear_no n = rw (ne_eqb (list_answer t room) 0 n)

  -- what is returned, whatever the answer
  pub clear-returned : (clear_of t boxes objs).result.returned ≡ list_count t room
  clear-returned =
      let of : Outcome Written → Count = λ o. o.result.returned in
      ⊎_elim (λ e. ap of (clear_0 e)) (λ n. ap of (clear_no n)) (d_eq (list_answer t room) 0)

  -- a refusal leaves the tables and both outputs
  pub clear-refused : ((clear_of t boxes objs).result.returned.answer ≡ 0 → ⊥) → clear_of t boxes objs ≡ outcome (wrote (clear_of t boxes objs).result.returned boxes objs) t
  clear-refused n =
      let k : list_answer t room ≡ 0 → ⊥ = λ e. n (ap (λ c. c.answer) clear-returned ∙ answer_of_lem t room ∙ e) in
      clear_no k ∙ ap (λ c. outcome (wrote c boxes objs) t) (sym clear-returned)

  accepted : (clear_of t boxes objs).result.returned.answer ≡ 0 → clear_of t boxes objs ≡ done
  accepted e = clear_0 (sym (answer_of_lem t room) ∙ ap (λ c. c.answer) (sym clear-returned) ∙ e)

  -- after 0 no slot is live
  pub clear_none : (clear_of t boxes objs).result.returned.answer ≡ 0 → (s : ℕ) → phase_at (clear_of t boxes objs).after.nums s ≡ live → ⊥
  clear_none e s l = cleared-none t s (ap (λ o. phase_at o.after.nums s) (sym (accepted e)) ∙ l)

  -- and every handle that was good is gone, at the last version too
  pub cleared-gone : (clear_of t boxes objs).result.returned.answer ≡ 0 → (h : Handle) → good t.nums h.slot h.version ≡ true
      → gone (clear_of t boxes objs).after.nums h.slot h.version ≡ true
  unfolding cleared
  cleared-gone e h g =
      let n = (good_says t.nums h.slot h.version).yes g in
      let k = (holds_says t).yes (list_passed t room (sym (answer_of_lem t room) ∙ ap (λ c. c.answer) (sym clear-returned) ∙ e)).0 in
      rw (accepted e) (cleared-row-gone t.nums h.slot h.version g (omega (arith, n.2, (k.slots.each h.slot n.0).versioned)))

  -- tables that hold a grid still do
  module _ (h : Holds t) where
    pub clear-holds : Holds (clear_of t boxes objs).after
    clear-holds = ⊎_elim (λ e. rw (clear_0 e) (cleared_keeps t h)) (λ n. rw (clear_no n) h) (d_eq (list_answer t room) 0)

    -- the number returned with 0 and 9 is that of the live slots
    pub clear-counts : (clear_of t boxes objs).result.returned.count ≡ count_below (live_at t.nums) (slots_of t)
    clear-counts = ap (λ c. c.count) clear-returned ∙ list_counts t room h ∙ live-count t
