-- What taking a box out asks of its calls, and what they leave, put together; and `remove`, refused and done. Assumes nothing.
use Rattle.basics.specs.Words.{ℕ, ◌≡◌, sym, ◌∙◌, ap, true, false, List, length, take, eqb, ne_eqb}
use Rattle.basics.specs.declared.Refusal.{Refusal}
use Rattle.basics.specs.Meaning.Answers.{number_of}
use Rattle.basics.proofs.laws.NumberLaws.{not_zero}
use Rattle.slots.specs.declared.Handle.{Handle}
use Rattle.slots.specs.Meaning.Slot.{handle_refusal, emptied_nums, emptied_map}
use Rattle.slots.proofs.laws.HandleLaws.{not_refused}
use Rattle.storage.specs.Meaning.Keyed.{written}
use Rattle.box_cover.specs.Meaning.Coverage.{left_all}
use Rattle.box_cover.specs.Inner.Taken.{Leaving}
use Rattle.box_tables.specs.Meaning.Tables.{Tables, tables, size_of, used_of, counting, aabb_on, obj_on, item_of}
use Rattle.box_tables.specs.Meaning.Decide.{holds, holds_says}
use Rattle.box_tables.proofs.laws.HoldsLaws.{entries_sorted, low_near, high-near}
use Rattle.box_tables.specs.Meaning.Outcome.{Outcome, outcome}
use Rattle.box_tables.specs.declared.Span.{Span}
use Rattle.box_tables.specs.Inner.Way.{span_of}
use Rattle.box_remove.specs.Meaning.Remove.{taken_out, remove_answer, remove_of}
use Rattle.box_remove.proofs.laws.RemoveLaws.{names}
use Rattle.box_remove.specs.Inner.Steps.{Object}
use Rattle.replies.specs.Meaning.Replies.{reply}

module _ (t : Tables) (s : ℕ) (o : Object t s) (p : Span) (ep : p ≡ span_of (size_of t) (aabb_on t s)) (i : ℕ) (ei : i ≡ item_of s (eqb p.cells 1)) where
  pub leave_asks : Leaving p.low p.high i (used_of t) t.pool
  leave_asks =
      let h = o.held in
      let l = o.inside in
      let v = o.occupied in
      rw (ei, ep) (record { fits = h.counted.used-most; sorted = entries_sorted t h; near-low = low_near t h s l v; near-high = high-near t h s l v; stands = h.every s l v })

  pub taken_is :
      (k : ℕ) (ns : List (List ℕ)) (m : List ℕ) (pool : List (List ℕ))
      → (k ≡ length (left_all p.low p.high i (take (used_of t) t.pool))) × (pool ≡ written (left_all p.low p.high i (take (used_of t) t.pool)) t.pool)
      → ns ≡ emptied_nums t.nums s
      → m ≡ counting (emptied_map t.nums t.map s) k
      → outcome (obj_on t s) (tables ns t.reals m pool) ≡ outcome (obj_on t s) (taken_out t s)
  unfolding taken_out
  taken_is k ns m pool e1 e2 e3 = cc

-- ---- the outcome, refused and done
module _ (t : Tables) (h : Handle) where
  pub no_grid : holds t ≡ false → outcome (reply 3 0) t ≡ remove_of t h
  unfolding remove_of remove_answer
  no_grid e = rw e

  module _ (e : holds t ≡ true) where
    pub refused : (why : Refusal) → number_of why ≡ handle_refusal t.nums h → outcome (reply (number_of why) 0) t ≡ remove_of t h
    unfolding remove_of remove_answer
    refused why q = rw (e, ← q, ne_eqb (number_of why) 0 (not_zero why))

    module _ (z : 0 ≡ handle_refusal t.nums h) where
      pub object : Object t h.slot
      object =
          let n = names t h (not_refused t.nums h (sym z)) in
          record { held = (holds_says t).yes e; inside = n.inside; occupied = n.occupied }

      pub done : (d : ℕ) (u : Tables) → outcome d u ≡ outcome (obj_on t h.slot) (taken_out t h.slot) → outcome (reply 0 d) u ≡ remove_of t h
      unfolding remove_of remove_answer
      done d u q = ap (λ (o : Outcome ℕ). outcome (reply 0 o.result) o.after) q ∙ rw (e, ← z)
