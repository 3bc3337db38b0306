-- An insert by what is chosen: what holds where there is a slot, and its outcome either way. Assumes nothing.
use Rattle.std.specs.Prelude.{Option, None, Some}
use Rattle.basics.proofs.laws.NumberLaws.{not_zero}
use Rattle.basics.specs.declared.Refusal.{Refusal}
use Rattle.basics.specs.Meaning.Answers.{number_of}
use Rattle.slots.specs.declared.Handle.{Handle}
use Rattle.basics.specs.Words.{ℕ, ◌≡◌, refl, sym, Bool, true, false, arith, ne_eqb}
use Rattle.basics.proofs.laws.Says.{says_t}
use Rattle.geometry.specs.Meaning.Domain.{aabb_in_domain}
use Rattle.geometry.specs.declared.Aabb.{Aabb}
use Rattle.slots.specs.Meaning.Map.{lowest_usable}
use Rattle.slots.specs.Meaning.Slot.{version_at}
use Rattle.slots.proofs.laws.SlotLaws.{lowest_free}
use Rattle.box_tables.specs.Meaning.Tables.{Tables, size_of, slots_of}
use Rattle.box_tables.specs.Meaning.Decide.{holds, holds_says}
use Rattle.box_tables.specs.Meaning.Outcome.{outcome}
use Rattle.replies.specs.Meaning.Replies.{inserted}
use Rattle.box_insert.specs.Meaning.Insert.{usable_slot, put, few_cells, has_room, insert_answer, insert_of}
use Rattle.box_insert.specs.Inner.Insert.{answer_by}
use Rattle.box_insert.specs.Inner.Fresh.{Ready, Fresh}
use Rattle.box_insert.proofs.laws.InsertLaws.{few_says, room_says, insert-done}

all_passed : (b c : Bool) (u : Option ℕ) (d : Bool) → 0 ≡ answer_by true b c u d → (b ≡ true) × (c ≡ true) × (d ≡ true)
all_passed true true (Some s) true e = (refl, refl, refl)
all_passed true true (Some s) false e = absurd (omega arith)
all_passed true true None d e = absurd (omega arith)
all_passed true false u d e = absurd (omega arith)
all_passed false c u d e = absurd (omega arith)

module _ (t : Tables) (b : Aabb) (d : ℕ) where
  pub no_grid : holds t ≡ false → outcome (inserted 3 0 0) t ≡ insert_of t b d
  unfolding insert_of insert_answer
  no_grid h = rw h

  module _ (h : holds t ≡ true) where
    -- what `choose` asks
    pub choose_asks : Ready t.nums t.map
    choose_asks =
        let g = (holds_says t).yes h in
        record { most = g.sized.most; of_map = g.sized.of_map; none-past = g.slots.past; size = g.counted.size; used = omega (arith, g.counted.used-most, g.sized.pool-most) }

    pub refused : (why : Refusal) → number_of why ≡ answer_by true (aabb_in_domain b) (few_cells (size_of t) b) (lowest_usable t.map (slots_of t)) (has_room t b) → outcome (inserted (number_of why) 0 0) t ≡ insert_of t b d
    unfolding insert_of insert_answer
    refused why e = rw (h, ← e, ne_eqb (number_of why) 0 (not_zero why))

    module _ (e : 0 ≡ answer_by true (aabb_in_domain b) (few_cells (size_of t) b) (lowest_usable t.map (slots_of t)) (has_room t b)) (s : ℕ) (u : usable_slot t ≡ Some s) where
      pub chosen : Fresh t s b
      chosen =
          let k = all_passed (aabb_in_domain b) (few_cells (size_of t) b) (lowest_usable t.map (slots_of t)) (has_room t b) e in
          let g = (holds_says t).yes h in
          let f = lowest_free t.nums t.map g.slots s u in
          record { holds = g; inside = f.0; is_free = f.1; within_domain = (says_t (aabb_in_domain b)).yes k.0; few = (few_says t b).yes k.1; room = (room_says t b).yes k.2 }

      pub done : (a : Handle) (w : Tables) → a ≡ record { slot = s; version = version_at t.nums s } → w ≡ put t s b d → outcome (inserted 0 a.slot a.version) w ≡ insert_of t b d
      done a w q p = rw (q, p) (sym (insert-done t b d s chosen.holds chosen.within_domain chosen.few u chosen.room))
