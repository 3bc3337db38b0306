-- An insert by what is chosen, in the words of the code's goals: what holds where there is a slot, and its outcome either way. Assumes nothing.
use Rattle.std.specs.Prelude.{Option, Some}
use Rattle.basics.specs.Words.{ℕ, ◌+◌, ◌<◌, ◌≤◌, ◌≡◌, refl, sym, Bool, true, false, List, length, leb, ℤ, arith, leb-true}
use lib.Ieee.{Float}
use Rattle.basics.proofs.laws.Says.{says_t}
use Rattle.basics.proofs.laws.AnswerLaws.{one_refuses}
use Rattle.basics.specs.declared.Refusal.{Refusal}
use Rattle.basics.specs.declared.Refusal.TheVariants.{Tables as NoGrid}
use Rattle.basics.specs.Meaning.Answers.{number_of}
use Rattle.basics.specs.Meaning.Refusals.{or_else}
use Rattle.geometry.specs.Meaning.Domain.{position_in_domain}
use Rattle.geometry.specs.declared.Position.{Position}
use Rattle.slots.specs.declared.Handle.{Handle}
use Rattle.slots.specs.Meaning.Map.{words_for, is_some}
use Rattle.slots.specs.Inner.Map.{NonePast}
use Rattle.slots.specs.Meaning.Slot.{version_at}
use Rattle.slots.proofs.laws.SlotLaws.{lowest_free}
use Rattle.point_records.specs.Meaning.Trackers.{last_tracker}
use Rattle.point_tables.specs.Meaning.Tables.{Tables, tables}
use Rattle.point_tables.specs.Meaning.Decide.{holds, holds_says}
use Rattle.point_tables.specs.Meaning.Outcome.{outcome}
use Rattle.point_insert.specs.Meaning.Insert.{usable_slot, put, insert_tests, insert_of}
use Rattle.point_insert.specs.Inner.Insert.{answer_by}
use Rattle.point_insert.specs.Inner.Fresh.{Fresh}
use Rattle.point_insert.proofs.laws.InsertLaws.{insert-done}
use Rattle.replies.specs.Meaning.Replies.{inserted}

all_passed : (b : Bool) (k : ℕ) (u : Option ℕ) → 0 ≡ answer_by true b k u → (b ≡ true) × (k ≤ last_tracker)
all_passed true k u e = (refl, go (leb k last_tracker) (leb-true k last_tracker) e)
  where
    go : (c : Bool) → (c ≡ true → k ≤ last_tracker) → 0 ≡ or_else c 13 (or_else (is_some u) 4 0) → k ≤ last_tracker
    go true l z = l refl
    go false l z = absurd (omega arith)
all_passed false k u e = absurd (omega arith)

module _ (ns : List (List ℕ)) (qs : List (List Float)) (zs : List (List ℤ)) (m : List ℕ) (pool : List (List ℕ)) (spots : List (List Float)) (cells : List (List ℕ)) (p : Position) where
  abbrev t : Tables
  t = tables ns qs zs m pool spots cells

  -- ---- refused
  module _ (d k : ℕ) where
    refused : (why : Refusal) → number_of why ≡ answer_by (holds t) (position_in_domain p) k (usable_slot t) → outcome (inserted (number_of why) 0 0) t ≡ insert_of t p d k
    unfolding insert_of
    refused why e = one_refuses (insert_tests t p k) _ (λ a. outcome (inserted a 0 0) t) why e

    pub no_grid : holds t ≡ false → outcome (inserted 3 0 0) t ≡ insert_of t p d k
    no_grid h = refused NoGrid (rw h)

    pub no_choice : (why : Refusal) → holds t ≡ true → number_of why ≡ answer_by true (position_in_domain p) k (usable_slot t) → outcome (inserted (number_of why) 0 0) t ≡ insert_of t p d k
    no_choice why h e = refused why (rw h e)

  -- ---- what `choose` asks, and what it gives
  pub choose_asks : holds t ≡ true → (length m ≡ 3 + words_for (length ns)) × (length ns ≤ 4096) × NonePast m (length ns)
  choose_asks h = let g = (holds_says t).yes h in (g.sized.of_map, g.sized.most, g.slots.past)

  module _ (s k : ℕ) (h : holds t ≡ true) (a : 0 ≡ answer_by true (position_in_domain p) k (usable_slot t)) (u : usable_slot t ≡ Some s) where
    pub fresh : Fresh t s p
    fresh =
        let g = (holds_says t).yes h in
        let f = lowest_free ns m g.slots s u in
        record { holds = g; within_domain = (says_t (position_in_domain p)).yes (all_passed _ _ _ a).0; inside = f.0; is_free = f.1 }

    pub in_table : (s < length ns) × (length ns ≤ 4096)
    in_table = (fresh.inside, fresh.holds.sized.most)

    pub done : (d : ℕ) (b : Handle) (w : Tables) → b ≡ record { slot = s; version = version_at ns s } → w ≡ put t s p d k → outcome (inserted 0 b.slot b.version) w ≡ insert_of t p d k
    done d b w e q = rw (e, q) (sym (insert-done t p d k s fresh.holds fresh.within_domain (all_passed _ _ _ a).1 u))

-- what `enter` is proved by
pub ruleset entering = (no_grid, no_choice, choose_asks, in_table, done)
