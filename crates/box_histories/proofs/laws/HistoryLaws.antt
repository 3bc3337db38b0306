-- The length law: since an accepted `new`, the number of objects is that of the accepted inserts less the objects taken out. Assumes nothing.
use Rattle.basics.specs.Words.{ℕ, zero, suc, ◌+◌, ◌<◌, ◌≡◌, refl, ap, List, [], ◌∷◌, length, eqb, arith, eqb-true, eqb-false, ne_eqb}
use lib.Ieee.{Float}
use Rattle.basics.specs.Inner.Counting.{one, count_below}
use Rattle.slots.specs.Meaning.Slot.{live, phase_at}
use Rattle.slot_walks.proofs.laws.Live.{live_at}
use Rattle.storage.proofs.laws.FilterLaws.{by_test}
use Rattle.blank.specs.Meaning.Blank.{blank_nums}
use Rattle.blank.proofs.laws.BlankLaws.{blank_not_live}
use Rattle.box_tables.specs.Meaning.Tables.{Tables, slots_of}
use Rattle.box_tables.specs.Meaning.Holds.{Holds}
use Rattle.box_insert.specs.Meaning.New.{built, new_answer, new_of}
use Rattle.box_insert.proofs.laws.NewLaws.{new-holds}
use Rattle.box_insert.proofs.laws.InsertLaws.{insert-holds, insert-count}
use Rattle.box_insert.proofs.laws.LiveLaws.{live_count}
use Rattle.box_set.proofs.laws.SetAabbLaws.{set-aabb-holds, set-live}
use Rattle.box_remove.proofs.laws.RemoveLaws.{remove-holds, remove-live}
use Rattle.box_get.specs.Meaning.Reads.{len_of}
use Rattle.box_get.proofs.laws.ReadsLaws.{len-counts}
use Rattle.box_clear.specs.Meaning.Clear.{clear_of}
use Rattle.box_clear.proofs.laws.ClearLaws.{clear-refused, clear_none, clear-holds, clear-counts}
use Rattle.box_histories.specs.Inner.History.{Op, insert, set_aabb, remove, clear, after, after_all, accepted, put_in, objects_taken_out, all_in, all_out}

-- ---- every call keeps the tables holding a grid
pub after_holds : (t : Tables) (o : Op) → Holds t → Holds (after t o)
unfolding after
after_holds t (insert b d) h = insert-holds t b d h
after_holds t (set_aabb g b) h = set-aabb-holds t g b h
after_holds t (remove g) h = remove-holds t g h
after_holds t (clear bs os) h = clear-holds t bs os h

pub all_hold : (t : Tables) (os : List Op) → Holds t → Holds (after_all t os)
unfolding after_all
all_hold t [] h = h
all_hold t (o ∷ os) h = all_hold (after t o) os (after_holds t o h)

-- ---- no slot live, none counted
none-live : (nums : List (List ℕ)) (k : ℕ) → ((s : ℕ) → s < k → phase_at nums s ≡ live → ⊥) → count_below (live_at nums) k ≡ 0
unfolding count_below
none-live nums zero n = refl
none-live nums (suc k) n = omega (arith, none-live nums k (λ s l. n s (omega arith)), ap one (ne_eqb (phase_at nums k) live (n k (omega arith))))

module _ (t : Tables) (h : Holds t) where
  cleared-live : (bs : List (List Float)) (os : List ℕ) → live_count (clear_of t bs os).after + accepted (clear_of t bs os).result.returned.answer (clear_of t bs os).result.returned.count ≡ live_count t
  unfolding live_count
  cleared-live bs os =
      by_test (eqb (clear_of t bs os).result.returned.answer 0)
      (λ e. rw e (omega (arith, clear-counts t bs os h, none-live (clear_of t bs os).after.nums (slots_of (clear_of t bs os).after) (λ s l. clear_none t bs os (eqb-true _ _ e) s))))
      (λ e. rw e (omega (arith, ap (λ w. live_count w.after) (clear-refused t bs os (eqb-false _ _ e)))))

  -- ---- one call
  pub one-length : (o : Op) → live_count (after t o) + objects_taken_out t o ≡ live_count t + put_in t o
  unfolding after objects_taken_out put_in
  one-length (insert b d) = omega (arith, insert-count t b d h)
  one-length (set_aabb g b) = omega (arith, set-live t g b)
  one-length (remove g) = omega (arith, remove-live t g)
  one-length (clear bs os) = omega (arith, cleared-live bs os)

-- ---- and any history
pub all_length : (t : Tables) (os : List Op) → Holds t → live_count (after_all t os) + all_out t os ≡ live_count t + all_in t os
unfolding after_all all_out all_in
all_length t [] h = omega arith
all_length t (o ∷ os) h = omega (arith, one-length t h o, all_length (after t o) os (after_holds t o h))

-- an accepted `new` leaves no slot live
none_yet : (t : Tables) (size : ℕ) → (new_of t size).result ≡ 0 → live_count (new_of t size).after ≡ 0
unfolding live_count new_of built
none_yet t size z =
    by_test (eqb (new_answer t size) 0)
    (λ e. rw e (none-live (blank_nums (slots_of t)) (length (blank_nums (slots_of t))) (blank_not_live (slots_of t) size)))
    (λ e. absurd (eqb-false (new_answer t size) 0 e (rw e at z)))

-- since building, on tables of any content that `new` accepts: `len` answers 0 with the accepted inserts less the objects taken out
module _ (t : Tables) (size : ℕ) (accepts : (new_of t size).result ≡ 0) where
  abbrev fresh : Tables
  fresh = (new_of t size).after

  pub len_since_new : (os : List Op) → ((len_of (after_all fresh os)).answer ≡ 0) × ((len_of (after_all fresh os)).count + all_out fresh os ≡ all_in fresh os)
  unfolding live_count
  len_since_new os =
      let h = new-holds t size accepts in
      let k = all_hold fresh os h in
      let e = len-counts (after_all fresh os) k in
      (ap (λ c. c.answer) e, omega (arith, ap (λ c. c.count) e, all_length fresh os h, none_yet t size accepts))
