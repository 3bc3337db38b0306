-- What is found in tables that hold a grid: live slots at their current version, each once, and every object that passes. Assumes nothing.
use Rattle.basics.specs.Words.{ℕ, zero, suc, ◌<◌, ◌≤◌, ◌≡◌, refl, sym, ap, ◌∙◌, Bool, true, ◌&&◌, List, [], ◌∷◌, ◌++◌, Memᴰ, Memᴰ-head}
use Rattle.basics.specs.Words.{Memᴰ-tail, Memᴰ-cases_cons, Memᴰ-append_left, Memᴰ-append_right, ⊎_elim, arith, lt-ltb, eq-eqb}
use Rattle.basics.proofs.laws.Says.{d_eq}
use Rattle.cells.specs.Meaning.CellRule.{cell_at}
use Rattle.cells.specs.Inner.CellRule.{Reached}
use Rattle.cells.proofs.laws.Range.{in_range}
use Rattle.geometry.specs.declared.Position.{Position}
use Rattle.slots.specs.Meaning.Slot.{live, phase_at, version_at, good}
use Rattle.storage.specs.Meaning.Keyed.{All, filter}
use Rattle.storage.specs.Meaning.Entries.{Entry, entry_key, entries_of}
use Rattle.storage.proofs.laws.FilterLaws.{by_test, all_map, all_append, filter_all}
use Rattle.storage.specs.Inner.Window.{window_of}
use Rattle.point_tables.specs.Meaning.Tables.{Tables, size_of, used_of, slots_of, record_on, entries_in, slot_of}
use Rattle.point_tables.specs.Meaning.Holds.{Holds}
use Rattle.point_search.specs.declared.Test.{Test}
use Rattle.point_search.specs.Meaning.Searches.{passes, position_of, found}
use Rattle.point_search.specs.Inner.Places.{wanted}
use Rattle.point_search.proofs.laws.PlacesLaws.{entries_next}
use Rattle.point_search.proofs.laws.FoundLaws.{Standing, in_pool, in_spots, standing, stands, window_own, found-wanted}
use Rattle.point_tables.specs.Inner.Entry.{entry_at}
use Rattle.point_tables.proofs.laws.EntryLaws.{all_entries}

-- no two entries name the same slot
abbrev pub Once : List Entry → Type 0
Once [] = Unit {0}
Once (e ∷ es) = All (λ d. slot_of e ≡ slot_of d → ⊥) es × Once es

once_last : (es : List Entry) (e : Entry) → Once es → All (λ d. slot_of d ≡ slot_of e → ⊥) es → Once (es ++ (e ∷ []))
once_last [] e o a = (tt, tt)
once_last (d ∷ es) e o a = (all_append (λ f. slot_of d ≡ slot_of f → ⊥) es (e ∷ []) o.0 (a.0, tt), once_last es e o.1 a.1)

once-filter : (test : Entry → Bool) (es : List Entry) → Once es → Once (filter test es)
once-filter test [] o = tt
once-filter test (e ∷ es) o =
    by_test (test e)
    (λ q. rw q (filter_all test (λ d. slot_of e ≡ slot_of d → ⊥) es o.0, once-filter test es o.1))
    (λ q. rw q (once-filter test es o.1))

member_filter : (test : Entry → Bool) (e : Entry) (es : List Entry) → Memᴰ e es → test e ≡ true → Memᴰ e (filter test es)
member_filter test e [] m t = m
member_filter test e (d ∷ es) m t =
    ⊎_elim
    (λ q. let d-passes : test d ≡ true = ap test (sym q) ∙ t in rw d-passes (Memᴰ-head q))
    (λ k. by_test (test d) (λ q. rw q (Memᴰ-tail (member_filter test e es k t))) (λ q. rw q (member_filter test e es k t)))
    (Memᴰ-cases_cons m)

module _ (t : Tables) (h : Holds t) where
  abbrev at : ℕ → Entry
  at j = entry_at t.pool t.spots j

  abbrev up_to : ℕ → List Entry
  up_to n = entries_of t.pool t.spots n

  next : (n : ℕ) → suc n ≤ used_of t → up_to (suc n) ≡ up_to n ++ (at n ∷ [])
  next n m = entries_next t.pool t.spots n (omega (arith, in_pool t h)) (omega (arith, in_spots t h))

  once_to : (n : ℕ) → n ≤ used_of t → Once (up_to n)
  once_to zero m = tt
  once_to (suc n) m =
      rw (next n m)
      (once_last (up_to n) (at n) (once_to n (omega arith))
      (all_entries t.pool t.spots n (omega (arith, in_pool t h)) (omega (arith, in_spots t h)) (λ d. slot_of d ≡ slot_of (at n) → ⊥) (λ j l e. h.lists.once j n m l e)))

  member_to : (n j : ℕ) → n ≤ used_of t → j < n → Memᴰ (at j) (up_to n)
  member_to zero j m l = absurd (omega arith)
  member_to (suc n) j m l =
      rw (next n m)
      (⊎_elim
      (λ e. Memᴰ-append_right (up_to n) (Memᴰ-head (ap at e)))
      (λ d. Memᴰ-append_left (at n ∷ []) (member_to n j (omega arith) (omega (arith, d))))
      (d_eq j n))

  pub standing-good : (e : Entry) → Standing t e → good t.nums (slot_of e) (version_at t.nums (slot_of e)) ≡ true
  unfolding good
  standing-good e s = rw (lt-ltb (slot_of e) (slots_of t) s.inside, eq-eqb (phase_at t.nums (slot_of e)) live s.occupied, eq-eqb (version_at t.nums (slot_of e)) (version_at t.nums (slot_of e)) refl)

  module _ (ll ur : Position) (rl : Reached ll) (ru : Reached ur) (test : Test) where
    abbrev want : Entry → Bool
    want e = wanted (cell_at (size_of t) ll) (cell_at (size_of t) ur) test e

    -- each finding once
    pub found-once : Once (found t ll ur test)
    found-once = rw (found-wanted t h ll ur rl ru test) (once-filter want (entries_in t) (once_to (used_of t) (omega arith)))

    -- every finding is an entry in use, with the recorded position of an occupied slot
    pub found-standing : All (Standing t) (found t ll ur test)
    found-standing = rw (found-wanted t h ll ur rl ru test) (filter_all want (Standing t) (entries_in t) (standing t h))

    -- the handles that are found are good
    pub found-good : All (λ e. good t.nums (slot_of e) (version_at t.nums (slot_of e)) ≡ true) (found t ll ur test)
    found-good = all_map (Standing t) (λ e. good t.nums (slot_of e) (version_at t.nums (slot_of e)) ≡ true) standing-good (found t ll ur test) found-standing

    -- an object is found whose recorded position passes and has its cell in the range
    pub finds : (s : ℕ) → s < slots_of t → phase_at t.nums s ≡ live → passes test (record_on t s).position ≡ true
        → in_range (cell_at (size_of t) ll) (cell_at (size_of t) ur) (cell_at (size_of t) (record_on t s).position) ≡ true
        → (e : Entry) × Memᴰ e (found t ll ur test) × (slot_of e ≡ s)
    finds s l o p i =
        let (j, k, q) = h.lists.every s l o in
        let w = stands t h j k in
        let r : position_of (at j) ≡ (record_on t s).position = w.recorded ∙ ap (λ (n : ℕ). (record_on t n).position) q in
        let x : window_of (cell_at (size_of t) ll) (cell_at (size_of t) ur) (entry_key (at j)) ≡ true =
        window_own t h ll ur rl ru (at j) w ∙ ap (λ (c : Position). in_range (cell_at (size_of t) ll) (cell_at (size_of t) ur) (cell_at (size_of t) c)) r ∙ i in
        let y : passes test (position_of (at j)) ≡ true = ap (passes test) r ∙ p in
        (at j, rw (found-wanted t h ll ur rl ru test) (member_filter want (at j) (entries_in t) (member_to (used_of t) j (omega arith) k) (λ z. x z && y z)), q)
