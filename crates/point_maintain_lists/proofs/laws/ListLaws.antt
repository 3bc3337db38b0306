-- Where the list of a cell stands in the pool: behind the lists of the cells before it, and as far as its key goes; and what it keeps.
-- Assumes nothing.
use Rattle.basics.specs.Words.{ℕ, zero, suc, ◌+◌, ◌-◌, ◌<◌, ◌≡◌, refl, sym, ap, ◌∙◌, Bool, true, false, List, [], ◌∷◌, ◌++◌, ⊎_elim, length, get_or, take, drop}
use Rattle.basics.specs.Words.{length-append, length-map, get_or-append, get_or-map, take-suc, split_at, get_or-take, get_or-append-add, take_at, drop_at}
use Rattle.basics.specs.Words.{eqb, not-suc-le-zero, le_of_suc-le-suc, add-one, arith, eqb-false}
use Rattle.storage.specs.Meaning.Keyed.{All}
use Rattle.storage.specs.Meaning.Entries.{Entry, row_key, entry_key}
use Rattle.storage.specs.Meaning.Packed.{first, second}
use Rattle.storage.specs.Inner.Tables.{Rising}
use Rattle.storage.proofs.laws.FilterLaws.{all_map, all_both, all_append, all_at}
use Rattle.storage.proofs.laws.KeyedLaws.{all_under}
use Rattle.point_tables.specs.Meaning.Tables.{Tables, used_of, rows_of, record_on, entries_in, cell_rows, slot_of}
use Rattle.point_tables.specs.Meaning.Holds.{Holds}
use Rattle.point_tables.proofs.laws.HoldsLaws.{rows-length, used_in_pool, used_in_spots, entries-length}
use Rattle.point_maintain.specs.Meaning.Walk.{stays, fate}
use Rattle.point_maintain.specs.Meaning.Maintain.{cell_keys}
use Rattle.point_maintain.proofs.laws.KeptLaws.{kept_calm}
use Rattle.point_maintain.specs.Inner.Closed.{joined, kept_under}
use Rattle.point_maintain.proofs.laws.VisitLaws.{joined-append, joined-one}
use Rattle.point_maintain.proofs.laws.CalmLaws.{calm_or_not, calm_fate}
use Rattle.point_maintain.proofs.laws.SweepLaws.{list_under, list_named}
use Rattle.point_maintain.proofs.laws.CellOrderLaws.{keys_up}
use Rattle.point_maintain.proofs.laws.ListsAfterLaws.{pool-joined}
use Rattle.point_maintain_lists.specs.Inner.Runs.{run}
use Rattle.storage.specs.Inner.Run.{ListEnd}
use Rattle.point_maintain_lists.proofs.laws.RunLaws.{entries-run}
use Rattle.point_maintain_lists.proofs.laws.TagLaws.{kept_by_tag}
use Rattle.point_maintain_lists.specs.Inner.Laid.{list_at, kept_if}
use Rattle.point_tables.proofs.laws.EntryLaws.{no_entry, entries_at}
use Rattle.point_tables.specs.Inner.Entry.{entry_at}
use Rattle.point_tables.proofs.laws.ListedLaws.{Named}

-- ---- rising keys, and lists of other keys
rising-past : (ks : List ℕ) (r : ℕ) → Rising (λ k. k) ks → r < length ks → All (λ j. get_or ks r 0 < j) (drop (suc r) ks)
rising-past [] r u h = absurd (not-suc-le-zero h)
rising-past (k ∷ ks) zero u h = u.0
rising-past (k ∷ ks) (suc r) u h = rising-past ks r u.1 (le_of_suc-le-suc h)

others : {A : Type 0} (key : A → ℕ) (f : ℕ → List A) → ((j : ℕ) → All (λ x. key x ≡ j) (f j)) → (k : ℕ) (ks : List ℕ) → All (λ j. k < j) ks → All (λ x. key x ≡ k → ⊥) (joined f ks)
others key f own k [] a = tt
others key f own k (j ∷ ks) a =
    all_append (λ x. key x ≡ k → ⊥) (f j) (joined f ks)
    (all_map (λ x. key x ≡ j) (λ x. key x ≡ k → ⊥) (λ x e q. omega (arith, a.0)) (f j) (own j))
    (others key f own k ks a.1)

-- ---- the lists of the first r cells, and what they keep
abbrev pub passed : Tables → ℕ → List Entry
passed t r = joined (list_under t) (take r (cell_keys t))

abbrev pub kept_to : Tables → ℕ → List Entry
kept_to t r = joined (kept_under t) (take r (cell_keys t))

-- the list of cell r, and those of the cells behind it
abbrev pub list_of : Tables → ℕ → List Entry
list_of t r = list_under t (first t.cells r)

abbrev later : Tables → ℕ → List Entry
later t r = joined (list_under t) (drop (suc r) (cell_keys t))

pub keys_length : (t : Tables) → Holds t → length (cell_keys t) ≡ rows_of t
keys_length t h = length-map (cell_rows t) row_key ∙ rows-length t h

module _ (t : Tables) (h : Holds t) (r : ℕ) (l : r < rows_of t) where
  key_here : get_or (cell_keys t) r 0 ≡ first t.cells r
  key_here = get_or-map row_key (take (rows_of t) t.cells) r [] ∙ ap row_key (get_or-take (rows_of t) t.cells r [] l)

  -- one cell more
  next_keys : take (r + 1) (cell_keys t) ≡ take r (cell_keys t) ++ (first t.cells r ∷ [])
  next_keys =
      ap (λ (n : ℕ). take n (cell_keys t)) (add-one r)
      ∙ take-suc (cell_keys t) r 0 (omega (arith, keys_length t h))
      ∙ ap (λ (k : ℕ). take r (cell_keys t) ++ (k ∷ [])) key_here

  pub next-joined : (f : ℕ → List Entry) → joined f (take (r + 1) (cell_keys t)) ≡ joined f (take r (cell_keys t)) ++ f (first t.cells r)
  next-joined f = ap (joined f) next_keys ∙ joined-one f (take r (cell_keys t)) (first t.cells r)

  -- ---- the entries: those passed, the list of cell r, and those of the cells behind it
  in_parts : entries_in t ≡ passed t r ++ ((list_of t r) ++ (later t r))
  in_parts =
      sym (pool-joined t h)
      ∙ ap (joined (list_under t)) (split_at (cell_keys t) r 0 (omega (arith, keys_length t h)) ∙ ap (λ (k : ℕ). take r (cell_keys t) ++ (k ∷ drop (suc r) (cell_keys t))) key_here)
      ∙ joined-append (list_under t) (take r (cell_keys t)) (first t.cells r ∷ drop (suc r) (cell_keys t))

  pub parts_length : length (passed t r) + (length (list_of t r) + length (later t r)) ≡ used_of t
  parts_length =
      sym (ap length in_parts ∙ length-append (passed t r) ((list_of t r) ++ (later t r)) ∙ ap (λ (n : ℕ). length (passed t r) + n) (length-append (list_of t r) (later t r)))
      ∙ entries-length t h

  later_others : All (λ e. entry_key e ≡ first t.cells r → ⊥) (later t r)
  later_others =
      others entry_key (list_under t) (λ j. all_under entry_key j (entries_in t)) (first t.cells r) (drop (suc r) (cell_keys t))
      (rw key_here at (rising-past (cell_keys t) r (keys_up t h) (omega (arith, keys_length t h))))

  -- by places
  at_place : (j : ℕ) → length (passed t r) + j < used_of t → entry_at t.pool t.spots (length (passed t r) + j) ≡ get_or ((list_of t r) ++ (later t r)) j no_entry
  at_place j g =
      sym (entries_at t.pool t.spots (used_of t) (used_in_pool t h) (used_in_spots t h) (length (passed t r) + j) g)
      ∙ ap (λ (es : List Entry). get_or es (length (passed t r) + j) no_entry) in_parts
      ∙ get_or-append-add (passed t r) ((list_of t r) ++ (later t r)) j no_entry

  key_in_lem : (j : ℕ) → j < length (list_of t r) → first t.pool (length (passed t r) + j) ≡ first t.cells r
  key_in_lem j g =
      ap entry_key (at_place j (omega (arith, parts_length)) ∙ get_or-append (list_of t r) (later t r) no_entry j g)
      ∙ all_at (λ e. entry_key e ≡ first t.cells r) no_entry (list_of t r) j g (all_under entry_key (first t.cells r) (entries_in t))

  key-past : length (passed t r) + length (list_of t r) < used_of t → first t.pool (length (passed t r) + length (list_of t r)) ≡ first t.cells r → ⊥
  key-past g e =
      let p : length (list_of t r) + 0 ≡ length (list_of t r) = omega arith in
      all_at (λ x. entry_key x ≡ first t.cells r → ⊥) no_entry (later t r) 0 (omega (arith, parts_length)) later_others
      (ap entry_key (sym (at_place (length (list_of t r)) g ∙ ap (λ (n : ℕ). get_or ((list_of t r) ++ (later t r)) n no_entry) (sym p) ∙ get_or-append-add (list_of t r) (later t r) 0 no_entry)) ∙ e)

  -- the list of cell r is the stretch of its key
  pub list_stretch : ListEnd t.pool (length (passed t r)) (used_of t) (first t.cells r) (length (passed t r) + length (list_of t r))
  list_stretch =
      record {
        onward = omega arith;
        within = omega (arith, parts_length);
        same = λ j a b.
            let e : length (passed t r) + (j - length (passed t r)) ≡ j = omega arith in
            ap (first t.pool) (sym e) ∙ key_in_lem (j - length (passed t r)) (omega arith);
        stops = key-past;
      }

  pub list_run : list_at t.pool t.spots (length (passed t r)) (length (passed t r) + length (list_of t r)) ≡ (list_of t r)
  list_run =
      let n : length (passed t r) + length (list_of t r) - length (passed t r) ≡ length (list_of t r) = omega arith in
      ap (run (entry_at t.pool t.spots) (length (passed t r))) n
      ∙ sym (entries-run t.pool t.spots (used_of t) (used_in_pool t h) (used_in_spots t h) (length (passed t r)) (length (list_of t r)) (omega (arith, parts_length)))
      ∙ ap (λ (es : List Entry). take (length (list_of t r)) (drop (length (passed t r)) es)) in_parts
      ∙ ap (take (length (list_of t r))) (drop_at (passed t r) ((list_of t r) ++ (later t r)) (length (passed t r)) refl)
      ∙ take_at (list_of t r) (later t r) (length (list_of t r)) refl

  -- ---- what the list keeps, walked or not
  clean_stays : (second t.cells r ≡ 1 → ⊥) → All (λ e. fate t e ≡ stays e) (list_of t r)
  clean_stays n =
      all_both (Named t) (λ e. entry_key e ≡ first t.cells r) (λ e. fate t e ≡ stays e)
      (λ e m q. calm_fate t e
      (⊎_elim
      (λ c. c)
      (λ x. absurd (n (h.dirty (slot_of e) m.inside (record { occupied = m.occupied; changed = x }) r l (sym q ∙ m.key))))
      (calm_or_not (record_on t (slot_of e)).state)))
      (list_of t r) (list_named t h (first t.cells r)) (all_under entry_key (first t.cells r) (entries_in t))

  pub kept_here : (dirty : Bool) → dirty ≡ eqb (second t.cells r) 1 → kept_if dirty t.nums t.reals (list_of t r) ≡ kept_under t (first t.cells r)
  unfolding kept_under
  kept_here true e = kept_by_tag t (list_of t r)
  kept_here false e = sym (kept_calm (fate t) (list_of t r) (clean_stays (eqb-false _ _ (sym e))))
