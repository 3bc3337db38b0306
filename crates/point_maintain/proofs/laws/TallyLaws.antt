-- The entries of tables that hold a grid, by counts: each names an object, and each slot is named once if it is live and else not at all.
-- Assumes nothing.
use Rattle.basics.specs.Words.{ℕ, ◌<◌, ◌≡◌, refl, sym, ◌∙◌, ap, Bool, true, false, List, ⊎_elim, eqb, arith, eqb-true, eq-eqb, ne_eqb}
use Rattle.basics.specs.Inner.Counting.{one}
use Rattle.basics.proofs.laws.Says.{apart, d_lt}
use Rattle.cells.specs.Meaning.Key.{key_of}
use Rattle.storage.specs.Meaning.Keyed.{All}
use Rattle.storage.specs.Meaning.Entries.{Entry}
use Rattle.storage.proofs.laws.FilterLaws.{all_map}
use Rattle.point_maintain.proofs.laws.Totals.{times, Alone}
use Rattle.point_maintain.proofs.laws.TotalLaws.{total-none, times-some, some-times, pairs_alone, alone_pairs}
use Rattle.point_tables.specs.Meaning.Tables.{Tables, slots_of, record_on, entries_in, slot_of}
use Rattle.point_tables.specs.Meaning.Holds.{Holds}
use Rattle.point_tables.specs.Inner.Count.{is_live}
use Rattle.point_tables.proofs.laws.ListedLaws.{Named, Listing, listing}
use Rattle.point_tables.proofs.laws.RoomLaws.{one-most}

-- the key of the cell that slot i is recorded in
abbrev pub cell_key : Tables → ℕ → ℕ
cell_key t i = key_of (record_on t i).cell

pub record Tally (t : Tables) (es : List Entry) : Type 0 where
  pub each : All (Named t) es
  pub once : (i : ℕ) → i < slots_of t → times slot_of i es ≡ one (is_live t i)

module _ (t : Tables) (es : List Entry) where
  -- no slot past the last is named, so that no two entries are of one slot
  tally_alone : Tally t es → Alone slot_of es
  tally_alone h i =
      ⊎_elim
      (λ l. rw (h.once i l) (one-most (is_live t i)))
      (λ n. rw (total-none _ es (all_map (Named t) (λ e. one (eqb (slot_of e) i) ≡ 0) (λ e q. ap one (ne_eqb (slot_of e) i (λ z. n (rw z at q.inside)))) es h.each)) (omega arith))
      (d_lt i (slots_of t))

  pub from_tally : Tally t es → Listing t es
  from_tally h =
      record {
        each = h.each;
        once = alone_pairs slot_of es (tally_alone h);
        every = λ s l p. some-times slot_of s es (omega (arith, h.once s l, ap one (eq-eqb _ _ p)));
      }

  to_tally : Listing t es → Tally t es
  to_tally h = record { each = h.each; once = λ i l. go i l (is_live t i) refl }
    where
      go : (i : ℕ) → i < slots_of t → (b : Bool) → is_live t i ≡ b → times slot_of i es ≡ one b
      go i l true e = omega (arith, times-some slot_of i es (h.every i l (eqb-true _ _ e)), pairs_alone slot_of es h.once i)
      go i l false e =
          total-none _ es
          (all_map (Named t) (λ x. one (eqb (slot_of x) i) ≡ 0)
          (λ x q. ap one (ne_eqb (slot_of x) i (λ z. apart (sym e ∙ eq-eqb _ _ (rw z at q.occupied)))))
          es h.each)

-- ---- tables that hold a grid
module _ (t : Tables) (h : Holds t) where
  pub tally : Tally t (entries_in t)
  tally = to_tally t (entries_in t) (listing t h)

  pub entries_alone : Alone slot_of (entries_in t)
  entries_alone = pairs_alone slot_of (entries_in t) (listing t h).once
