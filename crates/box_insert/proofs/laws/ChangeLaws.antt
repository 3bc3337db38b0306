-- Tables in which one slot changes: what held of the other slots still does, and so the tables hold a grid if the slot is as it must be
-- and its box stands where it should. Assumes nothing.
use Rattle.basics.specs.Words.{ℕ, ◌<◌, ◌≡◌, sym, ◌∙◌, List, [], ◌⊎◌, inl, inr, ⊎_elim, get_or}
use Rattle.basics.proofs.laws.Says.{d_eq}
use Rattle.slots.specs.Meaning.Slot.{live, phase_at, SlotsHold}
use Rattle.storage.specs.Meaning.Keyed.{All}
use Rattle.storage.specs.Inner.Keyed.{Sorted}
use Rattle.storage.specs.Meaning.Entries.{row_key, row_item}
use Rattle.storage.proofs.laws.FilterLaws.{all_map}
use Rattle.box_tables.specs.Meaning.Tables.{Tables, size_of, slots_of, entries_in, item_on, Sized}
use Rattle.box_tables.specs.Meaning.Holds.{Counted, BoxHolds, Holds}
use Rattle.box_tables.proofs.laws.HoldsLaws.{Named, StandsOn, Listing, holds_of}

-- t and u have the same cell size and the same slots, and besides slot s the same phases and boxes
pub record Others (t u : Tables) (s : ℕ) : Type 0 where
  pub same_size : size_of u ≡ size_of t
  pub same-slots : slots_of u ≡ slots_of t
  pub same_phase : (i : ℕ) → (i ≡ s → ⊥) → phase_at u.nums i ≡ phase_at t.nums i
  pub same-corners : (i : ℕ) → (i ≡ s → ⊥) → get_or u.reals i [] ≡ get_or t.reals i []

-- an entry of another slot
pub record OfOther (t : Tables) (s : ℕ) (row : List ℕ) : Type 0 where
  pub named : Named t row
  pub other : named.slot ≡ s → ⊥

module _ (t u : Tables) (s : ℕ) (o : Others t u s) where
  same_item : (i : ℕ) → (i ≡ s → ⊥) → item_on u i ≡ item_on t i
  same_item i n = rw (o.same_size, o.same-corners i n)

  same_box : (i : ℕ) → (i ≡ s → ⊥) → BoxHolds t i → BoxHolds u i
  same_box i n b = record { within_domain = rw (o.same-corners i n) b.within_domain; cells-most = rw (o.same_size, o.same-corners i n) b.cells-most }

  same-stands : (rows : List (List ℕ)) (i : ℕ) → (i ≡ s → ⊥) → StandsOn t rows i → StandsOn u rows i
  same-stands rows i n st = rw (o.same_size, o.same-corners i n) st

  same-named : (row : List ℕ) → OfOther t s row → Named u row
  same-named row w =
      let n = w.named in
      record {
        slot = n.slot;
        inside = rw o.same-slots n.inside;
        occupied = o.same_phase n.slot w.other ∙ n.occupied;
        item = n.item ∙ sym (same_item n.slot w.other);
      }

  -- an entry is that of another slot, or the box of s has it
  abbrev pub Kept : List ℕ → Type 0
  Kept row = OfOther t s row ⊎ ((phase_at u.nums s ≡ live) × (row_item row ≡ item_on u s))

  module _ (h : Holds t) (inside : s < slots_of t) (rows : List (List ℕ)) where
    changed-listing : Sorted row_key rows → All Kept rows → ((i : ℕ) → (i ≡ s → ⊥) → StandsOn t (entries_in t) i → StandsOn t rows i) → (phase_at u.nums s ≡ live → StandsOn u rows s) → Listing u rows
    changed-listing sorted kept others own =
        record {
          ordered = sorted;
          each = all_map Kept (Named u) (λ r k. ⊎_elim (same-named r) (λ q. record { slot = s; inside = rw o.same-slots inside; occupied = q.0; item = q.1 }) k) rows kept;
          every = λ i l e.
              elim (d_eq i s) [
                | inl q ↦ rw q (own (rw q at e))
                | inr n ↦ same-stands rows i n (others i n (h.every i (rw o.same-slots at l) (sym (o.same_phase i n) ∙ e)))
              ];
        }

    pub changed-holds :
        Sized u → Counted u → SlotsHold u.nums u.map → (phase_at u.nums s ≡ live → BoxHolds u s) → entries_in u ≡ rows → Sorted row_key rows → All Kept rows
        → ((i : ℕ) → (i ≡ s → ⊥) → StandsOn t (entries_in t) i → StandsOn t rows i) → (phase_at u.nums s ≡ live → StandsOn u rows s) → Holds u
    changed-holds sized counted slots box entries sorted kept others own =
        holds_of u rows sized counted slots
        (λ i l e.
        elim (d_eq i s) [
          | inl q ↦ rw q (box (rw q at e))
          | inr n ↦ same_box i n (h.boxes i (rw o.same-slots at l) (sym (o.same_phase i n) ∙ e))
        ])
        entries (changed-listing sorted kept others own)
