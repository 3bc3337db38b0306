-- The parts of the check make up what it is to hold a grid, and each follows from it. Assumes nothing.
use Rattle.basics.specs.Words.{ℕ, ◌<◌, ◌≡◌, refl, sym, ap, ◌∙◌, subst, Bool, true, false, List, get_or, T, eqb, arith, eqb-true}
use lib.Ieee.{Float, nan, inf, fin, is_nan}
use Rattle.geometry.specs.declared.Position.{Position}
use Rattle.geometry.specs.Meaning.Domain.{in_domain}
use Rattle.geometry.proofs.laws.DomainLaws.{domain_finite, position_parts}
use Rattle.cells.specs.declared.Cell.{Cell}
use Rattle.cells.specs.Meaning.Key.{key_of}
use Rattle.basics.proofs.laws.Counting.{named_count}
use Rattle.slots.specs.Meaning.Slot.{live, version_at, phase_at}
use Rattle.storage.specs.Meaning.Packed.{first, second}
use Rattle.point_records.specs.declared.State.TheVariants.{Unchanged, NewPos, Relocate, Removed}
use Rattle.point_records.specs.Meaning.Columns.{tag_of, state_of, pick_state}
use Rattle.point_records.specs.Meaning.Word.{tag_at}
use Rattle.point_records.specs.Inner.Listed.{listed_at}
use Rattle.point_pool.specs.Inner.Pass.{Fits, Passes, Named}
use Rattle.point_tables.specs.Meaning.Tables.{Tables, size_of, used_of, rows_of, slots_of, record_on, Sized}
use Rattle.point_tables.specs.Meaning.Holds.{RecordHolds, ListsHold, Pending, Holds}
use Rattle.point_tables.specs.Inner.Check.{Counts, SlotsOk, Room, Listed}

-- ---- a tag of 0 is that of a state that is unchanged, and no other is
tag-pick : (b c d : Bool) (p : Position) (q : Cell) → tag_of (pick_state b Unchanged (pick_state c (NewPos p) (pick_state d (Relocate p q) Removed))) ≡ 0 → b ≡ true
tag-pick true c d p q e = refl
tag-pick false true d p q e = absurd (omega arith)
tag-pick false false true p q e = absurd (omega arith)
tag-pick false false false p q e = absurd (omega arith)

pub tag-zero : (t : ℕ) (p : Position) (q : Cell) → tag_of (state_of t p q) ≡ 0 → t ≡ 0
tag-zero t p q e = eqb-true t 0 (tag-pick (eqb t 0) (eqb t 1) (eqb t 2) p q e)

pub zero-tag : (t : ℕ) (p : Position) (q : Cell) → t ≡ 0 → tag_of (state_of t p q) ≡ 0
zero-tag t p q e = ap (λ (n : ℕ). tag_of (state_of n p q)) e

-- a coordinate of the domain is no NaN
number : (x : Float) → T (in_domain x) → is_nan x ≡ false
unfolding is_nan
number nan h = absurd (domain_finite nan h)
number (inf s) h = refl
number (fin s m e) h = refl

module _ (t : Tables) where
  abbrev pub CountsOf : Type 0
  CountsOf = Counts (slots_of t) (size_of t) (used_of t) (rows_of t)

  abbrev pub PassesOf : Type 0
  PassesOf = Passes t.nums t.reals t.ints t.pool t.spots t.cells (size_of t) (used_of t) (rows_of t)

  abbrev pub SlotsOf : List Bool → Type 0
  SlotsOf marks = SlotsOk t.nums t.map marks

  -- ---- what the passes are asked of
  module _ (s : Sized t) (c : CountsOf) where
    pub slot-room : Room t.nums t.map
    slot-room = record { most = s.most; of_map = s.of_map }

  -- ---- the marked slots, once the pool is passed
  pub listed : CountsOf → (marks : List Bool) → PassesOf → Named t.pool marks (used_of t) → Listed t.nums marks (used_of t)
  listed c marks p n =
      record {
        count = named_count (used_of t) (λ s. get_or marks s false) (slots_of t) (second t.pool) (record { inside = λ j l. (p.each j l).inside; passes = n.all; once = p.once; every = λ s l e. n.only s e });
        most = c.used-most;
        occupied = λ s e. let i = n.only s e in subst (λ (k : ℕ). phase_at t.nums k ≡ live) i.2 (p.each i.0 i.1).occupied;
        versioned = λ s e. let i = n.only s e in subst (λ (k : ℕ). version_at t.nums k ≡ 0 → ⊥) i.2 (p.whole i.0 i.1).versioned;
      }

  -- ---- from the parts to the whole
  module _ (s : Sized t) (c : CountsOf) (marks : List Bool) (p : PassesOf) (n : Named t.pool marks (used_of t)) (o : SlotsOf marks) where
    lists_hold : ListsHold t
    lists_hold =
        record {
          each = λ j h. let f = p.each j h in record { inside = f.inside; occupied = f.occupied; key = f.is_key; at_x = ap (λ (q : Position). q.x) f.at; at_y = ap (λ (q : Position). q.y) f.at };
          once = p.once;
          every = λ k h l. n.only k ((o.each k h).if_live l);
        }

    -- the object of a pending slot has an entry, and the row of its cell is marked
    dirty_hold : (k : ℕ) → k < slots_of t → Pending t k → (r : ℕ) → r < rows_of t → first t.cells r ≡ key_of (record_on t k).cell → second t.cells r ≡ 1
    dirty_hold k h w r l e =
        let i = lists_hold.every k h w.occupied in
        p.marked i.0 i.1 r l (e ∙ sym ((p.each i.0 i.1).is_key ∙ ap (λ (j : ℕ). key_of (record_on t j).cell) i.2))
        (λ z. w.changed (zero-tag (tag_at t.nums k) _ _ (ap (tag_at t.nums) (sym i.2) ∙ z)))

    pub whole : Holds t
    whole =
        record {
          sized = s;
          counted = record { size = c.within_domain; used-most = c.used-most; rows-most = c.rows-most };
          slots = record { each = λ k h. (o.each k h).slot; past = o.past };
          records = λ k h l.
              let i = lists_hold.every k h l in
              let v = p.whole i.0 i.1 in
              subst (RecordHolds t) i.2 (record { worded = v.worded; occupied = v.occupied });
          packed = p.packed;
          lists = lists_hold;
          dirty = dirty_hold;
        }

  -- ---- from the whole to the parts
  module _ (h : Holds t) where
    pub counts_of : CountsOf
    counts_of = record { within_domain = h.counted.size; used-most = h.counted.used-most; rows-most = h.counted.rows-most }

    fits_of : (j : ℕ) → j < used_of t → Fits t.nums t.reals t.ints (first t.pool j) (listed_at t.pool t.spots j)
    fits_of j l =
        let e = h.lists.each j l in
        let d = position_parts (record_on t (second t.pool j)).position (h.records (second t.pool j) e.inside e.occupied).occupied.within_domain in
        record {
          inside = e.inside;
          occupied = e.occupied;
          is_key = e.key;
          at = λ z. record { x = e.at_x z; y = e.at_y z };
          number-x = ap is_nan e.at_x ∙ number _ d.0;
          number-y = ap is_nan e.at_y ∙ number _ d.1;
        }

    pub passes_of : PassesOf
    passes_of =
        record {
          each = fits_of;
          whole = λ j l. let e = h.lists.each j l in let r = h.records (second t.pool j) e.inside e.occupied in record { versioned = (h.slots.each (second t.pool j) e.inside).versioned; worded = r.worded; occupied = r.occupied };
          once = h.lists.once;
          packed = h.packed;
          marked = λ j l r m e z.
              let w = h.lists.each j l in
              h.dirty (second t.pool j) w.inside (record { occupied = w.occupied; changed = λ y. z (tag-zero (tag_at t.nums (second t.pool j)) _ _ y) }) r m (e ∙ w.key);
        }

    pub slots_of_lem : (marks : List Bool) → Named t.pool marks (used_of t) → SlotsOf marks
    slots_of_lem marks n =
        record {
          each = λ k l. record {
            slot = h.slots.each k l;
            if_live = λ p. let i = h.lists.every k l p in ap (λ (j : ℕ). get_or marks j false) (sym i.2) ∙ n.all i.0 i.1;
          };
          past = h.slots.past;
        }
