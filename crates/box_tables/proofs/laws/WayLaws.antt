-- Laws of the way: what is to come is one list, and for a box it is the keys of its range. Assumes nothing.
use Rattle.basics.specs.Words.{ℕ, zero, suc, ◌+◌, ◌-◌, ◌*◌, ◌/◌, ◌<◌, ◌≤◌, ◌≡◌, refl, sym, ap, ap₂, ◌∙◌, subst, Bool, true, false, List, [], ◌∷◌, ◌++◌, map}
use Rattle.basics.specs.Words.{inl, inr, T, eqb, leb→le, ℤ, add-one, arith, eq-eqb, ne_eqb}
use lib.Signed.{mag, le_z}
use lib.Ieee.{Float}
use Rattle.basics.proofs.laws.Says.{d_eq}
use Rattle.basics.specs.Meaning.Refusals.{pick}
use Rattle.cells.specs.declared.Cell.{Cell}
use Rattle.cells.specs.Inner.Numbers.{Near}
use Rattle.cells.proofs.laws.Numbers.{Fits, near_fits}
use Rattle.cells.specs.Meaning.Range.{range_cells}
use Rattle.cells.specs.Meaning.Key.{upward, key_of}
use Rattle.cells.specs.Inner.Key.{column_of}
use Rattle.cells.proofs.laws.KeyLaws.{upward_lt, key_column}
use Rattle.cells.proofs.laws.RangeKeyLaws.{range_keys, count-up, upward-order, near-below}
use Rattle.cells.proofs.laws.Rising.{run, runs}
use Rattle.slots.specs.Meaning.Slot.{live, phase_at}
use Rattle.geometry.specs.declared.Aabb.{Aabb}
use Rattle.geometry.specs.Meaning.Domain.{aabb_in_domain}
use Rattle.box_tables.specs.declared.way.Way.{Way}
use Rattle.box_tables.specs.Meaning.Tables.{aabb_at, low_cell, high_cell, covers}
use Rattle.box_tables.proofs.laws.BoxLaws.{low_near, high-near, corners-x, corners-y, item-slot}
use Rattle.box_tables.specs.Inner.Way.{behind, ToCome, track_of, OnTrack, key_most, span_of, way_of, no_way, way_at}

-- keys and a step from which a whole pool of steps fits 64 bits
pub record Bounded (way : Way) : Type 0 where
  pub next : way.first ≤ key_most
  pub last : way.last ≤ key_most
  pub jump_some : 1 ≤ way.jump
  pub jump : way.jump ≤ 4294967296

-- ---- a step goes on, so that what is to come is one list
behind-up : (stop jump k : ℕ) → 1 ≤ jump → k < behind stop jump k
behind-up stop jump k h = go (eqb (column_of k) stop)
  where
    go : (t : Bool) → k < pick t (k + jump) (k + 1)
    go true = omega arith
    go false = omega arith

rising : (stop jump end k : ℕ) → 1 ≤ jump → (l : List ℕ) → ToCome stop jump end k l → k ≤ end
rising stop jump end k h [] p = omega (arith, p)
rising stop jump end k h (x ∷ l) p = omega (arith, behind-up stop jump k h, rising stop jump end (behind stop jump k) h l p.1)

pub to_come_one : (stop jump end k : ℕ) → 1 ≤ jump → (l m : List ℕ) → ToCome stop jump end k l → ToCome stop jump end k m → l ≡ m
to_come_one stop jump end k h [] [] p q = refl
to_come_one stop jump end k h [] (y ∷ m) p q = absurd (omega (arith, p, behind-up stop jump k h, rising stop jump end (behind stop jump k) h m q.1))
to_come_one stop jump end k h (x ∷ l) [] p q = absurd (omega (arith, q, behind-up stop jump k h, rising stop jump end (behind stop jump k) h l p.1))
to_come_one stop jump end k h (x ∷ l) (y ∷ m) p q = ap₂ ◌∷◌ (p.0 ∙ sym q.0) (to_come_one stop jump end (behind stop jump k) h l m p.1 q.1)

-- ---- rows of w + 1 keys, from column c on
module _ (stop jump end c w : ℕ) (e : stop ≡ c + w) (f : jump + w ≡ 4294967296) (g : c + w < 4294967296) where
  -- i + 1 keys of the row that starts at k₀, and then the rest
  row_to_come : (rest : List ℕ) (k₀ r : ℕ) → k₀ ≡ r * 4294967296 + c → ToCome stop jump end (k₀ + 4294967296) rest → (i k : ℕ) → i ≤ w → k + i ≡ k₀ + w → ToCome stop jump end k (run k (suc i) ++ rest)
  row_to_come rest k₀ r s t zero k l q =
      let d : k + jump ≡ k₀ + 4294967296 = omega arith in
      (refl, rw (eq-eqb (column_of k) stop (omega arith)) (subst (λ n. ToCome stop jump end n rest) (sym d) t))
  row_to_come rest k₀ r s t (suc i) k l q =
      (refl, rw (ne_eqb (column_of k) stop (λ z. omega arith)) (row_to_come rest k₀ r s t i (k + 1) (omega arith) (omega arith)))

  rows_to_come : (m k r : ℕ) → k ≡ r * 4294967296 + c → k + m * 4294967296 ≡ end → ToCome stop jump end k (runs k (suc w) m)
  rows_to_come zero k r s h = omega arith
  rows_to_come (suc m) k r s h =
      row_to_come (runs (k + 4294967296) (suc w) m) k r s (rows_to_come m (k + 4294967296) (r + 1) (omega arith) (omega arith)) w k (omega arith) refl

-- ---- the keys of a range that is not reversed
key_is : (c : Cell) → key_of c ≡ upward c.y * 4294967296 + upward c.x
unfolding key_of
key_is c = refl

pub range_to_come : (a b : Cell) → Fits a → Fits b → upward a.x ≤ upward b.x → upward a.y ≤ upward b.y → (j : ℕ) → j ≡ 4294967296 + column_of (key_of a) - column_of (key_of b) → ToCome (column_of (key_of b)) j (key_of b + j) (key_of a) (map key_of (range_cells a b))
range_to_come a b fa fb hx hy j e =
    let w = upward b.x - upward a.x in
    let ax = key_column a fa in
    let bx = key_column b fb in
    let lx = upward_lt a.x fa.x in
    let ux = upward_lt b.x fb.x in
    rw (range_keys a b fa, count-up a.x b.x fa.x fb.x hx, count-up a.y b.y fa.y fb.y hy, add-one w)
    (rows_to_come (column_of (key_of b)) j (key_of b + j) (column_of (key_of a)) w (omega arith) (omega arith) (omega arith) (upward b.y - upward a.y + 1) (key_of a) (upward a.y)
    (omega (arith, key_is a, ax)) (omega (arith, key_is a, key_is b)))

not_reversed : (a b : ℤ) → mag a < 2147483648 → mag b < 2147483648 → T (le_z a b) → upward a ≤ upward b
not_reversed a b ha hb h = leb→le (upward a) (upward b) (subst T (upward-order a b ha hb) h)

-- a step on the way of a box fits 64 bits
pub near-key : (c : Cell) → Near c → key_of c ≤ key_most
near-key c n = omega (arith, key_is c, near-below c.x n.x, near-below c.y n.y)

module _ (size : ℕ) (hs : 1 ≤ size) (b : Aabb) (h : T (aabb_in_domain b)) where
  fits_low : Fits (low_cell size b)
  fits_low = near_fits (low_cell size b) (low_near b h size)

  fits-high : Fits (high_cell size b)
  fits-high = near_fits (high_cell size b) (high-near b h size)

  pub rises_x : upward (low_cell size b).x ≤ upward (high_cell size b).x
  rises_x = not_reversed (low_cell size b).x (high_cell size b).x fits_low.x fits-high.x (corners-x b h size hs)

  pub rises_y : upward (low_cell size b).y ≤ upward (high_cell size b).y
  rises_y = not_reversed (low_cell size b).y (high_cell size b).y fits_low.y fits-high.y (corners-y b h size hs)

  -- the way of a box: what is to come is the keys of its range
  pub way_of_box : (s : ℕ) → OnTrack (track_of (way_of s (span_of size b))) (map key_of (range_cells (low_cell size b) (high_cell size b)))
  way_of_box s = range_to_come (low_cell size b) (high_cell size b) fits_low fits-high rises_x rises_y _ refl

  pub way_bounded : (s : ℕ) → Bounded (way_of s (span_of size b))
  way_bounded s =
      record {
        next = near-key (low_cell size b) (low_near b h size);
        last = near-key (high_cell size b) (high-near b h size);
        jump_some = omega arith;
        jump = omega (arith, key_column (low_cell size b) fits_low, key_column (high_cell size b) fits-high, rises_x);
      }

pub no_way_bounded : (s : ℕ) → Bounded (no_way s)
no_way_bounded s = record { next = omega arith; last = omega arith; jump_some = omega arith; jump = omega arith }

-- ---- the way of a slot
module _ (nums : List (List ℕ)) (reals : List (List Float)) (size s : ℕ) where
  pub way_live : phase_at nums s ≡ live → way_at nums reals size s ≡ way_of s (span_of size (aabb_at reals s))
  way_live p = rw (eq-eqb (phase_at nums s) live p)

  pub way_none : (phase_at nums s ≡ live → ⊥) → way_at nums reals size s ≡ no_way s
  way_none n = rw (ne_eqb (phase_at nums s) live n)

  -- its item is one of the slot's
  pub way_slot : (way_at nums reals size s).item / 2 ≡ s
  way_slot = elim (d_eq (phase_at nums s) live) [ inl p ↦ ap (λ (w : Way). w.item / 2) (way_live p) ∙ item-slot s (eqb (covers size (aabb_at reals s)) 1) | inr n ↦ ap (λ (w : Way). w.item / 2) (way_none n) ∙ item-slot s false ]

  pub slot_bounded : 1 ≤ size → (phase_at nums s ≡ live → T (aabb_in_domain (aabb_at reals s))) → Bounded (way_at nums reals size s)
  slot_bounded h d = elim (d_eq (phase_at nums s) live) [ inl p ↦ rw (way_live p) (way_bounded size h (aabb_at reals s) (d p) s) | inr n ↦ rw (way_none n) (no_way_bounded s) ]
