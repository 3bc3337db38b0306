-- What has moved: a zero's sign is no move, a relocation always is one, and an object that stays and has not moved keeps its bits but for a zero's
-- sign. Assumes nothing.
use Rattle.basics.specs.Words.{ℕ, ◌<◌, ◌≡◌, refl, sym, ◌∙◌, subst, Bool, true, false, ◌||◌, T, pos, arith}
use mathlib.Core.Bool.{or-false}
use lib.Ieee.{Float, fin, eq, ne, to_bits}
use lib.Ieee.Compare.{differs_from_itself}
use Rattle.basics.proofs.laws.Says.{apart}
use Rattle.geometry.specs.declared.Position.{Position}
use Rattle.geometry.specs.Meaning.Domain.{in_domain}
use Rattle.geometry.proofs.laws.DomainLaws.{domain_fits, domain_finite, position_parts, nan_refused}
use Rattle.cells.specs.declared.Cell.{Cell}
use Rattle.cells.specs.Meaning.CellRule.{cell_at}
use Rattle.cells.proofs.laws.Numbers.{cell_ext}
use Rattle.cells.proofs.laws.EqualLaws.{equal_cell, SameNumber, same_number}
use Rattle.slots.specs.Meaning.Slot.{live, phase_at}
use Rattle.storage.proofs.laws.FilterLaws.{by_test}
use Rattle.point_records.specs.declared.State.{State}
use Rattle.point_records.specs.declared.State.TheVariants.{Unchanged, NewPos, Relocate, Removed}
use Rattle.point_records.specs.declared.Record.{Record}
use Rattle.point_records.specs.Meaning.Columns.{pending_of}
use Rattle.point_records.specs.Meaning.Occupied.{InDomain, Agrees, Occupied}
use Rattle.point_records.specs.Meaning.States.{is_removed}
use Rattle.point_tables.specs.Meaning.Tables.{Tables, size_of, slots_of, record_on}
use Rattle.point_tables.specs.Meaning.Holds.{Holds}
use Rattle.point_maintain.specs.Meaning.Moved.{differs, moves_from, has_moved}
use Rattle.point_maintain.specs.Meaning.Maintain.{maintained}
use Rattle.point_maintain.proofs.laws.MaintainedLaws.{maintained_object}

-- ---- a zero is the same number with either sign
abbrev zero_at : Bool → Position
zero_at s = record { x = fin s 0 (pos 0); y = fin s 0 (pos 0) }

-- bits are opened too: by them the second and the third would be false
pub zeros-are-one : (s u : Bool) → differs (zero_at s) (zero_at u) ≡ false
unfolding ne eq to_bits
zeros-are-one true true = refl
zeros-are-one true false = refl
zeros-are-one false true = refl
zeros-are-one false false = refl

zeros : (s u : Bool) → ne (fin s 0 (pos 0)) (fin u 0 (pos 0)) ≡ false
unfolding ne eq
zeros true true = refl
zeros true false = refl
zeros false true = refl
zeros false false = refl

-- two places whose x are zeros differ as their y do, and the other way round
module _ (s u : Bool) (p q : Position) where
  pub zero_signs_equal : (p.x ≡ fin s 0 (pos 0) → q.x ≡ fin u 0 (pos 0) → differs p q ≡ ne p.y q.y)
      × (p.y ≡ fin s 0 (pos 0) → q.y ≡ fin u 0 (pos 0) → differs p q ≡ ne p.x q.x)
  zero_signs_equal = (
    λ a b. rw (a, b, zeros s u),
    λ a b. rw (a, b, zeros s u) (or-false (ne p.x q.x)),
  )

-- ---- places that do not differ
neither : (a b : Bool) → (a || b) ≡ false → (a ≡ false) × (b ≡ false)
neither true b e = absurd (apart (sym e))
neither false b e = (refl, e)

equal : (x y : Float) → ne x y ≡ false → T (eq x y)
unfolding ne
equal x y e = by_test (eq x y) (λ q. subst T (sym q) tt) (λ q. absurd (apart (sym e ∙ rw q)))

module _ (p q : Position) (e : differs p q ≡ false) where
  equal_x : T (eq p.x q.x)
  equal_x = equal p.x q.x (neither (ne p.x q.x) (ne p.y q.y) e).0

  equal_y : T (eq p.y q.y)
  equal_y = equal p.y q.y (neither (ne p.x q.x) (ne p.y q.y) e).1

  -- are in one cell
  same-cell : (size : ℕ) → 0 < size → cell_at size p ≡ cell_at size q
  same-cell size n = cell_ext (equal_cell size n p.x q.x equal_x) (equal_cell size n p.y q.y equal_y)

  -- and have the same bits but for the signs of zeros
  same_place : InDomain p → InDomain q → SameNumber p.x q.x × SameNumber p.y q.y
  same_place a b =
      let (ax, ay) = position_parts p a in
      let (bx, by) = position_parts q b in (
        same_number p.x q.x (domain_fits p.x ax) (domain_fits q.x bx) (domain_finite p.x ax) (domain_finite q.x bx) equal_x,
        same_number p.y q.y (domain_fits p.y ay) (domain_fits q.y by) (domain_finite p.y ay) (domain_finite q.y by) equal_y,
      )

-- ---- a place of the domain does not differ from itself
same_itself : (x : Float) → T (in_domain x) → ne x x ≡ false
same_itself x d =
    by_test (ne x x)
    (λ e. absurd (subst T nan_refused (subst (λ (z : Float). T (in_domain z)) (differs_from_itself x (subst T (sym e) tt)) d)))
    (λ e. e)

same-place_itself : (p : Position) → InDomain p → differs p p ≡ false
same-place_itself p d = let (a, b) = position_parts p d in λ i. same_itself p.x a i || same_itself p.y b i

-- ---- a record: removed it has not moved, else it has if it is headed elsewhere
pub removed_unmoved : (r : Record) → is_removed r.state ≡ true → has_moved r ≡ false
removed_unmoved r e = go r.state e
  where
    go : (st : State) → is_removed st ≡ true → moves_from r.position st ≡ false
    go Unchanged e = refl
    go (NewPos p) e = absurd (apart e)
    go (Relocate p c) e = absurd (apart e)
    go Removed e = refl

pub moved_if_headed : (r : Record) → InDomain r.position → is_removed r.state ≡ false → has_moved r ≡ differs (pending_of r.state r.position) r.position
moved_if_headed r d e = go r.state e
  where
    go : (st : State) → is_removed st ≡ false → moves_from r.position st ≡ differs (pending_of st r.position) r.position
    go Unchanged e = sym (same-place_itself r.position d)
    go (NewPos p) e = refl
    go (Relocate p c) e = refl
    go Removed e = absurd (apart (sym e))

-- ---- an object of a grid
module _ (t : Tables) (h : Holds t) (s : ℕ) (l : s < slots_of t) (o : phase_at t.nums s ≡ live) where
  abbrev r : Record
  r = record_on t s

  occupied : Occupied (size_of t) r
  occupied = (h.records s l o).occupied

  -- with a relocation pending it has moved: equal numbers have equal cells
  pub relocated_moved : (p : Position) (c : Cell) → r.state ≡ Relocate p c → has_moved r ≡ true
  relocated_moved p c e =
      by_test (differs p r.position)
      (λ q. rw e q)
      (λ q.
      let a = subst (Agrees (size_of t) r.cell) e occupied.agrees in
      absurd (a.2 (sym a.1 ∙ same-cell p r.position q (size_of t) (omega (arith, h.counted.size)) ∙ occupied.in_cell)))

  -- what is pending is of the domain
  pending_in_domain : InDomain (pending_of r.state r.position)
  pending_in_domain = go r.state occupied.agrees
    where
      go : (st : State) → Agrees (size_of t) r.cell st → InDomain (pending_of st r.position)
      go Unchanged a = occupied.within_domain
      go (NewPos p) a = a.0
      go (Relocate p c) a = a.0
      go Removed a = occupied.within_domain

  -- if it is not removed and has not moved, maintain leaves it where it was, to the bit but for the signs of zeros: every other step is counted
  pub uncounted_stays : is_removed r.state ≡ false → has_moved r ≡ false
      → let p = (record_on (maintained t) s).position in SameNumber p.x r.position.x × SameNumber p.y r.position.y
  uncounted_stays n e =
      subst (λ (q : Record). SameNumber q.position.x r.position.x × SameNumber q.position.y r.position.y) (sym (maintained_object t h s l o n))
      (same_place (pending_of r.state r.position) r.position (sym (moved_if_headed r occupied.within_domain n) ∙ e) pending_in_domain occupied.within_domain)
