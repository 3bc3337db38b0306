-- What the proofs of box_tables share. Assumes nothing.
use Rattle.basics.specs.Words.{ℕ, ◌+◌, ◌/◌, ◌<◌, ◌≡◌, sym, ap, ◌∙◌, subst, Bool, true, List, [], ◌∷◌, replicate, length-set, length-replicate}
use Rattle.basics.specs.Words.{get_or-replicate, get_or-set_same, get_or-set_other, T, arith}
use lib.Ieee.{Float}
use borrow.Author.Count.{below_none, below_more}
use Rattle.basics.specs.Meaning.Says.{Says}
use Rattle.basics.proofs.laws.Says.{says_same}
use Rattle.geometry.specs.declared.Aabb.{Aabb}
use Rattle.geometry.specs.Meaning.Domain.{aabb_in_domain}
use Rattle.cells.specs.Inner.Key.{column_of}
use Rattle.box_tables.specs.Meaning.Tables.{Tables}
use Rattle.box_tables.specs.Meaning.Holds.{Holds}
use Rattle.box_tables.specs.Meaning.Decide.{holds, holds_says}
use Rattle.box_tables.specs.declared.way.Way.{Way}
use Rattle.box_tables.specs.declared.slot_ways.Ways.{Ways}
use Rattle.box_tables.specs.Inner.Way.{track_of, way_at}
use Rattle.box_tables.specs.Inner.Check.{way_row, Long, put_in, WaysBy}
use Rattle.box_tables.proofs.laws.WayLaws.{way_slot}

-- ---- a box that was loaded
pub within_domain : (b : Aabb) (r : Bool) → r ≡ aabb_in_domain b → r ≡ true → T (aabb_in_domain b)
within_domain b r e t = subst T (sym t ∙ e) tt

-- ---- the ways of one slot more
module _ (ways : Ways) (way : Way) where
  row_same : Long ways → way.item < 512 → way_row (put_in ways way) way.item ≡ track_of way
  row_same g h =
      let a = get_or-set_same ways.nexts way.item way.first 0 (omega (arith, g.of_nexts)) in
      let b = get_or-set_same ways.stops way.item (column_of way.last) 0 (omega (arith, g.of_stops)) in
      let c = get_or-set_same ways.jumps way.item way.jump 0 (omega (arith, g.of_jumps)) in
      let d = get_or-set_same ways.ends way.item (way.last + way.jump) 0 (omega (arith, g.of_ends)) in
      λ z. a z ∷ b z ∷ c z ∷ d z ∷ []

  row_other : (m : ℕ) → (m ≡ way.item → ⊥) → way_row (put_in ways way) m ≡ way_row ways m
  row_other m n =
      let a = get_or-set_other ways.nexts way.item m way.first 0 n in
      let b = get_or-set_other ways.stops way.item m (column_of way.last) 0 n in
      let c = get_or-set_other ways.jumps way.item m way.jump 0 n in
      let d = get_or-set_other ways.ends way.item m (way.last + way.jump) 0 n in
      λ z. a z ∷ b z ∷ c z ∷ d z ∷ []

  long-more : Long ways → Long (put_in ways way)
  long-more g = record { of_nexts = length-set ways.nexts way.item _ ∙ g.of_nexts; of_stops = length-set ways.stops way.item _ ∙ g.of_stops; of_jumps = length-set ways.jumps way.item _ ∙ g.of_jumps; of_ends = length-set ways.ends way.item _ ∙ g.of_ends }

module _ (nums : List (List ℕ)) (reals : List (List Float)) (size : ℕ) (i : ℕ) (way : Way) (e : way ≡ way_at nums reals size i) where
  pub item_of_slot : way.item / 2 ≡ i
  item_of_slot = ap (λ (w : Way). w.item / 2) e ∙ way_slot nums reals size i

  pub ways_more : (ways : Ways) → i < 256 → WaysBy nums reals size ways i → WaysBy nums reals size (put_in ways way) (i + 1)
  ways_more ways l w =
      record {
        long = long-more ways way w.long;
        are = below_more (λ s. way_row (put_in ways way) (way_at nums reals size s).item ≡ track_of (way_at nums reals size s)) i
            (λ s h. row_other ways way (way_at nums reals size s).item (λ q. omega (arith, way_slot nums reals size s, ap (λ (n : ℕ). n / 2) q, item_of_slot)) ∙ w.are s h)
            (subst (λ (v : Way). way_row (put_in ways way) v.item ≡ track_of v) e (row_same ways way w.long (omega (arith, item_of_slot))));
        blank = λ m n h. row_other ways way m (λ q. n i (omega arith) (sym (ap (λ (v : Way). v.item) e) ∙ sym q)) ∙ w.blank m (λ s g q. n s (omega arith) q) h;
      }

-- before the first slot
pub ways_none : (nums : List (List ℕ)) (reals : List (List Float)) (size : ℕ) → WaysBy nums reals size (record { nexts = replicate 512 0; stops = replicate 512 0; jumps = replicate 512 1; ends = replicate 512 0 }) 0
ways_none nums reals size =
    record {
      long = record { of_nexts = length-replicate {A = ℕ} 512 0; of_stops = length-replicate {A = ℕ} 512 0; of_jumps = length-replicate {A = ℕ} 512 1; of_ends = length-replicate {A = ℕ} 512 0 };
      are = below_none _;
      blank = λ k n h.
          let a = get_or-replicate {A = ℕ} 512 k 0 0 h in
          let b = get_or-replicate {A = ℕ} 512 k 1 0 h in
          λ z. a z ∷ a z ∷ b z ∷ a z ∷ [];
    }

-- what says that tables hold a grid is `holds`
pub said-holds : (t : Tables) (b : Bool) → Says b (Holds t) → b ≡ holds t
said-holds t b s = says_same b (holds t) s (holds_says t)
