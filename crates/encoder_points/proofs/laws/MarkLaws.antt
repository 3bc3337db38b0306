-- The map, entry by entry: an entry raises the byte of its block, and no other. Assumes nothing.
use Rattle.basics.specs.Words.{ℕ, ◌+◌, ◌<◌, ◌≤◌, ◌≡◌, refl, sym, ap, ◌∙◌, subst, Bool, true, false, ◌||◌, List, ⊎_elim, length, get_or, set, length-set}
use Rattle.basics.specs.Words.{get_or-set_same, get_or-set_other, add-one, arith, eq-eqb, ne_eqb}
use mathlib.Core.Bool.{or-false}
use lib.Ieee.{Float}
use Rattle.basics.proofs.laws.Says.{d_eq}
use Rattle.storage.specs.Meaning.Packed.{first}
use Rattle.point_records.specs.Inner.Listed.{spot_at}
use Rattle.encoder_blocks.specs.Meaning.Blocks.{blocks}
use Rattle.encoder_blocks.specs.Inner.Places.{block_of}
use Rattle.encoder_points.specs.Inner.Marks.{in_some, stands_at, circled_at, some_below, point_byte, raised_by, Marked}

-- a point more in the block
raised_is : (circled there c : Bool) → point_byte (circled || c) (there || true) ≡ raised_by c (point_byte circled there)
raised_is true there c = refl
raised_is false true c = refl
raised_is false false c = refl

module _ (pool : List (List ℕ)) (spots circles : List (List Float)) where
  -- before the first entry every byte is 0
  pub marked-none : (bytes : List ℕ) → length bytes ≡ blocks → ((k : ℕ) → k < blocks → get_or bytes k 0 ≡ 0) → Marked pool spots circles 0 bytes
  unfolding some_below
  marked-none bytes e z = record { size = e; each = z }

  abbrev after : ℕ → ℕ → ℕ
  after n j = point_byte (some_below (circled_at pool spots circles j) n) (some_below (stands_at pool j) n)

  -- ---- one entry more, whose block is at place k
  module _ (n : ℕ) (bytes : List ℕ) (m : Marked pool spots circles n bytes) (k : ℕ) (at : k ≡ block_of (first pool n)) where
    other : (j : ℕ) → (j ≡ k → ⊥) → after n j ≡ after (n + 1) j
    unfolding some_below
    other j h =
        let e = ne_eqb (block_of (first pool n)) j (λ q. h (sym q ∙ sym at)) in
        rw (add-one n, e, or-false (some_below (circled_at pool spots circles j) n), or-false (some_below (stands_at pool j) n))

    own : raised_by (in_some circles (spot_at spots n)) (after n k) ≡ after (n + 1) k
    unfolding some_below
    own =
        rw (add-one n, eq-eqb (block_of (first pool n)) k (sym at))
        (sym (raised_is (some_below (circled_at pool spots circles k) n) (some_below (stands_at pool k) n) (in_some circles (spot_at spots n))))

    -- outside the frame
    pub marked-past : blocks ≤ k → Marked pool spots circles (n + 1) bytes
    marked-past h = record { size = m.size; each = λ j l. m.each j l ∙ other j (λ e. omega arith) }

    pub marked_in : k < blocks → (byte : ℕ) → byte ≡ raised_by (in_some circles (spot_at spots n)) (get_or bytes k 0)
        → Marked pool spots circles (n + 1) (set bytes k byte)
    marked_in h byte q =
        record {
          size = length-set bytes k byte ∙ m.size;
          each = λ j l.
              ⊎_elim
              (λ e. subst (λ i. get_or (set bytes k byte) i 0 ≡ after (n + 1) i) (sym e)
              (get_or-set_same bytes k byte 0 (omega (arith, m.size)) ∙ q ∙ ap (raised_by (in_some circles (spot_at spots n))) (m.each k h) ∙ own))
              (λ e. get_or-set_other bytes k j byte 0 e ∙ m.each j l ∙ other j e)
              (d_eq j k);
        }
