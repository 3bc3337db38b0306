-- The map, block by block: each block gets its byte. Assumes nothing.
use Rattle.basics.specs.Words.{ℕ, ◌+◌, ◌<◌, ◌≡◌, ap, ◌∙◌, Bool, true, false, List, inl, inr, length, get_or, set, length-set, get_or-set_same, get_or-set_other}
use Rattle.basics.specs.Words.{arith, eq-eqb, ne_eqb}
use lib.Ieee.{Float}
use Rattle.basics.proofs.laws.Says.{d_eq}
use Rattle.encoder_blocks.specs.Meaning.Blocks.{blocks}
use Rattle.encoder_blocks.specs.Inner.Places.{column_at, line_at}
use Rattle.encoder_boxes.specs.Inner.Windows.{met, box_byte, Overlaid}

-- ---- the byte of a block that meets a box, of one that meets none, and one that stays 3
module _ (m : Bool) (byte : ℕ) where
  pub byte_met : (byte ≡ 3 → ⊥) → m ≡ true → 2 ≡ box_byte m byte
  byte_met n e = rw (ne_eqb byte 3 n, e)

  pub byte_unmet : (byte ≡ 3 → ⊥) → m ≡ false → byte ≡ box_byte m byte
  byte_unmet n e = rw (ne_eqb byte 3 n, e)

  pub byte_stays : byte ≡ 3 → byte ≡ box_byte m byte
  byte_stays e = rw (eq-eqb byte 3 e) e

module _ (reals : List (List Float)) (rows : List (List ℕ)) (old : List ℕ) where
  abbrev byte_of : ℕ → ℕ → ℕ
  byte_of k byte = box_byte (met reals rows (column_at k) (line_at k)) byte

  -- the block at hand gets its byte
  pub overlaid_next : (n : ℕ) (new next : List ℕ) → Overlaid reals rows n old new → n < blocks
      → (v : ℕ) → v ≡ byte_of n (get_or new n 0) → next ≡ set new n v → Overlaid reals rows (n + 1) old next
  overlaid_next n new next o h v e q =
      record {
        size = ap length q ∙ length-set new n v ∙ o.size;
        each = λ k l. elim (d_eq k n) [ inl i ↦ here k i | inr i ↦ other k i ∙ o.each k (omega arith) ];
        rest = λ k l. other k (λ i. omega arith) ∙ o.rest k (omega arith);
      }
    where
      other : (k : ℕ) → (k ≡ n → ⊥) → get_or next k 0 ≡ get_or new k 0
      other k i = ap (λ m. get_or m k 0) q ∙ get_or-set_other new n k v 0 i

      here : (k : ℕ) → k ≡ n → get_or next k 0 ≡ byte_of k (get_or old k 0)
      here k i = rw (i, q, get_or-set_same new n v 0 (omega (arith, o.size)), e, o.rest n (omega arith))
