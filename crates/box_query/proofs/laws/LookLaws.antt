-- What looking comes to, answer by answer. Assumes nothing.
use Rattle.basics.specs.Words.{ℕ, ◌<◌, ◌≤◌, ◌≡◌, refl, sym, ap, ◌∙◌, subst, true, false, List, map, length, take, T, arith}
use Rattle.basics.specs.Meaning.Limits.{most_cells}
use Rattle.geometry.specs.declared.Aabb.{Aabb}
use Rattle.geometry.specs.Meaning.Domain.{aabb_in_domain}
use Rattle.cells.specs.Meaning.Key.{key_of}
use Rattle.box_tables.specs.Meaning.Tables.{Tables, size_of, used_of, low_cell, high_cell, covers, slot_of}
use Rattle.box_tables.specs.Meaning.Decide.{holds, holds_says}
use Rattle.replies.specs.declared.Count.{Count}
use Rattle.box_search.specs.Meaning.Firsts.{firsts}
use Rattle.box_search.specs.Inner.Gather.{inside}
use Rattle.box_query.specs.Inner.Look.{early_of, Looked}
use Rattle.box_query.proofs.laws.AnswerLaws.{early_3, early_6, early_7, early_0}
use Rattle.box_search.proofs.laws.WalkLaws.{gathered-broad}
use Rattle.replies.specs.Meaning.Replies.{count}

module _ (t : Tables) (q : Aabb) (found : List ℕ) (size : length found ≡ 256) where
  -- a refusal
  refused : (r : Count) (n : ℕ) → 0 < n → r ≡ count n 0 → early_of t q ≡ n → Looked t q r found
  refused r n p e f =
      let a : r.answer ≡ n = ap (λ (c : Count). c.answer) e in
      let b : r.count ≡ 0 = ap (λ (c : Count). c.count) e in
      record { size = size; answered = a ∙ sym f; none = λ h. b; most = omega arith; slots = λ z. absurd (omega arith) }

  module _ (r : Count) where
    pub looked_3 : r ≡ count 3 0 → holds t ≡ false → Looked t q r found
    looked_3 e h = refused r 3 (omega arith) e (early_3 t q h)

    pub looked_6 : r ≡ count 6 0 → holds t ≡ true → aabb_in_domain q ≡ false → Looked t q r found
    looked_6 e h d = refused r 6 (omega arith) e (early_6 t q h d)

    pub looked_7 : r ≡ count 7 0 → holds t ≡ true → aabb_in_domain q ≡ true → most_cells < covers (size_of t) q → Looked t q r found
    looked_7 e h d l = refused r 7 (omega arith) e (early_7 t q h d l)

  pub looked_0 : (n low high used : ℕ) → n ≤ 256 → holds t ≡ true → aabb_in_domain q ≡ true → covers (size_of t) q ≤ most_cells
      → low ≡ key_of (low_cell (size_of t) q) → high ≡ key_of (high_cell (size_of t) q) → used ≡ used_of t
      → take n found ≡ firsts (map slot_of (inside low high (take used t.pool))) → Looked t q (count 0 n) found
  looked_0 n low high used m h d l el eh eu f =
      record {
        size = size;
        answered = sym (early_0 t q h d l);
        none = λ z. absurd (z refl);
        most = m;
        slots = λ z. f ∙ gathered-broad t ((holds_says t).yes h) q (subst T (sym d) tt) low high used el eh eu;
      }
