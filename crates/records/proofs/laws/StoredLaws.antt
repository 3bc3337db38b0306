-- The same record stored in the same slot of columns that are alike leaves columns that are alike. Assumes nothing.
use Rattle.basics.specs.Words.{ℕ, zero, suc, ◌≤◌, zero-le, ◌≡◌, refl, sym, subst, ◌∙◌, List, [], ◌∷◌, inl, inr, length, get_or, set, length-set, not-suc-le-zero}
use Rattle.basics.specs.Words.{suc_inj}
use Rattle.basics.specs.Meaning.Says.{Decided}
use Rattle.basics.proofs.laws.Says.{d_eq}
use Rattle.point_records.specs.declared.Record.{Record}
use Rattle.point_records.specs.Meaning.Columns.{nums_of, reals_of, ints_of}
use Rattle.point_records.proofs.laws.ColumnLaws.{stored_other}
use Rattle.point_tables.specs.Meaning.Tables.{Tables, record_on}
use Rattle.point_tables.specs.Meaning.Outcome.{stored}
use Rattle.records.specs.Inner.Alike.{Alike, with_columns}

no_zero : (k : ℕ) → suc k ≡ 0 → ⊥
no_zero k e = not-suc-le-zero (subst (λ (m : ℕ). m ≤ 0) (sym e) zero-le)

-- what is stored at s is there in both, and past the end nothing is
pub set_there : {X : Type 0} (xs ys : List X) (s : ℕ) (x d : X) → length xs ≡ length ys → get_or (set xs s x) s d ≡ get_or (set ys s x) s d
set_there [] [] s x d e = refl
set_there [] (y ∷ ys) s x d e = absurd (no_zero (length ys) (sym e))
set_there (a ∷ xs) [] s x d e = absurd (no_zero (length xs) e)
set_there (a ∷ xs) (y ∷ ys) zero x d e = refl
set_there (a ∷ xs) (y ∷ ys) (suc s) x d e = set_there xs ys s x d (suc_inj e)

module _ (t u : Tables) (like : Alike t u) (s : ℕ) (r : Record) (cells : List (List ℕ)) where
  stored_at : (j : ℕ) → Decided (j ≡ s) → record_on (stored t s r cells) j ≡ record_on (stored u s r cells) j
  stored_at j (inl e) =
      subst (λ (k : ℕ). record_on (stored t s r cells) k ≡ record_on (stored u s r cells) k) (sym e)
      (cc (set_there t.nums u.nums s (nums_of r) [] like.of_nums, set_there t.reals u.reals s (reals_of r) [] like.of_reals, set_there t.ints u.ints s (ints_of r) [] like.of_ints))
  stored_at j (inr h) = stored_other t.nums t.reals t.ints s r j h ∙ like.each j ∙ sym (stored_other u.nums u.reals u.ints s r j h)

  -- beside the same other tables: u is t with other columns
  pub stored-alike : with_columns (stored t s r cells) (stored u s r cells) ≡ stored u s r cells → Alike (stored t s r cells) (stored u s r cells)
  stored-alike same =
      record {
        of_nums = length-set t.nums s (nums_of r) ∙ like.of_nums ∙ sym (length-set u.nums s (nums_of r));
        of_reals = length-set t.reals s (reals_of r) ∙ like.of_reals ∙ sym (length-set u.reals s (reals_of r));
        of_ints = length-set t.ints s (ints_of r) ∙ like.of_ints ∙ sym (length-set u.ints s (ints_of r));
        each = λ j. stored_at j (d_eq j s);
        rest = same;
      }
