-- A table whose first places are written one after the other. Assumes nothing.
use Rattle.basics.specs.Words.{suc, ◌<◌, ◌≤◌, ◌≡◌, sym, ◌∙◌, List, [], ◌∷◌, ◌++◌, append_assoc, length, get_or, set, drop, length-append, length-drop}
use Rattle.basics.specs.Words.{set-append_seam, drop-cons, arith}
use Rattle.storage.specs.Meaning.Keyed.{written}

module _ {A : Type 0} where
  pub length-written : (l o : List A) → length l ≤ length o → length (written l o) ≡ length o
  length-written l o h = simp (length-append, length-drop) (omega arith)

  -- the next place is written
  pub written_next : (d : A) (l o : List A) (x : A) → length l < length o → set (written l o) (length l) x ≡ written (l ++ (x ∷ [])) o
  written_next d l o x h =
      let n : length (l ++ (x ∷ [])) ≡ suc (length l) = length-append l (x ∷ []) ∙ omega arith in
      rw (n, drop-cons o (length l) d h, set-append_seam l (get_or o (length l) d) (drop (suc (length l)) o) x) (sym (append_assoc l (x ∷ []) (drop (suc (length l)) o)))
