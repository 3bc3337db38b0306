-- Entries laid one after the other into the first places of the two columns: what stands from the next place on is as it was.
-- Assumes nothing.
use Rattle.basics.specs.Words.{ℕ, ◌+◌, ◌-◌, ◌<◌, ◌≤◌, ◌≡◌, sym, ap, ◌∙◌, List, [], ◌∷◌, ◌++◌, map, map-append, length, get_or, set, take, drop, length-append}
use Rattle.basics.specs.Words.{length-map, get_or-append-add, get_or-drop, drop-append-add, drop-drop, length-take-le, arith}
use lib.Ieee.{Float}
use Rattle.storage.specs.Meaning.Keyed.{written}
use Rattle.storage.specs.Meaning.Entries.{Entry, entry, row_of, spot_of, entries_of}
use Rattle.storage.specs.Inner.Pooled.{Columns}
use Rattle.storage.proofs.laws.PlaceLaws.{written_same}
use Rattle.storage.proofs.laws.WrittenLaws.{length-written, written_next}
use Rattle.storage.proofs.laws.ColumnLaws.{zipped-rows, zipped-spots}
use Rattle.point_tables.proofs.laws.EntryLaws.{written-entries}
use Rattle.point_tables.specs.Inner.Entry.{entry_at}

-- ---- one column
module _ {A : Type 0} where
  written_at : (d : A) (l o : List A) (j : ℕ) → length l ≤ j → get_or (written l o) j d ≡ get_or o j d
  written_at d l o j h =
      let e : length l + (j - length l) ≡ j = omega arith in
      ap (λ (k : ℕ). get_or (written l o) k d) (sym e) ∙ get_or-append-add l (drop (length l) o) (j - length l) d ∙ get_or-drop (length l) o (j - length l) d ∙ ap (λ (k : ℕ). get_or o k d) e

  written_over : (a b o : List A) → written (a ++ b) (written a o) ≡ written (a ++ b) o
  written_over a b o =
      ap (λ (l : List A). (a ++ b) ++ l)
      (ap (λ (n : ℕ). drop n (written a o)) (length-append a b)
      ∙ drop-append-add a (drop (length a) o) (length b)
      ∙ drop-drop (length b) (length a) o
      ∙ ap (λ (n : ℕ). drop n o) (sym (length-append a b)))

-- a column of entries
module _ {A : Type 0} (of : Entry → A) (es : List Entry) where
  column_next : (d : A) (o c : List A) (e : Entry) (w : ℕ) → w ≡ length es → w < length o → c ≡ written (map of es) o → set c w (of e) ≡ written (map of (es ++ (e ∷ []))) o
  column_next d o c e w q h p =
      let n : w ≡ length (map of es) = q ∙ sym (length-map es of) in
      (λ z. set (p z) (n z) (of e)) ∙ written_next d (map of es) o (of e) (omega arith) ∙ ap (λ (l : List A). written l o) (sym (map-append of es (e ∷ [])))

  column_length : (o c : List A) → length es ≤ length o → c ≡ written (map of es) o → length c ≡ length o
  column_length o c h p = ap length p ∙ length-written (map of es) o (omega (arith, length-map es of))

  column_at_lem : (d : A) (o c : List A) (j : ℕ) → length es ≤ j → c ≡ written (map of es) o → get_or c j d ≡ get_or o j d
  column_at_lem d o c j h p = ap (λ (l : List A). get_or l j d) p ∙ written_at d (map of es) o j (omega (arith, length-map es of))

  column_over : (fs : List Entry) (o c c' : List A) → c ≡ written (map of es) o → c' ≡ written (map of (es ++ fs)) c → c' ≡ written (map of (es ++ fs)) o
  column_over fs o c c' p q =
      let m = map-append of es fs in
      q ∙ (λ z. written (m z) (p z)) ∙ written_over (map of es) (map of fs) o ∙ ap (λ (l : List A). written l o) (sym m)

-- ---- both
module _ {es : List Entry} {P : List (List ℕ)} {S : List (List Float)} {pool : List (List ℕ)} {spots : List (List Float)} (c : Columns es P S pool spots) where
  -- the next entry is laid
  pub laid_next : (row : List ℕ) (spot : List Float) (w : ℕ) → w ≡ length es → w < length P → w < length S → Columns (es ++ (entry row spot ∷ [])) P S (set pool w row) (set spots w spot)
  laid_next row spot w q h g = record { in_rows = column_next row_of es [] P pool (entry row spot) w q h c.in_rows; in_spots = column_next spot_of es [] S spots (entry row spot) w q g c.in_spots }

  pub laid-rows : length es ≤ length P → length pool ≡ length P
  laid-rows h = column_length row_of es P pool h c.in_rows

  pub laid-spots : length es ≤ length S → length spots ≡ length S
  laid-spots h = column_length spot_of es S spots h c.in_spots

  pub laid-row : (j : ℕ) → length es ≤ j → get_or pool j [] ≡ get_or P j []
  laid-row j h = column_at_lem row_of es [] P pool j h c.in_rows

  pub laid-spot : (j : ℕ) → length es ≤ j → get_or spots j [] ≡ get_or S j []
  laid-spot j h = column_at_lem spot_of es [] S spots j h c.in_spots

  pub laid-entry : (j : ℕ) → length es ≤ j → entry_at pool spots j ≡ entry_at P S j
  laid-entry j h = λ z. entry (laid-row j h z) (laid-spot j h z)

  -- what is laid is read again
  pub laid-entries : (w : ℕ) → w ≡ length es → entries_of pool spots w ≡ es
  laid-entries w q = (λ z. entries_of (c.in_rows z) (c.in_spots z) (q z)) ∙ written-entries es P S

  -- more is laid behind it
  pub laid_over : (fs : List Entry) {pool' : List (List ℕ)} {spots' : List (List Float)} → Columns (es ++ fs) pool spots pool' spots' → Columns (es ++ fs) P S pool' spots'
  laid_over fs k = record { in_rows = column_over row_of es fs P pool _ c.in_rows k.in_rows; in_spots = column_over spot_of es fs S spots _ c.in_spots k.in_spots }

-- the first entries where they are
pub laid_start : (P : List (List ℕ)) (S : List (List Float)) (w : ℕ) → w ≤ length P → w ≤ length S → Columns (entries_of P S w) P S P S
laid_start P S w h g =
    let n : length (take w P) ≡ length (take w S) = length-take-le w P h ∙ sym (length-take-le w S g) in
    record {
      in_rows = sym (ap (λ (l : List (List ℕ)). written l P) (zipped-rows (take w P) (take w S) (omega arith)) ∙ written_same P w h);
      in_spots = sym (ap (λ (l : List (List Float)). written l S) (zipped-spots (take w P) (take w S) (omega arith)) ∙ written_same S w g);
    }
