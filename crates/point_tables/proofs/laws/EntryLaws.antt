-- The entries in use, by places, and the tables that entries are written to. Assumes nothing.
-- Here: the laws.
use Rattle.basics.specs.Words.{ℕ, zero, suc, ◌<◌, ◌≤◌, ◌≡◌, refl, sym, ◌∙◌, ap, ap₂, List, [], ◌∷◌, ◌++◌, map, length, get_or, take, drop, length-map}
use Rattle.basics.specs.Words.{length-take-le, get_or-take, take-append_seam, not-suc-le-zero, le_of_suc-le-suc, arith}
use lib.Ieee.{Float}
use Rattle.storage.specs.Meaning.Keyed.{All, written}
use Rattle.storage.specs.Meaning.Entries.{Entry, entry, row_of, spot_of, zipped, entries_of}
use Rattle.storage.proofs.laws.FilterLaws.{all_at, all_of}
use Rattle.storage.proofs.laws.ColumnLaws.{zipped-whole}
use Rattle.point_tables.specs.Inner.Entry.{entry_at}

zipped-length : (rows : List (List ℕ)) (spots : List (List Float)) → length rows ≡ length spots → length (zipped rows spots) ≡ length rows
zipped-length [] spots e = refl
zipped-length (r ∷ rows) [] e = absurd (omega arith)
zipped-length (r ∷ rows) (s ∷ spots) e = ap suc (zipped-length rows spots (omega arith))

abbrev pub no_entry : Entry
no_entry = entry [] []

zipped_at : (rows : List (List ℕ)) (spots : List (List Float)) (j : ℕ) → j < length rows → j < length spots → get_or (zipped rows spots) j no_entry ≡ entry (get_or rows j []) (get_or spots j [])
zipped_at [] spots j h g = absurd (not-suc-le-zero h)
zipped_at (r ∷ rows) [] j h g = absurd (not-suc-le-zero g)
zipped_at (r ∷ rows) (s ∷ spots) zero h g = refl
zipped_at (r ∷ rows) (s ∷ spots) (suc j) h g = zipped_at rows spots j (le_of_suc-le-suc h) (le_of_suc-le-suc g)

module _ (pool : List (List ℕ)) (spots : List (List Float)) (used : ℕ) (u : used ≤ length pool) (v : used ≤ length spots) where
  pub entries-length : length (entries_of pool spots used) ≡ used
  entries-length = zipped-length (take used pool) (take used spots) (length-take-le used pool u ∙ sym (length-take-le used spots v)) ∙ length-take-le used pool u

  pub entries_at : (j : ℕ) → j < used → get_or (entries_of pool spots used) j no_entry ≡ entry_at pool spots j
  entries_at j h =
      zipped_at (take used pool) (take used spots) j (rw (length-take-le used pool u) h) (rw (length-take-le used spots v) h)
      ∙ rw (get_or-take used pool j [] h, get_or-take used spots j [] h)

  -- a fact of every place is a fact of every entry
  pub all_entries : (P : Entry → Type 0) → ((j : ℕ) → j < used → P (entry_at pool spots j)) → All P (entries_of pool spots used)
  all_entries P f = all_of P no_entry (entries_of pool spots used) (λ j h. let l : j < used = rw entries-length at h in rw (entries_at j l) (f j l))

  pub entries_all : (P : Entry → Type 0) → All P (entries_of pool spots used) → (j : ℕ) → j < used → P (entry_at pool spots j)
  entries_all P a j h = rw (entries_at j h) at (all_at P no_entry (entries_of pool spots used) j (rw entries-length h) a)

-- ---- entries that are written are the entries in use
pub written-entries : (es : List Entry) (pool : List (List ℕ)) (spots : List (List Float)) → entries_of (written (map row_of es) pool) (written (map spot_of es) spots) (length es) ≡ es
written-entries es pool spots =
    ap₂ {C = List Entry} zipped (in_front_lem (map row_of es) (drop (length (map row_of es)) pool) (length-map es row_of)) (in_front_lem (map spot_of es) (drop (length (map spot_of es)) spots) (length-map es spot_of)) ∙ zipped-whole es
  where
    in_front_lem : {A : Type 0} (a b : List A) → length a ≡ length es → take (length es) (a ++ b) ≡ a
    in_front_lem a b e = rw (← e) (take-append_seam a b)
