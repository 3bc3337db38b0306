-- Gathered after spread: the records again. Spread after gathered: columns with the same records. Assumes nothing.
use Rattle.basics.specs.Words.{ℕ, zero, suc, ◌≤◌, zero-le, ◌≡◌, refl, sym, ap, subst, List, [], ◌∷◌, length, ℤ, not-suc-le-zero, suc_inj}
use lib.Ieee.{Float}
use Rattle.point_records.specs.declared.Record.{Record}
use Rattle.point_records.specs.Meaning.Columns.{record_at, record_of, nums_of, reals_of, ints_of}
use Rattle.point_records.proofs.laws.ColumnLaws.{record_back}
use Rattle.point_tables.specs.Meaning.Tables.{Tables}
use Rattle.records.specs.Meaning.Spread.{laid, gathered, besides, records_in}

no_zero : (k : ℕ) → 0 ≡ suc k → ⊥
no_zero k e = not-suc-le-zero (subst (λ (m : ℕ). m ≤ 0) e zero-le)

pub laid-length : {X : Type 0} (row : Record → X) (rs : List Record) (old : List X) → length (laid row rs old) ≡ length old
laid-length row [] old = refl
laid-length row (r ∷ rs) [] = refl
laid-length row (r ∷ rs) (o ∷ os) = ap suc (laid-length row rs os)

pub gathered-length : (ns : List (List ℕ)) (qs : List (List Float)) (zs : List (List ℤ)) (rs : List Record) → length (gathered ns qs zs rs) ≡ length rs
gathered-length ns qs zs [] = refl
gathered-length [] qs zs (r ∷ rs) = refl
gathered-length (n ∷ ns) [] zs (r ∷ rs) = refl
gathered-length (n ∷ ns) (q ∷ qs) [] (r ∷ rs) = refl
gathered-length (n ∷ ns) (q ∷ qs) (z ∷ zs) (r ∷ rs) = ap suc (gathered-length ns qs zs rs)

-- ---- gathered after spread is the identity, whatever the lengths
pub gathered-laid : (ns : List (List ℕ)) (qs : List (List Float)) (zs : List (List ℤ)) (rs : List Record) → gathered (laid nums_of rs ns) (laid reals_of rs qs) (laid ints_of rs zs) rs ≡ rs
gathered-laid ns qs zs [] = refl
gathered-laid [] qs zs (r ∷ rs) = refl
gathered-laid (n ∷ ns) [] zs (r ∷ rs) = refl
gathered-laid (n ∷ ns) (q ∷ qs) [] (r ∷ rs) = refl
gathered-laid (n ∷ ns) (q ∷ qs) (z ∷ zs) (r ∷ rs) = cc (record_back r, gathered-laid ns qs zs rs)

pub spread_gathered : (t : Tables) (rs : List Record) → records_in (besides rs t) rs ≡ rs
spread_gathered t rs = gathered-laid t.nums t.reals t.ints rs

-- ---- spread after gathered. A row is plain if it repeats what its record says: the word is of a tracker and a tag, and where nothing is pending the places
-- of the pending position and cell repeat the recorded ones. Rows that were spread are plain.
abbrev pub Plain : List ℕ → List Float → List ℤ → Type 0
Plain n q z = (nums_of (record_of n q z) ≡ n) × (reals_of (record_of n q z) ≡ q) × (ints_of (record_of n q z) ≡ z)

pub spread_plain : (r : Record) → Plain (nums_of r) (reals_of r) (ints_of r)
spread_plain r = (ap nums_of (record_back r), ap reals_of (record_back r), ap ints_of (record_back r))

abbrev pub AllPlain : List (List ℕ) → List (List Float) → List (List ℤ) → Type 0
AllPlain [] qs zs = Unit {0}
AllPlain (n ∷ ns) [] zs = Unit {0}
AllPlain (n ∷ ns) (q ∷ qs) [] = Unit {0}
AllPlain (n ∷ ns) (q ∷ qs) (z ∷ zs) = Plain n q z × AllPlain ns qs zs

-- the identity on plain columns of one length, for a record table of that length
pub nums_again : (ns : List (List ℕ)) (qs : List (List Float)) (zs : List (List ℤ)) (rs : List Record) → length ns ≡ length rs → length qs ≡ length rs → length zs ≡ length rs → AllPlain ns qs zs → laid nums_of (gathered ns qs zs rs) ns ≡ ns
nums_again ns qs zs [] a b c p = refl
nums_again [] qs zs (r ∷ rs) a b c p = refl
nums_again (n ∷ ns) [] zs (r ∷ rs) a b c p = absurd (no_zero (length rs) b)
nums_again (n ∷ ns) (q ∷ qs) [] (r ∷ rs) a b c p = absurd (no_zero (length rs) c)
nums_again (n ∷ ns) (q ∷ qs) (z ∷ zs) (r ∷ rs) a b c p = cc (p.0.0, nums_again ns qs zs rs (suc_inj a) (suc_inj b) (suc_inj c) p.1)

-- ---- the record of every slot is the same after gathered and spread, plain or not
pub record_at_again : (ns : List (List ℕ)) (qs : List (List Float)) (zs : List (List ℤ)) (rs : List Record) → length ns ≡ length rs → length qs ≡ length rs → length zs ≡ length rs → (s : ℕ)
    → record_at ns qs zs s ≡ record_at (laid nums_of (gathered ns qs zs rs) ns) (laid reals_of (gathered ns qs zs rs) qs) (laid ints_of (gathered ns qs zs rs) zs) s
record_at_again ns qs zs [] a b c s = refl
record_at_again [] qs zs (r ∷ rs) a b c s = absurd (no_zero (length rs) a)
record_at_again (n ∷ ns) [] zs (r ∷ rs) a b c s = absurd (no_zero (length rs) b)
record_at_again (n ∷ ns) (q ∷ qs) [] (r ∷ rs) a b c s = absurd (no_zero (length rs) c)
record_at_again (n ∷ ns) (q ∷ qs) (z ∷ zs) (r ∷ rs) a b c zero = sym (record_back (record_of n q z))
record_at_again (n ∷ ns) (q ∷ qs) (z ∷ zs) (r ∷ rs) a b c (suc s) = record_at_again ns qs zs rs (suc_inj a) (suc_inj b) (suc_inj c) s
