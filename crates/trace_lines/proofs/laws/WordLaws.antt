-- A first field is a word exactly when it is its letters. Assumes nothing.
use Rattle.basics.specs.Words.{ℕ, suc, rules, arith, ◌≤◌, ◌≡◌, refl, ap, ◌∙◌, Bool, true, false, ◌&&◌, List, [], ◌∷◌, length, get_or, eqb, leb, eqb-true, eq-eqb}
use Rattle.basics.specs.Words.{leb-true}
use Rattle.std.proofs.Common.{tests}
use Rattle.std.proofs.lemmas.Bool.Decides.{nat_tests}
use Rattle.basics.specs.Meaning.Refusals.{pick}
use Rattle.basics.proofs.laws.Says.{apart}
use Rattle.trace_lines.specs.declared.Line.TheVariants.{Unreadable}
use Rattle.trace_lines.specs.declared.Asks.{Asks}
use Rattle.trace_lines.proofs.laws.FieldLaws.{clear}
use Rattle.trace_lines.specs.Meaning.Words.{WordRow, asks, table, same_bytes, row_says, found_in, asked_by}

pub same_true : (a b : List ℕ) → same_bytes a b ≡ true → a ≡ b
same_true [] [] e = refl
same_true [] (y ∷ b) e = absurd (apart e)
same_true (x ∷ a) [] e = absurd (apart e)
same_true (x ∷ a) (y ∷ b) e = go (eqb x y) refl e (same_true a b)
  where
    go : (t : Bool) → eqb x y ≡ t → (t && same_bytes a b) ≡ true → (same_bytes a b ≡ true → a ≡ b) → x ∷ a ≡ y ∷ b
    go true h e ih = λ z. eqb-true x y h z ∷ ih e z
    go false h e ih = absurd (apart e)

pub same_self : (a : List ℕ) → same_bytes a a ≡ true
same_self [] = refl
same_self (x ∷ a) = rw (eq-eqb x x refl) (same_self a)

-- a word has no comma and at most four letters: tested over the whole table
abbrev good : List ℕ → Bool
good w = clear w && leb (length w) 4

all_good : List WordRow → Bool
all_good [] = true
all_good (r ∷ rs) = good r.letters && all_good rs

all_good_lem : all_good table ≡ true
unfolding clear all_good
all_good_lem = refl

parts : (s t : Bool) → (s && t) ≡ true → (s ≡ true) × (t ≡ true)
parts true t e = (refl, e)
parts false t e = absurd (apart e)

found-good : (rs : List WordRow) (w : List ℕ) (others : Asks) → others.line ≡ Unreadable → all_good rs ≡ true → ((found_in rs w others).line ≡ Unreadable → ⊥) → good w ≡ true
unfolding all_good row_says
found-good [] w others u h n = absurd (n u)
found-good (r ∷ rs) w others u h n = go (same_bytes w r.letters) refl n (found-good rs w others u (parts (good r.letters) (all_good rs) h).1)
  where
    go : (t : Bool) → same_bytes w r.letters ≡ t → ((pick t r.asked (found_in rs w others)).line ≡ Unreadable → ⊥) → (((found_in rs w others).line ≡ Unreadable → ⊥) → good w ≡ true) → good w ≡ true
    go true e n ih = ap good (same_true w r.letters e) ∙ (parts (good r.letters) (all_good rs) h).0
    go false e n ih = ih n

pub record Word (w : List ℕ) : Type 0 where
  pub no_comma : clear w ≡ true
  pub short : length w ≤ 4

pub is_word : (w : List ℕ) → ((asked_by w).line ≡ Unreadable → ⊥) → Word w
unfolding asked_by
is_word w n = go (clear w) (leb (length w) 4) refl refl (found-good table w (asks Unreadable false 0 false false false) refl all_good_lem n)
  where
    go : (s t : Bool) → clear w ≡ s → leb (length w) 4 ≡ t → (s && t) ≡ true → Word w
    go true true c l e = record { no_comma = c; short = leb-true (length w) 4 l }
    go true false c l e = absurd (apart e)
    go false t c l e = absurd (apart e)

-- ---- byte by byte
abbrev reads : List ℕ → ℕ → List ℕ → Bool
reads w i [] = true
reads w i (b ∷ l) = eqb (get_or w i 0) b && reads w (suc i) l

reads_behind : (c : ℕ) (w : List ℕ) (i : ℕ) (l : List ℕ) → reads (c ∷ w) (suc i) l ≡ reads w i l
reads_behind c w i [] = refl
reads_behind c w i (b ∷ l) = ap (λ (t : Bool). eqb (get_or w i 0) b && t) (reads_behind c w (suc i) l)

-- by the length and each letter
pub same_reads : (w l : List ℕ) → same_bytes w l ≡ (eqb (length w) (length l) && reads w 0 l)
same_reads [] [] = refl
same_reads [] (b ∷ l) = grind (arith, nat_tests)
same_reads (a ∷ w) [] = grind (arith, nat_tests)
same_reads (a ∷ w) (b ∷ l) = rw (same_reads w l, reads_behind a w 0 l) (search (rules, tests))
