-- A call that makes its tests one after the other, in document 01's order, answers the first that applies. Assumes nothing.
use Rattle.basics.specs.Words.{ℕ, ◌≡◌, refl, sym, ap, ◌∙◌, Bool, true, false, not, ◌&&◌, ◌||◌, List, [], ◌∷◌, drop, eqb, arith, eqb-true}
use Rattle.basics.proofs.laws.Says.{apart, both_true, untrue}
use Rattle.basics.specs.Meaning.Refusals.{Refusal, or_else, unless, first_of, pick, order, applies, first_in, first_that}

-- ---- numbers, each once; tests whose numbers are some of them, in their order
abbrev pub among : ℕ → List ℕ → Bool
among n [] = false
among n (m ∷ ms) = eqb m n || among n ms

abbrev pub distinct : List ℕ → Bool
distinct [] = true
distinct (n ∷ ns) = not (among n ns) && distinct ns

abbrev pub ordered : List ℕ → List Refusal → Bool
ordered ns [] = true
ordered [] (r ∷ rs) = false
ordered (n ∷ ns) (r ∷ rs) = pick (eqb r.number n) (ordered ns rs) (ordered ns (r ∷ rs))

-- a number that is not among them is no test's
none : (ns : List ℕ) (rs : List Refusal) (n : ℕ) → ordered ns rs ≡ true → among n ns ≡ false → applies rs n ≡ false
none ns [] n o e = refl
none [] (r ∷ rs) n o e = absurd (apart o)
none (m ∷ ms) (r ∷ rs) n o e = go (none ms rs n) (none ms (r ∷ rs) n) (eqb r.number m) refl o (eqb m n) refl e
  where
    go : (ordered ms rs ≡ true → among n ms ≡ false → applies rs n ≡ false) → (ordered ms (r ∷ rs) ≡ true → among n ms ≡ false → applies (r ∷ rs) n ≡ false)
        → (b : Bool) → eqb r.number m ≡ b → pick b (ordered ms rs) (ordered ms (r ∷ rs)) ≡ true
        → (c : Bool) → eqb m n ≡ c → (c || among n ms) ≡ false → applies (r ∷ rs) n ≡ false
    go f g b q o true d e = absurd (apart (sym e))
    go f g true q o false d e = rw (ap (λ (k : ℕ). eqb k n) (eqb-true r.number m q) ∙ d) (f o e)
    go f g false q o false d e = g o e

-- a test that passes changes nothing
passed : (ns : List ℕ) (r : Refusal) (rs : List Refusal) → r.passes ≡ true → first_in ns (r ∷ rs) ≡ first_in ns rs
passed [] r rs e = refl
passed (n ∷ ns) r rs e = (λ i. pick (same (eqb r.number n) i) n (passed ns r rs e i))
  where
    same : (b : Bool) → ((b && not r.passes) || applies rs n) ≡ applies rs n
    same true = rw e
    same false = refl

first_in_lem : (ns : List ℕ) (rs : List Refusal) → distinct ns ≡ true → ordered ns rs ≡ true → first_of rs ≡ first_in ns rs
first_in_lem [] [] d o = refl
first_in_lem [] (r ∷ rs) d o = absurd (apart o)
first_in_lem (n ∷ ns) [] d o = first_in_lem ns [] (both_true (not (among n ns)) (distinct ns) d).1 refl
first_in_lem (n ∷ ns) (r ∷ rs) d o =
    let w = both_true (not (among n ns)) (distinct ns) d in
    go (first_in_lem ns rs w.1) (first_in_lem ns (r ∷ rs) w.1) (untrue (among n ns) w.0) (eqb r.number n) refl o r.passes refl
  where
    go : (ordered ns rs ≡ true → first_of rs ≡ first_in ns rs) → (ordered ns (r ∷ rs) ≡ true → first_of (r ∷ rs) ≡ first_in ns (r ∷ rs)) → among n ns ≡ false
        → (b : Bool) → eqb r.number n ≡ b → pick b (ordered ns rs) (ordered ns (r ∷ rs)) ≡ true
        → (p : Bool) → r.passes ≡ p → first_of (r ∷ rs) ≡ first_in (n ∷ ns) (r ∷ rs)
    go f g a false q o p e = rw (none ns (r ∷ rs) n o a) (g o)
    go f g a true q o false e = rw (q, e) (eqb-true r.number n q)
    go f g a true q o true e =
        ap (λ (p : Bool). or_else p r.number (first_of rs)) e ∙ f o ∙ sym (passed ns r rs e) ∙ sym (ap (λ (b : Bool). pick b n (first_in ns (r ∷ rs))) off)
      where
        off : applies (r ∷ rs) n ≡ false
        off = rw (q, e) (none ns rs n o a)

-- ---- the law: a call that tries its tests one after the other gives the first that applies
pub in_order : (rs : List Refusal) → ordered order rs ≡ true → first_of rs ≡ first_that rs
unfolding first_that
in_order rs o = first_in_lem order rs refl o

-- ---- 3 is given exactly if it applies: it is the first of all
not_among : (n : ℕ) (ns : List ℕ) (rs : List Refusal) → among n ns ≡ false → eqb 0 n ≡ false → eqb (first_in ns rs) n ≡ false
not_among n [] rs a z = z
not_among n (m ∷ ns) rs a z = go (applies rs m) (eqb m n) refl a (λ q. not_among n ns rs q z)
  where
    go : (b c : Bool) → eqb m n ≡ c → (c || among n ns) ≡ false → (among n ns ≡ false → eqb (first_in ns rs) n ≡ false)
        → eqb (pick b m (first_in ns rs)) n ≡ false
    go b true e a f = absurd (apart (sym a))
    go true false e a f = e
    go false false e a f = f a

pub three_first : (rs : List Refusal) → eqb (first_that rs) 3 ≡ applies rs 3
unfolding first_that
three_first rs = go (applies rs 3) (not_among 3 (drop 1 order) rs refl refl)
  where
    go : (b : Bool) → eqb (first_in (drop 1 order) rs) 3 ≡ false → eqb (pick b 3 (first_in (drop 1 order) rs)) 3 ≡ b
    go true e = refl
    go false e = e

-- ---- the four tests of a query: where none refuses, all pass
pub four_pass : (a b c d : Bool) → first_of (unless a 3 ∷ unless b 6 ∷ unless c 7 ∷ unless d 9 ∷ []) ≡ 0 → (a ≡ true) × (b ≡ true) × (c ≡ true) × (d ≡ true)
four_pass true true true true e = (refl, refl, refl, refl)
four_pass true true true false e = absurd (omega arith)
four_pass true true false d e = absurd (omega arith)
four_pass true false c d e = absurd (omega arith)
four_pass false b c d e = absurd (omega arith)
