-- A bool that says whether a fact holds, and facts that can be decided. Assumes nothing.
-- Here: the laws.
use Rattle.basics.specs.Words.{ℕ, zero, suc, ◌<◌, ◌≤◌, ◌≡◌, refl, sym, subst, ap, Bool, true, false, not, ◌&&◌, ◌||◌, ◌⊎◌, inl, inr, ⊎_elim, T, eqb, leb}
use Rattle.basics.specs.Words.{ltb, ℤ, pos, negsuc, arith, ltb-true, ltb-false, lt-ltb, leb-true, leb-false, le-leb, eqb-true, eqb-false, eq-eqb}
use Rattle.basics.specs.Meaning.Says.{Says, Decided, said}

pub apart : false ≡ true → ⊥
apart e = subst T (sym e) tt

pub says_yes : {P : Type 0} → P → Says true P
says_yes p = record { yes = λ e. p; no = λ q. refl }

pub says_no : {P : Type 0} → (P → ⊥) → Says false P
says_no h = record { yes = λ e. absurd (apart e); no = λ p. absurd (h p) }

-- two that say the same fact are equal
pub says_same : {P : Type 0} (a b : Bool) → Says a P → Says b P → a ≡ b
says_same true b x y = sym (y.no (x.yes refl))
says_same false true x y = x.no (y.yes refl)
says_same false false x y = refl

pub says_via : {P Q : Type 0} {r : Bool} → (P → Q) → (Q → P) → Says r P → Says r Q
says_via f g s = record { yes = λ e. f (s.yes e); no = λ q. s.no (g q) }

pub says_t : (r : Bool) → Says r (T r)
says_t true = says_yes tt
says_t false = says_no (λ t. t)

pub not_said : {P : Type 0} {b : Bool} → Says b P → (P → ⊥) → b ≡ false
not_said {b = true} s n = absurd (n (s.yes refl))
not_said {b = false} s n = refl

pub untrue : (b : Bool) → not b ≡ true → b ≡ false
untrue true e = absurd (apart e)
untrue false e = refl

-- ---- two tests that are joined
pub both_true : (a b : Bool) → (a && b) ≡ true → (a ≡ true) × (b ≡ true)
both_true true b e = (refl, e)
both_true false b e = absurd (apart e)

pub and_true : {a b : Bool} → a ≡ true → b ≡ true → (a && b) ≡ true
and_true e g = rw e g

-- a test that always passes may stand before another
pub also : {a b : Bool} → a ≡ true → b ≡ (a && b)
also e = rw e

pub says_and : {P Q : Type 0} (a b : Bool) → Says a P → Says b Q → Says (a && b) (P × Q)
says_and true b p q = record { yes = λ e. (p.yes refl, q.yes e); no = λ x. q.no x.1 }
says_and false b p q = record { yes = λ e. absurd (apart e); no = λ x. p.no x.0 }

pub says_or : {P Q : Type 0} (a b : Bool) → Says a P → Says b Q → Says (a || b) (P ⊎ Q)
says_or true b p q = record { yes = λ e. inl (p.yes refl); no = λ x. refl }
says_or false b p q = record { yes = λ e. inr (q.yes e); no = λ x. ⊎_elim (λ y. absurd (apart (p.no y))) q.no x }

pub or_true : (a : Bool) {b : Bool} → b ≡ true → (a || b) ≡ true
or_true true e = refl
or_true false e = e

-- ---- the tests of numbers
pub eqb_says : (a b : ℕ) → Says (eqb a b) (a ≡ b)
eqb_says a b = record { yes = eqb-true a b; no = eq-eqb a b }

pub leb_says : (a b : ℕ) → Says (leb a b) (a ≤ b)
leb_says a b = record { yes = leb-true a b; no = le-leb a b }

pub ltb_says : (a b : ℕ) → Says (ltb a b) (a < b)
ltb_says a b = record { yes = ltb-true a b; no = lt-ltb a b }

pub said_says : {P : Type 0} (d : Decided P) → Says (said d) P
said_says (inl p) = says_yes p
said_says (inr h) = says_no h

pub d_via : {P Q : Type 0} → (P → Q) → (Q → P) → Decided P → Decided Q
d_via f g (inl p) = inl (f p)
d_via f g (inr h) = inr (λ q. h (g q))

pub d_and : {P Q : Type 0} → Decided P → Decided Q → Decided (P × Q)
d_and (inl p) (inl q) = inl (p, q)
d_and (inl p) (inr h) = inr (λ x. h x.1)
d_and (inr h) d = inr (λ x. h x.0)

pub d_imp : {P Q : Type 0} → Decided P → Decided Q → Decided (P → Q)
d_imp (inr h) d = inl (λ p. absurd (h p))
d_imp (inl p) (inl q) = inl (λ x. q)
d_imp (inl p) (inr h) = inr (λ f. h (f p))

pub d_none : Decided ⊥
d_none = inr (λ x. x)

pub d_unit : Decided (Unit {0})
d_unit = inl tt

by_bool : {P : Type 0} (b : Bool) → (b ≡ true → P) → (b ≡ false → P → ⊥) → Decided P
by_bool true f g = inl (f refl)
by_bool false f g = inr (g refl)

pub d_eq : (a b : ℕ) → Decided (a ≡ b)
d_eq a b = by_bool (eqb a b) (eqb-true a b) (eqb-false a b)

pub d_le : (a b : ℕ) → Decided (a ≤ b)
d_le a b = by_bool (leb a b) (leb-true a b) (λ e h. omega (arith, leb-false a b e))

pub d_lt : (a b : ℕ) → Decided (a < b)
d_lt a b = by_bool (ltb a b) (ltb-true a b) (λ e h. omega (arith, ltb-false a b e))

pub d_t : (b : Bool) → Decided (T b)
d_t true = inl tt
d_t false = inr (λ t. t)

abbrev signs : ℤ → Bool
signs (pos n) = true
signs (negsuc n) = false

abbrev size_of : ℤ → ℕ
size_of (pos n) = n
size_of (negsuc n) = n

pub d_eqz : (a b : ℤ) → Decided (a ≡ b)
d_eqz (pos a) (pos b) = d_via (ap pos) (ap size_of) (d_eq a b)
d_eqz (negsuc a) (negsuc b) = d_via (ap negsuc) (ap size_of) (d_eq a b)
d_eqz (pos a) (negsuc b) = inr (λ e. apart (sym (ap signs e)))
d_eqz (negsuc a) (pos b) = inr (λ e. apart (ap signs e))

-- ---- every number below a bound, and some number below it
last : (n k : ℕ) → k < suc n → (k < n) ⊎ (k ≡ n)
last n k h = by_bool' (ltb k n) refl
  where
    by_bool' : (b : Bool) → ltb k n ≡ b → (k < n) ⊎ (k ≡ n)
    by_bool' true e = inl (ltb-true k n e)
    by_bool' false e = inr (omega (arith, ltb-false k n e))

pub d_all : {P : ℕ → Type 0} → ((i : ℕ) → Decided (P i)) → (n : ℕ) → Decided ((i : ℕ) → i < n → P i)
d_all d zero = inl (λ i h. absurd (omega arith))
d_all {P} d (suc n) =
    d_via
    (λ x i h. ⊎_elim (λ l. x.0 i l) (λ e. subst P (sym e) x.1) (last n i h))
    (λ f. ((λ i h. f i (omega arith)), f n (omega arith)))
    (d_and (d_all d n) (d n))

pub d_any : {P : ℕ → Type 0} → ((i : ℕ) → Decided (P i)) → (n : ℕ) → Decided ((i : ℕ) × (i < n) × P i)
d_any d zero = inr (λ x. omega (arith, x.1))
d_any {P} d (suc n) = go (d_any d n) (d n)
  where
    go : Decided ((i : ℕ) × (i < n) × P i) → Decided (P n) → Decided ((i : ℕ) × (i < suc n) × P i)
    go (inl x) q = inl (x.0, omega (arith, x.1), x.2)
    go (inr h) (inl p) = inl (n, omega arith, p)
    go (inr h) (inr g) = inr (λ x. ⊎_elim (λ l. h (x.0, l, x.2)) (λ e. g (subst P e x.2)) (last n x.0 x.1))
