-- Collecting with marks is `firsts`, list after list, and there is room for what it collects. Assumes nothing.
use Rattle.basics.specs.Words.{ℕ, zero, suc, ◌+◌, ◌<◌, ◌≤◌, ◌≡◌, refl, sym, ap, ◌∙◌, Bool, true, false, not, ◌&&◌, List, [], ◌∷◌, ◌++◌, ⊎_elim, length, get_or}
use Rattle.basics.specs.Words.{set, replicate, length-set, length-replicate, get_or-replicate, get_or-set_same, get_or-set_other, arith, eq-eqb}
use Rattle.basics.specs.Meaning.Refusals.{pick}
use Rattle.basics.proofs.laws.Says.{d_eq}
use Rattle.storage.specs.Meaning.Keyed.{All, filter}
use Rattle.storage.proofs.laws.FilterLaws.{by_test, all_map, all_any, filter-whole, filter_same, filter-both}
use Rattle.box_search.specs.Meaning.Firsts.{is_other, firsts}
use Rattle.box_search.proofs.laws.FirstsLaws.{other_yes, all_firsts}
use Rattle.box_search.specs.Inner.Marks.{marks_after, first_met, unmarked}

-- ---- list after list
pub length-marks-after : (m : List Bool) (l : List ℕ) → length (marks_after m l) ≡ length m
unfolding marks_after
length-marks-after m [] = refl
length-marks-after m (s ∷ l) = length-marks-after (set m s true) l ∙ length-set m s true

pub marks-after-append : (m : List Bool) (a b : List ℕ) → marks_after m (a ++ b) ≡ marks_after (marks_after m a) b
unfolding marks_after
marks-after-append m [] b = refl
marks-after-append m (s ∷ a) b = marks-after-append (set m s true) a b

pub fresh-append : (m : List Bool) (a b : List ℕ) → first_met m (a ++ b) ≡ first_met m a ++ first_met (marks_after m a) b
unfolding first_met marks_after
fresh-append m [] b = refl
fresh-append m (s ∷ a) b =
    by_test (get_or m s false)
    (λ e. rw e (fresh-append (set m s true) a b))
    (λ e. rw e (ap (λ (l : List ℕ). s ∷ l) (fresh-append (set m s true) a b)))

-- ---- what is collected, by the marks before
abbrev free : List Bool → ℕ → Bool
free m s = not (get_or m s false)

free-set : (m : List Bool) (s : ℕ) → s < length m → (y : ℕ) → free (set m s true) y ≡ (is_other s y && free m y)
free-set m s h y =
    ⊎_elim
    (λ e.
    ap not (ap (λ (k : ℕ). get_or (set m s true) k false) e ∙ get_or-set_same m s true false h)
    ∙ ap (λ (b : Bool). b && free m y) (sym (ap not (eq-eqb y s e))))
    (λ n. rw (other_yes s y n, get_or-set_other m s y true false n))
    (d_eq y s)

pub fresh-filter : (m : List Bool) (l : List ℕ) → All (λ s. s < length m) l → first_met m l ≡ filter (free m) (firsts l)
unfolding first_met firsts
fresh-filter m [] a = refl
fresh-filter m (s ∷ l) a =
    let within : first_met (set m s true) l ≡ filter (free m) (filter (is_other s) (firsts l)) =
    fresh-filter (set m s true) l (rw (length-set m s true) a.1)
    ∙ filter_same (free (set m s true)) (λ y. is_other s y && free m y) (firsts l) (all_any (λ y. free (set m s true) y ≡ (is_other s y && free m y)) (free-set m s a.0) (firsts l))
    ∙ sym (filter-both (is_other s) (free m) (firsts l)) in
    by_test (get_or m s false)
    (λ e. rw e within)
    (λ e. rw e (ap (λ (l : List ℕ). s ∷ l) within))

pub fresh-firsts : (n : ℕ) (l : List ℕ) → All (λ s. s < n) l → first_met (replicate n false) l ≡ firsts l
fresh-firsts n l a =
    let m = replicate n false in
    fresh-filter m l (rw (length-replicate n false) a)
    ∙ filter-whole (free m) (firsts l) (all_map (λ s. s < n) (λ s. free m s ≡ true) (λ s h. ap not (get_or-replicate n s false false h)) (firsts l) (all_firsts (λ s. s < n) l a))

-- ---- how much is collected
unmarked-set : (m : List Bool) (s : ℕ) → s < length m → unmarked m ≡ pick (get_or m s false) 0 1 + unmarked (set m s true)
unfolding unmarked
unmarked-set [] s h = absurd (omega arith)
unmarked-set (b ∷ m) zero h = omega arith
unmarked-set (b ∷ m) (suc s) h = omega (arith, unmarked-set m s (omega arith))

pub fresh-room : (m : List Bool) (l : List ℕ) → All (λ s. s < length m) l → length (first_met m l) + unmarked (marks_after m l) ≡ unmarked m
unfolding first_met marks_after
fresh-room m [] a = omega arith
fresh-room m (s ∷ l) a =
    let rest = fresh-room (set m s true) l (rw (length-set m s true) a.1) in
    by_test (get_or m s false)
    (λ e. rw e (omega (arith, rest, rw e at (unmarked-set m s a.0))))
    (λ e. rw e (omega (arith, rest, rw e at (unmarked-set m s a.0))))

pub unmarked-none : (n : ℕ) → unmarked (replicate n false) ≡ n
unfolding unmarked
unmarked-none zero = refl
unmarked-none (suc n) = omega (arith, unmarked-none n)

-- a slot that has no mark leaves room
pub unmarked-some : (m : List Bool) (s : ℕ) → s < length m → get_or m s false ≡ false → 1 ≤ unmarked m
unmarked-some m s h e = omega (arith, rw e at (unmarked-set m s h))
