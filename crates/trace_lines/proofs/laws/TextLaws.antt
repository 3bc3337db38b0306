-- The text of a request has no comma but between its fields, and is short. Assumes nothing.
use Rattle.basics.specs.Words.{ℕ, suc, ◌+◌, ◌≤◌, ◌%◌, ◌/◌, ◌≡◌, ap, ◌∙◌, Bool, true, false, List, [], ◌∷◌, ◌++◌, length, ltb, ℤ, pos, negsuc, arith, ne_eqb}
use Rattle.slots.specs.declared.Handle.{Handle}
use Rattle.trace_decimals.specs.Meaning.Text.{decimal, signed_text}
use Rattle.trace_decimals.proofs.laws.TextLaws.{one_digit, last_digit, by_digits, number-length}
use Rattle.trace_lines.specs.declared.Spot.{Spot}
use Rattle.trace_lines.specs.declared.Asks.{Asks}
use Rattle.trace_lines.specs.declared.Request.{Request}
use Rattle.trace_lines.specs.Meaning.Fields.{comma}
use Rattle.trace_lines.proofs.laws.FieldLaws.{clear, AllClear, clear-append, all_clear-append, size, size-append}
use Rattle.trace_lines.specs.Inner.Texts.{number, count, spot, handle, only, argument_texts, NumberInRange, CountInRange, SpotInRange, HandleInRange}
use Rattle.trace_lines.specs.Inner.Texts.{AsAsked, ArgumentsInRange}
use Rattle.trace_lines.specs.Meaning.Taken.{nobody, no_spot}

digit_clear : (d : ℕ) → clear ((48 + d) ∷ []) ≡ true
unfolding clear
digit_clear d = rw (ne_eqb (48 + d) comma (λ e. omega arith))

pub decimal-clear : (n : ℕ) → clear (decimal n) ≡ true
decimal-clear =
    by_digits {P = λ n. clear (decimal n) ≡ true}
    (λ n h. ap clear (one_digit n h) ∙ digit_clear n)
    (λ n h ih. ap clear (last_digit n h) ∙ clear-append (decimal (n / 10)) ((48 + n % 10) ∷ []) ih (digit_clear (n % 10)))

pub signed_clear : (k : ℤ) → clear (signed_text k) ≡ true
unfolding signed_text clear
signed_clear (pos n) = decimal-clear n
signed_clear (negsuc n) = decimal-clear (suc n)

spot-clear : (p : Spot) → AllClear (spot p)
spot-clear p = (signed_clear p.x, (signed_clear p.y, tt))

handle-clear : (h : Handle) → AllClear (handle h)
handle-clear h = (decimal-clear h.slot, (decimal-clear h.version, tt))

only-clear : (asked : Bool) (fs : List (List ℕ)) → AllClear fs → AllClear (only asked fs)
only-clear true fs h = h
only-clear false fs h = tt

pub arguments_clear : (k : Asks) (r : Request) → AllClear (argument_texts k r)
arguments_clear k r =
    let h = only k.handle (handle r.h) in
    let p = only (ltb 0 k.places) (spot r.p) in
    let q = only (ltb 1 k.places) (spot r.q) in
    let far = only k.radius (count r.far) in
    let n = only k.number (number r.n) in
    let pq = all_clear-append p q (only-clear (ltb 0 k.places) (spot r.p) (spot-clear r.p)) (only-clear (ltb 1 k.places) (spot r.q) (spot-clear r.q)) in
    let hpq = all_clear-append h (p ++ q) (only-clear k.handle (handle r.h) (handle-clear r.h)) pq in
    let hpqf = all_clear-append (h ++ (p ++ q)) far hpq (only-clear k.radius (count r.far) (signed_clear r.far, tt)) in
    let hpqfn = all_clear-append ((h ++ (p ++ q)) ++ far) n hpqf (only-clear k.number (number r.n) (decimal-clear r.n, tt)) in
    all_clear-append (((h ++ (p ++ q)) ++ far) ++ n) (only k.tracker (number r.k)) hpqfn (only-clear k.tracker (number r.k) (decimal-clear r.k, tt))

-- ---- how long
count-length : (k : ℤ) → CountInRange k → length (signed_text k) ≤ 11
unfolding signed_text
count-length (pos n) h = omega (arith, number-length n (omega arith))
count-length (negsuc n) h = omega (arith, number-length (suc n) (omega arith))

number_size : (n : ℕ) → NumberInRange n → size (number n) ≤ 11
number_size n h = omega (arith, number-length n h)

count-size : (k : ℤ) → CountInRange k → size (count k) ≤ 12
count-size k h = omega (arith, count-length k h)

spot-size : (p : Spot) → SpotInRange p → size (spot p) ≤ 24
spot-size p h = omega (arith, count-length p.x h.0, count-length p.y h.1)

handle-size : (h : Handle) → HandleInRange h → size (handle h) ≤ 22
handle-size h i = omega (arith, number-length h.slot i.0, number-length h.version i.1)

only-size : {A : Type 0} (s : A → List (List ℕ)) (R : A → Type 0) {most : ℕ} → ((a : A) → R a → size (s a) ≤ most) → (asked : Bool) (none a : A) → AsAsked asked R none a → size (only asked (s a)) ≤ most
only-size s R each true none a h = each a h
only-size s R each false none a h = omega arith

pub arguments_size : (k : Asks) (r : Request) → ArgumentsInRange k r → size (argument_texts k r) ≤ 104
arguments_size k r i =
    let h = only k.handle (handle r.h) in
    let p = only (ltb 0 k.places) (spot r.p) in
    let q = only (ltb 1 k.places) (spot r.q) in
    let far = only k.radius (count r.far) in
    let n = only k.number (number r.n) in
    let t = only k.tracker (number r.k) in
    omega (arith, size-append (((h ++ (p ++ q)) ++ far) ++ n) t, size-append ((h ++ (p ++ q)) ++ far) n, size-append (h ++ (p ++ q)) far, size-append h (p ++ q), size-append p q, only-size handle HandleInRange handle-size k.handle nobody r.h i.0.0.0.0, only-size spot SpotInRange spot-size (ltb 0 k.places) no_spot r.p i.0.0.0.1.0, only-size spot SpotInRange spot-size (ltb 1 k.places) no_spot r.q i.0.0.0.1.1, only-size count CountInRange count-size k.radius (pos 0) r.far i.0.0.1, only-size number NumberInRange number_size k.number 0 r.n i.0.1, only-size number NumberInRange number_size k.tracker 0 r.k i.1)
