-- Laws of the entries at places: they are the pool's own, the last may go in front, and a stretch has one end. Assumes nothing.
use Rattle.basics.specs.Words.{ℕ, zero, suc, ◌+◌, ◌-◌, ◌<◌, ◌≤◌, ◌≡◌, refl, sym, ap, ◌∙◌, List, ◌∷◌, ◌++◌, length, get_or, take, drop, take_all, drop-cons, arith}
use lib.Ieee.{Float}
use Rattle.storage.specs.Meaning.Keyed.{close, last, front}
use Rattle.storage.specs.Meaning.Entries.{entries_of}
use Rattle.storage.proofs.laws.FilterLaws.{by_order}
use Rattle.point_maintain_lists.specs.Inner.Runs.{run}
use Rattle.point_maintain_lists.proofs.laws.Runs.{run_led_by}
use Rattle.storage.specs.Inner.Run.{ListEnd}
use Rattle.point_tables.proofs.laws.EntryLaws.{no_entry, entries-length, entries_at}
use Rattle.point_tables.specs.Inner.Entry.{entry_at}

module _ {A : Type 0} (at : ℕ → A) where
  pub run_length : (i n : ℕ) → length (run at i n) ≡ n
  run_length i zero = refl
  run_length i (suc n) = ap suc (run_length (suc i) n)

  pub run-held : (i n : ℕ) → run_led_by at i i n ≡ run at i n
  run-held i zero = refl
  run-held i (suc n) = refl

  pub run-append : (i n m : ℕ) → run at i (n + m) ≡ run at i n ++ run at (i + n) m
  run-append i zero m =
      let p : 0 + m ≡ m = omega arith in
      let q : i ≡ i + 0 = omega arith in
      λ z. run at (q z) (p z)
  run-append i (suc n) m =
      let p : suc n + m ≡ suc (n + m) = omega arith in
      let q : suc i + n ≡ i + suc n = omega arith in
      ap (run at i) p ∙ ap (λ (l : List A). at i ∷ l) (run-append (suc i) n m ∙ ap (λ (j : ℕ). run at (suc i) n ++ run at j m) q)

  -- ---- the last goes in front
  run-last : (i n : ℕ) → last (at i) (run at (suc i) n) ≡ at (i + n)
  run-last i zero = ap at (omega arith)
  run-last i (suc n) = run-last (suc i) n ∙ ap at (omega arith)

  run-front : (i n : ℕ) → front (at i) (run at (suc i) n) ≡ run at i n
  run-front i zero = refl
  run-front i (suc n) = ap (λ (l : List A). at i ∷ l) (run-front (suc i) n)

  pub run-close : (i n : ℕ) → close (run at (suc i) n) ≡ run_led_by at (i + n) i n
  run-close i zero = refl
  run-close i (suc n) = (λ z. run-last (suc i) n z ∷ run-front (suc i) n z) ∙ ap (λ (j : ℕ). at j ∷ run at (suc i) n) (omega arith)

  -- ---- by places
  -- a part of a list, by the places that it has
  pub part_run : (d : A) (l : List A) (i n : ℕ) → i + n ≤ length l → ((j : ℕ) → j < length l → get_or l j d ≡ at j) → take n (drop i l) ≡ run at i n
  part_run d l i zero h f = refl
  part_run d l i (suc n) h f =
      ap (take (suc n)) (drop-cons l i d (omega arith))
      ∙ (λ z. f i (omega arith) z ∷ part_run d l (suc i) n (omega arith) f z)

-- places that have the same
pub run-same : {A : Type 0} (a b : ℕ → A) (i n : ℕ) → ((j : ℕ) → i ≤ j → j < i + n → a j ≡ b j) → run a i n ≡ run b i n
run-same a b i zero f = refl
run-same a b i (suc n) f = λ z. f i (omega arith) (omega arith) z ∷ run-same a b (suc i) n (λ j h g. f j (omega arith) (omega arith)) z

-- ---- the entries in use
module _ (pool : List (List ℕ)) (spots : List (List Float)) (used : ℕ) (u : used ≤ length pool) (v : used ≤ length spots) where
  pub entries-run : (i n : ℕ) → i + n ≤ used → take n (drop i (entries_of pool spots used)) ≡ run (entry_at pool spots) i n
  entries-run i n h =
      part_run (entry_at pool spots) no_entry (entries_of pool spots used) i n (omega (arith, entries-length pool spots used u v))
      (λ j l. entries_at pool spots used u v j (omega (arith, entries-length pool spots used u v)))

entries-whole : (pool : List (List ℕ)) (spots : List (List Float)) (used : ℕ) → used ≤ length pool → used ≤ length spots → entries_of pool spots used ≡ run (entry_at pool spots) 0 used
entries-whole pool spots used u v =
    sym (take_all used (entries_of pool spots used) (omega (arith, entries-length pool spots used u v)))
    ∙ entries-run pool spots used u v 0 used (omega arith)

-- the entries behind the first w
pub entries-more : (pool : List (List ℕ)) (spots : List (List Float)) (w to : ℕ) → w ≤ to → to ≤ length pool → to ≤ length spots
    → entries_of pool spots w ++ run (entry_at pool spots) w (to - w) ≡ entries_of pool spots to
entries-more pool spots w to h u v =
    let p : 0 + w ≡ w = omega arith in
    let q : w + (to - w) ≡ to = omega arith in
    (λ z. entries-whole pool spots w (omega arith) (omega arith) z ++ run (entry_at pool spots) (sym p z) (to - w))
    ∙ sym (run-append (entry_at pool spots) 0 w (to - w))
    ∙ ap (run (entry_at pool spots) 0) q
    ∙ sym (entries-whole pool spots to u v)

-- ---- where a stretch ends
pub stretch_one : (pool : List (List ℕ)) (from used key a b : ℕ) → ListEnd pool from used key a → ListEnd pool from used key b → a ≡ b
stretch_one pool from used key a b p q =
    by_order a b
    (λ h. absurd (p.stops (omega (arith, h, q.within)) (q.same a p.onward h)))
    (λ e. e)
    (λ h. absurd (q.stops (omega (arith, h, p.within)) (p.same b q.onward h)))
