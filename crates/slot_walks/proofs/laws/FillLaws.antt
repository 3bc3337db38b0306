-- Outputs that have a row for each live slot: a slot more is written out. Assumes nothing.
use Rattle.basics.specs.Words.{ℕ, ◌+◌, ◌<◌, ◌≤◌, ◌≡◌, sym, ap, ◌∙◌, true, false, List, [], ◌∷◌, map, map-append, length, get_or, set, length-map, length-append}
use Rattle.basics.specs.Words.{arith}
use Rattle.storage.specs.Meaning.Keyed.{written}
use Rattle.storage.proofs.laws.WrittenLaws.{written_next}
use Rattle.slot_walks.specs.Meaning.Live.{row_live, live_from}
use Rattle.slot_walks.proofs.laws.LiveLaws.{live_to, live-one, live-none, live-room}

-- ---- an output that has what f says of each live slot passed
module _ {A : Type 0} (d : A) (f : ℕ → A) (nums : List (List ℕ)) (out : List A) (r : length (live_from 0 nums) ≤ length out) where
  abbrev filled : ℕ → List A
  filled i = written (map f (live_to i nums)) out

  module _ (i : ℕ) (h : i < length nums) where
    pub filled-room : row_live (get_or nums i []) ≡ true → length (live_to i nums) < length out
    filled-room e = omega (arith, live-room nums i h e)

    pub filled_next : row_live (get_or nums i []) ≡ true → set (filled i) (length (live_to i nums)) (f i) ≡ filled (i + 1)
    filled_next e =
        let n = length-map (live_to i nums) f in
        ap (λ (k : ℕ). set (filled i) k (f i)) (sym n)
        ∙ written_next d (map f (live_to i nums)) out (f i) (omega (arith, n, filled-room e))
        ∙ ap (λ (l : List A). written l out) (sym (map-append f (live_to i nums) (i ∷ [])))
        ∙ ap (λ (l : List ℕ). written (map f l) out) (sym (live-one nums i h e))

    pub filled-same : row_live (get_or nums i []) ≡ false → filled i ≡ filled (i + 1)
    filled-same e = ap (λ (l : List ℕ). written (map f l) out) (sym (live-none nums i h e))

-- ---- the live slots passed, with one slot more
module _ (nums : List (List ℕ)) (i : ℕ) (h : i < length nums) where
  pub one_more : row_live (get_or nums i []) ≡ true → length (live_to i nums) + 1 ≡ length (live_to (i + 1) nums)
  one_more e = sym (ap length (live-one nums i h e) ∙ length-append (live_to i nums) (i ∷ []))

  pub as_many : row_live (get_or nums i []) ≡ false → length (live_to i nums) ≡ length (live_to (i + 1) nums)
  as_many e = ap length (sym (live-none nums i h e))
