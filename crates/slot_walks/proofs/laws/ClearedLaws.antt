-- Clearing slot by slot: the rows of which the first are cleared, and the map with their bits; and each slot after it. Assumes nothing.
use Rattle.basics.specs.Words.{ℕ, zero, suc, ◌+◌, ◌<◌, ◌≤◌, ◌≡◌, refl, sym, ap, ◌∙◌, subst, Bool, true, false, List, [], ◌∷◌, ◌++◌, map, map-append}
use Rattle.basics.specs.Words.{append-nil, append_assoc, inr, ⊎_elim, length, get_or, take, drop, length-append, length-map, get_or-map, take-append-drop}
use Rattle.basics.specs.Words.{take-suc, take-length, drop-length, drop-cons, length-take-le, get_or_at, set_at, eqb, add-one, arith, eqb-true, eq-eqb, ne_eqb}
use Rattle.basics.specs.Meaning.Refusals.{pick}
use Rattle.basics.proofs.laws.Says.{d_eq}
use Rattle.slots.specs.Meaning.Map.{head, words_for, given_back}
use Rattle.slots.proofs.laws.MapLaws.{given-back-length, given-back-head}
use Rattle.slots.specs.Meaning.Slot.{free, live, retired, last_version, version_at, phase_at, next_version, next_phase, good, gone, emptied_row, emptied_nums}
use Rattle.slots.specs.Meaning.Slot.{emptied_map, SlotsHold}
use Rattle.slots.proofs.laws.HandleLaws.{good_says}
use Rattle.slots.proofs.laws.GoneLaws.{gone_says, next-gone}
use Rattle.slots.proofs.laws.OnwardLaws.{Onward, later_emptied}
use Rattle.slots.proofs.laws.SlotLaws.{emptied-holds}
use Rattle.slot_walks.specs.Meaning.Live.{row_live}
use Rattle.slot_walks.specs.Meaning.Cleared.{cleared_row, cleared_bit, cleared_map, cleared_rows}

-- ---- the map: its length and its head words stay
module _ (P : List ℕ → Type 0) (keeps : (m : List ℕ) (s : ℕ) → P m → P (given_back m s)) where
  bit_keeps : (s : ℕ) (row m : List ℕ) → P m → P (cleared_bit s row m)
  bit_keeps s row m p = go (row_live row) (eqb (get_or row 0 0) last_version)
    where
      go : (a b : Bool) → P (pick a (pick b m (given_back m s)) m)
      go false b = p
      go true true = p
      go true false = keeps m s p

  map_keeps : (rows : List (List ℕ)) (s : ℕ) (m : List ℕ) → P m → P (cleared_map s rows m)
  map_keeps [] s m p = p
  map_keeps (row ∷ rows) s m p = map_keeps rows (suc s) (cleared_bit s row m) (bit_keeps s row m p)

module _ (rows : List (List ℕ)) (s : ℕ) (m : List ℕ) where
  pub cleared-map-length : length (cleared_map s rows m) ≡ length m
  cleared-map-length = map_keeps (λ k. length k ≡ length m) (λ k i e. given-back-length k i ∙ e) rows s m refl

  pub cleared-map-head : (i : ℕ) → i < head → get_or (cleared_map s rows m) i 0 ≡ get_or m i 0
  cleared-map-head i h = map_keeps (λ k. get_or k i 0 ≡ get_or m i 0) (λ k j e. given-back-head k j i h ∙ e) rows s m refl

-- ---- one slot more
map-append-rows : (l r : List (List ℕ)) (s : ℕ) (m : List ℕ) → cleared_map s (l ++ r) m ≡ cleared_map (s + length l) r (cleared_map s l m)
map-append-rows [] r s m = ap (λ (n : ℕ). cleared_map n r m) (omega arith)
map-append-rows (row ∷ l) r s m =
    map-append-rows l r (suc s) (cleared_bit s row m)
    ∙ ap (λ (n : ℕ). cleared_map n r (cleared_map (suc s) l (cleared_bit s row m))) (omega arith)

-- the rows of which the first i are cleared, and the map with their bits
abbrev pub nums_to : ℕ → List (List ℕ) → List (List ℕ)
nums_to i nums = map cleared_row (take i nums) ++ drop i nums

abbrev pub map_to : ℕ → List (List ℕ) → List ℕ → List ℕ
map_to i nums m = cleared_map 0 (take i nums) m

pub nums-whole : (nums : List (List ℕ)) → nums_to (length nums) nums ≡ map cleared_row nums
nums-whole nums = rw (take-length nums, drop-length nums) (append-nil (map cleared_row nums))

pub map_whole : (nums : List (List ℕ)) (m : List ℕ) → map_to (length nums) nums m ≡ cleared_map 0 nums m
map_whole nums m = rw (take-length nums)

pub nums-length : (i : ℕ) (nums : List (List ℕ)) → length (nums_to i nums) ≡ length nums
nums-length i nums = rw (length-append, length-map (take i nums) cleared_row, ← length-append (take i nums) (drop i nums), take-append-drop)

module _ (nums : List (List ℕ)) (m : List ℕ) (i : ℕ) (h : i < length nums) where
  in_front_lem : length (map cleared_row (take i nums)) ≡ i
  in_front_lem = length-map (take i nums) cleared_row ∙ length-take-le i nums (omega arith)

  split : nums_to i nums ≡ map cleared_row (take i nums) ++ (get_or nums i [] ∷ drop (suc i) nums)
  split = ap (λ (l : List (List ℕ)). map cleared_row (take i nums) ++ l) (drop-cons nums i [] h)

  pub nums_at : get_or (nums_to i nums) i [] ≡ get_or nums i []
  nums_at = ap (λ (l : List (List ℕ)). get_or l i []) split ∙ get_or_at (map cleared_row (take i nums)) (get_or nums i []) (drop (suc i) nums) [] i in_front_lem

  nums-next : nums_to (i + 1) nums ≡ map cleared_row (take i nums) ++ (cleared_row (get_or nums i []) ∷ drop (suc i) nums)
  nums-next = rw (add-one i, take-suc nums i [] h, map-append) (append_assoc (map cleared_row (take i nums)) (cleared_row (get_or nums i []) ∷ []) (drop (suc i) nums))

  map_next : map_to (i + 1) nums m ≡ cleared_bit i (get_or nums i []) (map_to i nums m)
  map_next =
      let n : 0 + length (take i nums) ≡ i = omega (arith, length-take-le i nums (omega arith)) in
      rw (add-one i, take-suc nums i [] h, map-append-rows (take i nums) (get_or nums i [] ∷ []) 0 m, n)

  -- a live slot is emptied
  module _ (e : row_live (get_or nums i []) ≡ true) where
    pub nums-live : emptied_nums (nums_to i nums) i ≡ nums_to (i + 1) nums
    unfolding emptied_nums
    nums-live = rw (nums-next, nums_at, split, set_at (map cleared_row (take i nums)) (get_or nums i []) (drop (suc i) nums) (emptied_row (get_or nums i [])) i in_front_lem, e)

    pub map-live : emptied_map (nums_to i nums) (map_to i nums m) i ≡ map_to (i + 1) nums m
    unfolding emptied_map
    map-live = rw (map_next, nums_at, e)

  -- any other stays
  module _ (e : row_live (get_or nums i []) ≡ false) where
    pub nums_idle : nums_to i nums ≡ nums_to (i + 1) nums
    nums_idle = rw (nums-next, split, e)

    pub map_idle : map_to i nums m ≡ map_to (i + 1) nums m
    map_idle = rw (map_next, e)

-- ---- a turn of the walk, with the rows and the map so far
module _ (nums : List (List ℕ)) (m : List ℕ) (i : ℕ) (h : i < length nums) (ns : List (List ℕ)) (k : List ℕ) (en : ns ≡ nums_to i nums) (em : k ≡ map_to i nums m) where
  at_hand : get_or ns i [] ≡ get_or nums i []
  at_hand = ap (λ (l : List (List ℕ)). get_or l i []) en ∙ nums_at nums m i h

  pub turn_live : eqb (get_or (get_or ns i []) 1 0) live ≡ true → (ns' : List (List ℕ)) (k' : List ℕ) → ns' ≡ emptied_nums ns i → k' ≡ emptied_map ns k i → (ns' ≡ nums_to (i + 1) nums) × (k' ≡ map_to (i + 1) nums m)
  turn_live e ns' k' p q =
      let l : row_live (get_or nums i []) ≡ true = ap row_live (sym at_hand) ∙ e in
      (p ∙ ap (λ (x : List (List ℕ)). emptied_nums x i) en ∙ nums-live nums m i h l, q ∙ (λ z. emptied_map (en z) (em z) i) ∙ map-live nums m i h l)

  pub turn_idle : eqb (get_or (get_or ns i []) 1 0) live ≡ false → (ns ≡ nums_to (i + 1) nums) × (k ≡ map_to (i + 1) nums m)
  turn_idle e =
      let l : row_live (get_or nums i []) ≡ false = ap row_live (sym at_hand) ∙ e in
      (en ∙ nums_idle nums m i h l, em ∙ map_idle nums m i h l)

-- ---- the slots hold all the way
module _ (nums : List (List ℕ)) (m : List ℕ) (h : SlotsHold nums m) (sized : length m ≡ head + words_for (length nums)) where
  one_more : (i : ℕ) (l : i < length nums) → SlotsHold (nums_to i nums) (map_to i nums m) → (b : Bool) → row_live (get_or nums i []) ≡ b → SlotsHold (nums_to (i + 1) nums) (map_to (i + 1) nums m)
  one_more i l k true e =
      let long : length (map_to i nums m) ≡ head + words_for (length (nums_to i nums)) = cleared-map-length (take i nums) 0 m ∙ sized ∙ ap (λ (n : ℕ). head + words_for n) (sym (nums-length i nums)) in
      let is_live : get_or (get_or (nums_to i nums) i []) 1 0 ≡ live = ap (λ (r : List ℕ). get_or r 1 0) (nums_at nums m i l) ∙ eqb-true (get_or (get_or nums i []) 1 0) live e in
      rw (nums-live nums m i l e, map-live nums m i l e) at (emptied-holds (nums_to i nums) (map_to i nums m) k i (rw (nums-length i nums) l) long is_live)
  one_more i l k false e = rw (nums_idle nums m i l e, map_idle nums m i l e) at k

  so_far : (i : ℕ) → i ≤ length nums → SlotsHold (nums_to i nums) (map_to i nums m)
  so_far zero l = h
  so_far (suc i) l = subst (λ (n : ℕ). SlotsHold (nums_to n nums) (map_to n nums m)) (add-one i) (one_more i (omega arith) (so_far i (omega arith)) (row_live (get_or nums i [])) refl)

  pub cleared-slots : SlotsHold (map cleared_row nums) (cleared_map 0 nums m)
  cleared-slots = rw (nums-whole nums, map_whole nums m) at (so_far (length nums) (omega arith))

-- ---- each slot after it
-- the phase of a slot that was emptied
pub next_not_live : (v : ℕ) → next_phase v ≡ live → ⊥
next_not_live v e = go (eqb v last_version) e
  where
    go : (b : Bool) → pick b retired free ≡ live → ⊥
    go true q = omega arith
    go false q = omega arith

module _ (nums : List (List ℕ)) where
  cleared-row : (s : ℕ) → get_or (cleared_rows nums) s [] ≡ cleared_row (get_or nums s [])
  cleared-row s = get_or-map cleared_row nums s []

  -- the version of a live slot rises, or the slot is retired at the last one
  pub cleared-live : (s : ℕ) → phase_at nums s ≡ live → (version_at (cleared_rows nums) s ≡ next_version (version_at nums s)) × (phase_at (cleared_rows nums) s ≡ next_phase (version_at nums s))
  cleared-live s e =
      let r : get_or (cleared_rows nums) s [] ≡ emptied_row (get_or nums s []) = cleared-row s ∙ rw (eq-eqb (phase_at nums s) live e) in
      (ap (λ (l : List ℕ). get_or l 0 0) r, ap (λ (l : List ℕ). get_or l 1 0) r)

  -- every other slot stays as it was
  pub cleared_idle : (s : ℕ) → (phase_at nums s ≡ live → ⊥) → get_or (cleared_rows nums) s [] ≡ get_or nums s []
  cleared_idle s n = cleared-row s ∙ rw (ne_eqb (phase_at nums s) live n)

  -- so every slot goes onward, and a good handle is gone, at the last version too
  pub onward-cleared : Onward nums (cleared_rows nums)
  onward-cleared =
      record {
        as_long = length-map nums cleared_row;
        each = λ s l.
            ⊎_elim
            (λ e. let r = cleared-live s e in rw (r.0, r.1) (later_emptied (version_at nums s) (phase_at nums s)))
            (λ n. rw (cleared_idle s n) (inr (refl, λ k. omega arith)))
            (d_eq (phase_at nums s) live);
      }

  pub cleared-row-gone : (s v : ℕ) → good nums s v ≡ true → 1 ≤ v → gone (cleared_rows nums) s v ≡ true
  cleared-row-gone s v e l =
      let g = (good_says nums s v).yes e in
      let r = cleared-live s g.1 in
      (gone_says (cleared_rows nums) s v).no (omega (arith, length-map nums cleared_row, g.0), rw (r.0, r.1) (next-gone (version_at nums s) v g.2 l))

  pub cleared-none : (s : ℕ) → phase_at (cleared_rows nums) s ≡ live → ⊥
  cleared-none s e =
      ⊎_elim
      (λ l. next_not_live (version_at nums s) (sym (cleared-live s l).1 ∙ e))
      (λ n. n (sym (ap (λ (l : List ℕ). get_or l 1 0) (cleared_idle s n)) ∙ e))
      (d_eq (phase_at nums s) live)

  -- so no handle is good
  pub cleared_not_good : (s v : ℕ) → good (cleared_rows nums) s v ≡ false
  cleared_not_good s v = go (good (cleared_rows nums) s v) (good_says (cleared_rows nums) s v).yes
    where
      go : (b : Bool) → (b ≡ true → (s < length (cleared_rows nums)) × (phase_at (cleared_rows nums) s ≡ live) × (version_at (cleared_rows nums) s ≡ v)) → b ≡ false
      go true f = absurd (cleared-none s (f refl).1)
      go false f = refl
