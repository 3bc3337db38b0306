-- Laws of the pass over the entries: each goes one key on in the way of its item. Assumes nothing.
use Rattle.basics.specs.Words.{ℕ, ◌+◌, ◌-◌, ◌*◌, ◌<◌, ◌≤◌, ◌≡◌, sym, ap, ◌∙◌, subst, Bool, true, false, List, [], ◌∷◌, ◌++◌, map, map-append}
use Rattle.basics.specs.Words.{append_assoc, append-nil, inl, inr, ◌↔◌, iff_trans, length, get_or, set, take, drop, take-append-drop, length-set}
use Rattle.basics.specs.Words.{length-append, take-suc, take-take, get_or-set_same, get_or-set_other, eqb, add-one, arith, eq-eqb, ne_eqb}
use borrow.Author.Count.{below_more}
use Rattle.basics.specs.Meaning.Says.{Decided}
use Rattle.basics.proofs.laws.Says.{d_lt, d_eq}
use Rattle.basics.specs.Meaning.Refusals.{pick}
use Rattle.cells.specs.Inner.Key.{column_of}
use Rattle.storage.specs.Meaning.Keyed.{filter}
use Rattle.storage.specs.Meaning.Entries.{row_key, is_item}
use Rattle.storage.specs.Meaning.Packed.{first, second}
use Rattle.storage.proofs.laws.FilterLaws.{filter-append}
use Rattle.box_tables.specs.declared.slot_ways.Ways.{Ways}
use Rattle.box_tables.specs.Inner.Way.{behind, key_most}
use Rattle.box_tables.specs.Inner.Check.{keys_of, Passes, ComesAt, Gone, Met}

-- ---- the keys of an item, with one entry more
module _ (pool : List (List ℕ)) (j i : ℕ) (h : j < length pool) where
  more : keys_of pool (j + 1) i ≡ keys_of pool j i ++ map row_key (filter (is_item i) (get_or pool j [] ∷ []))
  more =
      ap (λ (l : List (List ℕ)). map row_key (filter (is_item i) l)) (ap (λ (k : ℕ). take k pool) (add-one j) ∙ take-suc pool j [] h)
      ∙ ap (map row_key) (filter-append (is_item i) (take j pool) (get_or pool j [] ∷ []))
      ∙ map-append row_key (filter (is_item i) (take j pool)) (filter (is_item i) (get_or pool j [] ∷ []))

  pub keys_own : second pool j ≡ i → keys_of pool (j + 1) i ≡ keys_of pool j i ++ (first pool j ∷ [])
  keys_own e = rw (more, eq-eqb (second pool j) i e)

  pub keys_other : (second pool j ≡ i → ⊥) → keys_of pool (j + 1) i ≡ keys_of pool j i
  keys_other n = rw (more, ne_eqb (second pool j) i n) (append-nil (keys_of pool j i))

-- ---- the keys of an item, from its entry j on
abbrev later : List (List ℕ) → ℕ → ℕ → ℕ → List ℕ
later pool j i used = map row_key (filter (is_item i) (drop (j + 1) (take used pool)))

pub keys_from_lem : (pool : List (List ℕ)) (j i : ℕ) → j < length pool → (used : ℕ) → j < used → second pool j ≡ i → keys_of pool used i ≡ keys_of pool j i ++ (first pool j ∷ later pool j i used)
keys_from_lem pool j i h used l e =
    let t = take used pool in
    let split : t ≡ take (j + 1) pool ++ drop (j + 1) t = sym (take-append-drop (j + 1) t) ∙ ap (λ (a : List (List ℕ)). a ++ drop (j + 1) t) (take-take (j + 1) used pool (omega arith)) in
    ap (λ (a : List (List ℕ)). map row_key (filter (is_item i) a)) split
    ∙ ap (map row_key) (filter-append (is_item i) (take (j + 1) pool) (drop (j + 1) t))
    ∙ map-append row_key (filter (is_item i) (take (j + 1) pool)) (filter (is_item i) (drop (j + 1) t))
    ∙ ap (λ (a : List ℕ). a ++ later pool j i used) (keys_own pool j i h e)
    ∙ append_assoc (keys_of pool j i) (first pool j ∷ []) (later pool j i used)

-- an item with an entry has a key
pub keys_some : (pool : List (List ℕ)) (j i : ℕ) → j < length pool → (used : ℕ) → j < used → second pool j ≡ i → keys_of pool used i ≡ [] → ⊥
keys_some pool j i h used l e n = omega (arith, ap length (sym (keys_from_lem pool j i h used l e) ∙ n), length-append (keys_of pool j i) (first pool j ∷ later pool j i used))

-- a step is at most 2 ^ 32
pub behind-most : (stop jump k : ℕ) → jump ≤ 4294967296 → behind stop jump k ≤ k + 4294967296
behind-most stop jump k h = go (eqb (column_of k) stop)
  where
    go : (t : Bool) → pick t (k + jump) (k + 1) ≤ k + 4294967296
    go true = omega arith
    go false = omega arith

-- ---- the first j entries are passed; `before` is the key of the last of them
pub record Going (pool : List (List ℕ)) (ways₀ ways : Ways) (j before : ℕ) : Type 0 where
  pub long : length ways.nexts ≡ 512
  pub at_first : j ≡ 0 → before ≡ 0
  pub at_last : 0 < j → before ≡ first pool (j - 1)
  pub reach : (i : ℕ) → i < 512 → get_or ways.nexts i 0 ≤ key_most + j * 4294967296
  pub gone : Gone pool ways₀ ways j

module _ {pool : List (List ℕ)} {ways₀ ways : Ways} {j before : ℕ} (g : Going pool ways₀ ways j before) where
  -- an entry that is not before the last is not before any
  up_to : (a : ℕ) → a < j → first pool a ≤ before
  up_to a h = elim (d_lt a (j - 1)) [ inl q ↦ omega (arith, g.at_last (omega arith), g.gone.ordered a (j - 1) (omega arith) q) | inr q ↦ let e : a ≡ j - 1 = omega (arith, q) in omega (arith, g.at_last (omega arith), ap (first pool) e) ]

  -- ---- one entry more: it is not before the last, and its key is the next at its item
  module _ (steps : (i : ℕ) → i < 512 → get_or ways₀.jumps i 0 ≤ 4294967296) (h : j < length pool) (i : ℕ) (own : i ≡ second pool j) (inside : i < 512) (in_order : before ≤ first pool j) (is_key : first pool j ≡ get_or ways.nexts i 0) (k : ℕ) (by : k ≡ behind (get_or ways.stops i 0) (get_or ways.jumps i 0) (first pool j)) where
    is : k ≡ behind (get_or ways₀.stops i 0) (get_or ways₀.jumps i 0) (first pool j)
    is = by ∙ ap (λ (w : Ways). behind (get_or w.stops i 0) (get_or w.jumps i 0) (first pool j)) g.gone.others

    abbrev on : List ℕ
    on = set ways.nexts i k

    at_here : get_or on i 0 ≡ k
    at_here = get_or-set_same ways.nexts i k 0 (omega (arith, g.long))

    at_other : (a : ℕ) → (a ≡ i → ⊥) → get_or on a 0 ≡ get_or ways.nexts a 0
    at_other a d = get_or-set_other ways.nexts i a k 0 d

    -- a fact of every item: of the one that goes on, and of the others, which stay
    every-item : (P : ℕ → ℕ → Type 0) → P i k → ((a : ℕ) → (a ≡ i → ⊥) → a < 512 → P a (get_or ways.nexts a 0)) → (a : ℕ) → a < 512 → P a (get_or on a 0)
    every-item P p f a l = elim (d_eq a i) [ inl e ↦ rw (e, at_here) p | inr d ↦ rw (at_other a d) (f a d l) ]

    more-own : (l : List ℕ) → keys_of pool (j + 1) i ++ l ≡ keys_of pool j i ++ (first pool j ∷ l)
    more-own l = ap (λ (x : List ℕ). x ++ l) (keys_own pool j i h (sym own)) ∙ append_assoc (keys_of pool j i) (first pool j ∷ []) l

    more_other : (a : ℕ) → (a ≡ i → ⊥) → (l : List ℕ) → keys_of pool (j + 1) a ++ l ≡ keys_of pool j a ++ l
    more_other a d l = ap (λ (x : List ℕ). x ++ l) (keys_other pool j a h (λ e. d (sym (own ∙ e))))

    -- the key that is passed, and what is behind it
    step : (end : ℕ) (l : List ℕ) → ComesAt ways₀ i end (get_or ways.nexts i 0) (first pool j ∷ l) ↔ ComesAt ways₀ i end k l
    step end l =
        let e : behind (get_or ways₀.stops i 0) (get_or ways₀.jumps i 0) (get_or ways.nexts i 0) ≡ k = ap (behind (get_or ways₀.stops i 0) (get_or ways₀.jumps i 0)) (sym is_key) ∙ sym is in
        (λ p. subst (λ (n : ℕ). ComesAt ways₀ i end n l) e p.1, λ p. (is_key, subst (λ (n : ℕ). ComesAt ways₀ i end n l) (sym e) p))

    comes-more : (a : ℕ) → a < 512 → (end : ℕ) (l : List ℕ) → ComesAt ways₀ a end (get_or ways₀.nexts a 0) (keys_of pool (j + 1) a ++ l) ↔ ComesAt ways₀ a end (get_or on a 0) l
    comes-more =
        every-item (λ a n. (end : ℕ) (l : List ℕ) → ComesAt ways₀ a end (get_or ways₀.nexts a 0) (keys_of pool (j + 1) a ++ l) ↔ ComesAt ways₀ a end n l)
        (λ end l. subst (λ (m : List ℕ). ComesAt ways₀ i end (get_or ways₀.nexts i 0) m ↔ ComesAt ways₀ i end k l) (sym (more-own l)) (iff_trans (g.gone.comes i inside end (first pool j ∷ l)) (step end l)))
        (λ a d q end l. subst (λ (m : List ℕ). ComesAt ways₀ a end (get_or ways₀.nexts a 0) m ↔ ComesAt ways₀ a end (get_or ways.nexts a 0) l) (sym (more_other a d l)) (g.gone.comes a q end l))

    pub going_more : Going pool ways₀ (record ways { nexts = on }) (j + 1) (first pool j)
    going_more =
        record {
          long = length-set ways.nexts i k ∙ g.long;
          at_first = λ e. absurd (omega arith);
          at_last = λ q. let e : j + 1 - 1 ≡ j = omega arith in ap (first pool) (sym e);
          reach = every-item (λ a n. n ≤ key_most + (j + 1) * 4294967296) (omega (arith, is, is_key, behind-most (get_or ways₀.stops i 0) (get_or ways₀.jumps i 0) (first pool j) (steps i inside), g.reach i inside)) (λ a d q. omega (arith, g.reach a q));
          gone = record {
            others = ap (λ (v : Ways). record v { nexts = on }) g.gone.others;
            ordered = λ a b q l. below_more (λ b. a < b → first pool a ≤ first pool b) j (λ b q. g.gone.ordered a b q) (λ l. omega (arith, up_to a l, in_order)) b q l;
            inside = below_more (λ a. second pool a < 512) j g.gone.inside (subst (λ (n : ℕ). n < 512) own inside);
            comes = comes-more;
          };
        }

  -- ---- where the whole passes, so does the next entry
  module _ {used : ℕ} (room : used ≤ length pool) (v : Passes pool ways₀ used) (l : j < used) where
    pub next-ordered : before ≤ first pool j
    next-ordered = go (d_eq j 0)
      where
        go : Decided (j ≡ 0) → before ≤ first pool j
        go (inl e) = omega (arith, g.at_first e)
        go (inr d) = omega (arith, g.at_last (omega (arith, d)), v.ordered (j - 1) j l (omega (arith, d)))

    pub next-key : (i : ℕ) → i ≡ second pool j → first pool j ≡ get_or ways.nexts i 0
    next-key i e =
        let h : i < 512 = subst (λ (n : ℕ). n < 512) (sym e) (v.inside j l) in
        ((g.gone.comes i h (get_or ways₀.ends i 0) (first pool j ∷ later pool j i used)).0
        (subst (ComesAt ways₀ i (get_or ways₀.ends i 0) (get_or ways₀.nexts i 0)) (keys_from_lem pool j i (omega arith) used l (sym e)) (v.every i h))).0

-- ---- at the end
module _ {pool : List (List ℕ)} {ways₀ ways : Ways} {used : ℕ} (g : Gone pool ways₀ ways used) where
  -- nothing is to come behind the keys of all entries
  none_left : (i : ℕ) → i < 512 → ComesAt ways₀ i (get_or ways₀.ends i 0) (get_or ways₀.nexts i 0) (keys_of pool used i) ↔ (get_or ways.nexts i 0 ≡ get_or ways₀.ends i 0)
  none_left i h =
      subst (λ (m : List ℕ). ComesAt ways₀ i (get_or ways₀.ends i 0) (get_or ways₀.nexts i 0) m ↔ (get_or ways.nexts i 0 ≡ get_or ways₀.ends i 0)) (append-nil (keys_of pool used i)) (g.comes i h (get_or ways₀.ends i 0) [])

  same_end : (i : ℕ) → get_or ways.ends i 0 ≡ get_or ways₀.ends i 0
  same_end i = ap (λ (w : Ways). get_or w.ends i 0) g.others

  pub gone_all : Met ways → Passes pool ways₀ used
  gone_all m = record { ordered = g.ordered; inside = g.inside; every = λ i h. (none_left i h).1 (m i h ∙ same_end i) }

  pub gone-met : Passes pool ways₀ used → Met ways
  gone-met v i h = (none_left i h).0 (v.every i h) ∙ sym (same_end i)
