-- The best of the entries at some places, whatever the order in which they are looked at: by squared distance and then slot, as one number. Assumes nothing.
use Rattle.basics.specs.Words.{ℕ, ◌+◌, ◌*◌, ◌<◌, ◌≤◌, ◌≡◌, refl, sym, ap, ◌∙◌, subst, Bool, true, false, ◌&&◌, ◌||◌, List, [], ◌∷◌, Memᴰ, Memᴰ-head}
use Rattle.basics.specs.Words.{Memᴰ-tail, Memᴰ-cases_cons, Memᴰ-not_nil, ◌⊎◌, inl, inr, ⊎_elim, ltb, eqb, arith, ltb-true, ltb-false, leb-true}
use Rattle.basics.specs.Words.{eqb-true, eqb-false, lt-ltb, le-ltb}
use Rattle.std.specs.Prelude.{None}
use lib.Ieee.{Float, binary32, lt, mul}
use Rattle.basics.specs.Meaning.Limits.{most_slots}
use Rattle.geometry.specs.declared.Position.{Position}
use Rattle.storage.specs.Meaning.Keyed.{All}
use Rattle.storage.specs.Meaning.Packed.{second}
use Rattle.storage.proofs.laws.FilterLaws.{by_test}
use Rattle.point_rings.specs.declared.Best.{Best}
use Rattle.point_rings.specs.Inner.Look.{distance_at, no_best, best_at, closer, better, looked}
use Rattle.point_rings.specs.Inner.Rings.{settled}
use Rattle.point_rings.proofs.laws.FarLaws.{Ground, ground_lt, ground_le, ground_eq}
use Rattle.point_rings.proofs.laws.LookLaws.{picked, not_picked}

-- two numbers compared one after the other, the second below 4,096, are one number
module _ (m n s t : ℕ) (hs : s < most_slots) (ht : t < most_slots) where
  pair_less : (ltb m n || (eqb m n && ltb s t)) ≡ ltb (m * most_slots + s) (n * most_slots + t)
  pair_less = go (ltb m n) (eqb m n) (ltb s t) refl refl refl
    where
      go : (a b d : Bool) → ltb m n ≡ a → eqb m n ≡ b → ltb s t ≡ d → (a || (b && d)) ≡ ltb (m * most_slots + s) (n * most_slots + t)
      go true b d ea eb ed = sym (lt-ltb (m * most_slots + s) (n * most_slots + t) (omega (arith, ltb-true m n ea)))
      go false true true ea eb ed = sym (lt-ltb (m * most_slots + s) (n * most_slots + t) (omega (arith, eqb-true m n eb, ltb-true s t ed)))
      go false true false ea eb ed = sym (le-ltb (m * most_slots + s) (n * most_slots + t) (omega (arith, eqb-true m n eb, ltb-false s t ed)))
      go false false d ea eb ed = sym (le-ltb (m * most_slots + s) (n * most_slots + t) (apart (ltb-false m n ea) (eqb-false m n eb)))
        where
          apart : n ≤ m → (m ≡ n → ⊥) → n * most_slots + t ≤ m * most_slots + s
          apart h g = omega arith

  -- and the second can be read back
  pair_second : m * most_slots + s ≡ n * most_slots + t → s ≡ t
  pair_second e = omega arith

-- v and R are the numbers of the squared distances and of the square of the radius
module _ (c : Position) (r : Float) (pool : List (List ℕ)) (spots : List (List Float)) (used : ℕ) (v : ℕ → ℕ) (R : ℕ)
    (few : (j : ℕ) → j < used → second pool j < most_slots)
    (once : (i j : ℕ) → i < used → j < used → second pool i ≡ second pool j → i ≡ j)
    (ground : (j : ℕ) → j < used → Ground (distance_at c spots j) (v j)) (ground_r : Ground (mul binary32 r r) R) where
  abbrev rank : ℕ → ℕ
  rank j = v j * most_slots + second pool j

  abbrev limit : ℕ
  limit = R * most_slots + 0

  abbrev closer_at : ℕ → Best → Bool
  closer_at k b = closer (distance_at c spots k) (second pool k) b

  -- what is closer than b is what has a rank below n
  abbrev Ranked : Best → ℕ → Type 0
  Ranked b n = (k : ℕ) → k < used → closer_at k b ≡ ltb (rank k) n

  by_ground : (k : ℕ) → k < used → (x : Float) (m t : ℕ) → Ground x m → t < most_slots → closer (distance_at c spots k) (second pool k) (record { place = None; slot = t; distance = x }) ≡ ltb (rank k) (m * most_slots + t)
  by_ground k l x m t g h =
      (λ z. ground_lt (distance_at c spots k) x (v k) m (ground k l) g z || (ground_eq (distance_at c spots k) x (v k) m (ground k l) g z && ltb (second pool k) t))
      ∙ pair_less (v k) m (second pool k) t (few k l) h

  -- none yet, or the entry at one of the places, which the circle has
  abbrev Own : (ℕ → Type 0) → Best → ℕ → Type 0
  Own S b n = ((b ≡ no_best r) × (n ≡ limit)) ⊎ ((j : ℕ) × (j < used) × S j × (b ≡ best_at c pool spots j) × (n ≡ rank j) × (rank j < limit))

  ranked : (S : ℕ → Type 0) (b : Best) (n : ℕ) → Own S b n → Ranked b n
  ranked S b n o k l =
      ⊎_elim
      (λ e. ap (closer_at k) e.0 ∙ by_ground k l (mul binary32 r r) R 0 ground_r (omega arith) ∙ ap (ltb (rank k)) (sym e.1))
      (λ e.
      let (j, lj, sj, eb, en, h) = e in
      ap (closer_at k) eb ∙ by_ground k l (distance_at c spots j) (v j) (second pool j) (ground j lj) (few j lj) ∙ ap (ltb (rank k)) (sym en))
      o

  -- b is the best of the places in S
  abbrev pub Least : (ℕ → Type 0) → Best → Type 0
  Least S b = (n : ℕ) × ((k : ℕ) → k < used → S k → n ≤ rank k) × Own S b n

  own_below : (S : ℕ → Type 0) (b : Best) (n : ℕ) → Own S b n → n ≤ limit
  own_below S b n o = ⊎_elim (λ e. omega (arith, e.1)) (λ e. let (j, lj, sj, eb, en, h) = e in omega arith) o

  pub least_start : Least (λ k. ⊥) (no_best r)
  least_start = (limit, λ k l s. absurd s, inl (refl, refl))

  -- more places, none of which is better
  pub least-wider : (S P : ℕ → Type 0) (b : Best) → Least S b → ((k : ℕ) → k < used → S k → P k) → ((k : ℕ) → k < used → P k → S k ⊎ (closer_at k b ≡ false)) → Least P b
  least-wider S P b w f g =
      let (n, least, own) = w in (
        n,
        λ k l p. ⊎_elim (λ s. least k l s) (λ e. ltb-false (rank k) n (sym (ranked S b n own k l) ∙ e)) (g k l p),
        ⊎_elim (λ e. inl e) (λ e. let (j, lj, sj, eb, en, h) = e in inr (j, lj, f j lj sj, eb, en, h)) own,
      )

  -- one place more
  least_step : (S : ℕ → Type 0) (b : Best) (j : ℕ) → j < used → Least S b → Least (λ k. S k ⊎ (k ≡ j)) (better c pool spots b j)
  unfolding better
  least_step S b j lj w =
      let (n, least, own) = w in
      let e = ranked S b n own j lj in
      by_test (closer_at j b)
      (λ t.
      let h : rank j < n = ltb-true (rank j) n (sym e ∙ t) in
      subst (Least (λ k. S k ⊎ (k ≡ j))) (sym (picked (closer_at j b) (best_at c pool spots j) b t))
      (rank j, λ k l s. ⊎_elim (λ x. omega (arith, least k l x)) (λ x. omega (arith, ap rank x)) s, inr (j, lj, inr refl, refl, refl, omega (arith, own_below S b n own))))
      (λ t.
      let h : n ≤ rank j = ltb-false (rank j) n (sym e ∙ t) in
      subst (Least (λ k. S k ⊎ (k ≡ j))) (sym (not_picked (closer_at j b) (best_at c pool spots j) b t))
      (n, λ k l s. ⊎_elim (λ x. least k l x) (λ x. omega (arith, ap rank x)) s, ⊎_elim (λ x. inl x) (λ x. let (i, li, si, eb, en, g) = x in inr (i, li, inl si, eb, en, g)) own))

  -- a list of places more
  pub least-looked : (S : ℕ → Type 0) (js : List ℕ) (b : Best) → All (λ j. j < used) js → Least S b → Least (λ k. S k ⊎ Memᴰ k js) (looked c pool spots js b)
  unfolding looked
  least-looked S [] b a w = least-wider S (λ k. S k ⊎ Memᴰ k []) b w (λ k l s. inl s) (λ k l p. ⊎_elim (λ s. inl s) (λ m. absurd (Memᴰ-not_nil m)) p)
  least-looked S (j ∷ js) b a w =
      least-wider (λ k. (S k ⊎ (k ≡ j)) ⊎ Memᴰ k js) (λ k. S k ⊎ Memᴰ k (j ∷ js)) (looked c pool spots js (better c pool spots b j))
      (least-looked (λ k. S k ⊎ (k ≡ j)) js (better c pool spots b j) a.1 (least_step S b j a.0 w))
      (λ k l s. ⊎_elim (λ x. ⊎_elim (λ y. inl y) (λ y. inr (Memᴰ-head y)) x) (λ x. inr (Memᴰ-tail x)) s)
      (λ k l p. inl (⊎_elim (λ x. inl (inl x)) (λ x. ⊎_elim (λ y. inl (inr y)) (λ y. inr y) (Memᴰ-cases_cons x)) p))

  -- there is one best
  pub least-one : (S : ℕ → Type 0) (b d : Best) → Least S b → Least S d → b ≡ d
  least-one S b d x y =
      let (n, f, o) = x in
      let (m, g, p) = y in
      ⊎_elim
      (λ e. ⊎_elim (λ h. e.0 ∙ sym h.0) (λ h. let (j, lj, sj, eb, en, q) = h in absurd (omega (arith, f j lj sj, e.1))) p)
      (λ e.
      let (i, li, si, ei, ni, q) = e in
      ⊎_elim
      (λ h. absurd (omega (arith, g i li si, h.1)))
      (λ h.
      let (j, lj, sj, ej, nj, w) = h in
      let same : rank i ≡ rank j = omega (arith, f j lj sj, g i li si) in
      ei ∙ ap (best_at c pool spots) (once i j li lj (pair_second (v i) (v j) (second pool i) (second pool j) (few i li) (few j lj) same)) ∙ sym ej)
      p)
      o

  -- ---- what is not better than the best: what the circle does not have, and what is not nearer than a number that the best is settled by
  rank_out : (S : ℕ → Type 0) (b : Best) (w : Least S b) (k : ℕ) → k < used → w.0 ≤ rank k → closer_at k b ≡ false
  rank_out S b w k l h = ranked S b w.0 w.2 k l ∙ le-ltb (rank k) w.0 h

  pub none-better : (S : ℕ → Type 0) (b : Best) → Least S b → (k : ℕ) → k < used → S k → closer_at k b ≡ false
  none-better S b w k l s = rank_out S b w k l (w.1 k l s)

  pub not_in_circle : (S : ℕ → Type 0) (b : Best) → Least S b → (k : ℕ) → k < used → lt (distance_at c spots k) (mul binary32 r r) ≡ false → closer_at k b ≡ false
  not_in_circle S b w k l e =
      let h = ltb-false (v k) R (sym (ground_lt (distance_at c spots k) (mul binary32 r r) (v k) R (ground k l) ground_r) ∙ e) in
      rank_out S b w k l (omega (arith, h, own_below S b w.0 w.2))

  pub not_nearer : (S : ℕ → Type 0) (b : Best) → Least S b → (far : Float) (n : ℕ) → Ground far n → settled b far ≡ true
      → (k : ℕ) → k < used → lt (distance_at c spots k) far ≡ false → closer_at k b ≡ false
  not_nearer S b w far n g e k l f =
      let h = ltb-false (v k) n (sym (ground_lt (distance_at c spots k) far (v k) n (ground k l) g) ∙ f) in
      rank_out S b w k l
      (⊎_elim
      (λ o.
      let q = leb-true R n (sym (ground_le (mul binary32 r r) far R n ground_r g) ∙ sym (ap (λ (x : Best). settled x far) o.0) ∙ e) in
      omega (arith, h, q, o.1))
      (λ o.
      let (j, lj, sj, eb, en, i) = o in
      let q = ltb-true (v j) n (sym (ground_lt (distance_at c spots j) far (v j) n (ground j lj) g) ∙ sym (ap (λ (x : Best). settled x far) eb) ∙ e) in
      omega (arith, h, q, en, few j lj))
      w.2)
