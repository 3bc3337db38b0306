-- The value of a sum, of a difference and of a square is the exact one, rounded once. Assumes nothing.
use Rattle.basics.specs.Words.{ℕ, ◌+◌, ◌-◌, ◌*◌, ◌^◌, ◌≤◌, ◌<◌, ◌≡◌, sym, ap, ◌∙◌, subst, Bool, true, false, not, ◌&&◌, cond, T, ltb, ltb→lt, nltb→le, le_trans}
use Rattle.basics.specs.Words.{le_of_eq, mul_comm, mul-le-mul_right, mul-le-mul, mul-pos, mul-sub, add-mul, mul-mul-mul_comm, arith}
use lib.Pow.{pow_pos}
use lib.Ieee.{Float, nan, inf, fin, Format, low, up, down, round, sum, add, sub, mul, neg}
use lib.Ieee.Fits.{down_pos}
use lib.Ieee.Order.{transfer}
use lib.Ieee.Scale.{finite, round_same}
use lib.Ieee.Positive.{num, den, den_pos}
use Rattle.geometry.specs.Inner.Value.{Num}
use Rattle.geometry.proofs.laws.Value.{cast, scaled_lt, scaled_le, common, common'}
use Rattle.geometry.proofs.laws.Rounding.{rnd, rnd_mono, round_num, R, R_zero}

module _ (f : Format) where
  abbrev l : ℕ
  l = 2 ^ low f

  L : 0 < l
  L = pow_pos (low f)

  sub-mul : (a b c : ℕ) → (a - b) * c ≡ a * c - b * c
  sub-mul a b c = mul_comm (a - b) c ∙ mul-sub c a b ∙ ap (λ (z : ℕ). z - c * b) (mul_comm c a) ∙ ap (λ (z : ℕ). a * c - z) (mul_comm c b)

  to_pos : (x : Float) (a p n : ℕ) → Num f x (R f a) 0 → a ≡ p → 0 ≡ n → Num f x (R f p) (R f n)
  to_pos x a p n v i j = cast f x (R f a) 0 (R f p) (R f n) v (ap (R f) i) (sym (R_zero f) ∙ ap (R f) j)

  to_neg : (x : Float) (a p n : ℕ) → Num f x 0 (R f a) → 0 ≡ p → a ≡ n → Num f x (R f p) (R f n)
  to_neg x a p n v i j = cast f x 0 (R f a) (R f p) (R f n) v (sym (R_zero f) ∙ ap (R f) i) (ap (R f) j)

  -- x / w and y / w are i and j units
  module _ (x y w i j : ℕ) (W : 0 < w) (a : x * l ≡ i * w) (b : y * l ≡ j * w) where
    plus_is : (s : Bool) → round f s (x + y) w ≡ round f s (i + j) l
    plus_is s = round_same f s (x + y) w (i + j) l W L (add-mul x y l ∙ ap (λ (z : ℕ). z + y * l) a ∙ ap (λ (z : ℕ). i * w + z) b ∙ sym (add-mul i j w))

    minus_is : (s : Bool) → round f s (x - y) w ≡ round f s (i - j) l
    minus_is s = round_same f s (x - y) w (i - j) l W L (sub-mul x y l ∙ ap (λ (z : ℕ). z - y * l) a ∙ ap (λ (z : ℕ). i * w - z) b ∙ sym (sub-mul i j w))

    minus_is' : (s : Bool) → round f s (y - x) w ≡ round f s (j - i) l
    minus_is' s = round_same f s (y - x) w (j - i) l W L (sub-mul y x l ∙ ap (λ (z : ℕ). z - x * l) b ∙ ap (λ (z : ℕ). j * w - z) a ∙ sym (sub-mul j i w))

    more : x < y → i < j
    more h = scaled_lt x y l i j w W L a b h

    most : y ≤ x → j ≤ i
    most h = scaled_le y x l j i w W L b a h

    rounded : (s : Bool) (v : Float) (k : ℕ) → v ≡ round f s k l → Num f v (cond s 0 (R f k)) (cond s (R f k) 0)
    rounded s v k e = subst (λ (z : Float). Num f z (cond s 0 (R f k)) (cond s (R f k) 0)) (sym e) (round_num f s k l)

    sum_ff : Num f (sum f false x false y w) (R f (i + j - (0 + 0))) (R f (0 + 0 - (i + j)))
    unfolding sum
    sum_ff = to_pos (round f false (x + y) w) (i + j) (i + j - (0 + 0)) (0 + 0 - (i + j)) (rounded false (round f false (x + y) w) (i + j) (plus_is false)) (omega arith) (omega arith)

    sum_tt : Num f (sum f true x true y w) (R f (0 + 0 - (i + j))) (R f (i + j - (0 + 0)))
    unfolding sum
    sum_tt = to_neg (round f true (x + y) w) (i + j) (0 + 0 - (i + j)) (i + j - (0 + 0)) (rounded true (round f true (x + y) w) (i + j) (plus_is true)) (omega arith) (omega arith)

    sum_ft : Num f (sum f false x true y w) (R f (i + 0 - (0 + j))) (R f (0 + j - (i + 0)))
    unfolding sum
    sum_ft = go (ltb x y) (ltb→lt x y) (nltb→le x y)
      where
        go : (t : Bool) → (T t → x < y) → (T (not t) → y ≤ x) → Num f (cond t (round f true (y - x) w) (round f false (x - y) w)) (R f (i + 0 - (0 + j))) (R f (0 + j - (i + 0)))
        go true h k = let g : i < j = more (h tt) in to_neg (round f true (y - x) w) (j - i) (i + 0 - (0 + j)) (0 + j - (i + 0)) (rounded true (round f true (y - x) w) (j - i) (minus_is' true)) (omega arith) (omega arith)
        go false h k = let g : j ≤ i = most (k tt) in to_pos (round f false (x - y) w) (i - j) (i + 0 - (0 + j)) (0 + j - (i + 0)) (rounded false (round f false (x - y) w) (i - j) (minus_is false)) (omega arith) (omega arith)

    sum_tf : Num f (sum f true x false y w) (R f (0 + j - (i + 0))) (R f (i + 0 - (0 + j)))
    unfolding sum
    sum_tf = go (ltb x y) (ltb y x) (ltb→lt x y) (nltb→le x y) (nltb→le y x)
      where
        go : (t u : Bool) → (T t → x < y) → (T (not t) → y ≤ x) → (T (not u) → x ≤ y) → Num f (cond t (round f false (y - x) w) (round f (true && u) (x - y) w)) (R f (0 + j - (i + 0))) (R f (i + 0 - (0 + j)))
        go true u h k o = let g : i < j = more (h tt) in to_pos (round f false (y - x) w) (j - i) (0 + j - (i + 0)) (i + 0 - (0 + j)) (rounded false (round f false (y - x) w) (j - i) (minus_is' false)) (omega arith) (omega arith)
        go false true h k o = let g : j ≤ i = most (k tt) in to_neg (round f true (x - y) w) (i - j) (0 + j - (i + 0)) (i + 0 - (0 + j)) (rounded true (round f true (x - y) w) (i - j) (minus_is true)) (omega arith) (omega arith)
        go false false h k o =
            let g : j ≤ i = most (k tt) in
            let g' : i ≤ j = scaled_le x y l i j w W L a b (o tt) in
            to_pos (round f false (x - y) w) (i - j) (0 + j - (i + 0)) (i + 0 - (0 + j)) (rounded false (round f false (x - y) w) (i - j) (minus_is false)) (omega arith) (omega arith)

  -- the value of a sum is the sum of the values, rounded
  abbrev pub Sum : Float → ℕ → ℕ → ℕ → ℕ → Type 0
  Sum z p n q k = Num f z (R f (p + q - (n + k))) (R f (n + k - (p + q)))

  pub add_num : (x y : Float) (p n q k : ℕ) → T (finite x) → T (finite y) → Num f x p n → Num f y q k → Sum (add f x y) p n q k
  unfolding add
  add_num nan y p n q k g h v w = absurd g
  add_num (inf s) y p n q k g h v w = absurd g
  add_num (fin s a e) nan p n q k g h v w = absurd h
  add_num (fin s a e) (inf t) p n q k g h v w = absurd h
  add_num (fin false a e) (fin false b d) p n q k g h v w =
      rw (v.1, w.1)
      (sum_ff (a * up e * down d) (b * up d * down e) (down e * down d) p q (mul-pos (down_pos e) (down_pos d)) (common (a * up e) l p (down e) (down d) v.0) (common' (b * up d) l q (down e) (down d) w.0))
  add_num (fin false a e) (fin true b d) p n q k g h v w =
      rw (v.1, w.1)
      (sum_ft (a * up e * down d) (b * up d * down e) (down e * down d) p k (mul-pos (down_pos e) (down_pos d)) (common (a * up e) l p (down e) (down d) v.0) (common' (b * up d) l k (down e) (down d) w.0))
  add_num (fin true a e) (fin false b d) p n q k g h v w =
      rw (v.1, w.1)
      (sum_tf (a * up e * down d) (b * up d * down e) (down e * down d) n q (mul-pos (down_pos e) (down_pos d)) (common (a * up e) l n (down e) (down d) v.0) (common' (b * up d) l q (down e) (down d) w.0))
  add_num (fin true a e) (fin true b d) p n q k g h v w =
      rw (v.1, w.1)
      (sum_tt (a * up e * down d) (b * up d * down e) (down e * down d) n k (mul-pos (down_pos e) (down_pos d)) (common (a * up e) l n (down e) (down d) v.0) (common' (b * up d) l k (down e) (down d) w.0))

  pub neg_num : (x : Float) (p n : ℕ) → Num f x p n → Num f (neg x) n p
  unfolding neg
  neg_num nan p n v = v
  neg_num (inf false) p n v = v
  neg_num (inf true) p n v = v
  neg_num (fin false m e) p n v = v
  neg_num (fin true m e) p n v = v

  neg_finite : (x : Float) → T (finite x) → T (finite (neg x))
  unfolding neg
  neg_finite nan h = h
  neg_finite (inf s) h = h
  neg_finite (fin s m e) h = h

  pub sub_num : (x y : Float) (p n q k : ℕ) → T (finite x) → T (finite y) → Num f x p n → Num f y q k → Sum (sub f x y) p n k q
  unfolding sub
  sub_num x y p n q k g h v w = add_num x (neg y) p n k q g (neg_finite y h) v (neg_num y q k w)

  -- ---- squares
  abbrev pub square : Float → ℕ
  square x = rnd f (num x * num x) (den x * den x)

  pub sq_num : (x : Float) → T (finite x) → Num f (mul f x x) (square x) 0
  unfolding mul
  sq_num nan h = absurd h
  sq_num (inf s) h = absurd h
  sq_num (fin false m e) h = round_num f false (m * up e * (m * up e)) (down e * down e)
  sq_num (fin true m e) h = round_num f false (m * up e * (m * up e)) (down e * down e)

  size_is : (x : Float) (p n : ℕ) → T (finite x) → Num f x p n → num x * l ≡ (p + n) * den x
  size_is nan p n h v = absurd h
  size_is (inf s) p n h v = absurd h
  size_is (fin false m e) p n h v = v.0 ∙ ap (λ (z : ℕ). z * down e) (omega (arith, v.1))
  size_is (fin true m e) p n h v = v.0 ∙ ap (λ (z : ℕ). z * down e) (omega (arith, v.1))

  pub square_mono : (x y : Float) (p n q k : ℕ) → T (finite x) → T (finite y) → Num f x p n → Num f y q k → p + n ≤ q + k → square x ≤ square y
  square_mono x y p n q k g h v w i =
      let c : num x * den y ≤ num y * den x = transfer (num x) (num y) (den x) (den y) (p + n) (q + k) l l L L (size_is x p n g v) (size_is y q k h w) (mul-le-mul_right l i) in
      rnd_mono f (num x * num x) (den x * den x) (num y * num y) (den y * den y) (mul-pos (den_pos x) (den_pos x)) (mul-pos (den_pos y) (den_pos y))
      (le_trans (le_of_eq (mul-mul-mul_comm (num x) (num x) (den y) (den y))) (le_trans (mul-le-mul c c) (le_of_eq (mul-mul-mul_comm (num y) (den x) (num y) (den x)))))
