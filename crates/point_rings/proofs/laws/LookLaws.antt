-- Looking at entries one after the other: one more, one list after another, and the entries of a window run by run. Assumes nothing.
use Rattle.basics.specs.Words.{ℕ, ◌+◌, ◌-◌, ◌≤◌, ◌≡◌, refl, sym, ap, ◌∙◌, Bool, true, false, List, [], ◌∷◌, ◌++◌, arith}
use Rattle.std.specs.Prelude.{Some}
use lib.Ieee.{Float}
use Rattle.basics.specs.Meaning.Refusals.{pick}
use Rattle.geometry.specs.declared.Position.{Position}
use Rattle.geometry.specs.Meaning.Circle.{distance_squared}
use Rattle.cells.specs.Inner.Key.{column_of, line_of}
use Rattle.storage.specs.declared.Run.{Run}
use Rattle.storage.specs.Inner.Run.{NextRun}
use Rattle.storage.specs.Meaning.Packed.{first, second}
use Rattle.storage.specs.Inner.Window.{in_range}
use Rattle.point_records.specs.declared.Entry.{Entry}
use Rattle.point_records.specs.Inner.Listed.{listed_at}
use Rattle.point_search.specs.Inner.Places.{places_in}
use Rattle.point_search.proofs.laws.PlacesLaws.{places_stretch, passed-more}
use Rattle.point_rings.specs.declared.Best.{Best}
use Rattle.point_rings.specs.Inner.Look.{distance_at, best_at, closer, better, looked, every, window_places}

pub picked : {A : Type 0} (w : Bool) (x y : A) → w ≡ true → pick w x y ≡ x
picked w x y e = ap (λ (b : Bool). pick b x y) e

pub not_picked : {A : Type 0} (w : Bool) (x y : A) → w ≡ false → pick w x y ≡ y
not_picked w x y e = ap (λ (b : Bool). pick b x y) e

module _ (c : Position) (pool : List (List ℕ)) (spots : List (List Float)) where
  -- ---- the entry at place j, as code reads it
  module _ (b : Best) (j : ℕ) (e : Entry) (d : Float) (w : Bool) (ee : e ≡ listed_at pool spots j) (ed : d ≡ distance_squared e.position c) (ew : w ≡ closer d e.slot b) where
    far : d ≡ distance_at c spots j
    far = ed ∙ ap (λ (x : Entry). distance_squared x.position c) ee

    its_slot : e.slot ≡ second pool j
    its_slot = ap (λ (x : Entry). x.slot) ee

    test : w ≡ closer (distance_at c spots j) (second pool j) b
    test = ew ∙ (λ z. closer (far z) (its_slot z) b)

    pub better-taken : w ≡ true → record { place = Some j; slot = e.slot; distance = d } ≡ better c pool spots b j
    unfolding better
    better-taken t = (λ z. record { place = Some j; slot = its_slot z; distance = far z }) ∙ sym (picked _ (best_at c pool spots j) b (sym test ∙ t))

    pub better-left : w ≡ false → b ≡ better c pool spots b j
    unfolding better
    better-left t = sym (not_picked _ (best_at c pool spots j) b (sym test ∙ t))

  -- ---- one list after another
  pub looked-append : (js ks : List ℕ) (b : Best) → looked c pool spots (js ++ ks) b ≡ looked c pool spots ks (looked c pool spots js b)
  unfolding looked
  looked-append [] ks b = refl
  looked-append (j ∷ js) ks b = looked-append js ks (better c pool spots b j)

  pub looked-one : (j : ℕ) (b : Best) → looked c pool spots (j ∷ []) b ≡ better c pool spots b j
  unfolding looked
  looked-one j b = refl

  pub looked-none : (b : Best) → looked c pool spots [] b ≡ b
  unfolding looked
  looked-none b = refl

  -- four lists one after the other
  pub looked_four : (p q s t : List ℕ) (b b₁ b₂ b₃ b₄ : Best) → b₁ ≡ looked c pool spots p b → b₂ ≡ looked c pool spots q b₁ → b₃ ≡ looked c pool spots s b₂
      → b₄ ≡ looked c pool spots t b₃ → b₄ ≡ looked c pool spots (p ++ (q ++ (s ++ t))) b
  looked_four p q s t b b₁ b₂ b₃ b₄ e f g h =
      h
      ∙ ap (looked c pool spots t) (g ∙ ap (looked c pool spots s) (f ∙ ap (looked c pool spots q) e))
      ∙ sym (looked-append p (q ++ (s ++ t)) b ∙ looked-append q (s ++ t) (looked c pool spots p b) ∙ looked-append s t (looked c pool spots q (looked c pool spots p b)))

  -- nothing of a stretch, and one place more of it
  pub looked_start : (from : ℕ) (b : Best) → b ≡ looked c pool spots (places_in every from (from - from)) b
  unfolding places_in
  looked_start from b = let e : from - from ≡ 0 = omega arith in sym (ap (λ (n : ℕ). looked c pool spots (places_in every from n) b) e ∙ looked-none b)

  pub looked-next : (from j : ℕ) → from ≤ j → (b : Best)
      → better c pool spots (looked c pool spots (places_in every from (j - from)) b) j ≡ looked c pool spots (places_in every from (j + 1 - from)) b
  looked-next from j h b =
      sym
      (ap (λ (l : List ℕ). looked c pool spots l b) (passed-more every from j h refl)
      ∙ looked-append (places_in every from (j - from)) (j ∷ []) b
      ∙ looked-one j (looked c pool spots (places_in every from (j - from)) b))

  -- nothing of a window, and one run more of it
  pub window_start : (low high : ℕ) (b : Best) → b ≡ looked c pool spots (window_places low high pool 0) b
  unfolding window_places places_in
  window_start low high b = sym (looked-none b)

  pub looked-run : (low high used i : ℕ) (r : Run) → NextRun pool used i (column_of low) (line_of low) (column_of high) (line_of high) r → (b : Best)
      → looked c pool spots (places_in every r.from (r.to - r.from)) (looked c pool spots (window_places low high pool i) b) ≡ looked c pool spots (window_places low high pool r.to) b
  unfolding window_places
  looked-run low high used i r n b =
      let test : ℕ → Bool = λ j. in_range low high (first pool j) in
      sym
      (ap (λ (l : List ℕ). looked c pool spots l b) (places_stretch test every i r.from r.to n.onward n.ends n.passed n.taken)
      ∙ looked-append (places_in test 0 i) (places_in every r.from (r.to - r.from)) b)
