-- The circles that reach a row of cells, one after the other; and that a point of the row is in none of the others. Assumes nothing.
use Rattle.basics.specs.Words.{ℕ, ◌+◌, ◌<◌, ◌≡◌, sym, ap, ◌∙◌, subst, Bool, true, false, ◌&&◌, List, [], ◌∷◌, ◌++◌, append-nil, length, get_or, set, take}
use Rattle.basics.specs.Words.{take-suc, take-suc-set, leb, T, add-one, arith}
use lib.Ieee.{Float}
use Rattle.basics.proofs.laws.Says.{both_true}
use Rattle.geometry.specs.declared.Position.{Position}
use Rattle.geometry.specs.Meaning.Domain.{position_in_domain}
use Rattle.geometry.specs.Meaning.Circle.{in_circle, corner_below, corner_above}
use Rattle.cells.specs.Meaning.CellRule.{cell_at}
use Rattle.cells.specs.Meaning.Key.{upward, key_of}
use Rattle.cells.specs.Inner.Key.{column_of, line_of}
use Rattle.cells.specs.Inner.CellRule.{Reached}
use Rattle.cells.proofs.laws.CellRuleLaws.{cell-near}
use Rattle.cells.proofs.laws.Numbers.{Fits, near_fits}
use Rattle.cells.proofs.laws.ReachLaws.{position_reached, low_reached, high_reached}
use Rattle.cells.proofs.laws.RangeKeyLaws.{range_window}
use Rattle.cells.proofs.laws.Cover.{circle_cover}
use Rattle.storage.specs.Meaning.Keyed.{All, filter}
use Rattle.storage.proofs.laws.FilterLaws.{filter-append, filter_keep, filter_skip, all_map}
use Rattle.encoder_blocks.specs.Meaning.Blocks.{side}
use Rattle.encoder_points.specs.Meaning.Points.{centre_of, radius_of}
use Rattle.encoder_points.specs.Inner.Marks.{in_some}
use Rattle.encoder_points.specs.Inner.Near.{Fine, reaches, Chosen}
use Rattle.encoder_blocks.proofs.laws.HasLaws.{has_within}

-- ---- one more of a list is looked at, and of those before it the first n of `near` are the ones that pass
module _ {A : Type 0} (test : A → Bool) (l near : List A) (n k : ℕ) (d : A) (e : take n near ≡ filter test (take k l)) (h : k < length l) where
  looked : filter test (take (k + 1) l) ≡ take n near ++ filter test (get_or l k d ∷ [])
  looked =
      ap (λ (i : ℕ). filter test (take i l)) (add-one k)
      ∙ ap (filter test) (take-suc l k d h)
      ∙ filter-append test (take k l) (get_or l k d ∷ [])
      ∙ ap (λ (m : List A). m ++ filter test (get_or l k d ∷ [])) (sym e)

  pub chosen_one : n < length near → test (get_or l k d) ≡ true → take (n + 1) (set near n (get_or l k d)) ≡ filter test (take (k + 1) l)
  chosen_one room t =
      ap (λ (i : ℕ). take i (set near n (get_or l k d))) (add-one n)
      ∙ take-suc-set near n (get_or l k d) room
      ∙ sym (looked ∙ ap (λ (m : List A). take n near ++ m) (filter_keep test (get_or l k d) [] t))

  pub chosen_none : test (get_or l k d) ≡ false → take n near ≡ filter test (take (k + 1) l)
  chosen_none t = sym (looked ∙ ap (λ (m : List A). take n near ++ m) (filter_skip test (get_or l k d) [] t) ∙ append-nil (take n near))

-- ---- a point of the row
cell-fits : (p : Position) → Reached p → Fits (cell_at side p)
cell-fits p r = near_fits (cell_at side p) (cell-near side p r)

module _ (p : Position) (dp : T (position_in_domain p)) (line : ℕ) (at : line ≡ line_of (key_of (cell_at side p))) where
  -- a circle that holds it reaches its row
  holds-reaches : (c : List Float) → Fine c → in_circle p (centre_of c) (radius_of c) ≡ true → reaches line c ≡ true
  holds-reaches c (dc, dr) i =
      let low = corner_below (centre_of c) (radius_of c) in
      let high = corner_above (centre_of c) (radius_of c) in
      let a = cell_at side low in
      let b = cell_at side high in
      let fa = cell-fits low (low_reached (centre_of c) (radius_of c) dc dr) in
      let fb = cell-fits high (high_reached (centre_of c) (radius_of c) dc dr) in
      let fp = cell-fits p (position_reached p dp) in
      let column = column_of (key_of (cell_at side p)) in
      let row = line_of (key_of (cell_at side p)) in
      subst (λ n. (leb (upward a.y) n && leb n (upward b.y)) ≡ true) (sym at)
      (both_true (leb (upward a.x) column && leb column (upward b.x)) (leb (upward a.y) row && leb row (upward b.y))
      (sym (range_window a b (cell_at side p) fa fb fp) ∙ circle_cover side (omega arith) p (centre_of c) (radius_of c) dp dc dr i)).1

  near_enough : (circles : List (List Float)) → All Fine circles → in_some (filter (reaches line) circles) p ≡ in_some circles p
  near_enough circles f =
      has_within (λ c. in_circle p (centre_of c) (radius_of c)) (reaches line) circles
      (all_map Fine (λ c. in_circle p (centre_of c) (radius_of c) ≡ true → reaches line c ≡ true) holds-reaches circles f)

  pub chosen_enough : (circles near : List (List Float)) (few : ℕ) → All Fine circles → Chosen circles line near few → in_some (take few near) p ≡ in_some circles p
  chosen_enough circles near few f c = ap (λ (l : List (List Float)). in_some l p) c.those ∙ near_enough circles f
