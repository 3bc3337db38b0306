-- The counts of the slots below a place, with one slot more, whose rows and tag were read. Assumes nothing.
use Rattle.basics.specs.Words.{ℕ, ◌+◌, ◌≤◌, ◌≡◌, refl, ◌∙◌, ap, ap₂, Bool, List, [], get_or, eqb, add-one}
use lib.Ieee.{Float}
use Rattle.basics.specs.Meaning.Refusals.{pick}
use Rattle.slots.specs.Meaning.Slot.{live, phase_at}
use Rattle.point_records.specs.Meaning.Word.{tag_in, tag_at}
use Rattle.point_records.specs.Meaning.States.{is_removed}
use Rattle.point_maintain.specs.Meaning.Moved.{has_moved}
use Rattle.point_maintain_slots.specs.Inner.Counts.{columns, moved_in, removed_in, one_moved, one_removed}
use Rattle.point_maintain_slots.proofs.laws.CountsLaws.{by_tag, count_most}

module _ (nums : List (List ℕ)) (reals : List (List Float)) (i : ℕ) {row : List ℕ} {tag m n : ℕ} (er : row ≡ get_or nums i []) (et : tag ≡ tag_in row) where
  pub moved-next : {q : List Float} → q ≡ get_or reals i [] → m ≡ moved_in (columns nums reals) i → n ≡ one_moved (get_or row 1 0) tag q → m + n ≡ moved_in (columns nums reals) (i + 1)
  moved-next eq a b = rw (add-one i) (ap₂ ◌+◌ a (b ∙ (λ z. one_moved (get_or (er z) 1 0) (et z) (eq z)) ∙ ap (λ (r : List ℕ). one_moved (phase_at nums i) (tag_in r) (get_or reals i [])) er))

  pub removed-next : m ≡ removed_in (columns nums reals) i → n ≡ one_removed (get_or row 1 0) tag → m + n ≡ removed_in (columns nums reals) (i + 1)
  removed-next a b =
      let same = by_tag is_removed _ _ _ _ refl refl (tag_at nums i) in
      rw (add-one i)
      (ap₂ ◌+◌ a
      (b ∙ (λ z. one_removed (get_or (er z) 1 0) (et z)) ∙ ap (λ (r : List ℕ). one_removed (phase_at nums i) (tag_in r)) er
      ∙ ap (λ (r : Bool). pick (eqb (phase_at nums i) live) (pick r 1 0) 0) same))

module _ (nums : List (List ℕ)) (reals : List (List Float)) (n : ℕ) where
  pub moved-most : moved_in (columns nums reals) n ≤ n
  moved-most = count_most has_moved (columns nums reals) n

  pub removed-most : removed_in (columns nums reals) n ≤ n
  removed-most = count_most (λ r. is_removed r.state) (columns nums reals) n
