-- What looking for the boxes of a range comes to, before it is known whether the outputs have room. Assumes nothing.
use Rattle.std.specs.Prelude.{◌≤◌, ◌≡◌}
use Rattle.basics.specs.Words.{ℕ, List, length, take}
use Rattle.basics.specs.Meaning.Limits.{most_boxes}
use Rattle.geometry.specs.declared.Aabb.{Aabb}
use Rattle.box_tables.specs.Meaning.Tables.{Tables}
use Rattle.replies.specs.declared.Count.{Count}
use Rattle.box_search.specs.Meaning.Search.{broad}
use Rattle.box_query.specs.Meaning.Queries.{look_answer}

-- nothing needs no room: the answers 3, 6 and 7
abbrev pub early_of : Tables → Aabb → ℕ
early_of t q = look_answer t q 0 0

-- r is the refusal; or the number of the boxes, whose slots are the first of `found`
pub record Looked (t : Tables) (q : Aabb) (r : Count) (found : List ℕ) : Type 0 where
  pub size : length found ≡ most_boxes
  pub answered : r.answer ≡ early_of t q
  pub none : (r.answer ≡ 0 → ⊥) → r.count ≡ 0
  pub most : r.count ≤ most_boxes
  pub slots : r.answer ≡ 0 → take r.count found ≡ broad t q
