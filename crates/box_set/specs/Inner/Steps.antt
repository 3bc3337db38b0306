-- What the steps of the code are asked for and give. Assumes nothing.
-- Here: what only inner contracts cite.
use Rattle.std.specs.Prelude.{◌+◌, ◌<◌, ◌≤◌, ◌≡◌, Float, Result, IfOk}
use Rattle.basics.specs.Words.{ℕ, Bool, List, length, get_or, take, eqb}
use Rattle.basics.specs.Meaning.Limits.{most_boxes, most_entries, most_cells}
use Rattle.basics.specs.declared.Refusal.{Refusal}
use Rattle.basics.specs.Meaning.Answers.{answer_of}
use Rattle.basics.specs.Meaning.Says.{said}
use Rattle.basics.specs.Meaning.Refusals.{pick}
use Rattle.geometry.specs.declared.Aabb.{Aabb}
use Rattle.cells.specs.Inner.Numbers.{Near}
use Rattle.cells.specs.Meaning.Range.{cells_in}
use Rattle.slots.specs.declared.Handle.{Handle}
use Rattle.storage.specs.Inner.Keyed.{Sorted}
use Rattle.storage.specs.Meaning.Keyed.{written}
use Rattle.storage.specs.Meaning.Entries.{row_key}
use Rattle.box_cover.specs.Meaning.Coverage.{entered_all, left_all, Stands}
use Rattle.box_tables.specs.Meaning.Tables.{Tables, counting, aabb_at, item_of}
use Rattle.box_tables.specs.declared.Span.{Span}
use Rattle.box_tables.specs.Inner.Way.{span_of}
use Rattle.box_set.specs.declared.Change.{Change}
use Rattle.box_set.specs.Meaning.SetAabb.{d_stay, set_aabb_answer}

-- ---- a box of slot s goes from the cells of p to those of q
abbrev pub item_in : ℕ → Span → ℕ
item_in s p = item_of s (eqb p.cells 1)

abbrev pub left_in : ℕ → Span → List (List ℕ) → List (List ℕ)
left_in s p rows = left_all p.low p.high (item_in s p) rows

abbrev pub shifted_rows : ℕ → Span → Span → List (List ℕ) → List (List ℕ)
shifted_rows s p q rows = entered_all q.low q.high (item_in s q) (left_in s p rows)

abbrev pub stay_in : Span → Span → Bool
stay_in p q = said (d_stay p.low p.high q.low q.high)

module _ (s : ℕ) (p q : Span) (map : List ℕ) (pool : List (List ℕ)) where
  abbrev pub shifted_map : List ℕ
  shifted_map = counting map (length (shifted_rows s p q (take (get_or map 1 0) pool)))

  abbrev pub shifted_pool : List (List ℕ)
  shifted_pool = written (shifted_rows s p q (take (get_or map 1 0) pool)) (written (left_in s p (take (get_or map 1 0) pool)) pool)

  -- only if a corner cell changes
  abbrev pub relisted_map : List ℕ
  relisted_map = pick (stay_in p q) map shifted_map

  abbrev pub relisted_pool : List (List ℕ)
  relisted_pool = pick (stay_in p q) pool shifted_pool

pub record Shifting (map : List ℕ) (pool : List (List ℕ)) (s : ℕ) (p q : Span) : Type 0 where
  pub small : s < most_boxes
  pub heads : 3 ≤ length map
  pub used-most : get_or map 1 0 ≤ length pool
  pub pool-most : length pool ≤ most_entries
  pub sorted : Sorted row_key (take (get_or map 1 0) pool)
  pub old_low : Near p.low
  pub old_high : Near p.high
  pub new-low : Near q.low
  pub new-high : Near q.high
  pub stands : Stands p.low p.high (item_in s p) (take (get_or map 1 0) pool)
  pub cells : q.cells ≡ cells_in q.low q.high
  pub few : q.cells ≤ most_cells
  pub room : get_or map 1 0 + cells_in q.low q.high ≤ length pool + cells_in p.low p.high

-- ---- the ranges of the box of slot s and of box b
abbrev pub old_span : List (List Float) → List ℕ → ℕ → Span
old_span reals map s = span_of (get_or map 0 0) (aabb_at reals s)

abbrev pub new_span : List ℕ → Aabb → Span
new_span map b = span_of (get_or map 0 0) b

-- what the tests give: both ranges, or the first refusal that applies
pub record Judged (t : Tables) (h : Handle) (b : Aabb) (r : Result Change Refusal) : Type 0 where
  pub answers : answer_of r ≡ set_aabb_answer t h b
  pub spans : IfOk r (λ c. (c.old ≡ old_span t.reals t.map h.slot) × (c.new ≡ new_span t.map b))
