-- What the work of an insert asks of its calls, and what they leave, put together. Assumes nothing.
use Rattle.basics.specs.Words.{ℕ, ◌+◌, ◌≤◌, ◌≡◌, sym, ap, subst, List, [], ◌∷◌, length, set, take, eqb, arith}
use lib.Ieee.{Float}
use Rattle.geometry.specs.declared.Aabb.{Aabb}
use Rattle.cells.specs.Inner.Numbers.{Near}
use Rattle.cells.specs.Meaning.Range.{cells_in}
use Rattle.slots.specs.Meaning.Map.{taken}
use Rattle.slots.specs.Meaning.Slot.{live, version_at}
use Rattle.storage.specs.Inner.Keyed.{Sorted}
use Rattle.storage.specs.Meaning.Keyed.{written}
use Rattle.storage.specs.Meaning.Entries.{row_key}
use Rattle.box_cover.specs.Meaning.Coverage.{entered_all}
use Rattle.box_tables.specs.Meaning.Tables.{Tables, tables, size_of, used_of, counting, item_of, corners_of}
use Rattle.box_tables.specs.Inner.Way.{span_of}
use Rattle.box_tables.proofs.laws.BoxLaws.{low_near, high-near}
use Rattle.box_tables.proofs.laws.HoldsLaws.{entries_sorted}
use Rattle.box_tables.specs.declared.Span.{Span}
use Rattle.box_insert.specs.Meaning.Insert.{put}
use Rattle.box_insert.specs.Inner.Fresh.{Fresh}

module _ (t : Tables) (s : ℕ) (b : Aabb) (f : Fresh t s b) (p : Span) (ep : p ≡ span_of (size_of t) b) where
  pub enter_asks : (used_of t + cells_in p.low p.high ≤ length t.pool) × Sorted row_key (take (used_of t) t.pool) × Near p.low × Near p.high
  enter_asks = (
    omega (arith, ap (λ (q : Span). cells_in q.low q.high) ep, f.room),
    entries_sorted t f.holds,
    subst (λ (q : Span). Near q.low) (sym ep) (low_near b f.within_domain (size_of t)),
    subst (λ (q : Span). Near q.high) (sym ep) (high-near b f.within_domain (size_of t)),
  )

  pub few-more : used_of t + p.cells ≤ 8192
  few-more = omega (arith, ap (λ (q : Span). q.cells) ep, f.room, f.holds.sized.pool-most)

  -- ---- the exit tables, by what each call ensures
  pub put_is : (d i : ℕ) (ns : List (List ℕ)) (qs : List (List Float)) (m : List ℕ) (pool : List (List ℕ))
      → i ≡ item_of s (eqb p.cells 1)
      → ns ≡ set t.nums s (version_at t.nums s ∷ live ∷ d ∷ 0 ∷ [])
      → qs ≡ set t.reals s (corners_of b)
      → pool ≡ written (entered_all p.low p.high i (take (used_of t) t.pool)) t.pool
      → m ≡ counting (taken t.map s) (used_of t + p.cells)
      → tables ns qs m pool ≡ put t s b d
  unfolding put
  put_is d i ns qs m pool ei e1 e2 e3 e4 = cc
