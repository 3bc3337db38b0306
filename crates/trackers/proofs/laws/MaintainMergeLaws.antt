-- Between two maintains: two merges that keep each tracker's own order are alike, and the next maintain leaves
-- the same tables after each of them, in whatever order it visits the cells. Assumes nothing.
use Rattle.basics.specs.Words.{ℕ, ◌≡◌, sym, ap, ◌∙◌, List}
use Rattle.point_tables.specs.Meaning.Tables.{Tables}
use Rattle.point_tables.specs.Meaning.Holds.{Holds}
use Rattle.point_tables.specs.Meaning.Outcome.{Outcome}
use Rattle.point_deferred.specs.Meaning.Calls.{Call, tables_after}
use Rattle.point_deferred.proofs.laws.MovesKeeps.{calls_keep}
use Rattle.point_maintain.specs.declared.Maintained.{Maintained}
use Rattle.point_maintain.specs.Meaning.Maintain.{maintained_by, maintained, maintain_of}
use Rattle.point_maintain.proofs.laws.Closed.{Order}
use Rattle.point_maintain.proofs.laws.CellOrderLaws.{table-order}
use Rattle.point_maintain.proofs.laws.SettledForm.{any_order}
use Rattle.point_maintain.proofs.laws.MaintainLaws.{maintain-done, maintain-accepted, maintain_keeps}
use Rattle.trackers.specs.Meaning.Merges.{SameOrders, Alike}
use Rattle.trackers.proofs.laws.MergeLaws.{any_merge}

module _ (m n : List Call) (e : SameOrders m n) where
  -- ---- the next maintain: the same counts and tables
  pub same-maintain : (t : Tables) → maintain_of (tables_after t m) ≡ maintain_of (tables_after t n)
  same-maintain t = ap maintain_of (any_merge t m n e).tables

  -- and the same tables if the cells are visited in any order that has every dirty cell once
  module _ (t : Tables) (h : Holds t) where
    pub any_merge_any_order : (ks ls : List ℕ) → Order ks (tables_after t m) → Order ls (tables_after t n)
        → maintained_by ks (tables_after t m) ≡ maintained_by ls (tables_after t n)
    any_merge_any_order ks ls o p =
        let a = (any_merge t m n e).tables in
        let g = calls_keep t n h in
        ap (maintained_by ks) a ∙ any_order (tables_after t n) g ks ls (rw a at o) p

    -- which are the tables that maintain leaves
    pub any_merge_maintain : (ks : List ℕ) → Order ks (tables_after t m) → maintained_by ks (tables_after t m) ≡ (maintain_of (tables_after t n)).after
    unfolding maintained
    any_merge_maintain ks o =
        let g = calls_keep t n h in
        any_merge_any_order ks _ o (table-order (tables_after t n) g) ∙ sym (ap (λ (w : Outcome Maintained). w.after) (maintain-done (tables_after t n) g))

  -- ---- right after an accepted maintain: the tables hold a grid, and all of the above is said of them
  pub record SinceMaintain (t : Tables) : Type 0 where
    pub holds : Holds (maintain_of t).after
    pub alike : Alike (maintain_of t).after m n
    pub next : (ks : List ℕ) → Order ks (tables_after (maintain_of t).after m)
        → maintained_by ks (tables_after (maintain_of t).after m) ≡ (maintain_of (tables_after (maintain_of t).after n)).after

  pub since_maintain : (t : Tables) → (maintain_of t).result.answer ≡ 0 → SinceMaintain t
  since_maintain t a =
      let g = maintain_keeps t (maintain-accepted t a) in
      record { holds = g; alike = any_merge (maintain_of t).after m n e; next = any_merge_maintain (maintain_of t).after g }
