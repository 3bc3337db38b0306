-- Assumes nothing.
use Rattle.basics.specs.Words.{◌≡◌, subst, arith}
use Rattle.geometry.specs.declared.Aabb.{Aabb}
use Rattle.box_tables.specs.Inner.Way.{span_of, way_of}
use Rattle.box_tables.specs.Inner.Check.{BoxOk}
use Rattle.box_tables.proofs.Shared.{within_domain}
use Rattle.box_tables.proofs.laws.CornerLaws.{one_covers, one_way}
use Rattle.box_tables.proofs.way.live_way.Goals as goal

-- a box of one cell
pub returns-then-one_cell : goal.returns-then-one_cell
returns-then-one_cell c =
    let b = c.load_box-b.result in
    let a = c.args in
    let d = within_domain b _ c.aabb_in_domain.ensures c.if-not-aabb_in_domain.false in
    let t = c.one_cell.ensures c.if-one_cell.true in
    subst (λ (q : Aabb). BoxOk a.size q × (record { first = c.key_of-key.result; last = c.key_of-key.result; jump = 4294967296; item = c.item_of.result } ≡ way_of a.s (span_of a.size q))) c.load_box-b.ensures
    (record { within_domain = d; cells-most = omega (arith, one_covers a.size b d _ t.0 t.1) }, one_way a.size b d _ t.0 t.1 a.s c.key_of-key.result c.item_of.result c.key_of-key.ensures c.item_of.ensures)
