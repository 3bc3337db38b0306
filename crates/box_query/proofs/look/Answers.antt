-- Assumes nothing.
use Rattle.basics.specs.Words.{sym, ◌∙◌, ap, refl, subst, T, arith}
use Rattle.cells.specs.Meaning.Key.{key_of}
use Rattle.box_tables.specs.declared.Span.{Span}
use Rattle.box_tables.specs.Meaning.Tables.{tables}
use Rattle.box_tables.specs.Meaning.Decide.{holds_says}
use Rattle.box_tables.proofs.laws.HoldsLaws.{entries_sorted}
use Rattle.box_search.proofs.laws.WalkLaws.{slots-few}
use Rattle.box_query.proofs.laws.LookLaws.{looked_3, looked_6, looked_7, looked_0}
use Rattle.box_query.proofs.look.Goals as goal

pub returns-then-not-held : goal.returns-then-not-held
returns-then-not-held c =
    let a = c.args in
    looked_3 (tables a.nums.now a.reals.now a.map.now a.pool.now) a.q a.found.now c.requires _ refl (sym c.check-held.ensures ∙ c.if-not-held.true)

pub returns-then-not-aabb_in_domain : goal.returns-then-not-aabb_in_domain
returns-then-not-aabb_in_domain c =
    let a = c.args in
    looked_6 (tables a.nums.now a.reals.now a.map.now a.pool.now) a.q a.found.now c.requires _ refl (sym c.check-held.ensures ∙ c.if-not-held.false) (sym c.aabb_in_domain.ensures ∙ c.if-not-aabb_in_domain.true)

pub returns-then-span-gt-MOST_CELLS : goal.returns-then-span-gt-MOST_CELLS
returns-then-span-gt-MOST_CELLS c =
    let a = c.args in
    looked_7 (tables a.nums.now a.reals.now a.map.now a.pool.now) a.q a.found.now c.requires _ refl (sym c.check-held.ensures ∙ c.if-not-held.false) (sym c.aabb_in_domain.ensures ∙ c.if-not-aabb_in_domain.false)
    (omega (arith, ap (λ (p : Span). p.cells) c.span_of-span.ensures, c.if-span-gt-MOST_CELLS.true))

pub bounds-map-0 : goal.bounds-map-0
bounds-map-0 c =
    let a = c.args in
    omega (arith, ((holds_says (tables a.nums.now a.reals.now a.map.now a.pool.now)).yes (sym c.check-held.ensures ∙ c.if-not-held.false)).sized.of_map)

pub bounds-map-1 : goal.bounds-map-1
bounds-map-1 c =
    let a = c.args in
    omega (arith, ((holds_says (tables a.nums.now a.reals.now a.map.now a.pool.now)).yes (sym c.check-held.ensures ∙ c.if-not-held.false)).sized.of_map)

pub span_of-span-requires : goal.span_of-span-requires
span_of-span-requires c =
    let a = c.args in
    (((holds_says (tables a.nums.now a.reals.now a.map.now a.pool.now)).yes (sym c.check-held.ensures ∙ c.if-not-held.false)).counted.size, subst T (sym (sym c.aabb_in_domain.ensures ∙ c.if-not-aabb_in_domain.false)) tt)

pub gather-n-requires : goal.gather-n-requires
gather-n-requires c =
    let a = c.args in
    let t = tables a.nums.now a.reals.now a.map.now a.pool.now in
    let h = (holds_says t).yes (sym c.check-held.ensures ∙ c.if-not-held.false) in
    (h.counted.used-most, entries_sorted t h, slots-few t h, c.requires)

pub returns : goal.returns
returns c =
    let a = c.args in
    let g = c.gather-n.ensures in
    looked_0 (tables a.nums.now a.reals.now a.map.now a.pool.now) a.q _ g.2 c.gather-n.result c.key_of-low.result c.key_of-high.result _ g.0 (sym c.check-held.ensures ∙ c.if-not-held.false) (sym c.aabb_in_domain.ensures ∙ c.if-not-aabb_in_domain.false)
    (omega (arith, ap (λ (p : Span). p.cells) c.span_of-span.ensures, c.if-span-gt-MOST_CELLS.false))
    (c.key_of-low.ensures ∙ ap (λ (p : Span). key_of p.low) c.span_of-span.ensures) (c.key_of-high.ensures ∙ ap (λ (p : Span). key_of p.high) c.span_of-span.ensures) refl g.1
