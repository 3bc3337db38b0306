-- Assumes nothing.
use Rattle.basics.specs.Words.{refl}
use Rattle.basics.proofs.laws.NumberLaws.{not_zero}
use Rattle.box_tables.specs.Meaning.Tables.{tables}
use Rattle.box_set.proofs.Answers.{movable, refused, done}
use Rattle.box_set.proofs.Shifted.{place-asks, other_box_is}
use Rattle.box_set.proofs.set_aabb.Goals as goal

pub returns-in-Err : goal.returns-in-Err
returns-in-Err c =
    let a = c.args in
    rw c.number.ensures (refused (tables a.nums.now a.reals.now a.map.now a.pool.now) a.h a.b _ c.in-Err.ensures.answers (not_zero _))

pub place-requires : goal.place-requires
place-requires c =
    let a = c.args in
    let e = c.in-Ok.ensures in
    place-asks (movable (tables a.nums.now a.reals.now a.map.now a.pool.now) a.h a.b 0 e.answers a.h.slot refl refl) e.spans.0 e.spans.1

pub returns-in-Ok : goal.returns-in-Ok
returns-in-Ok c =
    let a = c.args in
    let e = c.in-Ok.ensures in
    let t = tables a.nums.now a.reals.now a.map.now a.pool.now in
    done t a.h a.b 0 e.answers a.h.slot refl refl _
    (other_box_is (movable t a.h a.b 0 e.answers a.h.slot refl refl) e.spans.0 e.spans.1 c.place.ensures.reals c.place.ensures.map c.place.ensures.pool)
