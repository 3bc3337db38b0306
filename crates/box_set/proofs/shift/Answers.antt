-- Assumes nothing.
use Rattle.basics.specs.Words.{refl}
use Rattle.box_set.proofs.Shifted.{enter_asks, map-after}
use Rattle.box_set.proofs.shift.Goals as goal

pub enter-requires : goal.enter-requires
enter-requires c = enter_asks c.requires refl c.item_of-old.ensures c.leave-left.ensures

pub returns-clause-map : goal.returns-clause-map
returns-clause-map c = map-after c.requires refl c.item_of-old.ensures c.leave-left.ensures refl
