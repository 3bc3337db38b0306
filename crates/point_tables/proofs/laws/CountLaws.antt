-- The entries in use are as many as the objects. Assumes nothing.
-- Here: the laws.
use Rattle.basics.specs.Words.{◌≡◌, eq-eqb, eqb-true}
use Rattle.basics.specs.Inner.Counting.{count_below}
use Rattle.basics.proofs.laws.Counting.{named_count}
use Rattle.storage.specs.Meaning.Packed.{second}
use Rattle.point_tables.specs.Meaning.Tables.{Tables, used_of, slots_of}
use Rattle.point_tables.specs.Meaning.Holds.{Holds}
use Rattle.point_tables.specs.Inner.Count.{is_live}

pub live-count : (t : Tables) → Holds t → count_below (is_live t) (slots_of t) ≡ used_of t
live-count t h =
    named_count (used_of t) (is_live t) (slots_of t) (second t.pool)
    (record {
      inside = λ j l. (h.lists.each j l).inside;
      passes = λ j l. eq-eqb _ _ (h.lists.each j l).occupied;
      once = h.lists.once;
      every = λ s l e. h.lists.every s l (eqb-true _ _ e);
    })
