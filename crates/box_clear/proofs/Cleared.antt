-- `clear` by its tests, in the words of the code's goals: what its steps ask, and its outcome either way. Assumes nothing.
use Rattle.basics.specs.Words.{ℕ, ◌+◌, ◌<◌, ◌≤◌, min, ◌≡◌, true, false, List, map, length, le-leb, lt-leb, arith}
use lib.Ieee.{Float}
use Rattle.slots.specs.Meaning.Map.{words_for}
use Rattle.storage.specs.Meaning.Keyed.{written}
use Rattle.slot_walks.specs.Meaning.Live.{live_from, obj_at}
use Rattle.slot_walks.specs.Meaning.Cleared.{cleared_rows, cleared_map}
use Rattle.box_tables.specs.Meaning.Tables.{Tables, tables, counting}
use Rattle.box_tables.specs.Meaning.Decide.{holds, holds_says}
use Rattle.box_tables.specs.Meaning.Outcome.{outcome}
use Rattle.box_get.specs.Meaning.Live.{live_slots}
use Rattle.box_clear.specs.Meaning.Clear.{box_at, cleared, wrote, clear_of}
use Rattle.box_clear.specs.Inner.Clear.{Room}
use Rattle.replies.specs.Meaning.Replies.{count}

module _ (ns : List (List ℕ)) (qs : List (List Float)) (m : List ℕ) (pool : List (List ℕ)) where
  abbrev t : Tables
  t = tables ns qs m pool

  pub few : holds t ≡ true → length ns ≤ 4096
  few e = omega (arith, ((holds_says t).yes e).sized.most)

  pub map_long : holds t ≡ true → length m ≡ 3 + words_for (length ns)
  map_long e = ((holds_says t).yes e).sized.of_map

  module _ (boxes : List (List Float)) (objs : List ℕ) where
    pub no_grid : holds t ≡ false → outcome (wrote (count 3 0) boxes objs) t ≡ clear_of t boxes objs
    unfolding clear_of
    no_grid e = rw e

    module _ (n : ℕ) (q : n ≡ length (live_from 0 ns)) (e : holds t ≡ true) where
      pub short : min (length boxes) (length objs) < n → outcome (wrote (count 9 n) boxes objs) t ≡ clear_of t boxes objs
      unfolding clear_of live_slots
      short l = rw (q, e, lt-leb (length (live_from 0 ns)) (min (length boxes) (length objs)) (omega (arith, q)))

      module _ (l : n ≤ min (length boxes) (length objs)) where
        pub room : Room ns qs boxes objs
        room = let g = (holds_says t).yes e in (g.sized.of_reals, g.sized.most, omega (arith, q), omega (arith, q))

        pub done : (ns' : List (List ℕ)) (m' : List ℕ) (boxes' : List (List Float)) (objs' : List ℕ)
            → boxes' ≡ written (map (box_at qs) (live_from 0 ns)) boxes → objs' ≡ written (map (obj_at ns) (live_from 0 ns)) objs
            → ns' ≡ cleared_rows ns → m' ≡ counting (cleared_map 0 ns m) 0
            → outcome (wrote (count 0 n) boxes' objs') (tables ns' qs m' pool) ≡ clear_of t boxes objs
        unfolding clear_of live_slots cleared
        done ns' m' boxes' objs' a b c d = rw (a, b, c, d, q, e, le-leb (length (live_from 0 ns)) (min (length boxes) (length objs)) (omega (arith, q)))

pub ruleset clearing = (few, map_long, no_grid, short, room)
