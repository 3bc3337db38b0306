-- `clear` by its tests, in the words of the code's goals: what its steps ask, and its outcome either way. Assumes nothing.
use Rattle.basics.specs.Words.{ℕ, ◌+◌, ◌<◌, ◌≤◌, min, ◌≡◌, sym, true, false, List, length, get_or, ℤ, arith}
use lib.Ieee.{Float}
use Rattle.slots.specs.Meaning.Map.{words_for}
use Rattle.storage.specs.Meaning.Keyed.{written}
use Rattle.point_tables.specs.Meaning.Tables.{Tables, tables, counting}
use Rattle.point_tables.specs.Meaning.Decide.{holds, holds_says}
use Rattle.point_tables.specs.Meaning.Outcome.{outcome}
use Rattle.slot_walks.specs.Meaning.Live.{live_from}
use Rattle.slot_walks.specs.Meaning.Cleared.{cleared_rows, cleared_map}
use Rattle.point_clear.specs.Meaning.Clear.{live_slots, cleared, wrote, clear_of}
use Rattle.point_clear.proofs.laws.LiveLaws.{live-used}
use Rattle.point_clear.proofs.laws.ClearLaws.{clear_unheld, clear-short, clear-done}
use Rattle.point_clear.specs.Inner.{places_of, objs_of, Room}
use Rattle.replies.specs.Meaning.Replies.{count}

module _ (ns : List (List ℕ)) (qs : List (List Float)) (zs : List (List ℤ)) (m : List ℕ) (pool : List (List ℕ)) (spots : List (List Float)) (cells : List (List ℕ)) where
  abbrev t : Tables
  t = tables ns qs zs m pool spots cells

  -- both counts fit, so that the edit that returns that of the cells fails at what is returned
  pub few : holds t ≡ true → (2 < length m) × (get_or m 1 0 ≤ 4096) × (get_or m 2 0 ≤ 4096)
  few e =
      let g = (holds_says t).yes e in
      (omega (arith, g.sized.of_map), omega (arith, g.counted.used-most, g.sized.most), omega (arith, g.counted.rows-most, g.sized.most))

  pub map_long : holds t ≡ true → length m ≡ 3 + words_for (length ns)
  map_long e = ((holds_says t).yes e).sized.of_map

  module _ (places : List (List Float)) (objs : List (List ℕ)) where
    pub no_grid : holds t ≡ false → outcome (wrote (count 3 0) places objs) t ≡ clear_of t places objs
    no_grid e = sym (clear_unheld t places objs e)

    module _ (e : holds t ≡ true) where
      as_many : length (live_from 0 ns) ≡ get_or m 1 0
      unfolding live_slots
      as_many = live-used t ((holds_says t).yes e)

      pub short : min (length places) (length objs) < get_or m 1 0 → outcome (wrote (count 9 (get_or m 1 0)) places objs) t ≡ clear_of t places objs
      unfolding live_slots
      short l = rw (← as_many) (sym (clear-short t places objs e (omega (arith, as_many))))

      module _ (l : get_or m 1 0 ≤ min (length places) (length objs)) where
        pub room : Room ns qs places objs
        room = let g = (holds_says t).yes e in (g.sized.of_reals, g.sized.most, omega (arith, as_many), omega (arith, as_many))

        pub done : (ns' : List (List ℕ)) (m' : List ℕ) (places' : List (List Float)) (objs' : List (List ℕ))
            → places' ≡ written (places_of qs (live_from 0 ns)) places → objs' ≡ written (objs_of ns (live_from 0 ns)) objs
            → ns' ≡ cleared_rows ns → m' ≡ counting (cleared_map 0 ns m) 0 0
            → outcome (wrote (count 0 (get_or m 1 0)) places' objs') (tables ns' qs zs m' pool spots cells) ≡ clear_of t places objs
        unfolding live_slots cleared
        done ns' m' places' objs' a b c d = rw (a, b, c, d, ← as_many) (sym (clear-done t places objs e (omega (arith, as_many)) (omega (arith, as_many))))

pub ruleset clearing = (few, map_long, no_grid, short, room)
