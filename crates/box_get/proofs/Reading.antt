-- The reading calls in the words of the code's goals. Assumes nothing.
use Rattle.basics.specs.Words.{ℕ, ◌<◌, ◌≤◌, ◌≡◌, sym, ap, ◌∙◌, true, false, List, length, le-leb, lt-leb, arith}
use lib.Ieee.{Float}
use Rattle.basics.proofs.laws.AnswerLaws.{one_refuses}
use Rattle.basics.specs.declared.Refusal.{Refusal}
use Rattle.basics.specs.Meaning.Answers.{number_of}
use Rattle.geometry.specs.Meaning.Zero.{zero-aabb}
use Rattle.slots.specs.declared.Handle.{Handle}
use Rattle.slots.specs.Meaning.Slot.{handle_refusal}
use Rattle.slots.proofs.laws.HandleLaws.{good_says, not_refused}
use Rattle.storage.specs.Meaning.Keyed.{written}
use Rattle.slot_walks.specs.Meaning.Live.{live_from, handles_in}
use Rattle.box_tables.specs.Meaning.Tables.{Tables, tables, aabb_on, obj_on}
use Rattle.box_tables.specs.Meaning.Decide.{holds, holds_says}
use Rattle.box_get.specs.Meaning.Live.{live_slots}
use Rattle.box_get.specs.Meaning.Reads.{got, listing, get_tests, get_of, len_of, handles_of}
use Rattle.box_get.proofs.laws.ReadsLaws.{get_3, get_0, len_3, len_0}
use Rattle.replies.specs.Meaning.Replies.{count}

module _ (ns : List (List ℕ)) (qs : List (List Float)) (m : List ℕ) (pool : List (List ℕ)) where
  abbrev t : Tables
  t = tables ns qs m pool

  -- ---- get
  module _ (h : Handle) where
    pub no_grid : holds t ≡ false → got 3 zero-aabb 0 ≡ get_of t h
    no_grid e = get_3 t h e

    module _ (e : holds t ≡ true) where
      pub bad_handle : (why : Refusal) → number_of why ≡ handle_refusal ns h → got (number_of why) zero-aabb 0 ≡ get_of t h
      unfolding get_of
      bad_handle why q = one_refuses (get_tests t h) _ (λ a. got a zero-aabb 0) why (rw e q)

      module _ (z : 0 ≡ handle_refusal ns h) where
        pub inside : (h.slot < length ns) × (h.slot < length qs)
        inside =
            let i = ((good_says ns h.slot h.version).yes (not_refused ns h (sym z))).0 in
            (i, rw ((holds_says t).yes e).sized.of_reals i)

        pub found : got 0 (aabb_on t h.slot) (obj_on t h.slot) ≡ get_of t h
        found = get_0 t h e (not_refused ns h (sym z))

  -- ---- len and handles
  pub len_no : holds t ≡ false → count 3 0 ≡ len_of t
  len_no e = len_3 t e

  pub few : holds t ≡ true → length ns ≤ 4096
  few e = omega (arith, ((holds_says t).yes e).sized.most)

  module _ (n : ℕ) (q : n ≡ length (live_from 0 ns)) where
    pub len_is : holds t ≡ true → count 0 n ≡ len_of t
    unfolding live_slots
    len_is e = ap (count 0) q ∙ len_0 t e

    module _ (out : List (List ℕ)) (e : holds t ≡ true) where
      pub short : length out < n → listing (count 9 n) out ≡ handles_of t out
      unfolding handles_of live_slots
      short l = rw (q, e, lt-leb (length (live_from 0 ns)) (length out) (omega (arith, q)))

      module _ (l : n ≤ length out) where
        pub put_asks : (length ns ≤ 4096) × (length (live_from 0 ns) ≤ length out)
        put_asks = (few e, omega (arith, q))

        pub listed : (out' : List (List ℕ)) → out' ≡ written (handles_in ns) out → listing (count 0 n) out' ≡ handles_of t out
        unfolding handles_of live_slots
        listed out' w = rw (w, q, e, le-leb (length (live_from 0 ns)) (length out) (omega (arith, q)))

  pub handles_no : (out : List (List ℕ)) → holds t ≡ false → listing (count 3 0) out ≡ handles_of t out
  unfolding handles_of
  handles_no out e = rw e

pub ruleset getting = (no_grid, bad_handle, inside, found)

pub ruleset counting = (len_no, few, len_is)

pub ruleset naming = (handles_no, few, short, put_asks, listed)
