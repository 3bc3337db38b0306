-- The reading calls in the words of the code's goals. Assumes nothing.
use Rattle.basics.specs.Words.{ℕ, ◌<◌, ◌≤◌, ◌≡◌, sym, ap, ◌∙◌, true, false, List, length, get_or, ℤ, arith}
use lib.Ieee.{Float}
use Rattle.basics.proofs.laws.AnswerLaws.{one_refuses}
use Rattle.basics.specs.declared.Refusal.{Refusal}
use Rattle.basics.specs.Meaning.Answers.{number_of}
use Rattle.geometry.specs.Meaning.Zero.{zero-position}
use Rattle.slots.specs.declared.Handle.{Handle}
use Rattle.slots.specs.Meaning.Slot.{handle_refusal}
use Rattle.slots.proofs.laws.HandleLaws.{not_refused}
use Rattle.storage.specs.Meaning.Keyed.{written}
use Rattle.slot_walks.specs.Meaning.Live.{live_from, handles_in}
use Rattle.point_records.specs.Meaning.Word.{tracker_at}
use Rattle.point_tables.specs.Meaning.Tables.{Tables, tables, record_on}
use Rattle.point_tables.specs.Meaning.Decide.{holds, holds_says}
use Rattle.point_get.specs.Meaning.{got, listing, get_tests, get_of, live_handles, len_of, handles_of}
use Rattle.point_get.proofs.laws.ReadsLaws.{good-inside, get_3, get_0, len_3, len_0, handles_3, handles_9, handles_0}
use Rattle.point_get.proofs.laws.LenLaws.{len-live, len-used}
use Rattle.replies.specs.Meaning.Replies.{count}

module _ (ns : List (List ℕ)) (qs : List (List Float)) (zs : List (List ℤ)) (m : List ℕ) (pool : List (List ℕ)) (spots : List (List Float)) (cells : List (List ℕ)) where
  abbrev t : Tables
  t = tables ns qs zs m pool spots cells

  -- ---- get
  module _ (h : Handle) where
    pub no_grid : holds t ≡ false → got 3 zero-position 0 0 ≡ get_of t h
    no_grid e = get_3 t h e

    module _ (e : holds t ≡ true) where
      pub bad_handle : (why : Refusal) → number_of why ≡ handle_refusal ns h → got (number_of why) zero-position 0 0 ≡ get_of t h
      unfolding get_of
      bad_handle why q = one_refuses (get_tests t h) _ (λ a. got a zero-position 0 0) why (rw e q)

      module _ (z : 0 ≡ handle_refusal ns h) where
        pub inside : (h.slot < length ns) × (h.slot < length qs)
        inside =
            let i = good-inside t h (not_refused ns h (sym z)) in
            (i, rw ((holds_says t).yes e).sized.of_reals i)

        pub found : (k : ℕ) → k ≡ tracker_at ns h.slot → got 0 (record_on t h.slot).position (record_on t h.slot).obj k ≡ get_of t h
        found k q = ap (got 0 (record_on t h.slot).position (record_on t h.slot).obj) q ∙ get_0 t h e (not_refused ns h (sym z))

  -- ---- len and handles
  pub len_no : holds t ≡ false → count 3 0 ≡ len_of t
  len_no e = len_3 t e

  -- both counts fit, so that the edit that counts cells fails at what is returned
  pub few : holds t ≡ true → (2 < length m) × (get_or m 1 0 ≤ 4096) × (get_or m 2 0 ≤ 4096) × (length ns ≤ 4096)
  few e =
      let g = (holds_says t).yes e in
      (omega (arith, g.sized.of_map), omega (arith, g.counted.used-most, g.sized.most), omega (arith, g.counted.rows-most, g.sized.most), g.sized.most)

  pub len_is : holds t ≡ true → count 0 (get_or m 1 0) ≡ len_of t
  len_is e = ap (count 0) (sym (len-used t ((holds_says t).yes e))) ∙ len_0 t e

  module _ (out : List (List ℕ)) where
    pub handles_no : holds t ≡ false → listing (count 3 0) out ≡ handles_of t out
    handles_no e = handles_3 t out e

    module _ (e : holds t ≡ true) where
      pub short : length out < get_or m 1 0 → listing (count 9 (get_or m 1 0)) out ≡ handles_of t out
      short l = let n = len-used t ((holds_says t).yes e) in rw (← n) (handles_9 t out e (omega arith))

      module _ (l : get_or m 1 0 ≤ length out) where
        pub put_asks : (length ns ≤ 4096) × (length (live_from 0 ns) ≤ length out)
        put_asks = let g = (holds_says t).yes e in (g.sized.most, omega (arith, len-live t, len-used t g))

        pub listed : (out' : List (List ℕ)) → out' ≡ written (handles_in ns) out → listing (count 0 (get_or m 1 0)) out' ≡ handles_of t out
        unfolding live_handles
        listed out' q = let n = len-used t ((holds_says t).yes e) in rw (q, ← n) (handles_0 t out e (omega arith))

pub ruleset getting = (no_grid, bad_handle, inside, found)

pub ruleset counting = (len_no, few, len_is)

pub ruleset naming = (handles_no, few, short, put_asks, listed)
