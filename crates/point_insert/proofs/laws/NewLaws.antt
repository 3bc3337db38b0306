-- Freshly built tables hold a grid; building that is refused leaves the tables. Assumes nothing.
use Rattle.basics.specs.Words.{ℕ, ◌≡◌, length-replicate, arith}
use Rattle.cells.specs.Meaning.Size.{SizeInDomain}
use Rattle.blank.specs.Meaning.Blank.{size_ok}
use Rattle.blank.proofs.laws.BlankLaws.{blank-length, blank-holds, blank_not_live, size_says}
use Rattle.blank.proofs.laws.BuildLaws.{build_leaves, build_gives}
use Rattle.point_tables.specs.Meaning.Tables.{Tables, slots_of, Sized}
use Rattle.point_tables.specs.Meaning.Holds.{Holds}
use Rattle.point_tables.specs.Meaning.Decide.{sized, sized_says}
use Rattle.point_insert.specs.Meaning.New.{built, new_answer, new_of}

module _ (t : Tables) (size : ℕ) where
  -- no entry is in use, and no slot is occupied
  pub built-holds : Sized t → SizeInDomain size → Holds (built t size)
  unfolding built
  built-holds z d =
      let not_live = blank_not_live (slots_of t) size in
      record {
        sized =
            rw length-replicate
            (record { some = z.some; most = z.most; of_reals = z.of_reals; of_ints = z.of_ints; of_map = blank-length (slots_of t) size; of_pool = z.of_pool; of_spots = z.of_spots; of_cells = z.of_cells });
        counted = record { size = d; used-most = omega arith; rows-most = omega arith };
        slots = blank-holds (slots_of t) size;
        records = λ s h e. absurd (not_live s h e);
        packed =
            record {
              ordered = λ i j h l. absurd (omega arith);
              ascending = λ i j h l. absurd (omega arith);
              has_row = λ j h. absurd (omega arith);
              has_list = λ r h. absurd (omega arith);
              marks = λ r h. absurd (omega arith);
            };
        lists = record { each = λ j h. absurd (omega arith); once = λ i j h l e. absurd (omega arith); every = λ s h e. absurd (not_live s h e) };
        dirty = λ s h p. absurd (not_live s h p.occupied);
      }

  pub new-refused : ((new_of t size).result ≡ 0 → ⊥) → (new_of t size).after ≡ t
  unfolding new_of new_answer built
  new-refused = build_leaves t (built t size) (sized t) (size_ok size)

  pub new-holds : (new_of t size).result ≡ 0 → Holds (new_of t size).after
  unfolding new_of new_answer built
  new-holds = build_gives t (built t size) Holds (sized t) (size_ok size) (λ e f. built-holds ((sized_says t).yes e) ((size_says size).yes f))
