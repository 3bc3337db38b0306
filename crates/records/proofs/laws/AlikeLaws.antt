-- Columns with the same records hold the same grid. Assumes nothing.
use Rattle.basics.specs.Words.{ℕ, ◌+◌, ◌*◌, ◌≤◌, ◌<◌, ◌≡◌, refl, sym, ap, subst, ◌∙◌, [], get_or}
use Rattle.cells.specs.Meaning.Key.{key_of}
use Rattle.slots.specs.Meaning.Map.{head, words_for, usable}
use Rattle.slots.specs.Meaning.Slot.{phase_at, good, gone, SlotHolds}
use Rattle.storage.specs.Meaning.Packed.{second}
use Rattle.point_records.specs.declared.Record.{Record}
use Rattle.point_records.specs.Meaning.Columns.{tag_of}
use Rattle.point_records.specs.Meaning.Word.{tracker_at}
use Rattle.point_records.proofs.laws.WordLaws.{tracker-same}
use Rattle.point_records.specs.Meaning.Occupied.{Occupied}
use Rattle.point_tables.specs.Meaning.Tables.{Tables, size_of, slots_of}
use Rattle.point_tables.specs.Meaning.Holds.{Holds, EntryHolds, Pending}
use Rattle.point_tables.specs.Meaning.Decide.{holds, holds_says}
use Rattle.records.specs.Inner.Alike.{Alike, with_columns}
use Rattle.records.proofs.laws.Alike.{Worded}

pub alike_itself : (t : Tables) → Alike t t
alike_itself t = record { of_nums = refl; of_reals = refl; of_ints = refl; each = λ s. refl; rest = refl }

pub alike_then : (t u v : Tables) → Alike t u → Alike u v → Alike t v
alike_then t u v a b =
    record {
      of_nums = a.of_nums ∙ b.of_nums;
      of_reals = a.of_reals ∙ b.of_reals;
      of_ints = a.of_ints ∙ b.of_ints;
      each = λ s. a.each s ∙ b.each s;
      rest = ap (λ (x : Tables). with_columns x v) a.rest ∙ b.rest;
    }

-- what holds of the tables t beside the columns of u holds of u
pub by_columns : (P : Tables → Type 0) (t u : Tables) → Alike t u → (Alike t (with_columns t u) → P (with_columns t u)) → P u
by_columns P t u a f = subst P a.rest (f (record { of_nums = a.of_nums; of_reals = a.of_reals; of_ints = a.of_ints; each = a.each; rest = refl }))

module _ (t u : Tables) (like : Alike t u) where
  -- u with the other tables of t, which are the same
  abbrev v : Tables
  v = with_columns t u

  -- a slot of u is one of t, in the same phase
  slot-back : {s : ℕ} → s < slots_of u → s < slots_of t
  slot-back {s} l = subst (λ (m : ℕ). s < m) (sym like.of_nums) l

  phase_is : (s : ℕ) → phase_at t.nums s ≡ phase_at u.nums s
  phase_is s = ap (λ (r : Record). r.phase) (like.each s)

  pending-back : {s : ℕ} → Pending v s → Pending t s
  pending-back {s} p = record { occupied = phase_is s ∙ p.occupied; changed = λ e. p.changed (ap (λ (r : Record). tag_of r.state) (sym (like.each s)) ∙ e) }

  entry_there : {j : ℕ} → EntryHolds t j → EntryHolds v j
  entry_there {j} h =
      let s = second t.pool j in
      record {
        inside = subst (λ (m : ℕ). s < m) like.of_nums h.inside;
        occupied = sym (phase_is s) ∙ h.occupied;
        key = h.key ∙ ap (λ (r : Record). key_of r.cell) (like.each s);
        at_x = h.at_x ∙ ap (λ (r : Record). r.position.x) (like.each s);
        at_y = h.at_y ∙ ap (λ (r : Record). r.position.y) (like.each s);
      }

  holds_there : Worded u.nums → Holds t → Holds v
  holds_there worded h =
      record {
        sized = record {
          some = subst (λ (m : ℕ). 1 ≤ m) like.of_nums h.sized.some;
          most = subst (λ (m : ℕ). m ≤ 4096) like.of_nums h.sized.most;
          of_reals = sym like.of_reals ∙ h.sized.of_reals ∙ like.of_nums;
          of_ints = sym like.of_ints ∙ h.sized.of_ints ∙ like.of_nums;
          of_map = h.sized.of_map ∙ ap (λ (m : ℕ). head + words_for m) like.of_nums;
          of_pool = h.sized.of_pool ∙ like.of_nums;
          of_spots = h.sized.of_spots ∙ like.of_nums;
          of_cells = h.sized.of_cells ∙ like.of_nums;
        };
        counted = record {
          size = h.counted.size;
          used-most = subst (λ (m : ℕ). get_or t.map 1 0 ≤ m) like.of_nums h.counted.used-most;
          rows-most = subst (λ (m : ℕ). get_or t.map 2 0 ≤ m) like.of_nums h.counted.rows-most;
        };
        slots = record {
          each = λ s l. subst (λ (r : Record). SlotHolds r.version r.phase (usable t.map s)) (like.each s) (h.slots.each s (slot-back l));
          past = λ s l m. h.slots.past s (subst (λ (k : ℕ). s < words_for k * 64) (sym like.of_nums) l) (subst (λ (k : ℕ). k ≤ s) (sym like.of_nums) m);
        };
        records = λ s l p. record { worded = worded s; occupied = subst (λ (r : Record). Occupied (size_of t) r) (like.each s) (h.records s (slot-back l) (phase_is s ∙ p)).occupied };
        packed = h.packed;
        lists = record {
          each = λ j l. entry_there (h.lists.each j l);
          once = h.lists.once;
          every = λ s l p. h.lists.every s (slot-back l) (phase_is s ∙ p);
        };
        dirty = λ s l p r m e. h.dirty s (slot-back l) (pending-back p) r m (e ∙ ap (λ (x : Record). key_of x.cell) (sym (like.each s)));
      }

  pub holds-alike : Worded u.nums → Holds t → Holds u
  holds-alike worded h = subst Holds like.rest (holds_there worded h)

  pub both_hold : Holds t → Holds u → holds t ≡ holds u
  both_hold h k = (holds_says t).no h ∙ sym ((holds_says u).no k)

  -- every slot has the same tracker
  pub tracker-alike : (s : ℕ) → tracker_at t.nums s ≡ tracker_at u.nums s
  tracker-alike s =
      tracker-same (get_or t.nums s []) (get_or u.nums s []) (ap (λ (r : Record). r.tracker) (like.each s))

  pub good-alike : (slot version : ℕ) → good t.nums slot version ≡ good u.nums slot version
  unfolding good
  good-alike slot version = cc (like.of_nums, ap (λ (r : Record). r.phase) (like.each slot), ap (λ (r : Record). r.version) (like.each slot))

  pub gone-alike : (slot version : ℕ) → gone t.nums slot version ≡ gone u.nums slot version
  unfolding gone
  gone-alike slot version = cc (like.of_nums, ap (λ (r : Record). r.phase) (like.each slot), ap (λ (r : Record). r.version) (like.each slot))
