-- What a search that is not refused shows in its outputs: in place j the handle, the position, the data and the tracker of entry j that it found. On
-- tables that hold a grid the handle is good, and the others are those of its record. Assumes nothing.
use Rattle.basics.specs.Words.{ℕ, zero, suc, ◌<◌, ◌≡◌, refl, sym, ap, ◌∙◌, true, List, [], ◌∷◌, ◌++◌, map, length, get_or, not-suc-le-zero, le_of_suc-le-suc}
use lib.Ieee.{Float, nan}
use Rattle.geometry.specs.declared.Position.{Position}
use Rattle.geometry.proofs.laws.BitsLaws.{same_by_axes}
use Rattle.slots.specs.declared.Handle.{Handle}
use Rattle.slots.specs.Meaning.Slot.{version_at, good}
use Rattle.storage.specs.Meaning.Keyed.{All}
use Rattle.storage.specs.Meaning.Entries.{Entry, entry}
use Rattle.storage.proofs.laws.FilterLaws.{all_at}
use Rattle.point_records.specs.Meaning.Word.{tracker_at}
use Rattle.point_tables.specs.Meaning.Tables.{Tables, record_on, slot_of}
use Rattle.point_tables.specs.Meaning.Holds.{Holds}
use Rattle.point_search.specs.Meaning.Searches.{position_of, finding_on, handle_row, place_row, obj_row, Outputs, Findings, report_of}
use Rattle.point_search.proofs.laws.FoundLaws.{Standing}
use Rattle.point_search.proofs.laws.OnceLaws.{standing-good}
use Rattle.whereabouts.specs.Meaning.Report.{ReportedAt}

mapped_at : {A B : Type 0} (f : A → B) (l : List A) (o : List B) (d : A) (e : B) (j : ℕ) → j < length l → get_or (map f l ++ o) j e ≡ f (get_or l j d)
mapped_at f [] o d e j h = absurd (not-suc-le-zero h)
mapped_at f (x ∷ l) o d e zero h = refl
mapped_at f (x ∷ l) o d e (suc j) h = mapped_at f l o d e j (le_of_suc-le-suc h)

abbrev pub no_entry : Entry
no_entry = entry [] []

abbrev pub entry_of : List Entry → ℕ → Entry
entry_of es j = get_or es j no_entry

-- a good handle with its recorded position, its data and its tracker
pub record Stands (m : Tables) (g : Handle) (p : Position) (d k : ℕ) : Type 0 where
  pub good-handle : good m.nums g.slot g.version ≡ true
  pub recorded : p ≡ (record_on m g.slot).position
  pub has_data : d ≡ (record_on m g.slot).obj
  pub has_tracker : k ≡ tracker_at m.nums g.slot

module _ (m : Tables) (es : List Entry) where
  -- what is told in place j is entry j
  pub record Shown (j : ℕ) (g : Handle) (p : Position) (d k : ℕ) : Type 0 where
    pub filled : j < length es
    pub slot : slot_of (entry_of es j) ≡ g.slot
    pub version : version_at m.nums (slot_of (entry_of es j)) ≡ g.version
    pub place : position_of (entry_of es j) ≡ p
    pub obj : (record_on m (slot_of (entry_of es j))).obj ≡ d
    pub tracker : tracker_at m.nums (slot_of (entry_of es j)) ≡ k

  pub shown_stands : Holds m → All (Standing m) es → (j : ℕ) (g : Handle) (p : Position) (d k : ℕ) → Shown j g p d k → Stands m g p d k
  shown_stands h st j g p d k w =
      let s = all_at (Standing m) no_entry es j w.filled st in
      record {
        good-handle = sym (λ i. good m.nums (w.slot i) (w.version i)) ∙ standing-good m h (entry_of es j) s;
        recorded = sym w.place ∙ s.recorded ∙ ap (λ (n : ℕ). (record_on m n).position) w.slot;
        has_data = sym w.obj ∙ ap (λ (n : ℕ). (record_on m n).obj) w.slot;
        has_tracker = sym w.tracker ∙ ap (tracker_at m.nums) w.slot;
      }

  -- ---- f reports the entries es
  module _ (o : Outputs) (f : Findings) (done : f ≡ report_of (finding_on m) es o) where
    pub shown : (j : ℕ) (g : Handle) (p : Position) (d k : ℕ) → ReportedAt f j g p d k → Shown j g p d k
    shown j g p d k w =
        let v : ReportedAt (report_of (finding_on m) es o) j g p d k = rw done at w in
        let x = sym (mapped_at (λ e. handle_row (finding_on m e)) es _ no_entry [] j v.filled) ∙ v.handle in
        let y = sym (mapped_at (λ e. place_row (finding_on m e)) es _ no_entry [] j v.filled) ∙ v.place in
        let z = sym (mapped_at (λ e. obj_row (finding_on m e)) es _ no_entry [] j v.filled) ∙ v.obj in
        record {
          filled = v.filled;
          slot = ap (λ (l : List ℕ). get_or l 0 0) x;
          version = ap (λ (l : List ℕ). get_or l 1 0) x;
          place = same_by_axes (position_of (entry_of es j)) p (ap (λ (l : List Float). get_or l 0 nan) y) (ap (λ (l : List Float). get_or l 1 nan) y);
          obj = ap (λ (l : List ℕ). get_or l 0 0) z;
          tracker = ap (λ (l : List ℕ). get_or l 1 0) z;
        }

    pub reported : (j : ℕ) (g : Handle) (p : Position) (d k : ℕ) → Shown j g p d k → ReportedAt f j g p d k
    reported j g p d k w =
        rw done (record {
          filled = w.filled;
          handle = mapped_at (λ e. handle_row (finding_on m e)) es _ no_entry [] j w.filled ∙ (λ i. w.slot i ∷ w.version i ∷ []);
          place = mapped_at (λ e. place_row (finding_on m e)) es _ no_entry [] j w.filled ∙ ap (λ (q : Position). q.x ∷ q.y ∷ []) w.place;
          obj = mapped_at (λ e. obj_row (finding_on m e)) es _ no_entry [] j w.filled ∙ (λ i. w.obj i ∷ w.tracker i ∷ []);
        })

    -- every filled place shows its entry
    pub shows_entry : (j : ℕ) → j < f.returned.count → let g = finding_on m (entry_of es j) in Shown j g.handle g.position g.obj g.tracker
    shows_entry j l = record { filled = rw done at l; slot = refl; version = refl; place = refl; obj = refl; tracker = refl }
