-- Any two results that a promise permits are equal: one theorem for each public call. The promises are those of the calls' `ensures`. A NaN
-- is one value here: which of its bit patterns stands in a place is not said. Assumes nothing.
use Rattle.basics.specs.Words.{ℕ, ◌≡◌, sym, ap, ◌∙◌, List}
use lib.Ieee.{Float}
use Rattle.geometry.specs.declared.Position.{Position}
use Rattle.geometry.specs.declared.Aabb.{Aabb}
use Rattle.slots.specs.declared.Handle.{Handle}
use Rattle.point_tables.specs.Meaning.Tables.{Tables}
use Rattle.point_tables.specs.Meaning.Outcome.{Outcome, outcome}
use Rattle.replies.specs.declared.Inserted.{Inserted}
use Rattle.point_insert.specs.Meaning.New.{new_of}
use Rattle.point_insert.specs.Meaning.Insert.{insert_of}
use Rattle.replies.specs.declared.Reply.{Reply}
use Rattle.point_deferred.specs.Meaning.Moves.{set_position_of, remove_of}
use Rattle.point_batch.specs.Meaning.Batch.{Batched, batch_of}
use Rattle.point_maintain.specs.declared.Maintained.{Maintained}
use Rattle.point_maintain.specs.Meaning.Maintain.{maintain_of}
use Rattle.point_remove.specs.Meaning.RemoveMaintain.{remove_maintain_of}
use Rattle.point_clear.specs.Meaning.Clear.{Written, clear_of}
use Rattle.point_get.specs.declared.Got.{Got}
use Rattle.replies.specs.declared.Count.{Count}
use Rattle.point_get.specs.Meaning.{Listing, get_of, len_of, handles_of}
use Rattle.point_search.specs.Meaning.Searches.{Outputs, Findings}
use Rattle.point_query.specs.Meaning.Queries.{query_of, around_of, aabb_of}
use Rattle.replies.specs.declared.Nearest.{Nearest}
use Rattle.point_nearest.specs.Meaning.Nearest.{nearest_of}
use Rattle.replies.specs.Meaning.Replies.{reply}
use Rattle.box_tables.specs.Meaning.Tables as BoxTables
use Rattle.box_tables.specs.Meaning.Outcome as Boxes
use Rattle.box_insert.specs.Meaning.New as BoxNew
use Rattle.box_insert.specs.Meaning.Insert as BoxInsert
use Rattle.box_set.specs.Meaning.SetAabb.{set_aabb_of}
use Rattle.box_remove.specs.Meaning.Remove as BoxRemove
use Rattle.box_get.specs.declared.Got as BoxGot
use Rattle.box_get.specs.Meaning.Reads as BoxReads
use Rattle.box_clear.specs.Meaning.Clear as BoxClear
use Rattle.box_query.specs.Meaning.Queries as BoxQueries

-- ---- two that are the same third
one : {A : Type 0} {a b c : A} → a ≡ c → b ≡ c → a ≡ b
one e f = e ∙ sym f

same : {R : Type 0} {o : Outcome R} {r₁ r₂ : R} {t₁ t₂ : Tables} → outcome r₁ t₁ ≡ o → outcome r₂ t₂ ≡ o → (r₁ ≡ r₂) × (t₁ ≡ t₂)
same {R} e f = let g = one e f in (ap (λ (x : Outcome R). x.result) g, ap (λ (x : Outcome R). x.after) g)

-- ---- the point grid: t the tables before, t₁ and t₂ two that may be after
module _ (t t₁ t₂ : Tables) where
  pub new_determined : (size r₁ r₂ : ℕ) → outcome r₁ t₁ ≡ new_of t size → outcome r₂ t₂ ≡ new_of t size → (r₁ ≡ r₂) × (t₁ ≡ t₂)
  new_determined size r₁ r₂ e f = same e f

  pub insert_determined : (p : Position) (d k : ℕ) (r₁ r₂ : Inserted) → outcome r₁ t₁ ≡ insert_of t p d k → outcome r₂ t₂ ≡ insert_of t p d k → (r₁ ≡ r₂) × (t₁ ≡ t₂)
  insert_determined p d k r₁ r₂ e f = same e f

  pub set-position_determined : (h : Handle) (p : Position) (k r₁ r₂ : ℕ)
      → outcome (reply r₁ 0) t₁ ≡ set_position_of t h p k → outcome (reply r₂ 0) t₂ ≡ set_position_of t h p k → (r₁ ≡ r₂) × (t₁ ≡ t₂)
  set-position_determined h p k r₁ r₂ e f = let g = same e f in (ap (λ (x : Reply). x.answer) g.0, g.1)

  pub remove_determined : (h : Handle) (k : ℕ) (r₁ r₂ : Reply) → outcome r₁ t₁ ≡ remove_of t h k → outcome r₂ t₂ ≡ remove_of t h k → (r₁ ≡ r₂) × (t₁ ≡ t₂)
  remove_determined h k r₁ r₂ e f = same e f

  pub batch_determined : (ks : List ℕ) (hs : List (List ℕ)) (ps : List (List Float)) (out : List (List ℕ)) (r₁ r₂ : Batched)
      → outcome r₁ t₁ ≡ batch_of t ks hs ps out → outcome r₂ t₂ ≡ batch_of t ks hs ps out → (r₁ ≡ r₂) × (t₁ ≡ t₂)
  batch_determined ks hs ps out r₁ r₂ e f = same e f

  pub maintain_determined : (r₁ r₂ : Maintained) → outcome r₁ t₁ ≡ maintain_of t → outcome r₂ t₂ ≡ maintain_of t → (r₁ ≡ r₂) × (t₁ ≡ t₂)
  maintain_determined r₁ r₂ e f = same e f

  pub remove-maintain_determined : (h : Handle) (k : ℕ) (r₁ r₂ : Reply)
      → outcome r₁ t₁ ≡ remove_maintain_of t h k → outcome r₂ t₂ ≡ remove_maintain_of t h k → (r₁ ≡ r₂) × (t₁ ≡ t₂)
  remove-maintain_determined h k r₁ r₂ e f = same e f

  pub clear_determined : (ps : List (List Float)) (os : List (List ℕ)) (r₁ r₂ : Written)
      → outcome r₁ t₁ ≡ clear_of t ps os → outcome r₂ t₂ ≡ clear_of t ps os → (r₁ ≡ r₂) × (t₁ ≡ t₂)
  clear_determined ps os r₁ r₂ e f = same e f

-- the calls that only read: what they return, with their outputs after them
module _ (t : Tables) where
  pub get_determined : (h : Handle) (r₁ r₂ : Got) → r₁ ≡ get_of t h → r₂ ≡ get_of t h → r₁ ≡ r₂
  get_determined h r₁ r₂ e f = one e f

  pub len_determined : (r₁ r₂ : Count) → r₁ ≡ len_of t → r₂ ≡ len_of t → r₁ ≡ r₂
  len_determined r₁ r₂ e f = one e f

  pub handles_determined : (out : List (List ℕ)) (r₁ r₂ : Listing) → r₁ ≡ handles_of t out → r₂ ≡ handles_of t out → r₁ ≡ r₂
  handles_determined out r₁ r₂ e f = one e f

  pub query_determined : (ll ur : Position) (o : Outputs) (r₁ r₂ : Findings)
      → r₁ ≡ query_of t ll ur o → r₂ ≡ query_of t ll ur o → r₁ ≡ r₂
  query_determined ll ur o r₁ r₂ e f = one e f

  pub around_determined : (c : Position) (r : Float) (o : Outputs) (r₁ r₂ : Findings)
      → r₁ ≡ around_of t c r o → r₂ ≡ around_of t c r o → r₁ ≡ r₂
  around_determined c r o r₁ r₂ e f = one e f

  pub aabb_determined : (a b : Position) (o : Outputs) (r₁ r₂ : Findings)
      → r₁ ≡ aabb_of t a b o → r₂ ≡ aabb_of t a b o → r₁ ≡ r₂
  aabb_determined a b o r₁ r₂ e f = one e f

  pub near_determined : (c : Position) (r : Float) (r₁ r₂ : Nearest) → r₁ ≡ nearest_of t c r → r₂ ≡ nearest_of t c r → r₁ ≡ r₂
  near_determined c r r₁ r₂ e f = one e f

-- ---- the box grid
boxed : {R : Type 0} {o : Boxes.Outcome R} {r₁ r₂ : R} {t₁ t₂ : BoxTables.Tables} → Boxes.outcome r₁ t₁ ≡ o → Boxes.outcome r₂ t₂ ≡ o → (r₁ ≡ r₂) × (t₁ ≡ t₂)
boxed {R} e f = let g = one e f in (ap (λ (x : Boxes.Outcome R). x.result) g, ap (λ (x : Boxes.Outcome R). x.after) g)

module _ (t t₁ t₂ : BoxTables.Tables) where
  pub box_new_determined : (size r₁ r₂ : ℕ) → Boxes.outcome r₁ t₁ ≡ BoxNew.new_of t size → Boxes.outcome r₂ t₂ ≡ BoxNew.new_of t size → (r₁ ≡ r₂) × (t₁ ≡ t₂)
  box_new_determined size r₁ r₂ e f = boxed e f

  pub box_insert_determined : (b : Aabb) (d : ℕ) (r₁ r₂ : Inserted)
      → Boxes.outcome r₁ t₁ ≡ BoxInsert.insert_of t b d → Boxes.outcome r₂ t₂ ≡ BoxInsert.insert_of t b d → (r₁ ≡ r₂) × (t₁ ≡ t₂)
  box_insert_determined b d r₁ r₂ e f = boxed e f

  pub set-aabb_determined : (h : Handle) (b : Aabb) (r₁ r₂ : ℕ)
      → Boxes.outcome r₁ t₁ ≡ set_aabb_of t h b → Boxes.outcome r₂ t₂ ≡ set_aabb_of t h b → (r₁ ≡ r₂) × (t₁ ≡ t₂)
  set-aabb_determined h b r₁ r₂ e f = boxed e f

  pub box_remove_determined : (h : Handle) (r₁ r₂ : Reply)
      → Boxes.outcome r₁ t₁ ≡ BoxRemove.remove_of t h → Boxes.outcome r₂ t₂ ≡ BoxRemove.remove_of t h → (r₁ ≡ r₂) × (t₁ ≡ t₂)
  box_remove_determined h r₁ r₂ e f = boxed e f

  pub box_clear_determined : (bs : List (List Float)) (os : List ℕ) (r₁ r₂ : BoxClear.Written)
      → Boxes.outcome r₁ t₁ ≡ BoxClear.clear_of t bs os → Boxes.outcome r₂ t₂ ≡ BoxClear.clear_of t bs os → (r₁ ≡ r₂) × (t₁ ≡ t₂)
  box_clear_determined bs os r₁ r₂ e f = boxed e f

module _ (t : BoxTables.Tables) where
  pub box_get_determined : (h : Handle) (r₁ r₂ : BoxGot.Got) → r₁ ≡ BoxReads.get_of t h → r₂ ≡ BoxReads.get_of t h → r₁ ≡ r₂
  box_get_determined h r₁ r₂ e f = one e f

  pub box_len_determined : (r₁ r₂ : Count) → r₁ ≡ BoxReads.len_of t → r₂ ≡ BoxReads.len_of t → r₁ ≡ r₂
  box_len_determined r₁ r₂ e f = one e f

  pub box_handles_determined : (out : List (List ℕ)) (r₁ r₂ : BoxReads.Listing) → r₁ ≡ BoxReads.handles_of t out → r₂ ≡ BoxReads.handles_of t out → r₁ ≡ r₂
  box_handles_determined out r₁ r₂ e f = one e f

  pub query-broad_determined : (q : Aabb) (hs : List (List ℕ)) (r₁ r₂ : BoxQueries.Handles)
      → r₁ ≡ BoxQueries.broad_of t q hs → r₂ ≡ BoxQueries.broad_of t q hs → r₁ ≡ r₂
  query-broad_determined q hs r₁ r₂ e f = one e f

  pub box_query_determined : (q : Aabb) (hs : List (List ℕ)) (bs : List (List Float)) (os : List ℕ) (r₁ r₂ : BoxQueries.Findings)
      → r₁ ≡ BoxQueries.query_of t q hs bs os → r₂ ≡ BoxQueries.query_of t q hs bs os → r₁ ≡ r₂
  box_query_determined q hs bs os r₁ r₂ e f = one e f
