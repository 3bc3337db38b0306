-- The text of a request behind its word, and when its numbers are in range. Assumes nothing.
use Rattle.std.specs.Prelude.{◌≤◌, ◌≡◌, ◌∷◌, ◌++◌}
use Rattle.basics.specs.Words.{ℕ, Bool, true, false, List, [], ltb, ℤ, pos, nat_abs}
use Rattle.basics.specs.Meaning.Refusals.{pick}
use Rattle.slots.specs.declared.Handle.{Handle}
use Rattle.trace_decimals.specs.Meaning.Text.{decimal, signed_text}
use Rattle.trace_lines.specs.declared.Spot.{Spot}
use Rattle.trace_lines.specs.declared.Asks.{Asks}
use Rattle.trace_lines.specs.declared.Request.{Request}
use Rattle.trace_lines.specs.Inner.Fields.{joined}
use Rattle.trace_lines.specs.Meaning.Words.{asked_by}
use Rattle.trace_lines.specs.Meaning.Taken.{nobody, no_spot}

abbrev pub number : ℕ → List (List ℕ)
number n = decimal n ∷ []

abbrev pub count : ℤ → List (List ℕ)
count k = signed_text k ∷ []

abbrev pub spot : Spot → List (List ℕ)
spot p = signed_text p.x ∷ signed_text p.y ∷ []

abbrev pub handle : Handle → List (List ℕ)
handle h = decimal h.slot ∷ decimal h.version ∷ []

-- the fields behind the word
abbrev pub only : Bool → List (List ℕ) → List (List ℕ)
only asked fs = pick asked fs []

abbrev pub argument_texts : Asks → Request → List (List ℕ)
argument_texts k r =
    (((only k.handle (handle r.h) ++ (only (ltb 0 k.places) (spot r.p) ++ only (ltb 1 k.places) (spot r.q))) ++ only k.radius (count r.far))
    ++ only k.number (number r.n))
    ++ only k.tracker (number r.k)

-- with this word
unfoldable pub request_text : List ℕ → Request → List ℕ
request_text word r = joined (word ∷ argument_texts (asked_by word) r)

abbrev pub NumberInRange : ℕ → Type 0
NumberInRange n = n ≤ 4294967295

abbrev pub CountInRange : ℤ → Type 0
CountInRange k = nat_abs k ≤ 1048576

abbrev pub SpotInRange : Spot → Type 0
SpotInRange p = CountInRange p.x × CountInRange p.y

abbrev pub HandleInRange : Handle → Type 0
HandleInRange h = NumberInRange h.slot × NumberInRange h.version

-- what is asked for is in range, and what is not is this value
abbrev pub AsAsked : {A : Type 0} → Bool → (A → Type 0) → A → A → Type 0
AsAsked true R none a = R a
AsAsked false R none a = a ≡ none

abbrev pub ArgumentsInRange : Asks → Request → Type 0
ArgumentsInRange k r =
    (((AsAsked k.handle HandleInRange nobody r.h × (AsAsked (ltb 0 k.places) SpotInRange no_spot r.p × AsAsked (ltb 1 k.places) SpotInRange no_spot r.q)) × AsAsked k.radius CountInRange (pos 0) r.far)
    × AsAsked k.number NumberInRange 0 r.n)
    × AsAsked k.tracker NumberInRange 0 r.k

-- a request of this word, with its numbers in range
abbrev pub Proper : List ℕ → Request → Type 0
Proper word r = (r.line ≡ (asked_by word).line) × ArgumentsInRange (asked_by word) r
