-- A record is read as a request exactly when it is a text of that request, with its numbers in range. Assumes nothing.
use Rattle.basics.specs.Words.{ℕ, ◌≤◌, ◌≡◌, refl, sym, ap, subst, ◌∙◌, Bool, true, false, List, [], ◌∷◌, length, leb, arith, le-leb}
use Rattle.basics.specs.Meaning.Refusals.{pick}
use Rattle.trace_lines.specs.declared.Line.TheVariants.{Unreadable}
use Rattle.trace_lines.specs.declared.Request.{Request}
use Rattle.trace_lines.specs.Meaning.Fields.{fields_of}
use Rattle.trace_lines.specs.Inner.Fields.{joined}
use Rattle.trace_lines.specs.Meaning.Words.{asked_by}
use Rattle.trace_lines.specs.Meaning.Requests.{unreadable, of_fields, request_of}
use Rattle.trace_lines.specs.Inner.Texts.{argument_texts, request_text, Proper}
use Rattle.trace_lines.proofs.laws.FieldLaws.{joined_fields, fields_joined, joined_length}
use Rattle.trace_lines.proofs.laws.WordLaws.{is_word}
use Rattle.trace_lines.proofs.laws.TextLaws.{arguments_clear, arguments_size}
use Rattle.trace_lines.proofs.laws.Exact.{arguments_read, by_arguments}

-- a word, and behind it what it asks for
pub record Text (bytes : List ℕ) (r : Request) : Type 0 where
  pub word : List ℕ
  pub text : bytes ≡ request_text word r
  pub proper : Proper word r

-- whatever holds of what is unreadable and of every text holds of what is read
module _ (P : Request → Type 0) (bad : P unreadable) where
  of_fields_lem : (bytes : List ℕ) (fs : List (List ℕ)) → bytes ≡ joined fs → ((r : Request) → Text bytes r → P r) → P (of_fields fs)
  unfolding of_fields request_text
  of_fields_lem bytes [] e each = bad
  of_fields_lem bytes (w ∷ fs) e each =
      by_arguments (asked_by w) fs P bad (λ r t l h. each r (record { word = w; text = e ∙ ap (λ (gs : List (List ℕ)). joined (w ∷ gs)) t; proper = (l, h) }))

  pub by_text : (bytes : List ℕ) → ((r : Request) → Text bytes r → P r) → P (request_of bytes)
  unfolding request_of
  by_text bytes each = go (leb (length bytes) 128)
    where
      go : (t : Bool) → P (pick t (of_fields (fields_of bytes)) unreadable)
      go true = of_fields_lem bytes (fields_of bytes) (sym (joined_fields bytes)) each
      go false = bad

-- what is read is the text of what it is read as
pub read_text : (bytes : List ℕ) (r : Request) → request_of bytes ≡ r → (r.line ≡ Unreadable → ⊥) → Text bytes r
read_text bytes r e =
    subst (λ (q : Request). (q.line ≡ Unreadable → ⊥) → Text bytes q) e (by_text (λ q. (q.line ≡ Unreadable → ⊥) → Text bytes q) (λ n. absurd (n refl)) bytes (λ q t n. t))

module _ (word : List ℕ) (r : Request) (h : Proper word r) (n : r.line ≡ Unreadable → ⊥) where
  known : (asked_by word).line ≡ Unreadable → ⊥
  known e = n (h.0 ∙ e)

  -- no text is too long
  pub text_short : length (request_text word r) ≤ 108
  unfolding request_text
  text_short = omega (arith, joined_length word (argument_texts (asked_by word) r), (is_word word known).short, arguments_size (asked_by word) r h.1)

  -- and the text is read as that
  pub text_read : request_of (request_text word r) ≡ r
  unfolding request_of request_text of_fields
  text_read =
      let short : leb (length (request_text word r)) 128 ≡ true = le-leb (length (request_text word r)) 128 (omega (arith, text_short)) in
      let cut = fields_joined word (argument_texts (asked_by word) r) ((is_word word known).no_comma, arguments_clear (asked_by word) r) in
      ap (λ (t : Bool). pick t (of_fields (fields_of (request_text word r))) unreadable) short ∙
      (ap of_fields cut ∙ arguments_read (asked_by word) r h.0 h.1)

-- both ways
pub record Exactly (bytes : List ℕ) (r : Request) : Type 0 where
  pub only : request_of bytes ≡ r → Text bytes r
  pub always : Text bytes r → request_of bytes ≡ r

pub reads_exactly : (bytes : List ℕ) (r : Request) → (r.line ≡ Unreadable → ⊥) → Exactly bytes r
reads_exactly bytes r n =
    record { only = λ e. read_text bytes r e n; always = λ t. ap request_of t.text ∙ text_read t.word r t.proper n }
