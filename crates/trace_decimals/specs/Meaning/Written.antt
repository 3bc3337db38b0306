-- A buffer that is written from the front: its bytes, and where the next one goes. Assumes nothing.
use Rattle.std.specs.Prelude.{◌+◌, ◌++◌}
use Rattle.basics.specs.Words.{ℕ, List, length, take, drop}

-- `text` stands at `at`, and every other byte is as it was
abbrev pub put_text_at : List ℕ → ℕ → List ℕ → List ℕ
put_text_at out at text = take at out ++ (text ++ drop (at + length text) out)

pub record Buffer : Type 0 where
  pub bytes : List ℕ
  pub next : ℕ

abbrev pub buffer : List ℕ → ℕ → Buffer
buffer bytes next = record { bytes = bytes; next = next }

-- the text goes where the next byte goes
unfoldable pub put_text : Buffer → List ℕ → Buffer
put_text w text = buffer (put_text_at w.bytes w.next text) (w.next + length text)
