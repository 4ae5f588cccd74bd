-- The words of accesses and statements.
use Rattle.std.specs.Prelude.{ℕ, List, [], ◌∷◌, bytes_eq, codes, if◌then◌else◌}
use Prim.Native.String.{String}
use Rattle.runnable_lang.specs.declared.program.AccessKind.{AccessKind}
use Rattle.runnable_lang.specs.declared.program.AccessKind.TheVariants as kind
use Rattle.program_reading.specs.declared.words.AccessWord.{AccessWord}

-- a word with what it means
pub record Meaning (K : Type 0) : Type 0 where
  pub word : List ℕ
  pub means : K

-- what the first entry of this word means, and the other if none has it
abbrev pub meaning : {K : Type 0} → List (Meaning K) → K → List ℕ → K
meaning [] other word = other
meaning (m ∷ ms) other word = if bytes_eq m.word word then m.means else meaning ms other word

-- the kinds of access
abbrev pub access : String → AccessKind → Meaning AccessKind
access word k = record { word = codes word; means = k }

abbrev pub access_words : List (Meaning AccessKind)
access_words =
    access "write" kind.Write ∷
    access "read" kind.Read ∷
    access "invalidate" kind.Invalidate ∷
    access "isUpdated" kind.IsUpdated ∷
    access "send" kind.Send ∷
    access "receive" kind.Receive ∷
    access "iwrite" kind.IWrite ∷
    access "iread" kind.IRead ∷
    access "irvWrite" kind.IrvWrite ∷
    access "irvRead" kind.IrvRead ∷
    access "irvIWrite" kind.IrvIWrite ∷
    access "irvIRead" kind.IrvIRead ∷
    access "call" kind.Call ∷
    access "acall" kind.ACall ∷
    access "result" kind.TakeResult ∷
    access "switch" kind.Switch ∷
    access "mode" kind.Mode ∷
    access "enter" kind.Enter ∷
    []

abbrev pub access_kind_of : List ℕ → AccessKind
access_kind_of word = meaning access_words kind.Write word

-- the entry that a line of the program's table stands for
abbrev pub access_word : AccessWord → Meaning AccessKind
access_word w = record { word = w.text.now; means = w.means }
