-- The keywords of statements.
use Rattle.std.specs.Prelude.{ℕ, List, [], ◌∷◌, codes}
use Prim.Native.String.{String}
use Rattle.program_reading.specs.declared.keywords.Keyword.{Keyword}
use Rattle.program_reading.specs.declared.keywords.Keyword.TheVariants as keyword
use Rattle.program_reading.specs.declared.keywords.StatementWord.{StatementWord}
use Rattle.program_reading.specs.Words.{Meaning, meaning}

abbrev pub statement : String → Keyword → Meaning Keyword
statement word k = record { word = codes word; means = k }

abbrev pub statement_words : List (Meaning Keyword)
statement_words =
    statement "set" keyword.Set ∷
    statement "if" keyword.If ∷
    statement "repeat" keyword.Repeat ∷
    statement "area" keyword.Area ∷
    statement "write" keyword.Write ∷
    statement "read" keyword.Read ∷
    statement "invalidate" keyword.Invalidate ∷
    statement "isUpdated" keyword.IsUpdated ∷
    statement "send" keyword.Send ∷
    statement "receive" keyword.Receive ∷
    statement "iwrite" keyword.IWrite ∷
    statement "iread" keyword.IRead ∷
    statement "irvWrite" keyword.IrvWrite ∷
    statement "irvRead" keyword.IrvRead ∷
    statement "irvIWrite" keyword.IrvIWrite ∷
    statement "irvIRead" keyword.IrvIRead ∷
    statement "call" keyword.Call ∷
    statement "acall" keyword.ACall ∷
    statement "result" keyword.TakeResult ∷
    statement "switch" keyword.Switch ∷
    statement "mode" keyword.Mode ∷
    []

-- the keyword of a word; a word that is none counts as `set`
unfoldable pub keyword_of : List ℕ → Keyword
keyword_of word = meaning statement_words keyword.Set word

-- the entry that a line of the program's table stands for
abbrev pub statement_word : StatementWord → Meaning Keyword
statement_word w = record { word = w.text.now; means = w.means }
