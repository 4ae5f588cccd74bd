-- What a line is read as.
use Rattle.std.specs.Prelude.{◌≡◌, ◌==◌, ◌++◌, codes, not, true, Option, Some, None}
use Rattle.bus_semantics.specs.Common.{list_all, Plan, IsReadingOf, item_fits, Item, Session, idle, made, run_begins, run_closes, unsettled, Letters, Spells, item_text}
use Rattle.bus_laws.specs.Common.{Entry, Version}
use Rattle.trace_reading.specs.declared.reading.LineRead.{LineRead}
use Rattle.trace_reading.specs.declared.reading.LineRead.TheVariants as read

-- the line, its newline included, is that of the item; a bad line is that of none
abbrev pub Reads : Version → Plan → (line : Letters) → LineRead → Type 0
Reads v p line (read.Entry e) = IsReadingOf v p line (made e)
Reads v p line read.Run = IsReadingOf v p line run_begins
Reads v p line read.Idle = IsReadingOf v p line (run_closes idle)
Reads v p line read.Unsettled = IsReadingOf v p line (run_closes unsettled)
Reads v p line read.BadLine = (i : Item) → IsReadingOf v p line i → ⊥

-- of the entries alone
abbrev pub ReadsEntry : Version → Plan → (line : Letters) → Option Entry → Type 0
ReadsEntry v p line None = (e : Entry) → IsReadingOf v p line (made e) → ⊥
ReadsEntry v p line (Some e) = IsReadingOf v p line (made e)

-- the text begins with the line of an entry that fits, and this stands behind it
pub record BeginsWith (v : Version) (p : Plan) (text : Letters) (e : Entry) (more : Letters) : Type 0 where
  pub fit : item_fits p (made e) ≡ true
  pub whole : text ≡ item_text v p (made e) ++ more

-- ---- laws

-- each item of the session fits the plan
abbrev pub IsOfPlan : Plan → Session → Type 0
IsOfPlan p s = list_all (item_fits p) s ≡ true

-- a text that ends by a newline, and has no other
pub record IsOneLine (text : Letters) : Type 0 where
  pub line : Letters
  pub whole : text ≡ line ++ codes "\n"
  pub unbroken : list_all (λ c. not (c == 10)) line ≡ true

-- an item has one line
abbrev pub ItemsHaveOneLine : Plan → Type 0
ItemsHaveOneLine p = (v : Version) (i : Item) → item_fits p i ≡ true → IsOneLine (item_text v p i)

-- a line is that of one item
abbrev pub LinesHaveOneReading : Plan → Type 0
LinesHaveOneReading p = (v : Version) (line : Letters) (i j : Item) → IsReadingOf v p line i → IsReadingOf v p line j → i ≡ j

-- a session has one text in each version
abbrev pub SessionsHaveOneText : Plan → Type 0
SessionsHaveOneText p = (v : Version) (s : Session) (t u : Letters) → Spells v p t s → Spells v p u s → t ≡ u

-- a text is in one version, and that of one session
abbrev pub TextsHaveOneVersion : Plan → Type 0
TextsHaveOneVersion p = (v w : Version) (t : Letters) (s u : Session) → IsOfPlan p s → IsOfPlan p u → Spells v p t s → Spells w p t u → v ≡ w

abbrev pub TextsHaveOneSession : Plan → Type 0
TextsHaveOneSession p = (v : Version) (t : Letters) (s u : Session) → IsOfPlan p s → IsOfPlan p u → Spells v p t s → Spells v p t u → s ≡ u
