-- The forms of a line: what may stand in it, whatever the plan has. The script is this project's own.
use Rattle.std.specs.Prelude.{ℕ, List, [], ◌∷◌, ◌++◌, Bool, true, false, ◌&&◌, bytes_eq, codes, decimal, if◌then◌else◌, Option, Some, None}
use Rattle.bus_semantics.specs.Common.{is_name, is_in, Letters, spaced}
use Rattle.script_reading.specs.declared.forms.Form.{Form}
use Rattle.script_reading.specs.declared.forms.Form.TheVariants.{Write, Send, Read, Receive, Ask, TakeResult, Switch, SeeMode}
use Rattle.script_reading.specs.declared.forms.Follows.{Follows}
use Rattle.script_reading.specs.declared.forms.Follows.TheVariants as follow
use Rattle.line_fields.specs.Numbers.{is_number, is_value, number_in}
use Rattle.line_fields.specs.Texts.{is_pair_name, parts}

-- ---- the forms that name a thing of an outer port: the first word, and what stands behind the name

abbrev pub keyword : Form → Letters
keyword Write = codes "write"
keyword Send = codes "send"
keyword Read = codes "read"
keyword Receive = codes "receive"
keyword Ask = codes "ask"
keyword TakeResult = codes "result"
keyword Switch = codes "switch"
keyword SeeMode = codes "mode"

abbrev pub behind : Form → Follows
behind Write = follow.Value
behind Send = follow.Value
behind Read = follow.Nothing
behind Receive = follow.Nothing
behind Ask = follow.Value
behind TakeResult = follow.Nothing
behind Switch = follow.Mode
behind SeeMode = follow.Nothing

-- ---- phrases

-- what a line says, word for word: so many ticks, a run line, or a form with a name and what stands behind it
pub data Phrase : Type 0 where
  to_wait : (count : ℕ) → Phrase
  to_run : Phrase
  to_call : Form → (name : Letters) → (third : Option Letters) → Phrase

abbrev pub third_text : Option Letters → Letters
third_text None = []
third_text (Some t) = spaced t

-- its text: fields with one space between them
abbrev pub phrase_text : Phrase → Letters
phrase_text (to_wait n) = codes "tick" ++ spaced (decimal n)
phrase_text to_run = codes "run"
phrase_text (to_call f name third) = keyword f ++ spaced name ++ third_text third

-- nothing, a value, or the name of a mode
abbrev pub third_fits : Follows → Option Letters → Bool
third_fits follow.Nothing None = true
third_fits follow.Value (Some t) = is_value t
third_fits follow.Mode (Some t) = is_name t
third_fits _ _ = false

-- 1 to 100,000 ticks; PORT.ELEMENT, with what the form asks for behind it
abbrev pub is_phrase : Phrase → Bool
is_phrase (to_wait n) = is_in 1 100000 n
is_phrase to_run = true
is_phrase (to_call f name third) = is_pair_name name && third_fits (behind f) third

-- ---- the phrase that a text is, by its fields

abbrev pub service_form : Letters → Option Form
service_form t = if bytes_eq t (keyword Ask) then Some Ask else (if bytes_eq t (keyword TakeResult) then Some TakeResult
    else (if bytes_eq t (keyword Switch) then Some Switch else (if bytes_eq t (keyword SeeMode) then Some SeeMode else None)))

abbrev pub form_of : Letters → Option Form
form_of t = if bytes_eq t (keyword Write) then Some Write else (if bytes_eq t (keyword Send) then Some Send
    else (if bytes_eq t (keyword Read) then Some Read else (if bytes_eq t (keyword Receive) then Some Receive else service_form t)))

abbrev pub tick_phrase : Letters → Option Phrase
tick_phrase t = if is_number t && is_in 1 100000 (number_in t) then Some (to_wait (number_in t)) else None

abbrev pub call_phrase : Option Form → (name : Letters) → (third : Option Letters) → Option Phrase
call_phrase None name third = None
call_phrase (Some f) name third = if is_phrase (to_call f name third) then Some (to_call f name third) else None

abbrev pub by_fields : List Letters → Option Phrase
by_fields (w ∷ []) = if bytes_eq w (codes "run") then Some to_run else None
by_fields (w ∷ x ∷ []) = if bytes_eq w (codes "tick") then tick_phrase x else call_phrase (form_of w) x None
by_fields (w ∷ x ∷ y ∷ []) = call_phrase (form_of w) x (Some y)
by_fields _ = None

abbrev pub phrase_in : Letters → Option Phrase
phrase_in t = by_fields (parts 32 t)
