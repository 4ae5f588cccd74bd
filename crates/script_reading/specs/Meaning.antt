-- What a line of a script asks for over a plan, or the cause for which it is bad. The script and its causes are this project's own.
use Rattle.std.specs.Prelude.{ℕ, ℤ, List, [], ◌∷◌, ◌==◌, if◌then◌else◌, Option, Some, None}
use Rattle.bus_semantics.specs.declared.script.Line.{Line}
use Rattle.bus_semantics.specs.declared.script.Line.TheVariants as line
use Rattle.bus_semantics.specs.Common.{Plan, Letters, Wanted, to_write, to_send, to_read, to_receive, to_ask, to_take_result, to_switch, to_see_mode, wanted_of}
use Rattle.script_reading.specs.declared.forms.Form.{Form}
use Rattle.script_reading.specs.declared.forms.Form.TheVariants.{Write, Send, Read, Receive, Ask, TakeResult, SeeMode}
use Rattle.script_reading.specs.declared.forms.Follows.{Follows}
use Rattle.script_reading.specs.declared.forms.Follows.TheVariants as follow
use Rattle.script_reading.specs.Forms.{Phrase, to_wait, to_run, to_call, behind, phrase_in}
use Rattle.line_fields.specs.Numbers.{words_in}
use Rattle.script_reading.specs.Offers.{mode_of, number_of, takes}

-- what a line asks for: ticks, a run line, or a call of the environment
pub data Asked : Type 0 where
  ticks : ℕ → Asked
  a_run : Asked
  a_call : Wanted → Asked

abbrev pub asked_of : Line → Asked
asked_of (line.Tick n) = ticks n
asked_of line.Run = a_run
asked_of (line.Call w) = a_call (wanted_of w)

-- what the text of a line says: nothing, what it asks for, or the cause for which it is bad
pub data Saying : Type 0 where
  nothing : Saying
  asks : Asked → Saying
  is_bad : (cause : ℕ) → Saying

-- ---- causes

-- the line has none of the forms
abbrev pub no_form : ℕ
no_form = 1

-- the environment has no such thing of that kind, or the machine no such mode
abbrev pub no_such : ℕ
no_such = 2

-- the value has another word count, or a word outside the limits
abbrev pub not_of_type : ℕ
not_of_type = 3

-- ---- calls, by what stands behind the name

abbrev pub plain_call : Form → ℕ → Saying
plain_call Read x = asks (a_call (to_read x))
plain_call Receive x = asks (a_call (to_receive x))
plain_call TakeResult x = asks (a_call (to_take_result x))
plain_call SeeMode x = asks (a_call (to_see_mode x))
plain_call _ x = is_bad no_form

abbrev pub call_with : Form → ℕ → List ℤ → Saying
call_with Write x ws = asks (a_call (to_write x ws))
call_with Send x ws = asks (a_call (to_send x ws))
call_with Ask x ws = asks (a_call (to_ask x ws))
call_with _ x ws = is_bad no_form

abbrev pub value_call : Plan → Form → ℕ → List ℤ → Saying
value_call p f x ws = if takes f p x ws then call_with f x ws else is_bad not_of_type

abbrev pub switch_call : ℕ → Option ℕ → Saying
switch_call m None = is_bad no_such
switch_call m (Some mode) = asks (a_call (to_switch m mode))

abbrev pub call_at : Plan → Form → Follows → ℕ → (third : Option Letters) → Saying
call_at p f follow.Nothing x third = plain_call f x
call_at p f follow.Value x (Some t) = value_call p f x (words_in t)
call_at p f follow.Mode x (Some t) = switch_call x (mode_of p x t)
call_at p f _ x None = is_bad no_form

abbrev pub named_call : Plan → Form → (third : Option Letters) → Option ℕ → Saying
named_call p f third None = is_bad no_such
named_call p f third (Some x) = call_at p f (behind f) x third

-- ---- lines

abbrev pub meaning : Plan → Phrase → Saying
meaning p (to_wait n) = asks (ticks n)
meaning p to_run = asks a_run
meaning p (to_call f name third) = named_call p f third (number_of f p name)

abbrev pub meaning_in : Plan → Option Phrase → Saying
meaning_in p None = is_bad no_form
meaning_in p (Some phrase) = meaning p phrase

-- an empty line and one that begins with `#` say nothing
abbrev pub saying : Plan → Letters → Saying
saying p [] = nothing
saying p (c ∷ cs) = if c == 35 then nothing else meaning_in p (phrase_in (c ∷ cs))
