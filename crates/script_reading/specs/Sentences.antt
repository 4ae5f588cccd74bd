-- What a script says, in words: how it spells what it asks for, which lines are good, and what each cause of a bad one means.
use Rattle.std.specs.Prelude.{◌≡◌, ℕ, ◌<◌, List, [], ◌∷◌, ◌++◌, length, Bool, true, false, ◌⊎◌, ◌&&◌, ◌==◌, codes, decimal, Option, Some, None}
use Rattle.bus_semantics.specs.Common.{slice_get, wish_fits, Plan, look, is_in, Letters, spaced, words_text, elem_name, point_name, machine_name, mode_port_name, Wanted, to_tick, to_write}
use Rattle.bus_semantics.specs.Common.{to_send, to_read, to_receive, to_ask, to_take_result, to_switch, to_see_mode}
use Rattle.bus_semantics.specs.declared.plan.MachinePlan.{MachinePlan}
use Rattle.bus_semantics.specs.declared.entries.Actor.TheVariants.{Env}
use Rattle.script_reading.specs.declared.forms.Form.{Form}
use Rattle.script_reading.specs.declared.forms.Form.TheVariants.{Write, Send, Read, Receive, Ask, TakeResult, Switch, SeeMode}
use Rattle.script_reading.specs.declared.forms.Follows.TheVariants as follow
use Rattle.script_reading.specs.Forms.{Phrase, to_call, behind, is_phrase, phrase_text}
use Rattle.script_reading.specs.Limits.{are_too_many, runs_in, ticks_in}
use Rattle.script_reading.specs.Meaning.{Asked, Saying, ticks, a_run, a_call, no_form, no_such, not_of_type, saying}
use Rattle.line_fields.specs.Numbers.{words_in}
use Rattle.script_reading.specs.Offers.{offered, takes}
use Rattle.script_reading.specs.Reading.{too_many}

-- ---- good lines

abbrev pub mode_name : Plan → (machine : ℕ) → (mode : ℕ) → Letters
mode_name p m mode = look p.machines m (λ (n : MachinePlan). look n.modes mode (λ (t : Letters). t) []) []

-- how a script spells a call of the environment; it has no other calls
abbrev pub call_text : Plan → Wanted → Letters
call_text p (to_write x ws) = codes "write" ++ spaced (elem_name p x) ++ spaced (words_text ws)
call_text p (to_send x ws) = codes "send" ++ spaced (elem_name p x) ++ spaced (words_text ws)
call_text p (to_read x) = codes "read" ++ spaced (elem_name p x)
call_text p (to_receive x) = codes "receive" ++ spaced (elem_name p x)
call_text p (to_ask q ws) = codes "ask" ++ spaced (point_name p q) ++ spaced (words_text ws)
call_text p (to_take_result q) = codes "result" ++ spaced (point_name p q)
call_text p (to_switch m mode) = codes "switch" ++ spaced (machine_name p m) ++ spaced (mode_name p m mode)
call_text p (to_see_mode port) = codes "mode" ++ spaced (mode_port_name p port)
call_text p _ = []

-- how a script spells what it asks for
abbrev pub text_of : Plan → Asked → Letters
text_of p (ticks n) = codes "tick" ++ spaced (decimal n)
text_of p a_run = codes "run"
text_of p (a_call w) = call_text p w

-- calls that the environment may make, with a value that may be given there; ticks are no calls
abbrev pub may_call : Plan → Wanted → Bool
may_call p to_tick = false
may_call p (to_write x ws) = wish_fits p Env (to_write x ws) && takes Write p x ws
may_call p (to_send x ws) = wish_fits p Env (to_send x ws) && takes Send p x ws
may_call p (to_ask q ws) = wish_fits p Env (to_ask q ws) && takes Ask p q ws
may_call p w = wish_fits p Env w

abbrev pub may_ask : Plan → Asked → Bool
may_ask p (ticks n) = is_in 1 100000 n
may_ask p a_run = true
may_ask p (a_call w) = may_call p w

-- the line is the spelling of this, and the environment may ask for it
pub record IsSpelling (p : Plan) (t : Letters) (a : Asked) : Type 0 where
  pub may : may_ask p a ≡ true
  pub text : t ≡ text_of p a

-- ---- of things with one name the first; in a sound plan names are distinct

-- the mode of this number has the name
abbrev pub IsModeOf : Plan → (machine : ℕ) → (mode : ℕ) → Letters → Type 0
IsModeOf p m mode name = look p.machines m (λ (n : MachinePlan). slice_get n.modes mode) None ≡ Some name

-- no thing before this one has the name, and no mode before this one has its name
abbrev pub IsFirst : Plan → Form → ℕ → Letters → Type 0
IsFirst p f x name = (y : ℕ) → y < x → offered f p y ≡ Some name → ⊥

abbrev pub IsFirstMode : Plan → (machine : ℕ) → (mode : ℕ) → Type 0
IsFirstMode p m mode = (k : ℕ) → k < mode → IsModeOf p m k (mode_name p m mode) → ⊥

abbrev pub IsOfFirst : Plan → Wanted → Type 0
IsOfFirst p (to_write x ws) = IsFirst p Write x (elem_name p x)
IsOfFirst p (to_send x ws) = IsFirst p Send x (elem_name p x)
IsOfFirst p (to_read x) = IsFirst p Read x (elem_name p x)
IsOfFirst p (to_receive x) = IsFirst p Receive x (elem_name p x)
IsOfFirst p (to_ask q ws) = IsFirst p Ask q (point_name p q)
IsOfFirst p (to_take_result q) = IsFirst p TakeResult q (point_name p q)
IsOfFirst p (to_switch m mode) = IsFirst p Switch m (machine_name p m) × IsFirstMode p m mode
IsOfFirst p (to_see_mode port) = IsFirst p SeeMode port (mode_port_name p port)
IsOfFirst p _ = Unit {0}

abbrev pub AsksOfFirst : Plan → Asked → Type 0
AsksOfFirst p (ticks n) = Unit {0}
AsksOfFirst p a_run = Unit {0}
AsksOfFirst p (a_call w) = IsOfFirst p w

-- the line is the spelling of this, and it is of the first of its name
pub record AsksFor (p : Plan) (t : Letters) (a : Asked) : Type 0 where
  pub spelling : IsSpelling p t a
  pub first : AsksOfFirst p a

-- it asks for nothing: it is empty or a comment
abbrev pub is_blank : Letters → Bool
is_blank [] = true
is_blank (c ∷ cs) = c == 35

-- ---- causes

-- the line has the form of this phrase
pub record HasForm (t : Letters) (ph : Phrase) : Type 0 where
  pub fits : is_phrase ph ≡ true
  pub text : t ≡ phrase_text ph

-- 1: it is not blank and has none of the forms
pub record HasNoForm (t : Letters) : Type 0 where
  pub not_blank : is_blank t ≡ false
  pub none : (ph : Phrase) → HasForm t ph → ⊥

-- the first thing that the form is for and that has the name
pub record IsNamed (p : Plan) (f : Form) (name : Letters) (x : ℕ) : Type 0 where
  pub named : offered f p x ≡ Some name
  pub first : IsFirst p f x name

-- the line is a call, with its form, its name and what stands behind it
abbrev pub IsCall : Letters → Form → Letters → Option Letters → Type 0
IsCall t f name third = HasForm t (to_call f name third)

-- 2: it has a form, but the environment has no such thing of that kind
pub record NamesNothing (p : Plan) (t : Letters) : Type 0 where
  pub form : Form
  pub name : Letters
  pub third : Option Letters
  pub call : IsCall t form name third
  pub nothing : (x : ℕ) → offered form p x ≡ Some name → ⊥

-- or the machine that it names has no such mode
pub record NamesNoMode (p : Plan) (t : Letters) : Type 0 where
  pub machine : ℕ
  pub name : Letters
  pub mode : Letters
  pub call : IsCall t Switch name (Some mode)
  pub named : IsNamed p Switch name machine
  pub nothing : (k : ℕ) → IsModeOf p machine k mode → ⊥

-- 3: it names such a thing, but its value has another word count or a word outside the limits
pub record GivesNoValue (p : Plan) (t : Letters) : Type 0 where
  pub form : Form
  pub name : Letters
  pub value : Letters
  pub thing : ℕ
  pub call : IsCall t form name (Some value)
  pub with_value : behind form ≡ follow.Value
  pub named : IsNamed p form name thing
  pub not_taken : takes form p thing (words_in value) ≡ false

-- what makes a line bad whatever stands before it
abbrev pub IsBadItself : Plan → Letters → (cause : ℕ) → Type 0
IsBadItself p t cause = ((cause ≡ no_form) × HasNoForm t)
    ⊎ (((cause ≡ no_such) × (NamesNothing p t ⊎ NamesNoMode p t)) ⊎ ((cause ≡ not_of_type) × GivesNoValue p t))

-- 4: with this line there are too many lines, ticks or run lines
abbrev pub pass_limit : (say : Letters → Saying) → List Letters → Bool
pass_limit say ts = are_too_many (length ts) (ticks_in say ts) (runs_in say ts)

pub record PassesLimit (p : Plan) (before : List Letters) (t : Letters) : Type 0 where
  pub good_itself : (cause : ℕ) → IsBadItself p t cause → ⊥
  pub passes : pass_limit (saying p) (before ++ t ∷ []) ≡ true

-- the least cause of a line if these stand before it
abbrev pub IsCauseOf : Plan → (before : List Letters) → Letters → (cause : ℕ) → Type 0
IsCauseOf p before t cause = IsBadItself p t cause ⊎ ((cause ≡ too_many) × PassesLimit p before t)
