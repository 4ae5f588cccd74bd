-- The spelling of a session in a trace, which is this project's own: a header, then one line for each item. A session has its newest item
-- first, and a trace its oldest; so each new line stands at the end. The versions differ in the header and in how modes are spelled.
use Rattle.std.specs.Prelude.{◌≡◌, ℕ, ℤ, List, [], ◌∷◌, ◌++◌, codes, decimal, position, ◌/◌, ◌%◌, ◌==◌, if◌then◌else◌, Option, Some, None, unwrap_or}
use Rattle.std.specs.Fmt.{signed_decimal}
use Rattle.rte_value.specs.declared.kinds.ActKey.{ActKey}
use Rattle.rte_value.specs.declared.kinds.Step.{Step}
use Rattle.rte_value.specs.declared.kinds.Step.TheVariants as step
use Rattle.rte_value.specs.declared.value.Value.{Value}
use Rattle.rte_value.specs.Values.{words_of}
use Rattle.bus_semantics.specs.declared.plan.ElemPlan.{ElemPlan}
use Rattle.bus_semantics.specs.declared.plan.PointPlan.{PointPlan}
use Rattle.bus_semantics.specs.declared.plan.AreaPlan.{AreaPlan}
use Rattle.bus_semantics.specs.declared.plan.MachinePlan.{MachinePlan}
use Rattle.bus_semantics.specs.declared.plan.ModePortPlan.{ModePortPlan}
use Rattle.bus_semantics.specs.declared.plan.EventPlan.{EventPlan}
use Rattle.bus_semantics.specs.declared.plan.CoherentList.{CoherentList}
use Rattle.bus_semantics.specs.declared.entries.Actor.{Actor}
use Rattle.bus_semantics.specs.declared.entries.Actor.TheVariants.{Env, Machine, Act}
use Rattle.bus_semantics.specs.declared.entries.Deed.{Deed}
use Rattle.bus_semantics.specs.declared.entries.Deed.TheVariants as deed
use Rattle.bus_semantics.specs.declared.entries.Entry.{Entry}
use Rattle.bus_semantics.specs.declared.version.Version.{Version}
use Rattle.bus_semantics.specs.declared.version.Version.TheVariants.{One, Two}
use Rattle.bus_semantics.specs.Plan.{Plan, Runnable, look, machine_of_port}
use Rattle.bus_semantics.specs.Lists.{elems_of}
use Rattle.bus_semantics.specs.Objects.{machine_itself}
use Rattle.bus_semantics.specs.Run.{Closing, idle, unsettled, Item, made, run_begins, run_closes, Session}

abbrev pub Letters : Type 0
Letters = List ℕ

-- a space, and then the text
abbrev pub spaced : Letters → Letters
spaced t = codes " " ++ t

-- ---- values: words in decimal joined by commas, or a dash for none

abbrev pub more_words : List ℤ → Letters
more_words [] = []
more_words (x ∷ xs) = codes "," ++ signed_decimal x ++ more_words xs

abbrev pub words_text : List ℤ → Letters
words_text [] = codes "-"
words_text (x ∷ xs) = signed_decimal x ++ more_words xs

abbrev pub value_text : Value → Letters
value_text v = words_text (words_of v)

-- ---- names

abbrev pub instance_text : Plan → Option ℕ → Letters
instance_text p None = codes "env"
instance_text p (Some i) = look p.names i (λ (t : Letters). t) []

abbrev pub runnable_text : Plan → ℕ → Letters
runnable_text p r = look p.runnables r (λ (v : Runnable). instance_text p (Some v.instance) ++ codes ":" ++ v.name) []

abbrev pub caller_text : Plan → Option ℕ → Letters
caller_text p None = codes "env"
caller_text p (Some r) = runnable_text p r

-- INSTANCE:RUNNABLE.PORT.OPERATION, and env.PORT.OPERATION
abbrev pub point_text : Plan → ℕ → Letters
point_text p q = look p.points q (λ (t : PointPlan). caller_text p t.runnable ++ codes "." ++ t.name) []

abbrev pub machine_text : Plan → ℕ → Letters
machine_text p m = look p.machines m (λ (n : MachinePlan). instance_text p n.instance ++ codes "." ++ n.name) []

abbrev pub key_text : Plan → ActKey → Letters
key_text p k = runnable_text p k.runnable ++ at_point k.point
  where
    at_point : Option ℕ → Letters
    at_point None = []
    at_point (Some q) = codes "@" ++ point_text p q

abbrev pub actor_text : Plan → Actor → Letters
actor_text p Env = codes "env"
actor_text p (Machine m) = machine_text p m
actor_text p (Act k) = key_text p k

-- the names that an instance itself uses
abbrev pub elem_name : Plan → ℕ → Letters
elem_name p x = look p.elements x (λ (e : ElemPlan). e.name) []

abbrev pub point_name : Plan → ℕ → Letters
point_name p q = look p.points q (λ (t : PointPlan). t.name) []

abbrev pub area_name : Plan → ℕ → Letters
area_name p x = look p.areas x (λ (a : AreaPlan). a.name) []

abbrev pub machine_name : Plan → ℕ → Letters
machine_name p m = look p.machines m (λ (n : MachinePlan). n.name) []

abbrev pub mode_port_name : Plan → ℕ → Letters
mode_port_name p port = look p.mode_ports port (λ (t : ModePortPlan). t.name) []

abbrev pub event_name : Plan → ℕ → Letters
event_name p e = look p.events e (λ (v : EventPlan). v.name) []

-- a coherent list has no name: its place among the lists of its runnable, from 0
abbrev pub position_of : Plan → (list : ℕ) → ℕ
position_of p l = look p.lists l (λ (c : CoherentList). look p.runnables c.runnable (λ (r : Runnable). unwrap_or (position (λ n. n == l) r.lists) 0) 0) 0

-- one digit for each element of a list, the first one's first: 1 if it is marked
abbrev pub mask_text : (mask : ℕ) → (elems : List ℕ) → Letters
mask_text w [] = []
mask_text w (x ∷ xs) = (if w % 2 == 1 then codes "1" else codes "0") ++ mask_text (w / 2) xs

-- ---- deeds

abbrev pub from_text : Plan → Option ℕ → Value → Letters
from_text p None value = []
from_text p (Some q) value = codes " from " ++ point_text p q ++ spaced (value_text value)

-- a mode of a machine: its number in version one, its name in version two. The transition value has no name
abbrev pub mode_text : Version → Plan → (machine : Option ℕ) → (mode : ℕ) → Letters
mode_text One p m mode = decimal mode
mode_text Two p m mode = look (modes_at m) mode (λ (t : Letters). t) (codes "-")
  where
    modes_at : Option ℕ → List Letters
    modes_at None = []
    modes_at (Some i) = look p.machines i (λ (n : MachinePlan). n.modes) []

abbrev pub phase_text : Version → Plan → Actor → Step → Letters
phase_text v p a (step.Close mode) = codes "phase close " ++ mode_text v p (machine_itself a) mode
phase_text v p a step.Exit = codes "phase exit"
phase_text v p a step.Transition = codes "phase transition"
phase_text v p a step.Entry = codes "phase entry"
phase_text v p a step.Stable = codes "phase stable"

-- what an actor did
abbrev pub deed_text : Version → Plan → Actor → Deed → Letters
deed_text v p a deed.Tick = codes "tick"
deed_text v p a (deed.Start event point value) = codes "start " ++ event_name p event ++ from_text p point value
deed_text v p a (deed.Admit admitted) = if admitted then codes "admit yes" else codes "admit no"
deed_text v p a (deed.Fetch x value) = codes "fetch " ++ elem_name p x ++ spaced (value_text value)
deed_text v p a (deed.Write x value) = codes "write " ++ elem_name p x ++ spaced (value_text value) ++ codes " 0"
deed_text v p a (deed.Read x code value) = codes "read " ++ elem_name p x ++ spaced (decimal code) ++ spaced (value_text value)
deed_text v p a (deed.Invalidate x) = codes "invalidate " ++ elem_name p x ++ codes " 0"
deed_text v p a (deed.IsUpdated x updated) = codes "isUpdated " ++ elem_name p x ++ (if updated then codes " 1" else codes " 0")
deed_text v p a (deed.Send x value code) = codes "send " ++ elem_name p x ++ spaced (value_text value) ++ spaced (decimal code)
deed_text v p a (deed.Receive x code value) = codes "receive " ++ elem_name p x ++ spaced (decimal code) ++ spaced (value_text value)
deed_text v p a (deed.Ask q value code) = codes "ask " ++ point_name p q ++ spaced (value_text value) ++ spaced (decimal code)
deed_text v p a (deed.Answer q code value) = codes "answer " ++ point_name p q ++ spaced (decimal code) ++ spaced (value_text value)
deed_text v p a (deed.TakeResult q code value) = codes "result " ++ point_name p q ++ spaced (decimal code) ++ spaced (value_text value)
deed_text v p a (deed.Return code value) = codes "return " ++ decimal code ++ spaced (value_text value)
deed_text v p a (deed.Enter x) = codes "enter " ++ area_name p x
deed_text v p a (deed.Leave x) = codes "exit " ++ area_name p x
deed_text v p a (deed.Switch m mode code) = codes "switch " ++ machine_name p m ++ spaced (mode_text v p (Some m) mode) ++ spaced (decimal code)
deed_text v p a (deed.Mode port mode) = codes "mode " ++ mode_port_name p port ++ spaced (mode_text v p (machine_of_port p port) mode)
deed_text v p a (deed.Phase s) = phase_text v p a s
deed_text v p a (deed.Publish x value) = codes "publish " ++ elem_name p x ++ spaced (value_text value)
deed_text v p a (deed.FetchAll l value) = codes "fetchAll " ++ decimal (position_of p l) ++ spaced (value_text value)
deed_text v p a (deed.PublishAll l written value) = codes "publishAll " ++ decimal (position_of p l) ++ spaced (mask_text written (elems_of p l)) ++ spaced (value_text value)
deed_text v p a deed.End = codes "end"

-- ---- lines

abbrev pub entry_text : Version → Plan → Entry → Letters
entry_text v p e = actor_text p e.actor ++ spaced (deed_text v p e.actor e.deed) ++ codes "\n"

abbrev pub closing_text : Closing → Letters
closing_text idle = codes "idle\n"
closing_text unsettled = codes "unsettled\n"

abbrev pub item_text : Version → Plan → Item → Letters
item_text v p (made e) = entry_text v p e
item_text v p run_begins = codes "run\n"
item_text v p (run_closes word) = closing_text word

abbrev pub header : Version → Letters
header One = codes "rte-trace 1\n"
header Two = codes "rte-trace 2\n"

abbrev pub spelling_of : Version → Plan → Session → Letters
spelling_of v p [] = header v
spelling_of v p (i ∷ s) = spelling_of v p s ++ item_text v p i

-- the bytes are the header and one line for each item
abbrev pub Spells : Version → Plan → Letters → Session → Type 0
Spells v p bytes s = bytes ≡ spelling_of v p s
