-- The deed of a line, by its fields.
use Rattle.std.specs.Prelude.{ℕ, bytes_eq, codes, if◌then◌else◌, Option, Some, None, option_and_then}
use Rattle.bus_semantics.specs.Common.{Step, Plan, instance_of, machine_of_port, machine_itself, Letters}
use Rattle.rte_value.specs.declared.kinds.Step.TheVariants as step
use Rattle.bus_laws.specs.Common.{Actor, Env, Machine, Act, Deed, Version, One, Two}
use Rattle.bus_semantics.specs.declared.entries.Deed.TheVariants as deed
use Rattle.trace_reading.specs.declared.words.CallWord.{CallWord}
use Rattle.trace_reading.specs.declared.words.CallWord.TheVariants as call
use Rattle.trace_reading.specs.declared.words.DataWord.{DataWord}
use Rattle.trace_reading.specs.declared.words.DataWord.TheVariants as datum
use Rattle.trace_reading.specs.declared.words.ListWord.{ListWord}
use Rattle.trace_reading.specs.declared.words.ListWord.TheVariants as listed
use Rattle.trace_reading.specs.declared.words.ModeWord.{ModeWord}
use Rattle.trace_reading.specs.declared.words.ModeWord.TheVariants as mode
use Rattle.trace_reading.specs.declared.words.PlainWord.{PlainWord}
use Rattle.trace_reading.specs.declared.words.PlainWord.TheVariants as plain
use Rattle.trace_reading.specs.Actors.{point_in}
use Rattle.trace_reading.specs.Cuts.{field}
use Rattle.trace_reading.specs.Fields.{code_at, no_value, number_at, value_at}
use Rattle.trace_reading.specs.Finding.{area_at, elem_at, event_at, machine_at, mode_named, mode_port_at, point_at, result_at}

-- ---- the fields of a line

pub record Line : Type 0 where
  pub who : Letters
  pub word : Letters
  pub first : Letters
  pub second : Letters
  pub third : Letters
  pub fourth : Letters

abbrev pub line_at : Letters → Line
line_at t = record { who = field 0 t; word = field 1 t; first = field 2 t; second = field 3 t; third = field 4 t; fourth = field 5 t }

-- ---- the words

abbrev pub data_word : Letters → Option DataWord
data_word t =
    if bytes_eq t (codes "read") then Some datum.Read else (if bytes_eq t (codes "write") then Some datum.Write
    else (if bytes_eq t (codes "fetch") then Some datum.Fetch else (if bytes_eq t (codes "publish") then Some datum.Publish
    else (if bytes_eq t (codes "send") then Some datum.Send else (if bytes_eq t (codes "receive") then Some datum.Receive
    else (if bytes_eq t (codes "isUpdated") then Some datum.IsUpdated else (if bytes_eq t (codes "invalidate") then Some datum.Invalidate else None)))))))

abbrev pub plain_word : Letters → Option PlainWord
plain_word t =
    if bytes_eq t (codes "start") then Some plain.Start else (if bytes_eq t (codes "admit") then Some plain.Admit
    else (if bytes_eq t (codes "end") then Some plain.End else (if bytes_eq t (codes "tick") then Some plain.Tick
    else (if bytes_eq t (codes "return") then Some plain.Return else (if bytes_eq t (codes "enter") then Some plain.Enter
    else (if bytes_eq t (codes "exit") then Some plain.Leave else None))))))

abbrev pub call_word : Letters → Option CallWord
call_word t = if bytes_eq t (codes "ask") then Some call.Ask else (if bytes_eq t (codes "answer") then Some call.Answer
    else (if bytes_eq t (codes "result") then Some call.TakeResult else None))

abbrev pub mode_word : Letters → Option ModeWord
mode_word t = if bytes_eq t (codes "mode") then Some mode.Mode else (if bytes_eq t (codes "switch") then Some mode.Switch
    else (if bytes_eq t (codes "phase") then Some mode.Phase else None))

abbrev pub list_word : Letters → Option ListWord
list_word t = if bytes_eq t (codes "fetchAll") then Some listed.FetchAll else (if bytes_eq t (codes "publishAll") then Some listed.PublishAll else None)

-- ---- whose names they are

abbrev pub home_of : Plan → Actor → Option ℕ
home_of p Env = None
home_of p (Machine m) = None
home_of p (Act k) = instance_of p k.runnable

abbrev pub caller_itself : Actor → Option ℕ
caller_itself Env = None
caller_itself (Machine m) = None
caller_itself (Act k) = Some k.runnable

-- ---- deeds at an element

abbrev pub data_deed_at : DataWord → (elem : ℕ) → Line → Option Deed
data_deed_at datum.Read x l = option_and_then (λ code. option_and_then (λ value. Some (deed.Read x code value)) (value_at l.third)) (code_at l.second)
data_deed_at datum.Write x l = option_and_then (λ value. Some (deed.Write x value)) (value_at l.second)
data_deed_at datum.Fetch x l = option_and_then (λ value. Some (deed.Fetch x value)) (value_at l.second)
data_deed_at datum.Publish x l = option_and_then (λ value. Some (deed.Publish x value)) (value_at l.second)
data_deed_at datum.Send x l = option_and_then (λ value. option_and_then (λ code. Some (deed.Send x value code)) (code_at l.third)) (value_at l.second)
data_deed_at datum.Receive x l = option_and_then (λ code. option_and_then (λ value. Some (deed.Receive x code value)) (value_at l.third)) (code_at l.second)
data_deed_at datum.IsUpdated x l = Some (deed.IsUpdated x (bytes_eq l.second (codes "1")))
data_deed_at datum.Invalidate x l = Some (deed.Invalidate x)

abbrev pub data_deed : Plan → Actor → DataWord → Line → Option Deed
data_deed p a w l = option_and_then (λ x. data_deed_at w x l) (elem_at p (home_of p a) l.first)

-- ---- deeds at a point

abbrev pub called_at : Plan → Actor → CallWord → Letters → Option ℕ
called_at p (Act k) call.TakeResult t = result_at p (instance_of p k.runnable) t
called_at p a _ t = point_at p (caller_itself a) t

abbrev pub call_deed_at : CallWord → (point : ℕ) → Line → Option Deed
call_deed_at call.Ask q l = option_and_then (λ value. option_and_then (λ code. Some (deed.Ask q value code)) (code_at l.third)) (value_at l.second)
call_deed_at call.Answer q l = option_and_then (λ code. option_and_then (λ value. Some (deed.Answer q code value)) (value_at l.third)) (code_at l.second)
call_deed_at call.TakeResult q l = option_and_then (λ code. option_and_then (λ value. Some (deed.TakeResult q code value)) (value_at l.third)) (code_at l.second)

abbrev pub call_deed : Plan → Actor → CallWord → Line → Option Deed
call_deed p a w l = option_and_then (λ q. call_deed_at w q l) (called_at p a w l.first)

-- ---- deeds with a mode

-- a number in version one, a name in version two
abbrev pub mode_at : Version → Plan → (machine : Option ℕ) → Letters → Option ℕ
mode_at One p m t = number_at t
mode_at Two p None t = None
mode_at Two p (Some m) t = mode_named p m t

abbrev pub step_in : Version → Plan → Actor → Line → Option Step
step_in v p a l =
    if bytes_eq l.first (codes "close") then option_and_then (λ n. Some (step.Close n)) (mode_at v p (machine_itself a) l.second)
    else (if bytes_eq l.first (codes "exit") then Some step.Exit
    else (if bytes_eq l.first (codes "transition") then Some step.Transition
    else (if bytes_eq l.first (codes "entry") then Some step.Entry
    else (if bytes_eq l.first (codes "stable") then Some step.Stable else None))))

abbrev pub switch_deed : Version → Plan → (machine : ℕ) → Line → Option Deed
switch_deed v p m l = option_and_then (λ n. option_and_then (λ code. Some (deed.Switch m n code)) (code_at l.third)) (mode_at v p (Some m) l.second)

abbrev pub seen_deed : Version → Plan → (port : ℕ) → Line → Option Deed
seen_deed v p port l = option_and_then (λ n. Some (deed.Mode port n)) (mode_at v p (machine_of_port p port) l.second)

abbrev pub mode_deed : Version → Plan → Actor → ModeWord → Line → Option Deed
mode_deed v p a mode.Switch l = option_and_then (λ m. switch_deed v p m l) (machine_at p (home_of p a) l.first)
mode_deed v p a mode.Mode l = option_and_then (λ port. seen_deed v p port l) (mode_port_at p (home_of p a) l.first)
mode_deed v p a mode.Phase l = option_and_then (λ s. Some (deed.Phase s)) (step_in v p a l)

-- ---- all others

abbrev pub start_deed : Plan → (event : ℕ) → Line → Option Deed
start_deed p e l =
    if bytes_eq l.second (codes "from")
    then option_and_then (λ q. option_and_then (λ value. Some (deed.Start e (Some q) value)) (value_at l.fourth)) (point_in p l.third)
    else Some (deed.Start e None no_value)

abbrev pub plain_deed : Plan → Actor → PlainWord → Line → Option Deed
plain_deed p a plain.Start l = option_and_then (λ e. start_deed p e l) (event_at p (home_of p a) l.first)
plain_deed p a plain.Admit l = Some (deed.Admit (bytes_eq l.first (codes "yes")))
plain_deed p a plain.End l = Some deed.End
plain_deed p a plain.Tick l = Some deed.Tick
plain_deed p a plain.Return l = option_and_then (λ code. option_and_then (λ value. Some (deed.Return code value)) (value_at l.second)) (code_at l.first)
plain_deed p a plain.Enter l = option_and_then (λ x. Some (deed.Enter x)) (area_at p (home_of p a) l.first)
plain_deed p a plain.Leave l = option_and_then (λ x. Some (deed.Leave x)) (area_at p (home_of p a) l.first)
