-- The entry that a line may be the text of: if it is that of any, then of this one.
use Rattle.std.specs.Prelude.{Option, Some, None, option_and_then}
use Rattle.bus_laws.specs.Common.{Actor, Deed, Entry, Version}
use Rattle.bus_semantics.specs.Common.{Plan, Letters}
use Rattle.trace_reading.specs.declared.words.CallWord.{CallWord}
use Rattle.trace_reading.specs.declared.words.DataWord.{DataWord}
use Rattle.trace_reading.specs.declared.words.ListWord.{ListWord}
use Rattle.trace_reading.specs.declared.words.ModeWord.{ModeWord}
use Rattle.trace_reading.specs.declared.words.PlainWord.{PlainWord}
use Rattle.trace_reading.specs.Actors.{actor_in}
use Rattle.trace_reading.specs.Deeds.{Line, call_deed, call_word, data_deed, data_word, line_at, list_word, mode_deed, mode_word, plain_deed, plain_word}
use Rattle.trace_reading.specs.Lists.{list_deed}

abbrev pub deed_in : Version → Plan → Actor → Line → Option Deed
deed_in v p a l = if_data (data_word l.word)
  where
    if_list : Option ListWord → Option Deed
    if_list None = None
    if_list (Some w) = list_deed p a w l

    if_mode : Option ModeWord → Option Deed
    if_mode None = if_list (list_word l.word)
    if_mode (Some w) = mode_deed v p a w l

    if_call : Option CallWord → Option Deed
    if_call None = if_mode (mode_word l.word)
    if_call (Some w) = call_deed p a w l

    if_plain : Option PlainWord → Option Deed
    if_plain None = if_call (call_word l.word)
    if_plain (Some w) = plain_deed p a w l

    if_data : Option DataWord → Option Deed
    if_data None = if_plain (plain_word l.word)
    if_data (Some w) = data_deed p a w l

abbrev pub guess : Version → Plan → Line → Option Entry
guess v p l = option_and_then (λ a. option_and_then (λ d. Some (record { actor = a; deed = d })) (deed_in v p a l)) (actor_in p l.who)

abbrev pub guess_of : Version → Plan → Letters → Option Entry
guess_of v p t = guess v p (line_at t)
