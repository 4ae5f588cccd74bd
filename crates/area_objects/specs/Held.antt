-- What an exclusive area keeps, and what each call makes of it (SWS_RTE: Rte_Enter, Rte_Exit).
use Rattle.std.specs.Prelude.{Bool, false, Option, Some, None, if◌then◌else◌}
use Rattle.bus_semantics.specs.Common.{same_key, ActKey}
use Rattle.area_objects.specs.declared.held.Entered.{Entered}
use Rattle.area_objects.specs.declared.held.Entered.TheVariants.{In, Held}

-- the activation that is in the area, if there is one
abbrev pub Kept : Type 0
Kept = Option ActKey

-- the activation is in the area
abbrev pub is_held_by : ActKey → Kept → Bool
is_held_by key None = false
is_held_by key (Some holder) = same_key holder key

-- an area is entered only if nobody is in it
abbrev pub answer_to_enter : Kept → Entered
answer_to_enter None = In
answer_to_enter (Some holder) = Held holder

abbrev pub after_enter : ActKey → Kept → Kept
after_enter key None = Some key
after_enter key (Some holder) = Some holder

-- an area is left by the activation that is in it
abbrev pub after_exit : ActKey → Kept → Kept
after_exit key kept = if is_held_by key kept then None else kept
