-- The value that an initial value holds.
use Rattle.rte_value.specs.declared.value.Value.{Value}
use Rattle.rte_value.specs.ShortValues.{one_word}
use Rattle.bus_semantics.specs.declared.initial.Held.{Held}
use Rattle.bus_semantics.specs.declared.initial.Held.TheVariants.{Here, Apart}

abbrev pub value_held : Held → Value
value_held (Here word) = one_word word
value_held (Apart value) = value.value
