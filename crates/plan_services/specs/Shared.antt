-- The signatures that the runnables of a component have in all its instances.
use Rattle.std.specs.Prelude.{◌≡◌, List, map}
use Rattle.bus_semantics.specs.Common.{arc_value, Global, AccessSig, Signature}
use Rattle.std.specs.declared.sync.Arc.{Arc}
use Rattle.plan_definitions.specs.Common.{TypeTable, Component, Runnable, Description, signature}

abbrev pub Shared : Type 0
Shared = Arc Signature Global

abbrev pub accesses_of : Shared → List AccessSig
accesses_of s = (arc_value s).accesses

abbrev pub signature_in : TypeTable → Component → Runnable → List AccessSig
signature_in types c r = signature types c r.accesses

-- those of a component's runnables, in their order, and of all components
abbrev pub AreSignatures : TypeTable → Component → List Shared → Type 0
AreSignatures types c list = map accesses_of list ≡ map (signature_in types c) c.behavior.runnables

abbrev pub AreOfAll : Description → List (List Shared) → Type 0
AreOfAll d lists = map (map accesses_of) lists ≡ map (λ c. map (signature_in d.types c) c.behavior.runnables) d.components
