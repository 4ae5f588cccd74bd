-- What the code lists, as definitions see it.
use Rattle.std.specs.Prelude.{List, [], ◌∷◌, map}
use Rattle.plan_definitions.specs.Common.{TypeTable, Access, Component, Runnable}
use Rattle.plan_text.specs.declared.calls.Call.{Call}
use Rattle.plan_text.specs.declared.calls.Parts.{Parts}
use Rattle.plan_text.specs.declared.calls.Site.{Site}
use Rattle.plan_text.specs.declared.calls.Parts.TheVariants.{One, Two, Three}
use Rattle.plan_text.specs.Targets.{Letters, Target}

abbrev pub seen_parts : Parts → List Letters
seen_parts (One a) = a.now ∷ []
seen_parts (Two a b) = a.now ∷ b.now ∷ []
seen_parts (Three a b c) = a.now ∷ b.now ∷ c.now ∷ []

abbrev pub seen : Call → Target
seen call = record { word = call.word.now; parts = seen_parts call.parts }

-- what an access of a runnable is, by what its positions refer to
abbrev pub at_site : {X : Type 0} → (TypeTable → Component → Runnable → Access → X) → Site → X
at_site f s = f s.types.now s.component.now s.runnable.now s.access.now

abbrev pub all_seen : List Call → List Target
all_seen calls = map seen calls
