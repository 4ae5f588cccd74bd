-- Things of outer ports by name.
use Rattle.std.specs.Prelude.{◌≡◌, ℕ, List, [], ◌∷◌, get_or, length, Bool, nat_le, if◌then◌else◌, Option, Some, bytes_eq}
use Rattle.std.specs.List.{AllZip}
use Rattle.bus_semantics.specs.Common.{Bor, Plan, Letters}
use Rattle.indexmap.specs.IndexMap.{IndexMap, get_by}
use Rattle.bus_semantics.specs.declared.plan.MachinePlan.{MachinePlan}
use Rattle.script_reading.specs.declared.forms.Form.{Form}
use Rattle.script_reading.specs.declared.forms.Form.TheVariants.{Write, Send, Read, Receive, Ask, TakeResult, Switch, SeeMode}
use Rattle.script_reading.specs.Offers.{goes_by, number_of}

-- the map has for each name the number of the first thing that goes by it
abbrev pub IsIndex : {S : Type 0} → Form → Plan → IndexMap (Bor Letters) ℕ S → Type 0
IsIndex f p m = (name : Letters) → get_by (λ k. bytes_eq name k.now) m ≡ number_of f p name

-- the forms in the order in which there are maps for them: `result` is for the points of `ask`
abbrev pub forms : List Form
forms = Write ∷ Send ∷ Read ∷ Receive ∷ Ask ∷ Switch ∷ SeeMode ∷ []

abbrev pub place_of : Form → ℕ
place_of Write = 0
place_of Send = 1
place_of Read = 2
place_of Receive = 3
place_of Ask = 4
place_of TakeResult = 4
place_of Switch = 5
place_of SeeMode = 6

-- these are the maps of what these forms are for, in their order
abbrev pub AreIndexes : {S : Type 0} → Plan → List Form → List (IndexMap (Bor Letters) ℕ S) → Type 0
AreIndexes p fs indexes = AllZip (λ f m. IsIndex f p m) fs indexes

-- each form finds the map of what it is for
abbrev pub HasIndexes : {S : Type 0} → Plan → List (IndexMap (Bor Letters) ℕ S) → Type 0
HasIndexes {S} p indexes = (f : Form) (m : IndexMap (Bor Letters) ℕ S) → IsIndex f p (get_or indexes (place_of f) m)

-- the map was given the number under this name, if there is one, and else is the same
abbrev pub IsNoted : {S : Type 0} → Option Letters → ℕ → IndexMap (Bor Letters) ℕ S → IndexMap (Bor Letters) ℕ S → Type 0
IsNoted t n old new = (name : Letters)
    → get_by (λ k. bytes_eq name k.now) new ≡ (if goes_by name t then Some n else get_by (λ k. bytes_eq name k.now) old)

-- 32 bits number the modes
abbrev pub has_few_modes : MachinePlan → Bool
has_few_modes n = nat_le (length n.modes) 4294967295
