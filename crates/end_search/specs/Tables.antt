-- Names and ends, where they are looked up.
use Rattle.std.specs.Prelude.{◌≡◌, ◌↔◌, ℕ, List, [], map, Bool, nat_eq, bytes_eq, Some, Vec, slice_get}
use Rattle.std.specs.Borrow.{Bor}
use Rattle.std.specs.Global.{Global}
use Rattle.indexmap.specs.IndexMap.{IndexMap, get}
use Rattle.description_types.specs.declared.interface.InterfaceKind.{InterfaceKind}
use Rattle.description_types.specs.declared.interface.InterfaceKind.TheVariants.{SenderReceiver, ClientServer, ModeSwitch}
use Rattle.composition_tables.specs.declared.tree.PortEnd.{PortEnd}
use Rattle.description_types.specs.Items.{element_names, operation_names}
use Rattle.description_types.specs.Members.{Among}
use Rattle.composition_tables.specs.Multi.{under}

-- the names that are referred to
abbrev pub names_of : List (Bor (List ℕ)) → List (List ℕ)
names_of names = map (λ b. b.now) names

abbrev pub same_name : Bor (List ℕ) → Bor (List ℕ) → Bool
same_name a b = bytes_eq a.now b.now

-- each name has in the map the positions at which it stands among the names
abbrev pub ArePlaces : {S : Type 0} → List (List ℕ) → IndexMap (Bor (List ℕ)) (Vec ℕ Global) S → Type 0
ArePlaces names places = (q : Bor (List ℕ)) (j : ℕ) → Among j (under (get same_name places q)) ↔ (slice_get names j ≡ Some q.now)

-- the names by which the items of an interface are joined; a mode element is joined by none
abbrev pub item_names : InterfaceKind → List (List ℕ)
item_names (SenderReceiver xs) = element_names xs
item_names (ClientServer xs) = operation_names xs
item_names (ModeSwitch x) = []

-- each interface has in the map the ends that have it
abbrev pub AreGroups : {S : Type 0} → List PortEnd → IndexMap ℕ (Vec PortEnd Global) S → Type 0
AreGroups ends groups = (q : ℕ) (x : PortEnd) → Among x (under (get nat_eq groups q)) ↔ (Among x ends × (x.interface ≡ q))
