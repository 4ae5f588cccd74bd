-- Which interfaces share the name of an item.
use Rattle.std.specs.Prelude.{ℕ, List, [], ◌∷◌, map, Bool, nat_eq, bytes_eq, ◌&&◌, Option, Some, None, Vec}
use Rattle.std.specs.Borrow.{Bor}
use Rattle.std.specs.Global.{Global}
use Rattle.description_types.specs.declared.description.Description.{Description}
use Rattle.indexmap.specs.IndexMap.{IndexMap, get}
use Rattle.description_types.specs.declared.interface.InterfaceKind.{InterfaceKind}
use Rattle.description_types.specs.declared.interface.InterfaceKind.TheVariants.{SenderReceiver, ClientServer, ModeSwitch}
use Rattle.description_types.specs.Items.{element_names, operation_names, interface_at}
use Rattle.description_types.specs.Members.{Among}
use Rattle.composition_tables.specs.Multi.{under}

-- what the items of an interface are joined by: the kind of the interface and the name; all mode elements by the same
abbrev pub item_keys : InterfaceKind → List (ℕ × List ℕ)
item_keys (SenderReceiver xs) = map (λ name. (0, name)) (element_names xs)
item_keys (ClientServer xs) = map (λ name. (1, name)) (operation_names xs)
item_keys (ModeSwitch x) = (2, []) ∷ []

abbrev pub interface_keys : Option InterfaceKind → List (ℕ × List ℕ)
interface_keys None = []
interface_keys (Some kind) = item_keys kind

-- the keys whose names are referred to
abbrev pub keys_of : List (ℕ × Bor (List ℕ)) → List (ℕ × List ℕ)
keys_of keys = map (λ (k : ℕ × Bor (List ℕ)). (k.0, k.1.now)) keys

abbrev pub same_item : ℕ × Bor (List ℕ) → ℕ × Bor (List ℕ) → Bool
same_item a b = nat_eq a.0 b.0 && bytes_eq a.1.now b.1.now

-- each key of one of these interfaces has the interface in the map
abbrev pub IsIndexed : {S : Type 0} → Description → List ℕ → IndexMap (ℕ × Bor (List ℕ)) (Vec ℕ Global) S → Type 0
IsIndexed d chosen index = (q : ℕ × Bor (List ℕ)) (i : ℕ) → Among i chosen → Among (q.0, q.1.now) (interface_keys (interface_at d i)) → Among i (under (get same_item index q))

-- two interfaces share a key
abbrev pub SharesKey : Description → ℕ → ℕ → Type 0
SharesKey d i j = (key : ℕ × List ℕ) × Among key (interface_keys (interface_at d i)) × Among key (interface_keys (interface_at d j))

-- those of the first and the second that share a key are among the pairs
abbrev pub AreShared : Description → List ℕ → List ℕ → List (ℕ × ℕ) → Type 0
AreShared d first second pairs = (i j : ℕ) → Among i first → Among j second → SharesKey d i j → Among (i, j) pairs
