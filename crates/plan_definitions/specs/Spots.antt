-- Places in a component: JSON pointers.
use Rattle.std.specs.Prelude.{ℕ, List, [], ◌∷◌, ◌++◌, codes}
use Rattle.std.specs.Fmt.{decimal}
use Rattle.plan_definitions.specs.declared.spot.Spot.{Spot}
use Rattle.plan_definitions.specs.declared.spot.Spot.TheVariants as spot

-- a position in a list of a component, if the list has this key
abbrev pub in_component : (component : ℕ) → (list : List ℕ) → (position : ℕ) → List ℕ
in_component component list position = ((codes "/components/" ++ decimal component) ++ list) ++ decimal position

abbrev pub runnable_text : (component : ℕ) → (runnable : ℕ) → List ℕ
runnable_text component m = in_component component (codes "/behavior/runnables/") m

abbrev pub spot_text : (component : ℕ) → Spot → List ℕ
spot_text component (spot.Port k) = in_component component (codes "/ports/") k
spot_text component (spot.Access m k) = (runnable_text component m ++ codes "/accesses/") ++ decimal k
spot_text component (spot.Event k) = in_component component (codes "/behavior/events/") k
spot_text component (spot.List m k) = (runnable_text component m ++ codes "/coherent/") ++ decimal k

-- the positions of a path, each after a `/`
abbrev pub path_text : List ℕ → List ℕ
path_text [] = []
path_text (i ∷ path) = (codes "/" ++ decimal i) ++ path_text path

-- a statement of a program, or the whole of it
abbrev pub program_text : (component : ℕ) → (runnable : ℕ) → (path : List ℕ) → List ℕ
program_text component m path = (runnable_text component m ++ codes "/program") ++ path_text path
