-- The events that modes disable (SWS_RTE: ModeDisablingDependency).
use Rattle.std.specs.Prelude.{ℕ, ◌==◌, ◌&&◌, List, [], ◌∷◌, Bool, false, Vec, slice_index_or, Option, Some, None, min}
use Rattle.std.specs.Global.{Global}
use Rattle.std.specs.List.{list_any}

-- an event that modes may disable: those modes, and whether an admitted activation by it runs
pub record Dependency : Type 0 where
  pub modes : List ℕ
  pub admitted : Bool

abbrev pub has_mode : (mode : ℕ) → List ℕ → Bool
has_mode mode modes = list_any (λ a. a == mode) modes

-- an admitted activation runs that the mode disables
abbrev pub holds_back : (mode : ℕ) → Dependency → Bool
holds_back mode d = d.admitted && has_mode mode d.modes

-- no activation by it runs
abbrev pub idle_dependency : List ℕ → Dependency
idle_dependency modes = record { modes = modes; admitted = false }

abbrev pub modes_in : Vec ℕ Global → List ℕ
modes_in modes = modes.items

-- how they lie: the modes of each, and whether it is in the set of those that run
abbrev pub dependency_of : List ℕ → Bool → Dependency
dependency_of modes admitted = record { modes = modes; admitted = admitted }

abbrev pub dependencies : List (Vec ℕ Global) → (running : List Bool) → List Dependency
dependencies [] running = []
dependencies (modes ∷ disablings) [] = []
dependencies (modes ∷ disablings) (runs ∷ running) = dependency_of modes.items runs ∷ dependencies disablings running

-- what stands past the end of a list of them
abbrev pub no_dependency : Dependency
no_dependency = idle_dependency []

-- events that modes may disable, and the mode of which one knows the first that it holds back for
pub record Watched : Type 0 where
  pub events : List Dependency
  pub mode : ℕ

abbrev pub holds_at : Watched → (event : ℕ) → Bool
holds_at w event = holds_back w.mode (slice_index_or w.events event no_dependency)

abbrev pub lesser : Option ℕ → ℕ → ℕ
lesser None event = event
lesser (Some first) event = min first event
