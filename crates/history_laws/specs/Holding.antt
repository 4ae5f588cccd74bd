-- Who holds an exclusive area (SWS_RTE: Rte_Enter, Rte_Exit). Histories stand the newest first.
use Rattle.std.specs.Prelude.{◌≡◌, ℕ, Bool, true, ◌==◌}
use Rattle.bus_semantics.specs.Common.{list_any, ActKey, History, runs}
use Rattle.history_laws.specs.Running.{areas_of}

-- a running activation entered the area and has not left it
abbrev pub is_inside : ActKey → (area : ℕ) → History → Bool
is_inside k x h = list_any (λ y. y == x) (areas_of k h)

pub record HasHolder (area : ℕ) (h : History) : Type 0 where
  pub key : ActKey
  pub running : runs key h ≡ true
  pub inside : is_inside key area h ≡ true
