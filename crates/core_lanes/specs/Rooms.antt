-- Room of cores for their entries.
use Rattle.std.specs.Prelude.{◌≡◌, ◌<◌, ℕ, List, [], slice_get, Some}
use Rattle.core_turn.specs.Cores.{CoreState}

-- a core has room for an entry, and its trace is empty
pub record HasRoom (c : CoreState) : Type 0 where
  pub trace : c.trace ≡ []
  pub room : 0 < c.room

abbrev pub HaveRoom : List CoreState → Type 0
HaveRoom cores = (i : ℕ) (c : CoreState) → slice_get cores i ≡ Some c → HasRoom c
