-- Keys with their positions.
use Rattle.std.specs.Prelude.{◌≡◌, ℕ, List, Bool}
use Rattle.std.specs.List.{position_from}
use Rattle.std.specs.Map.{keys_of, lookup}

-- each key is found with the first position at which it stands
abbrev pub IsNumbering : {K : Type 0} → (K → K → Bool) → List (K × ℕ) → Type 0
IsNumbering {K} eq entries = (q : K) → lookup (eq q) entries ≡ position_from (eq q) 0 (keys_of entries)
