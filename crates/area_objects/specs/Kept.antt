-- What an exclusive area keeps, as plain data.
use Rattle.std.specs.Prelude.{ℕ, Bool, false, Option, None}
use Rattle.rte_value.specs.declared.kinds.ActKey.{ActKey}

-- the activation that is in the area, if one is
pub record Kept : Type 0 where
  pub holder : Option ActKey

-- what is kept before anything has happened
abbrev pub opening : Kept
opening = record { holder = None }

-- whether a start by an event may come: none waits for an area
abbrev pub may_start : Kept → (event : ℕ) → Bool
may_start k e = false
