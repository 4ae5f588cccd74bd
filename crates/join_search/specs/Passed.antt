-- Pairs of interfaces that were judged.
use Rattle.std.specs.Prelude.{◌≡◌, ℕ, List, true}
use Rattle.std.specs.List.{list_all}
use Rattle.plan_definitions.specs.Common.{TypeTable, are_compatible}

-- each of these pairs is compatible
abbrev pub HavePassed : TypeTable → List (ℕ × ℕ) → Type 0
HavePassed types pairs = list_all (λ x. are_compatible types x.0 x.1) pairs ≡ true
