-- Ports that are said to be the same.
use Rattle.std.proofs.Common.{◌≡◌, ℕ, true, ◌&&◌, nat_eq, Option}
use Rattle.bus_semantics.specs.Common.{and_parts, eqb-true, option_eq}
use Rattle.plan_definitions.proofs.Keys.{same_number}

pub same_place : (a b : Option ℕ × ℕ) → (option_eq nat_eq a.0 b.0 && nat_eq a.1 b.1) ≡ true → a ≡ b
same_place a b h = let parts = and_parts (option_eq nat_eq a.0 b.0) (nat_eq a.1 b.1) h in λ j. (same_number a.0 b.0 parts.0 j, eqb-true a.1 b.1 parts.1 j)
