-- The outer ports that connectors delegate.
use Rattle.std.specs.Prelude.{ℕ, List, [], ◌∷◌}
use Rattle.description_types.specs.declared.description.Connector.{Connector}
use Rattle.description_types.specs.declared.description.Connector.TheVariants.{Assembly, Delegation}

-- the outer port of a delegation
abbrev pub outers_of : Connector → List ℕ
outers_of (Assembly p r) = []
outers_of (Delegation inner outer) = outer ∷ []
