-- Whose a port is, counted from another first instance on.
use Rattle.std.specs.Prelude.{ℕ, ◌+◌, ◌-◌, ◌^◌, min}
use Rattle.composition_tables.specs.declared.tree.Owner.{Owner}
use Rattle.composition_tables.specs.declared.tree.Owner.TheVariants.{Instance, Environment}

-- with instances numbered from another first one on
abbrev pub owner_from : ℕ → Owner → Owner
owner_from first (Instance i) = Instance (min (first + i) (2 ^ 32 - 1))
owner_from first Environment = Environment
