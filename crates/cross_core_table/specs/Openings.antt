-- What came of the opening of a round.
use Rattle.std.specs.Prelude.{◌≡◌, ℕ, List}
use Rattle.bus_semantics.specs.Plan.{Plan}
use Rattle.port_objects.specs.declared.object.Object.{Object}
use Rattle.cross_core_table.specs.declared.opened.Opened.{Opened}
use Rattle.cross_core_table.specs.declared.opened.Opened.TheVariants.{Ready, Memory}
use Rattle.cross_core_table.specs.Opened.{IsOpened}

-- a round is opened, or there was no memory, and the objects come back unchanged
abbrev pub Opens : Plan → List Object → (cores room : ℕ) → Opened → Type 0
Opens p objects cores room (Ready r seats) = IsOpened p objects cores room r seats.items
Opens p objects cores room (Memory back) = back.items ≡ objects
