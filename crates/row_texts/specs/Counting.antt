-- What a bench that counts its work keeps.
use Rattle.std.specs.Prelude.{ℕ, List}
use Rattle.bus_semantics.specs.declared.entries.Stamped.{Stamped}
use Rattle.port_objects.specs.Benches.{Plain}

-- a plain bench, the entries that it made, and how often it answered NotYet
pub record Counting : Type 0 where
  pub bench : Plain
  pub made : List Stamped
  pub not_yet : ℕ
