use Rattle.std.proofs.Common.{ℕ, ◌<◌, ◌↔◌, map, take}
use Rattle.description_types.specs.Connectors.{IsBrokenConnector}
use Rattle.composition_flatten.specs.declared.wiring.Key.{Key}
use Rattle.composition_flatten.specs.Keys.{key_of}
use Rattle.description_types.specs.Members.{Among}
use Rattle.composition_flatten.proofs.wiring.first_broken_in.Given as goal

abbrev pub invariant-loop-number : goal.invariant-loop-number
invariant-loop-number l = record {
  noted : (key : Key) → Among key l.noted.keys ↔ Among key (map key_of (take l.number l.connectors));
  unbroken : (m : ℕ) → m < l.number → ¬ IsBrokenConnector l.d l.composition m;
}
