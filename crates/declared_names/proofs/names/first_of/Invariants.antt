use Rattle.std.proofs.Common.{◌≡◌, ◌+◌, drop, map}
use Rattle.declared_names.specs.Names.{position_in, text_of}
use Rattle.declared_names.proofs.names.first_of.Given as goal

abbrev pub invariant-loop-place : goal.invariant-loop-place
invariant-loop-place l = position_in (map text_of l.names) l.name ≡ l.place + position_in (map text_of (drop l.place l.names)) l.name
