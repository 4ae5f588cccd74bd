use Rattle.composition_tables.specs.Levels.{IsLevel}
use Rattle.composition_tables.proofs.depth.deepest_level.Given as goal

abbrev pub invariant-loop : goal.invariant-loop
invariant-loop l = IsLevel l.d l.counter l.level.keys
