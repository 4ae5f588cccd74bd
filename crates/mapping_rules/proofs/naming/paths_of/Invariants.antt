use Rattle.std.proofs.Common.{◌≡◌, take, map}
use Rattle.mapping_rules.specs.Naming.{names_of}
use Rattle.mapping_rules.proofs.naming.paths_of.Given as goal

abbrev pub invariant-loop-instance : goal.invariant-loop-instance
invariant-loop-instance l = names_of l.list.items ≡ map (λ x. x.path) (take l.instance-index l.instances)
