use Rattle.std.proofs.Common.{◌∙◌, bytes_eq}
use Rattle.mapping_rules.proofs.Named.{same_place}
use Rattle.mapping_rules.proofs.naming.Names.instance_named.Goals as goal

pub returns : goal.returns
returns c = c.find.ensures ∙ same_place (bytes_eq c.args.path.now) (λ b. b.now) (λ x. x.path) c.args.self.now.paths c.args.self.now.f.now.instances c.args.self.now.are_paths
