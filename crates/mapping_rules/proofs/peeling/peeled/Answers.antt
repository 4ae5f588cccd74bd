use Rattle.std.proofs.Common.{◌∙◌, nat_eq}
use Rattle.indexmap.specs.IndexSet.{contains}
use Rattle.mapping_rules.specs.Edges.{has_edge_to}
use Rattle.mapping_rules.proofs.Circles.{same_kept}
use Rattle.mapping_rules.proofs.peeling.peeled.Goals as goal

pub returns : goal.returns
returns c = c.in_ok-kept.ensures ∙ same_kept (λ e. contains nat_eq c.in_ok-targets.targets e.0) (λ e. has_edge_to e.0 c.args.edges.now) (λ e. c.in_ok-targets.ensures e.0) c.args.edges.now
