use Rattle.std.proofs.Common.{◌≡◌, ◌∙◌, [], ap, rules}
use Rattle.std.specs.List.{list_any}
use Rattle.plan_definitions.specs.Keys.{same_pair}
use Rattle.mapping_rules.proofs.Unserved.{no_wait}
use Rattle.mapping_rules.proofs.waits.waits.Goals as goal

pub returns-then-serve_nothing : goal.returns-then-serve_nothing
returns-then-serve_nothing c =
    let empty : c.new.result.items ≡ [] = search rules in
    λ e. ap (list_any (same_pair e)) empty ∙ no_wait c.args.servers.now.mapped.now.names.d.now c.args.servers.now.mapped.now.names.f.now (c.serve_nothing.ensures c.if-serve_nothing.true) e
