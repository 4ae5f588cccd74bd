use Rattle.std.proofs.Common.{◌≡◌, true, ◌∙◌}
use Rattle.std.proofs.lemmas.Result.{IfOk-weaker}
use Rattle.indexmap.specs.IndexSet.{contains}
use Rattle.plan_definitions.specs.Common.{End, is_many_to_many}
use Rattle.join_search.specs.Partners.{same_key}
use Rattle.join_search.specs.Suspects.{PortKey, among_at, port_of, same_port}
use Rattle.join_search.proofs.Suspecting.{crowded_there}
use Rattle.join_search.proofs.suspects.crowded_ports.Goals as goal

pub returns : goal.returns
returns c = IfOk-weaker c.ports_of_crowded.result
    (λ found. (q : PortKey) → contains same_port found q ≡ among_at (contains same_key c.args.crowded.now) c.args.joins.now q)
    (λ found. (e : End) → is_many_to_many c.args.joins.now e ≡ true → contains same_port found (port_of e) ≡ true)
    (λ found is e many. is (port_of e) ∙ crowded_there c.args.joins.now (contains same_key c.args.crowded.now) c.requires e many)
    c.ports_of_crowded.ensures
