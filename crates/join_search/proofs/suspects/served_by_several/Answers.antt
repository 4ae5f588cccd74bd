use Rattle.std.proofs.Common.{◌≡◌, true, sym, ◌∙◌, true≢false}
use Rattle.std.proofs.lemmas.Result.{IfOk-weaker}
use Rattle.indexmap.specs.IndexSet.{contains}
use Rattle.plan_definitions.specs.Common.{End, are_several, providers}
use Rattle.join_search.specs.Suspects.{PortKey, port_of, same_port, several_at}
use Rattle.join_search.proofs.Suspecting.{several_there}
use Rattle.join_search.proofs.suspects.served_by_several.Goals as goal

pub returns-then-are_single : goal.returns-then-are_single
returns-then-are_single c = λ e several. absurd (true≢false (sym several ∙ c.are_single.ensures c.if-are_single.true e))

pub returns : goal.returns
returns c = IfOk-weaker c.ports_of_several.result
    (λ found. (q : PortKey) → contains same_port found q ≡ several_at c.args.degrees.now.joins.now q)
    (λ found. (e : End) → are_several (providers c.args.degrees.now.joins.now e) ≡ true → contains same_port found (port_of e) ≡ true)
    (λ found is e several. is (port_of e) ∙ several_there c.args.degrees.now.joins.now e several)
    c.ports_of_several.ensures
