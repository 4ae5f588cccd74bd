use Rattle.std.proofs.Common.{◌≡◌, ◌↔◌, true, subst}
use Rattle.std.proofs.lemmas.Result.{IfOk-weaker}
use Rattle.indexmap.specs.IndexSet.{contains}
use Rattle.plan_definitions.specs.Common.{End, IsManyToMany, is_many_to_many}
use Rattle.join_search.specs.Partners.{key_of, same_key}
use Rattle.join_search.proofs.Stars.{known_groups}
use Rattle.join_search.proofs.groups.many_to_many.Goals as goal

pub returns-clause-groups : goal.returns-clause-groups
returns-clause-groups c = IfOk-weaker c.provided_by.result
    (λ found. (e : End) → contains same_key found (key_of e) ≡ is_many_to_many c.in_ok-crowded.crowded.joins.now e)
    (λ found. (e : End) → contains same_key found (key_of e) ≡ true ↔ IsManyToMany c.args.degrees.now.joins.now e)
    (λ found is e. subst (λ joins. contains same_key found (key_of e) ≡ true ↔ IsManyToMany joins e) c.in_ok-crowded.ensures
    (known_groups c.in_ok-crowded.crowded.joins.now e (contains same_key found (key_of e)) (is e)))
    c.provided_by.ensures
