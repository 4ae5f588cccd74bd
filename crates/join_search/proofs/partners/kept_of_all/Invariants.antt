use Rattle.std.proofs.Common.{◌≡◌, drop}
use Rattle.indexmap.specs.IndexMap.{get}
use Rattle.description_types.specs.declared.flat.End.{End}
use Rattle.plan_definitions.specs.Joins.{partners}
use Rattle.join_search.specs.Partners.{added, key_of, other, own, same_key, summary}
use Rattle.join_search.proofs.partners.kept_of_all.Given as goal

abbrev pub invariant-loop-join : goal.invariant-loop-join
invariant-loop-join l = (e : End) → summary (partners (own l.side) (other l.side) l.joins e)
    ≡ added (get same_key l.kept (key_of e)) (partners (own l.side) (other l.side) (drop l.join-index l.joins) e)
