use Rattle.std.proofs.Common.{sym, ap, ◌∙◌}
use Rattle.std.specs.Map.{lookup}
use Rattle.indexmap.specs.IndexMap.{get}
use Rattle.plan_definitions.specs.Joins.{partners}
use Rattle.join_search.specs.Partners.{added, key_of, other, own, same_key}
use Rattle.join_search.proofs.Keeping.{added_all, none_left, noted_more}
use Rattle.join_search.proofs.partners.kept_of_all.Goals as goal

pub loop-join-init : goal.loop-join-init
loop-join-init c = λ e. sym (ap (λ o. added o (partners (own c.args.side) (other c.args.side) c.args.joins.now e)) (ap (lookup (same_key (key_of e))) c.in_ok-kept.ensures.empty) ∙ added_all (partners (own c.args.side) (other c.args.side) c.args.joins.now e))

pub loop-join-preserved : goal.loop-join-preserved
loop-join-preserved c = λ e. noted_more (own c.args.side) (other c.args.side) e c.args.joins.now c.loop-join.join-index _ (λ q. get same_key c.loop-join.kept q) (λ q. get same_key c.note.new.map q)
    c.own.result c.other.result _ c.loop-join-test.true c.own.ensures c.other.ensures c.in_ok-note.ensures.0 (c.loop-join.invariant e)

pub returns : goal.returns
returns c = λ e. sym (c.loop-join.invariant e ∙ none_left (own c.args.side) (other c.args.side) e c.args.joins.now c.loop-join.join-index (get same_key c.loop-join.kept (key_of e)) c.loop-join-test.false)
