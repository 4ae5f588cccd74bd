use Rattle.std.proofs.Common.{◌∙◌, sym, subst}
use Rattle.std.proofs.lemmas.List.{take_all}
use Rattle.description_types.specs.Members.{Among}
use Rattle.end_search.proofs.Seeking.{stays_same, stays_on, followed_next}
use Rattle.end_search.proofs.below.follow_port.Goals as goal

pub loop-inner-init : goal.loop-inner-init
loop-inner-init c = record { stays = stays_same c.args.search.now; followed = λ inner a. absurd a }

pub loop-inner-preserved : goal.loop-inner-preserved
loop-inner-preserved c = record {
  stays = stays_on c.args.search.now c.loop-inner.search c.cover_inner.new.search c.loop-inner.invariant.stays c.in_ok-cover_inner.ensures.stays;
  followed = followed_next c.args.tree.now.d.now c.loop-inner.search c.cover_inner.new.search c.args.node.0 c.inner_ports-inner-items.result.now c.loop-inner.inner-index (record { prototype = 0; port = 0 })
      c.in_ok-cover_inner.ensures.stays c.loop-inner-test.true c.loop-inner.invariant.followed c.in_ok-cover_inner.ensures.covered;
}

pub returns-clause-stays : goal.returns-clause-stays
returns-clause-stays c = c.loop-inner.invariant.stays

pub returns-clause-followed : goal.returns-clause-followed
returns-clause-followed c = λ inner a. c.loop-inner.invariant.followed inner
    (subst (Among inner) (sym (take_all c.loop-inner.inner-index c.inner_ports-inner-items.result.now c.loop-inner-test.false ∙ c.inner_ports-inner-items.ensures)) a)
