use Rattle.std.proofs.Common.{subst}
use Rattle.event_mapping.specs.Foretold.{IsForetold}
use Rattle.bus_semantics.specs.declared.plan.BusPlan.{BusPlan}
use Rattle.bus_semantics.specs.declared.script.Mapping.{Mapping}
use Rattle.plan_definitions.specs.Common.{plan_of, IsOfLists}
use Rattle.event_mapping.proofs.Counting.{few_things}
use Rattle.event_mapping.proofs.Telling.{size_refused}
use Rattle.event_mapping.proofs.check.planned.Goals as goal

pub listed-requires-clause-few : goal.listed-requires-clause-few
listed-requires-clause-few c = few_things c.args.d.now c.args.f.now c.requires.parts c.requires.instances c.requires.joins
    (subst (λ b. IsForetold b c.args.d.now c.args.f.now) c.if-foretold.false c.in_ok-foretold.ensures)

pub returns-then-foretold : goal.returns-then-foretold
returns-then-foretold c = record {
  refusal = size_refused (BusPlan × Mapping) (plan_of c.args.d.now c.args.f.now) (IsOfLists c.args.d.now) c.size_refusal.result
      (subst (λ b. IsForetold b c.args.d.now c.args.f.now) c.if-foretold.true c.in_ok-foretold.ensures) c.size_refusal.ensures;
  plan = tt;
  mapping = tt;
}
