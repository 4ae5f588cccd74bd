use Rattle.std.proofs.Common.{◌<◌, ◌^◌, length, sym, ◌∙◌}
use Rattle.bus_semantics.specs.declared.plan.BusPlan.{BusPlan}
use Rattle.bus_semantics.specs.declared.script.Mapping.{Mapping}
use Rattle.plan_definitions.specs.declared.part.Part.TheVariants.{Events}
use Rattle.plan_definitions.specs.Common.{events_of, IsOfLists, IsOfSize, IsThen, mapping_of}
use Rattle.event_mapping.proofs.Telling.{still_tells}
use Rattle.event_mapping.proofs.check.listed.Goals as goal
use Rattle.mapping_rules.proofs.Telling.{moved}

pub list_mapping-requires : goal.list_mapping-requires
list_mapping-requires c = moved (λ d f. length (events_of d f) < 2 ^ 32) c.args.d.now c.args.kept.d.now c.args.f.now c.args.kept.f.now (sym c.requires.description) (sym c.requires.flat)
    (c.requires.few.pairs Events)

pub returns-in-Ok : goal.returns-in-Ok
returns-in-Ok c = record { refusal = c.in-Ok.ensures.refusal; plan = c.in-Ok.ensures.plan; mapping = c.in_ok-mapping.ensures.mapping ∙ (λ j. mapping_of (c.requires.description j) (c.requires.flat j)) }

pub returns-in-Err : goal.returns-in-Err
returns-in-Err c = record {
  refusal = still_tells BusPlan (BusPlan × Mapping) (IsThen (IsOfSize c.args.d.now c.args.f.now) (IsOfLists c.args.d.now)) c.in-Err.refused c.in-Err.ensures.refusal;
  plan = tt;
  mapping = tt;
}
