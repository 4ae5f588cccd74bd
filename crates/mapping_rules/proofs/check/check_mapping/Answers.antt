use Rattle.std.proofs.Common.{Err, None, refl}
use Rattle.plan_definitions.specs.MappingRefusals.{IsRefusal, Tells}
use Rattle.plan_definitions.specs.MappingRules.{HaveOrder}
use Rattle.mapping_rules.proofs.Telling.{moved, passed_over}
use Rattle.mapping_rules.specs.declared.kept.KeptMapping.{KeptMapping}
use Rattle.mapping_rules.proofs.check.check_mapping.Goals as goal

pub returns-in-Ok : goal.returns-in-Ok
returns-in-Ok c = record {
  refusal = moved (λ d f. IsRefusal d f None) c.in_ok-mapped.mapped.names.d.now c.args.d.now c.in_ok-mapped.mapped.names.f.now c.args.f.now
      c.in_ok-mapped.ensures.d c.in_ok-mapped.ensures.f c.in-Ok.ensures.refusal;
  order = moved (λ d f. HaveOrder d f) c.in_ok-mapped.mapped.names.d.now c.args.d.now c.in_ok-mapped.mapped.names.f.now c.args.f.now
      c.in_ok-mapped.ensures.d c.in_ok-mapped.ensures.f c.in-Ok.ensures.order;
  description = refl;
  flat = refl;
}

pub returns-in-Err : goal.returns-in-Err
returns-in-Err c = record {
  refusal = passed_over c.args.d.now c.args.f.now KeptMapping c.in-Err.refused
      (moved (λ d f. Tells {U = Unit} (IsRefusal d f) (Err c.in-Err.refused)) c.in_ok-mapped.mapped.names.d.now c.args.d.now c.in_ok-mapped.mapped.names.f.now c.args.f.now
      c.in_ok-mapped.ensures.d c.in_ok-mapped.ensures.f c.in-Err.ensures.refusal);
  order = tt;
  description = tt;
  flat = tt;
}
