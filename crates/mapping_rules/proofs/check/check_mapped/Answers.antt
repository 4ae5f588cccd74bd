use Rattle.std.proofs.Common.{OnOk, ap}
use Rattle.plan_definitions.specs.MappingRefusals.{IsRefusal, Tells}
use Rattle.plan_definitions.specs.MappingRules.{HaveOrder}
use Rattle.mapping_rules.proofs.Telling.{moved}
use Rattle.mapping_rules.proofs.check.check_mapped.Goals as goal

pub returns : goal.returns
returns c = record {
  refusal = moved (λ d f. Tells (IsRefusal d f) c.check_rules-checked.result) c.in_ok-servers.servers.mapped.now.names.d.now c.args.mapped.now.names.d.now c.in_ok-servers.servers.mapped.now.names.f.now c.args.mapped.now.names.f.now
      (ap (λ m. m.names.d.now) c.in_ok-servers.ensures) (ap (λ m. m.names.f.now) c.in_ok-servers.ensures) c.check_rules-checked.ensures.refusal;
  order = moved (λ d f. OnOk c.check_rules-checked.result (HaveOrder d f)) c.in_ok-servers.servers.mapped.now.names.d.now c.args.mapped.now.names.d.now c.in_ok-servers.servers.mapped.now.names.f.now c.args.mapped.now.names.f.now
      (ap (λ m. m.names.d.now) c.in_ok-servers.ensures) (ap (λ m. m.names.f.now) c.in_ok-servers.ensures) c.check_rules-checked.ensures.order;
}
