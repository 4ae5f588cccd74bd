use Rattle.std.proofs.Common.{◌≡◌, ◌<◌, ◌^◌, IfOk, length, sym}
use Rattle.plan_definitions.specs.Common.{events_of, are_mapped, mapping_of}
use Rattle.mapping_rules.proofs.Telling.{moved}
use Rattle.mapping_rules.proofs.tasks.list_mapping.Goals as goal

pub made-found-requires : goal.made-found-requires
made-found-requires c = moved (λ d f. length (events_of d f) < 2 ^ 32) c.args.kept.d.now c.args.kept.mapped.names.d.now c.args.kept.f.now c.args.kept.mapped.names.f.now
    (sym c.args.kept.of_description) (sym c.args.kept.of_flat) c.requires

pub returns : goal.returns
returns c = record {
  mapping = moved (λ d f. IfOk c.made-found.result (λ found. found.0 ≡ mapping_of d f)) c.args.kept.mapped.names.d.now c.args.kept.d.now c.args.kept.mapped.names.f.now c.args.kept.f.now
      c.args.kept.of_description c.args.kept.of_flat c.made-found.ensures.mapping;
  mapped = moved (λ d f. IfOk c.made-found.result (λ found. found.1.items ≡ are_mapped d f)) c.args.kept.mapped.names.d.now c.args.kept.d.now c.args.kept.mapped.names.f.now c.args.kept.f.now
      c.args.kept.of_description c.args.kept.of_flat c.made-found.ensures.mapped;
}
