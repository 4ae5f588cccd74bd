use Rattle.std.proofs.Common.{◌<◌, ◌∙◌, length, sym, arith}
use Rattle.mapping_rules.specs.InstanceRules.{broken_in}
use Rattle.mapping_rules.proofs.InTurn.{instance_more}
use Rattle.mapping_rules.proofs.instances.first_broken.Goals as goal

pub loop-instance-preserved : goal.loop-instance-preserved
loop-instance-preserved c =
    let within : c.loop-instance.instance < length c.args.servers.now.mapped.now.names.f.now.instances = omega arith in
    c.loop-instance.invariant ∙ instance_more c.args.servers.now.mapped.now.names.d.now (broken_in c.args.rule c.args.servers.now.mapped.now.names.d.now c.args.servers.now.mapped.now.names.f.now)
    c.args.servers.now.mapped.now.names.f.now c.loop-instance.instance within (sym c.in_ok-part.ensures ∙ c.in-None.is)
