use Rattle.std.proofs.Common.{◌<◌, length, arith}
use Rattle.indexmap.specs.IndexSet.{contains}
use Rattle.plan_definitions.specs.Keys.{same_pair}
use Rattle.mapping_rules.specs.Waiting.{waits_in}
use Rattle.mapping_rules.proofs.Adding.{instances_more}
use Rattle.mapping_rules.proofs.waits.add_all.Goals as goal

pub loop-instance-preserved : goal.loop-instance-preserved
loop-instance-preserved c =
    let within : c.loop-instance.instance < length c.args.servers.now.mapped.now.names.f.now.instances = omega arith in
    λ e. instances_more c.args.servers.now.mapped.now.names.d.now (waits_in c.args.servers.now.mapped.now.names.d.now c.args.servers.now.mapped.now.names.f.now e) c.args.servers.now.mapped.now.names.f.now c.loop-instance.instance
    (contains same_pair c.loop-instance.edges e) (contains same_pair c.add_of_instance.new.edges e) _ within (c.in_ok-add_of_instance.ensures e) (c.loop-instance.invariant e)
