use Rattle.mapping_rules.proofs.Telling.{passed_on, refused_before}
use Rattle.mapping_rules.proofs.check.check_rules.Goals as goal

pub returns-in-Ok : goal.returns-in-Ok
returns-in-Ok c = record {
  refusal = passed_on c.args.servers.now.mapped.now.names.d.now c.args.servers.now.mapped.now.names.f.now c.check_tasks.result c.in-Ok.ensures c.check_tasks.ensures.refusal;
  order = c.check_tasks.ensures.order;
}

pub returns-in-Err : goal.returns-in-Err
returns-in-Err c = record {
  refusal = refused_before c.args.servers.now.mapped.now.names.d.now c.args.servers.now.mapped.now.names.f.now Unit c.in-Err.refused c.in-Err.ensures;
  order = tt;
}
