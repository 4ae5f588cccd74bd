use Rattle.std.proofs.Common.{sym, subst}
use Rattle.bus_semantics.specs.Wanted.{wanted_of}
use Rattle.port_objects.specs.Benches.{IsActed}
use Rattle.port_objects.proofs.Written.{benched_made}
use Rattle.port_objects.proofs.bench.Bench.act_into.Goals as goal

pub returns-in-Done-clause-acted : goal.returns-in-Done-clause-acted
returns-in-Done-clause-acted g c =
    subst (IsActed (g.Self.Bench.plan c.args.self.now) c.args.object c.args.who.now (wanted_of c.args.wish.now) (g.Self.Bench.told c.args.self.now) (g.Self.Bench.told c.act.new.self))
    (sym (benched_made c.args.made.now.items c.push_reserved.new.self.items c.in-Done.stamped c.push_reserved.ensures.items)) c.in-Done.ensures.acted
