use Rattle.std.proofs.Common.{◌∙◌, ◌+◌, ◌<◌, ap, length, arith}
use Rattle.bus_semantics.specs.Common.{plan_of, first_server}
use Rattle.port_objects.specs.declared.object.Object.TheVariants.{Server}
use Rattle.port_objects.specs.Common.{of_server, before_servers, opening_of_server}
use Rattle.port_objects.proofs.Opened.{servers_from, row_more}
use Rattle.port_objects.proofs.making.push_servers.Goals as goal

pub loop-server-preserved : goal.loop-server-preserved
loop-server-preserved c =
    let p = plan_of c.args.p.now in
    let n = c.loop-server.server in
    let within : n < length c.args.p.now.servers = omega (arith, c.loop-server-test.true, c.loop-server.auto.server-end, c.len-server-end.ensures) in
    record {
      many = c.take_list-called.ensures.long ∙ c.loop-server.invariant.many;
      as_many = c.take_list-awaited.ensures.long ∙ c.loop-server.invariant.as_many;
      points_left = λ other next. c.take_list-called.ensures.others other (omega (arith, next)) ∙ c.loop-server.invariant.points_left other (omega (arith, next));
      returns_left = λ other next. c.take_list-awaited.ensures.others other (omega (arith, next)) ∙ c.loop-server.invariant.returns_left other (omega (arith, next));
      first = row_more p (before_servers p) (opening_of_server p) n (n + 1) c.loop-server.objects.items c.push.new.self.items (Server c.in_ok-made.made) (first_server p + n) (omega arith) c.loop-server.invariant.first
          (ap (λ k. k + n) (servers_from p c.requires.sound)) (ap of_server c.in_ok-made.ensures.kept) c.in_ok-made.ensures.planned
          (record { past = tt; keeps = c.first_servers_stand_for_nothing.ensures p (first_server p + n) (c.requires.sound.servers n within) }) c.in_ok-push.ensures.items;
    }
