use Rattle.std.proofs.Common.{◌≡◌, rules, refl, sym, subst}
use Rattle.bus_semantics.specs.Plan.{plan_of}
use Rattle.live_lanes.specs.declared.workers.Worker.TheVariants.{Core, Pump}
use Rattle.live_lanes.specs.Workers.{HasWorked}
use Rattle.live_lanes.proofs.workers.Worker.work.Goals as goal

pub returns-in-Core : goal.returns-in-Core
returns-in-Core g c =
    let is : c.args.self.now ≡ Core c.in-Core.lane = search rules in
    subst (λ w. HasWorked (plan_of c.args.ground.now.plan.now) c.args.ground.now.bodies.now c.args.ground.now.feeds.now c.args.ground.now.round.now c.args.number w (Core c.go.new.self)) (sym is) (c.go.new.self, refl, c.go.ensures)

pub returns-in-Pump : goal.returns-in-Pump
returns-in-Pump g c =
    let is : c.args.self.now ≡ Pump c.in-Pump.caller = search rules in
    subst (λ w. HasWorked (plan_of c.args.ground.now.plan.now) c.args.ground.now.bodies.now c.args.ground.now.feeds.now c.args.ground.now.round.now c.args.number w (Pump c.go-in-Pump.new.self)) (sym is)
    (c.go-in-Pump.new.self, refl, c.go-in-Pump.ensures)
