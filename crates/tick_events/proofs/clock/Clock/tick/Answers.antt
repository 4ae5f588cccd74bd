use Rattle.std.proofs.Common.{◌∙◌, ap}
use Rattle.tick_events.specs.Kept.{after_tick}
use Rattle.tick_events.proofs.Anew.{fit_ticked, kept_ticked}
use Rattle.tick_events.proofs.clock.Clock.tick.Goals as goal

pub ring-requires : goal.ring-requires
ring-requires c = fit_ticked c.self.inside.countdowns c.tick.new.self c.self.inside.pending c.tick.ensures c.self.invariant

pub returns : goal.returns
returns c = record {
  kept =
      ap (λ ks. record { timers = ks; unstarted = c.self.inside.unstarted.items })
      (kept_ticked c.self.inside.countdowns c.tick.new.self c.ring.new.countdowns c.self.inside.pending c.ring.new.flags c.tick.ensures c.self.invariant c.ring.ensures.running c.ring.ensures.settled)
      ∙ ap after_tick c.self.view_is;
}
