use Rattle.std.proofs.Common.{◌<◌, ◌∙◌, length, get_or, ap, arith}
use Rattle.std.proofs.lemmas.List.{length-map}
use Rattle.std.proofs.lemmas.Option.{slice_get-get_or}
use Rattle.tick_events.specs.Kept.{Kept, after_timing}
use Rattle.tick_events.specs.Running.{kept_timer}
use Rattle.tick_events.proofs.Flags.{nowhere, started_kept, still_running}
use Rattle.tick_events.proofs.clock.Clock.start_timing.Goals as goal

pub invariant_of-self : goal.invariant_of-self
invariant_of-self c =
    let cs = c.self.inside.countdowns in
    let ls = c.self.inside.pending in
    let i = c.args.event in
    let l = get_or ls i nowhere in
    let within : i < length ls = omega (arith, c.requires, ap (λ (k : Kept). length k.timers) c.self.view_is, length-map ls (kept_timer cs)) in
    let found = slice_get-get_or ls i nowhere within in
    still_running cs ls c.clear.new.self i l found (c.clear.ensures l found) c.self.invariant

pub returns-clause-kept : goal.returns-clause-kept
returns-clause-kept c =
    let cs = c.self.inside.countdowns in
    let ls = c.self.inside.pending in
    let i = c.args.event in
    let l = get_or ls i nowhere in
    let within : i < length ls = omega (arith, c.requires, ap (λ (k : Kept). length k.timers) c.self.view_is, length-map ls (kept_timer cs)) in
    let found = slice_get-get_or ls i nowhere within in
    ap (λ ks. record { timers = ks; unstarted = c.self.inside.unstarted.items }) (started_kept cs ls c.clear.new.self i l found (c.clear.ensures l found)) ∙ ap (after_timing i) c.self.view_is
