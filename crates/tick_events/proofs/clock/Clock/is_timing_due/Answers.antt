use Rattle.std.proofs.Common.{◌<◌, ◌∙◌, length, get_or, sym, ap, arith, Some}
use Rattle.std.specs.Option.{option_map}
use Rattle.std.proofs.lemmas.List.{length-map}
use Rattle.std.proofs.lemmas.Option.{slice_get-get_or}
use Rattle.latches.specs.Latches.{Latch}
use Rattle.tick_events.specs.Kept.{Kept, is_due}
use Rattle.tick_events.specs.Running.{kept_timer}
use Rattle.tick_events.proofs.Anew.{same_due}
use Rattle.tick_events.proofs.Flags.{nowhere}
use Rattle.tick_events.proofs.clock.Clock.is_timing_due.Goals as goal

pub returns : goal.returns
returns c =
    let cs = c.self.inside.countdowns in
    let ls = c.self.inside.pending in
    let i = c.args.event in
    let l = get_or ls i nowhere in
    let within : i < length ls = omega (arith, c.requires, ap (λ (k : Kept). length k.timers) c.self.view_is, length-map ls (kept_timer cs)) in
    let found = slice_get-get_or ls i nowhere within in
    ap (λ b. Some b) (c.is_set.ensures l found) ∙ sym (ap (option_map (λ (k : Latch). k.is_set)) found) ∙ sym (same_due cs ls i) ∙ ap (is_due i) c.self.view_is
