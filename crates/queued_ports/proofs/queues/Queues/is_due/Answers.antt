use Rattle.std.proofs.Common.{◌<◌, ◌∙◌, ap, sym, length, get_or, Some, arith}
use Rattle.std.specs.List.{slice_get}
use Rattle.std.specs.Option.{option_map}
use Rattle.std.proofs.lemmas.List.{length-map}
use Rattle.std.proofs.lemmas.Option.{slice_get-get_or, slice_get-map}
use Rattle.latches.specs.Latches.{Latch, clear_in}
use Rattle.queued_ports.specs.Kept.{Kept}
use Rattle.queued_ports.proofs.queues.Queues.is_due.Goals as goal

pub returns : goal.returns
returns c =
    let ls = c.self.inside.due in
    let at = c.args.event in
    let d = clear_in 0 in
    let within : at < length ls = omega (arith, c.requires, ap (λ (k : Kept). length k.events) c.self.view_is, length-map ls (λ (l : Latch). l.group)) in
    let found = slice_get-get_or ls at d within in
    ap (λ b. Some b) (c.is_set.ensures (get_or ls at d) found)
    ∙ sym (slice_get-map (λ (l : Latch). l.is_set) ls at ∙ ap (option_map (λ (l : Latch). l.is_set)) found) ∙ ap (λ (k : Kept). slice_get k.due at) c.self.view_is
