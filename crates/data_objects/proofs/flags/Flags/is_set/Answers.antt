use Rattle.std.proofs.Common.{◌<◌, ◌∙◌, ap, sym, length, get_or, Some, arith}
use Rattle.bus_semantics.specs.Common.{slice_get, length-map, slice_get-get_or}
use Rattle.latches.specs.Latches.{Latch, clear_in}
use Rattle.data_objects.proofs.OneGroup.{read_set}
use Rattle.data_objects.proofs.flags.Flags.is_set.Goals as goal

pub returns : goal.returns
returns c =
    let ls = c.self.inside.latches in
    let at = c.args.at in
    let d = clear_in 0 in
    let within : at < length ls = omega (arith, c.requires, ap length c.self.view_is, length-map ls (λ (l : Latch). l.is_set)) in
    ap (λ b. Some b) (c.is_set.ensures (get_or ls at d) (slice_get-get_or ls at d within)) ∙ sym (read_set ls at d within) ∙ ap (λ bs. slice_get bs at) c.self.view_is
