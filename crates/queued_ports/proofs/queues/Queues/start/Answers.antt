use Rattle.std.proofs.Common.{◌≡◌, ◌<◌, ◌∙◌, ap, sym, length, get_or, map, Some, arith}
use Rattle.std.specs.List.{slice_get}
use Rattle.std.specs.Option.{option_map}
use Rattle.std.proofs.lemmas.List.{length-map, map-set, set-get_or}
use Rattle.std.proofs.lemmas.Option.{slice_get-get_or, slice_get-map}
use Rattle.latches.specs.Latches.{Latch, clear_in}
use Rattle.queued_ports.specs.Kept.{Kept, after_start}
use Rattle.queued_ports.proofs.queues.Queues.start.Goals as goal

pub returns-clause-pending : goal.returns-clause-pending
returns-clause-pending c =
    let ls = c.self.inside.due in
    let at = c.args.event in
    let d = clear_in 0 in
    let within : at < length ls = omega (arith, c.requires, ap (λ (k : Kept). length k.events) c.self.view_is, length-map ls (λ (l : Latch). l.group)) in
    let found = slice_get-get_or ls at d within in
    ap (λ b. Some b) (c.is_set-is_pending.ensures (get_or ls at d) found)
    ∙ sym (slice_get-map (λ (l : Latch). l.is_set) ls at ∙ ap (option_map (λ (l : Latch). l.is_set)) found) ∙ ap (λ (k : Kept). slice_get k.due at) c.self.view_is

pub returns-clause-kept : goal.returns-clause-kept
returns-clause-kept c =
    let ls = c.self.inside.due in
    let at = c.args.event in
    let d = clear_in 0 in
    let within : at < length ls = omega (arith, c.requires, ap (λ (k : Kept). length k.events) c.self.view_is, length-map ls (λ (l : Latch). l.group)) in
    let now = c.clear.ensures (get_or ls at d) (slice_get-get_or ls at d within) in
    let groups = ap (map (λ (l : Latch). l.group)) now ∙ map-set (λ (l : Latch). l.group) ls at (clear_in (get_or ls at d).group)
    ∙ sym (map-set (λ (l : Latch). l.group) ls at (get_or ls at d)) ∙ ap (map (λ (l : Latch). l.group)) (set-get_or ls at d) in
    let flags = ap (map (λ (l : Latch). l.is_set)) now ∙ map-set (λ (l : Latch). l.is_set) ls at (clear_in (get_or ls at d).group) in
    let lanes = c.self.inside.lanes in
    let made : record { words = lanes.words; queues = lanes.queues; events = map (λ (l : Latch). l.group) c.clear.new.self; due = map (λ (l : Latch). l.is_set) c.clear.new.self }
    ≡ after_start at (record { words = lanes.words; queues = lanes.queues; events = map (λ (l : Latch). l.group) ls; due = map (λ (l : Latch). l.is_set) ls })
    = λ i. record { words = lanes.words; queues = lanes.queues; events = groups i; due = flags i } in
    made ∙ ap (after_start at) c.self.view_is
