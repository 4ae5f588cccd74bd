use Rattle.std.proofs.Common.{◌≡◌, ◌<◌, ◌∙◌, ap, sym, length, get_or, map, set, Some, arith}
use Rattle.std.specs.Option.{option_map, unwrap_or}
use Rattle.std.proofs.lemmas.Option.{slice_get-get_or}
use Rattle.latches.specs.Latches.{Latch}
use Rattle.queued_ports.specs.Kept.{Kept, after_receive, after_taking, answer_to_receive, empty_queue, received_of}
use Rattle.queued_ports.proofs.queues.Queues.receive.Goals as goal

pub returns-clause-answer : goal.returns-clause-answer
returns-clause-answer c =
    let queues = c.self.inside.lanes.queues in
    let at = c.args.receiver in
    let d = empty_queue 0 in
    let within : at < length queues = omega (arith, c.requires, ap (λ (k : Kept). length k.queues) c.self.view_is) in
    let found = slice_get-get_or queues at d within in
    ap (λ r. Some r) (c.take.ensures.answer (get_or queues at d) found) ∙ sym (ap (option_map received_of) found) ∙ ap (answer_to_receive at) c.self.view_is

pub returns-clause-kept : goal.returns-clause-kept
returns-clause-kept c =
    let lanes = c.self.inside.lanes in
    let due = c.self.inside.due in
    let at = c.args.receiver in
    let d = empty_queue 0 in
    let within : at < length lanes.queues = omega (arith, c.requires, ap (λ (k : Kept). length k.queues) c.self.view_is) in
    let found = slice_get-get_or lanes.queues at d within in
    let queues = c.take.ensures.queues (get_or lanes.queues at d) found
    ∙ sym (ap (λ o. unwrap_or (option_map (λ q. set lanes.queues at (after_taking q)) o) lanes.queues) found) in
    let made : record { words = c.take.new.self.words; queues = c.take.new.self.queues; events = map (λ (l : Latch). l.group) due; due = map (λ (l : Latch). l.is_set) due }
    ≡ after_receive at (record { words = lanes.words; queues = lanes.queues; events = map (λ (l : Latch). l.group) due; due = map (λ (l : Latch). l.is_set) due })
    = λ i. record { words = c.take.ensures.words i; queues = queues i; events = map (λ (l : Latch). l.group) due; due = map (λ (l : Latch). l.is_set) due } in
    made ∙ ap (after_receive at) c.self.view_is
