use Rattle.std.proofs.Common.{◌∙◌, ap, map}
use Rattle.latches.specs.Latches.{Latch, clear_in}
use Rattle.queued_ports.specs.Laid.{Stored}
use Rattle.queued_ports.specs.Kept.{empty_queue}
use Rattle.queued_ports.proofs.Made.{made_flags, made_groups}
use Rattle.queued_ports.proofs.queues.Queues.new.Goals as goal

pub returns : goal.returns
returns c =
    let places = c.deref-2.ensures.value ∙ c.in_ok-places_of.ensures ∙ c.deref.ensures.value in
    let due = c.in_ok-due.ensures ∙ ap (map clear_in) places in
    let groups = ap (map (λ (l : Latch). l.group)) due ∙ made_groups c.args.events.items in
    let flags = ap (map (λ (l : Latch). l.is_set)) due ∙ made_flags c.args.events.items in
    let words = ap (λ (s : Stored). s.words) c.in_ok-lanes.ensures in
    let queues = ap (λ (s : Stored). s.queues) c.in_ok-lanes.ensures ∙ ap (map empty_queue) c.deref-3.ensures.value in
    λ i. record { words = words i; queues = queues i; events = groups i; due = flags i }
