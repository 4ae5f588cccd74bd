use Rattle.std.proofs.Common.{◌≡◌, ◌≤◌, ◌+◌, ◌⊎◌, ℕ, length, map, Contains}
use Rattle.std.specs.List.{count_by}
use Rattle.std.specs.Vec.{vec_capacity}
use Rattle.latches.specs.Latches.{IsNewlySet, is_clear}
use Rattle.latches.proofs.Told.{Stays}
use Rattle.queued_ports.proofs.Sending.{Tells, after_some, answer_so_far, lit_by}
use Rattle.queued_ports.proofs.queues.Queues.send.Given as goal

abbrev pub invariant-loop-receiver : goal.invariant-loop-receiver
invariant-loop-receiver l = record {
  words : l.self-inside.lanes.words ≡ l.initial.self-inside.lanes.words;
  queues : l.self-inside.lanes.queues ≡ after_some l.receiver l.value l.initial.self-inside.lanes.queues;
  lit : l.self-inside.due ≡ map (lit_by l.initial.self-inside.lanes.queues l.receiver) l.initial.self-inside.due;
  code : l.code ≡ answer_so_far l.receiver l.initial.self-inside.lanes.queues;
  tells : Tells l.names l.initial.self-inside.due l.self-inside.due l.woken.items;
  stays : Stays l.initial.self-inside.due l.self-inside.due;
  only : (name : ℕ) → Contains l.woken.items name → Contains l.initial.woken.items name ⊎ IsNewlySet l.initial.self-inside.due l.self-inside.due l.names name;
  room : length l.woken.items + count_by is_clear l.self-inside.due ≤ length l.initial.self-inside.due;
  capacity : vec_capacity l.woken ≡ vec_capacity l.initial.woken;
}
