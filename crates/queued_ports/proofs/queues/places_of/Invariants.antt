use Rattle.std.proofs.Common.{◌≡◌, take}
use Rattle.queued_ports.proofs.queues.places_of.Given as goal

abbrev pub invariant-loop-receiver : goal.invariant-loop-receiver
invariant-loop-receiver l = l.places.items ≡ take l.receiver-index l.receivers
