use Rattle.std.proofs.Common.{◌≡◌, take}
use Rattle.std.specs.Prelude.{filter}
use Rattle.bus_semantics.specs.Plan.{plan_of}
use Rattle.queue_objects.specs.Layout.{is_receiver_at}
use Rattle.queue_objects.proofs.making.receivers_of.Given as goal

abbrev pub invariant-loop-elem : goal.invariant-loop-elem
invariant-loop-elem l = l.receivers.items ≡ filter (is_receiver_at (plan_of l.p) l.group) (take l.elem-index l.elem-items)
