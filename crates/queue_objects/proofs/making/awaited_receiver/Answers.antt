use Rattle.std.proofs.Common.{◌≡◌, true, sym, subst}
use Rattle.bus_semantics.specs.Plan.{plan_of}
use Rattle.object_kinds.specs.Rising.{is_rising}
use Rattle.queue_objects.proofs.Picking.{receivers_rise}
use Rattle.queue_objects.proofs.making.awaited_receiver.Goals as goal

pub find-requires : goal.find-requires
find-requires c = subst (λ xs. is_rising xs ≡ true) (sym c.requires) (receivers_rise (plan_of c.args.p.now) c.args.group)
