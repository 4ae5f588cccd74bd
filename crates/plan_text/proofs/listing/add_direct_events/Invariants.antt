use Rattle.std.proofs.Common.{◌≡◌, ◌++◌, take}
use Rattle.std.specs.List.{flat_map}
use Rattle.plan_text.specs.Texts.{direct_text}
use Rattle.plan_text.proofs.listing.add_direct_events.Given as goal

-- those so far
abbrev pub invariant-loop-event : goal.invariant-loop-event
invariant-loop-event l = l.text.items ≡ l.initial.text.items ++ flat_map (direct_text l.f l.p) (take l.event-index l.events)
