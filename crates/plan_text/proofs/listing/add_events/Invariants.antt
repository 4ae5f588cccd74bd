use Rattle.std.proofs.Common.{◌≡◌, ◌++◌, take}
use Rattle.std.specs.List.{flat_map}
use Rattle.plan_text.specs.Lines.{event_line}
use Rattle.plan_text.specs.Mapped.{seen}
use Rattle.plan_text.proofs.listing.add_events.Given as goal

-- those so far
abbrev pub invariant-loop-mapped : goal.invariant-loop-mapped
invariant-loop-mapped l = l.text.items ≡ l.initial.text.items ++ flat_map (event_line l.task) (seen (take l.mapped-index l.events))
