use Rattle.std.proofs.Common.{◌≡◌, ◌==◌, ℕ, length, take}
use Rattle.std.specs.Prelude.{filter}
use Rattle.bus_semantics.specs.Plan.{plan_of}
use Rattle.object_kinds.specs.Gathered.{listed_at}
use Rattle.bundle_objects.specs.Layout.{place_among}
use Rattle.bundle_objects.proofs.splitting.split_events.Given as goal

abbrev pub invariant-loop-event : goal.invariant-loop-event
invariant-loop-event l = record {
  long : length l.lists.items ≡ length l.numbers;
  so_far : (place : ℕ) → listed_at l.lists.items place ≡ filter (λ e. place_among (plan_of l.p) l.numbers e == place) (take l.event-index l.events);
}
