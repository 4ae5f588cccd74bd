use Rattle.std.proofs.Common.{◌≡◌, ◌≤◌, ◌+◌, ℕ, length, drop}
use Rattle.bus_semantics.specs.Common.{plan_of, marked, split}
use Rattle.bundle_objects.specs.Acting.{Adds}
use Rattle.bundle_objects.specs.Kept.{clear_in}
use Rattle.bundle_objects.specs.Leading.{publish}
use Rattle.bundle_objects.specs.Plans.{IsOfPlan}
use Rattle.bundle_objects.proofs.bundle.Bundle.publish_marked.Given as goal

-- what is left to publish gives what all of it gives
abbrev pub invariant-loop-elem : goal.invariant-loop-elem
invariant-loop-elem l = record {
  kept : publish (plan_of l.p) l.self.kept (split (plan_of l.p) (marked l.marks (drop l.elem-index l.elems)) l.rest) ≡ publish (plan_of l.p) l.fn.self.kept (split (plan_of l.p) (marked l.fn.written l.fn.elems) l.fn.words);
  room : length l.self.woken + clear_in l.self.kept ≤ l.self.room;
  short : length l.rest ≤ 16;
  planned : (b : ℕ) → IsOfPlan (plan_of l.p) b l.fn.self.kept → IsOfPlan (plan_of l.p) b l.self.kept;
  adds : (b : ℕ) → IsOfPlan (plan_of l.p) b l.fn.self.kept → Adds l.fn.self l.self;
}
