use Rattle.std.proofs.Common.{◌≡◌, ◌+◌, ◌%◌, ◌^◌, ◌≤◌, sym, ◌∙◌, ap, subst, map, arith}
use Rattle.std.specs.List.{All}
use Rattle.tick_events.specs.Countdowns.{one_less, all_seen}
use Rattle.tick_events.specs.Winners.{IsTree}
use Rattle.tick_events.proofs.Seen.{all_tick}
use Rattle.tick_events.proofs.Tree.{ticked}
use Rattle.tick_events.proofs.countdowns.Countdowns.tick.Goals as goal

less : (c : goal.After-self-1) → all_seen ((c.self.inside.ticks + 1) % 2 ^ 64) c.self.inside.countdowns.items ≡ map one_less (all_seen c.self.inside.ticks c.self.inside.countdowns.items)
less c = all_tick c.self.inside.ticks c.self.inside.countdowns.items (omega arith) (subst (All (λ c. 1 ≤ c.left)) (sym c.self.view_is) c.requires)

pub invariant_of-self : goal.invariant_of-self
invariant_of-self c = subst (λ cs. IsTree cs c.self.inside.best.items) (sym (less c)) (ticked _ _ c.self.invariant)

pub returns : goal.returns
returns c = less c ∙ ap (map one_less) c.self.view_is
