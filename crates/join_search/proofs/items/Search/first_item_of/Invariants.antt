use Rattle.std.proofs.Common.{◌≡◌, ◌-◌}
use Rattle.plan_definitions.specs.JoinedItems.{breaks, end_of, first_number, looked_at}
use Rattle.join_search.proofs.items.Search.first_item_of.Given as goal

abbrev pub invariant-loop-element : goal.invariant-loop-element
invariant-loop-element l = first_number (λ n. breaks l.rule l.self.f.now.joins l.kind (end_of l.instance l.port n)) 0 (looked_at l.rule l.kind)
    ≡ first_number (λ n. breaks l.rule l.self.f.now.joins l.kind (end_of l.instance l.port n)) l.element (looked_at l.rule l.kind - l.element)
