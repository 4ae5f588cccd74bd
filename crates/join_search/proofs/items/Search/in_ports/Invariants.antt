use Rattle.std.proofs.Common.{◌≡◌, drop, None, if◌then◌else◌}
use Rattle.plan_definitions.specs.Common.{End, first_of, in_port, requires_at}
use Rattle.join_search.proofs.items.Search.in_ports.Given as goal

abbrev pub invariant-loop-number : goal.invariant-loop-number
invariant-loop-number l = first_of {Y = End} (λ k port. if requires_at l.instance port.kind then in_port l.rule l.self.d.now l.self.f.now l.instance k port else None) 0 l.ports
    ≡ first_of {Y = End} (λ k port. if requires_at l.instance port.kind then in_port l.rule l.self.d.now l.self.f.now l.instance k port else None) l.number (drop l.number l.ports)
