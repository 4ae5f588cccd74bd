use Rattle.std.proofs.Common.{◌≡◌, drop, Some, None, if◌then◌else◌}
use Rattle.plan_definitions.specs.Common.{requires_server, first_of}
use Rattle.join_search.proofs.root_ports.root_client.Given as goal

abbrev pub invariant-loop-position : goal.invariant-loop-position
invariant-loop-position l = first_of (λ k port. if requires_server l.d.types port then Some k else None) 0 l.ports
    ≡ first_of (λ k port. if requires_server l.d.types port then Some k else None) l.position (drop l.position l.ports)
