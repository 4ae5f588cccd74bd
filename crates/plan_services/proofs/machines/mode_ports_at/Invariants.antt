use Rattle.std.proofs.Common.{◌≡◌, map, take}
use Rattle.std.specs.Option.{unwrap_or}
use Rattle.plan_definitions.specs.Modes.{mode_port_at}
use Rattle.plan_services.proofs.machines.mode_ports_at.Given as goal

abbrev pub invariant-loop-site : goal.invariant-loop-site
invariant-loop-site l = l.list.items ≡ map (λ s. mode_port_at l.source.d.now l.source.f.now s.owner (unwrap_or s.port 0)) (take l.site-index l.sites)
