use Rattle.std.proofs.Common.{◌≡◌, map, take}
use Rattle.plan_definitions.specs.Services.{server_of}
use Rattle.plan_services.proofs.servers.servers_at.Given as goal

abbrev pub invariant-loop-site : goal.invariant-loop-site
invariant-loop-site l = l.list.items ≡ map (server_of l.source.d.now l.source.f.now) (take l.site-index l.sites)
