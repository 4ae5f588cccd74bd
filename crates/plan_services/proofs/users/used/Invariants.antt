use Rattle.std.proofs.Common.{◌≡◌, ℕ, filter, map, nat_eq, take}
use Rattle.std.specs.List.{list_any}
use Rattle.indexmap.specs.IndexSet.{contains}
use Rattle.plan_definitions.specs.Modes.{machine_required}
use Rattle.plan_services.specs.Users.{is_use}
use Rattle.plan_services.proofs.users.used.Given as goal

abbrev pub invariant-loop-site : goal.invariant-loop-site
invariant-loop-site l = (n : ℕ) → contains nat_eq l.set n ≡ list_any (nat_eq n) (map (machine_required l.source.d.now l.source.f.now) (filter is_use (take l.site-index l.sites)))
