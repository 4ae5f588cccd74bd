-- The users of machines, as they are kept.
use Rattle.std.specs.Prelude.{◌≡◌, ℕ, map, filter, nat_eq, Bool, not, ◌&&◌, is_some}
use Rattle.std.specs.List.{list_any}
use Rattle.indexmap.specs.IndexSet.{contains}
use Rattle.plan_definitions.specs.Common.{Description, Flat, mode_ports_of, machine_required, supports_asynchronous}
use Rattle.plan_definitions.specs.declared.site.Site.{Site}
use Rattle.plan_services.specs.declared.users.Users.{Users}

-- of an instance
abbrev pub is_use : Site → Bool
is_use s = is_some s.owner

-- of an instance, and its com spec does not say that it supports an asynchronous mode switch
abbrev pub is_refusal : Description → Flat → Site → Bool
is_refusal d f s = is_some s.owner && not (supports_asynchronous d f s)

pub record AreUsers (d : Description) (f : Flat) (u : Users) : Type 0 where
  pub used : (n : ℕ) → contains nat_eq u.used n ≡ list_any (nat_eq n) (map (machine_required d f) (filter is_use (mode_ports_of d f)))
  pub refused : (n : ℕ) → contains nat_eq u.refused n ≡ list_any (nat_eq n) (map (machine_required d f) (filter (is_refusal d f) (mode_ports_of d f)))
