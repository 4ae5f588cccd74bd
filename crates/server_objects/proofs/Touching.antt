-- What touches a server: a call at one of its points, a start by its event or by a return event of such a point, a Return by an activation
-- that serves it.
use Rattle.std.proofs.Common.{◌≡◌, ◌<◌, ◌+◌, ℕ, true, subst, arith, length}
use Rattle.std.specs.Prelude.{Option}
use Rattle.bus_semantics.specs.declared.script.Mapping.{Mapping}
use Rattle.bus_semantics.specs.declared.entries.Actor.{Actor}
use Rattle.bus_semantics.specs.declared.entries.Deed.{Deed}
use Rattle.bus_semantics.specs.Common.{Plan, first_server, touches, is_proper, IsSound}
use Rattle.object_kinds.proofs.Classes.{On, touching_on}
use Rattle.object_kinds.proofs.Numbers.{a_server}
use Rattle.object_kinds.proofs.Proper.{noting}
use Rattle.server_objects.specs.Layout.{server_in, IsServer}

pub touches_server : (p : Plan) (m : Mapping) (object : ℕ) (a : Actor) (event : Option ℕ) (d : Deed) → IsSound p m → IsServer p object
    → touches p object (noting a d event) ≡ true → is_proper p (noting a d event) ≡ true → On p (a_server (server_in p object)) a event d
touches_server p m object a event d sound server touching proper =
    let from = server.from in
    let below = server.below in
    let within : server_in p object < length p.servers = omega arith in
    let number : object ≡ first_server p + server_in p object = omega arith in
    touching_on p m sound (a_server (server_in p object)) within a event d (subst (λ n. touches p n (noting a d event) ≡ true) number touching) proper
