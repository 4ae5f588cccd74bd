-- The server of a runnable of a sound plan: it is there, and its arguments and codes fit.
use Rattle.std.proofs.Common.{◌≡◌, ℕ, true, false, ◌==◌, refl, sym, ◌∙◌, [], length, Some}
use Rattle.std.specs.Prelude.{nat_le}
use Rattle.bus_semantics.specs.Common.{list_all, slice_get, and_parts, Plan, Runnable, look, every_from, arguments_of, is_in, is_distinct, limits_fit, code_list_fits, queue_fits}
use Rattle.bus_semantics.specs.Common.{server_sound, server_served, serves_back, IsSound}
use Rattle.bus_laws.specs.Common.{ArgPlan, ServerPlan, Mapping}
use Rattle.history_laws.specs.LookUps.{sought, looked, at_place}

serves_some : (p : Plan) (i n : ℕ) (r : Runnable) → r.server ≡ Some n → serves_back p i r ≡ look p.servers n (λ (v : ServerPlan). v.runnable == i) false
serves_some p i n r some = rw some refl

arguments_some : (p : Plan) (n : ℕ) (r : Runnable) → r.server ≡ Some n → arguments_of p r ≡ look p.servers n (λ (v : ServerPlan). v.arguments) []
arguments_some p n r some = rw some refl

-- the server of a runnable is there, and sound
pub record ServerOf (p : Plan) (i : ℕ) (r : Runnable) (n : ℕ) : Type 0 where
  pub server : ServerPlan
  pub there : slice_get p.servers n ≡ Some server
  pub runnable : (server.runnable == i) ≡ true
  pub sound : server_sound server ≡ true
  pub arguments : arguments_of p r ≡ server.arguments

pub server_is : (p : Plan) (m : Mapping) (sound : IsSound p m) (i : ℕ) (r : Runnable) (there : slice_get p.runnables i ≡ Some r) (n : ℕ) → r.server ≡ Some n → ServerOf p i r n
server_is p m sound i r there n is =
    let both = and_parts (every_from 0 (server_served p) p.servers) (every_from 0 (serves_back p) p.runnables) sound.servers in
    let back : serves_back p i r ≡ true = at_place (serves_back p) p.runnables i r both.1 there in
    let at = sought p.servers n (λ (v : ServerPlan). v.runnable == i) (sym (serves_some p i n r is) ∙ back) in
    let served : server_served p n at.item ≡ true = at_place (server_served p) p.servers n at.item both.0 at.found in
    record {
      server = at.item;
      there = at.found;
      runnable = at.holds;
      sound = (and_parts (server_sound at.item) _ served).0;
      arguments = arguments_some p n r is ∙ looked p.servers n at.item (λ (v : ServerPlan). v.arguments) [] at.found;
    }

pub record ServerFits (v : ServerPlan) : Type 0 where
  pub few : nat_le (length v.arguments) 16 ≡ true
  pub limits : list_all (λ (a : ArgPlan). limits_fit a.limits) v.arguments ≡ true
  pub codes : list_all (is_in 1 63) v.errors ≡ true

pub server_fits : (v : ServerPlan) → server_sound v ≡ true → ServerFits v
server_fits v sound =
    let a = and_parts (queue_fits v.queue) _ sound in
    let b = and_parts (nat_le (length v.arguments) 16) _ a.1 in
    let c = and_parts (list_all (λ (a : ArgPlan). limits_fit a.limits) v.arguments) (code_list_fits v.errors) b.1 in
    record { few = b.0; limits = c.0; codes = (and_parts (is_distinct v.errors) (list_all (is_in 1 63) v.errors) c.1).1 }
