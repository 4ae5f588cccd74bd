-- The parts of a proper entry: the wish fits its actor, and what the bus answered fits the wish.
use Rattle.std.proofs.Common.{◌≡◌, ℕ, Bool, true, false, if◌then◌else◌, refl, sym, length, Option, Some, None}
use Rattle.std.specs.Prelude.{nat_lt}
use Rattle.bus_semantics.specs.Common.{and_parts, false≢true, ActKey, Plan, instance_of, Wanted, wanted_by, Noted, Past, needs_event, key_fits, fits, wish_fits, activation_fits, answer_fits}
use Rattle.bus_semantics.specs.Common.{environment_may_want, activation_may_want, machine_may_want, admission_allows, is_proper, starts_its_own}
use Rattle.bus_laws.specs.Common.{Actor, Env, Machine, Act, Deed}
use Rattle.bus_semantics.specs.declared.entries.Deed.TheVariants as deed

-- an entry by its parts
abbrev pub noting : Actor → Deed → Option ℕ → Noted
noting a d event = record { entry = record { actor = a; deed = d }; event = event }

pub wish_part : (p : Plan) (a : Actor) (d : Deed) (event : Option ℕ) → needs_event d ≡ false → is_proper p (noting a d event) ≡ true → wish_fits p a (wanted_by 0 d) ≡ true
wish_part p a d event free proper =
    let whole = (and_parts (fits p (noting a d event).entry) (starts_its_own p a d) proper).0 in
    let wish = (and_parts _ (answer_fits p a d) whole).0 in
    rw free at wish

pub answer_part : (p : Plan) (n : Noted) → is_proper p n ≡ true → answer_fits p n.entry.actor n.entry.deed ≡ true
answer_part p n o =
    let wish = (if needs_event n.entry.deed then activation_fits p n.entry.actor else wish_fits p n.entry.actor (wanted_by 0 n.entry.deed)) in
    (and_parts wish (answer_fits p n.entry.actor n.entry.deed) (and_parts (fits p n.entry) (starts_its_own p n.entry.actor n.entry.deed) o).0).1

-- who may wish
pub by_actor : {X : Type 0} (p : Plan) (a : Actor) (w : Wanted) → wish_fits p a w ≡ true → (environment_may_want p w ≡ true → X) → ((k : ActKey) → activation_may_want p k (instance_of p k.runnable) w ≡ true → X)
    → ((n : ℕ) → nat_lt n (length p.machines) ≡ true → machine_may_want w ≡ true → X) → X
by_actor p Env w fit env act machine = env fit
by_actor p (Act k) w fit env act machine = act k (and_parts (key_fits p k) (activation_may_want p k (instance_of p k.runnable) w) fit).1
by_actor p (Machine n) w fit env act machine = let parts = and_parts (nat_lt n (length p.machines)) (machine_may_want w) fit in machine n parts.0 parts.1

-- ---- admission: no clause on it speaks of another deed

abbrev pub is_admit : Deed → Bool
is_admit (deed.Admit admitted) = true
is_admit _ = false

pub admitted : (p : Plan) (l : Past) (event : Option ℕ) (d : Deed) → is_admit d ≡ false → admission_allows p l event d ≡ true
admitted p l event (deed.Admit answer) other = absurd (false≢true (sym other))
admitted p l None d other = refl
admitted p l (Some e) d other = refl
