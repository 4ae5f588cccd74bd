-- What a sound plan says of events, of keys, and of the numbers of what events wait for.
use Rattle.std.proofs.Common.{◌≡◌, ℕ, ◌+◌, ◌<◌, Bool, true, false, ◌&&◌, ◌||◌, ◌==◌, refl, sym, ◌∙◌, ap, subst, arith, List, [], ◌∷◌, length, Option, Some, None}
use Rattle.bus_semantics.specs.Common.{and_parts, eqb-true, ltb-true, false≢true, same_Some, nat_tests, list_all, list_any, slice_get, option_map_or, ActKey, same_number, Plan, every_from}
use Rattle.bus_semantics.specs.Common.{group_of, server_of, kind_of, disabling_of, runnable_of_event, instance_of, home_of, bundle_of, first_server, first_machine, clock, object_of_kind}
use Rattle.bus_semantics.specs.Common.{server_object, disabler_of, owing, machine_of_event, served_by, serves_directly, key_fits, limits_fit, kind_sound, requires_machine, may_be_disabled}
use Rattle.bus_semantics.specs.Common.{disabling_sound, event_sound, IsSound}
use Rattle.std.specs.Prelude.{nat_lt, nat_le, option_map, option_and_then}
use Rattle.bus_laws.specs.Common.{PointPlan, ModePortPlan, EventPlan, EventKind, Timing, Init, DataReceived, Invoked, Returns, ModeSwitch, Ack, Disabling, Mapping, Act}
use Rattle.history_laws.specs.LookUps.{sought, all_at, at_place}
use Rattle.bus_laws.proofs.OneEvent.{serves_invoked, kind_at}

required : (n most : ℕ) (home : Option ℕ) (ts : List ModePortPlan) → list_all (λ (t : ModePortPlan). nat_lt t.machine most) ts ≡ true
    → list_any (λ (t : ModePortPlan). same_number t.instance home && (t.machine == n)) ts ≡ true → nat_lt n most ≡ true
required n most home [] all any = absurd (false≢true any)
required n most home (t ∷ ts) all any =
    let parts = and_parts (nat_lt t.machine most) (list_all (λ (t : ModePortPlan). nat_lt t.machine most) ts) all in
    by_first parts.0 (required n most home ts parts.1) (same_number t.instance home) (t.machine == n) refl any
  where
    by_first : nat_lt t.machine most ≡ true → (list_any (λ (t : ModePortPlan). same_number t.instance home && (t.machine == n)) ts ≡ true → nat_lt n most ≡ true)
        → (b c : Bool) → (t.machine == n) ≡ c → ((b && c) || list_any (λ (t : ModePortPlan). same_number t.instance home && (t.machine == n)) ts) ≡ true → nat_lt n most ≡ true
    by_first small rest true true same any = subst (λ x. nat_lt x most ≡ true) (eqb-true t.machine n same) small
    by_first small rest true false same any = rest any
    by_first small rest false c same any = rest any

module _ (p : Plan) (m : Mapping) (sound : IsSound p m) where
  -- an event that is disabled
  pub record CanBeDisabled (e : ℕ) (d : Disabling) : Type 0 where
    pub kind : may_be_disabled (kind_of p e) ≡ true
    pub machine : d.machine < length p.machines

  pub can_be_disabled : (e : ℕ) (d : Disabling) → disabling_of p e ≡ Some d → CanBeDisabled e d
  can_be_disabled e d is = by_event (slice_get p.events e) refl is
    where
      by_event : (o : Option EventPlan) → slice_get p.events e ≡ o → option_map_or (λ (v : EventPlan). v.disabled) o None ≡ Some d → CanBeDisabled e d
      by_event None there is = absurd (cc is)
      by_event (Some v) there is =
          let home = instance_of p v.runnable in
          let whole : event_sound p e v ≡ true = at_place (event_sound p) p.events e v (and_parts (every_from 0 (event_sound p) p.events) (nat_le (length p.events) 16384) sound.events).0 there in
          let first = and_parts (nat_lt v.runnable (length p.runnables)) _ whole in
          let second = and_parts (kind_sound p e v.runnable home v.kind) _ first.1 in
          let disabling : disabling_sound p home v.kind (Some d) ≡ true = subst (λ o. disabling_sound p home v.kind o ≡ true) is (and_parts (disabling_sound p home v.kind v.disabled) _ second.1).0 in
          let parts = and_parts (may_be_disabled v.kind) _ disabling in
          let machine = (and_parts (requires_machine p home d.machine) _ parts.1).0 in
          record {
            kind = ap may_be_disabled (kind_at p e v there) ∙ parts.0;
            machine = ltb-true d.machine (length p.machines) (required d.machine (length p.machines) home p.mode_ports sound.mode_ports machine);
          }

  pub undisabled : (e : ℕ) → may_be_disabled (kind_of p e) ≡ false → disabling_of p e ≡ None
  undisabled e never = by_disabling (disabling_of p e) refl
    where
      by_disabling : (o : Option Disabling) → disabling_of p e ≡ o → o ≡ None
      by_disabling None is = refl
      by_disabling (Some d) is = absurd (false≢true (sym never ∙ (can_be_disabled e d is).kind))

  -- ---- numbers of bundles and servers

  pub bundle_small : (x b : ℕ) → bundle_of p x ≡ Some b → b < length p.bundles
  bundle_small x b is = by_group (group_of p x) is
    where
      all : list_all (λ n. nat_lt n (length p.bundles)) p.homes ≡ true
      all = (and_parts (list_all (λ n. nat_lt n (length p.bundles)) p.homes) _ (and_parts (length p.homes == length p.groups) _ sound.bundles).1).0

      by_home : (g : ℕ) (o : Option ℕ) → slice_get p.homes g ≡ o → option_map_or (λ (n : ℕ). Some n) o None ≡ Some b → b < length p.bundles
      by_home g None there is = absurd (cc is)
      by_home g (Some n) there is = subst (λ k. k < length p.bundles) (same_Some n b is) (ltb-true n (length p.bundles) (all_at (λ k. nat_lt k (length p.bundles)) p.homes g n all there))

      by_group : (o : Option ℕ) → option_and_then (home_of p) o ≡ Some b → b < length p.bundles
      by_group None is = absurd (cc is)
      by_group (Some g) is = by_home g (slice_get p.homes g) refl is

  abbrev few : PointPlan → Bool
  few t = nat_le (length t.ins + length t.outs) 16 && (list_all limits_fit t.ins && list_all limits_fit t.outs)

  pub server_small : (q s : ℕ) → server_of p q ≡ Some s → s < length p.servers
  server_small q s is = by_point (slice_get p.points q) refl is
    where
      by_point : (o : Option PointPlan) → slice_get p.points q ≡ o → option_map_or (λ (t : PointPlan). t.server) o None ≡ Some s → s < length p.servers
      by_point None there is = absurd (cc is)
      by_point (Some t) there is =
          let joined : PointPlan = record { runnable = t.runnable; name = t.name; server = Some s; asynchronous = t.asynchronous; ins = t.ins; outs = t.outs } in
          let same : t ≡ joined = λ i. record { runnable = t.runnable; name = t.name; server = is i; asynchronous = t.asynchronous; ins = t.ins; outs = t.outs } in
          (sought p.servers s _ (and_parts (few joined) _ (all_at (λ (t : PointPlan). few t && _) p.points q joined (and_parts _ _ sound.operations).1 (there ∙ ap (λ (x : PointPlan). Some x) same))).1).within

  -- a start by an event that is disabled touches no machine
  pub start_apart : (e n : ℕ) → n < length p.machines → may_be_disabled (kind_of p e) ≡ true → same_number (object_of_kind p (kind_of p e)) (Some (first_machine p + n)) ≡ false
  start_apart e n small may = by_kind (kind_of p e) may
    where
      apart : (x y : ℕ) → x < y → (x == y) ≡ false
      apart x y less = grind (arith, nat_tests)

      above : (x y : ℕ) → y < x → (x == y) ≡ false
      above x y less = grind (arith, nat_tests)

      by_bundle : (x : ℕ) (o : Option ℕ) → bundle_of p x ≡ o → same_number o (Some (first_machine p + n)) ≡ false
      by_bundle x None is = refl
      by_bundle x (Some b) is = let less = bundle_small x b is in apart b (first_machine p + n) (omega arith)

      by_server : (q : ℕ) (o : Option ℕ) → server_of p q ≡ o → same_number (server_object p o) (Some (first_machine p + n)) ≡ false
      by_server q None is = refl
      by_server q (Some s) is = let less = server_small q s is in apart (first_server p + s) (first_machine p + n) (omega arith)

      by_kind : (k : EventKind) → may_be_disabled k ≡ true → same_number (object_of_kind p k) (Some (first_machine p + n)) ≡ false
      by_kind (Timing period) may = above (clock p) (first_machine p + n) (omega arith)
      by_kind Init may = above (clock p) (first_machine p + n) (omega arith)
      by_kind (DataReceived x) may = by_bundle x (bundle_of p x) refl
      by_kind (Returns q) may = by_server q (server_of p q) refl
      by_kind (Invoked s) may = absurd (false≢true may)
      by_kind (ModeSwitch k moment) may = absurd (false≢true may)
      by_kind (Ack k) may = absurd (false≢true may)

  -- ---- keys

  pub plain : (k : ActKey) → key_fits p k ≡ true → served_by p (Act k) ≡ None → k.point ≡ None
  plain k fit none = by_point k.point refl
    where
      by_point : (o : Option ℕ) → k.point ≡ o → o ≡ None
      by_point None is = refl
      by_point (Some q) is =
          let named : key_fits p (record { runnable = k.runnable; point = Some q }) ≡ true = subst (λ (o : Option ℕ). key_fits p (record { runnable = k.runnable; point = o }) ≡ true) is fit in
          let direct = (and_parts (serves_directly p k) _ (and_parts (nat_lt k.runnable (length p.runnables)) _ named).1).0 in
          let never : serves_directly p k ≡ false = rw none refl in
          absurd (false≢true (sym never ∙ direct))

  -- an event that matters to a machine is none of a server's runnable
  pub unserved : (e n : ℕ) (k : ActKey) → machine_of_event p e ≡ Some n → runnable_of_event p e ≡ Some k.runnable → served_by p (Act k) ≡ None
  unserved e n k matter own = by_server (served_by p (Act k)) refl
    where
      by_server : (o : Option ℕ) → served_by p (Act k) ≡ o → o ≡ None
      by_server None is = refl
      by_server (Some s) is =
          let kind = serves_invoked p m sound e s k.runnable own is in
          let none : disabling_of p e ≡ None = undisabled e (ap may_be_disabled kind) in
          absurd (cc (sym matter ∙ ap (λ x. owing x (disabler_of p e)) kind ∙ ap (option_map (λ (d : Disabling). d.machine)) none))
