-- A queued server has one key: between starts and returns of the server, that key's activation serves.
use Rattle.std.proofs.Common.{◌≡◌, ℕ, ◌+◌, Bool, true, false, ◌&&◌, ◌==◌, if◌then◌else◌, refl, sym, ◌∙◌, ap, subst, arith, [], ◌∷◌, length, Option, Some, None}
use Rattle.bus_semantics.specs.Common.{and_parts, eqb-true, false≢true, same_Some, option_or, option_map_or, list_all, slice_get, ActKey, Value, words_of, same_number, same_key}
use Rattle.bus_semantics.specs.Common.{same_key-Decides, Plan, Runnable, every_from, queue_of, kind_of, runnable_of_event, History, Past, noted, newest, runs, first_server, server_object}
use Rattle.bus_semantics.specs.Common.{object_of_kind, served_by, touches, entries_of, serves_directly, key_fits, start_fits, fits, starts_its_own, is_proper, is_open, serves_by, serves_any}
use Rattle.bus_semantics.specs.Common.{IsLegal, server_sound, server_served, serves_back, IsSound}
use Rattle.std.specs.Prelude.{filter, unwrap_or, nat_lt}
use Rattle.bus_laws.specs.Common.{ServerPlan, EventKind, Timing, Init, DataReceived, Invoked, Returns, ModeSwitch, Ack, Mapping, Actor, Env, Machine, Act, Deed}
use Rattle.bus_semantics.specs.declared.entries.Deed.TheVariants as deed
use Rattle.history_laws.specs.LookUps.{Sought, sought, looked, at_place}
use Rattle.bus_laws.proofs.Thinning.{noting, if_same, option_same, sought_where}
use Rattle.bus_laws.proofs.Local.{proper_legal}
use Rattle.bus_laws.proofs.OneEvent.{invoked_serves, serves_invoked}
use Rattle.bus_laws.proofs.LocalServers.{start_owned}
use Rattle.history_laws.proofs.Keys.{key_is, fit_key}
use Rattle.history_laws.proofs.ServedOnce.{serves_open, over_closed, serves_thin}

pub key_part : (p : Plan) (j : ActKey) (d : Deed) (event : Option ℕ) → is_proper p (noting (Act j) d event) ≡ true → key_fits p j ≡ true
key_part p j d event proper = fit_key p j d (and_parts (fits p (record { actor = Act j; deed = d })) (starts_its_own p (Act j) d) proper).0

pub same_server : (a s t : ℕ) → (a + s == a + t) ≡ true → s ≡ t
same_server a s t e = let same : a + s ≡ a + t = eqb-true (a + s) (a + t) e in omega arith

-- an activation's alone: nobody else starts or returns
pub no_starter : {X : Type 0} (p : Plan) (n e : ℕ) (point : Option ℕ) (value : Value) (event : Option ℕ) → is_proper p (noting (Machine n) (deed.Start e point value) event) ≡ true → X
no_starter p n e point value event proper =
    let inside = nat_lt n (length p.machines) in
    let answer = start_fits p (kind_of p e) point (words_of value) in
    absurd (false≢true (and_parts inside false (and_parts (inside && false) answer (and_parts ((inside && false) && answer) true proper).0).0).1)

module _ (p : Plan) (m : Mapping) (sound : IsSound p m) (s : ℕ) where
  back : (k : ActKey) → served_by p (Act k) ≡ Some s → option_map_or (λ (v : ServerPlan). v.runnable == k.runnable) (slice_get p.servers s) false ≡ true
  back k home =
      let r = sought_where p.runnables k.runnable (λ (r : Runnable). r.server) s home in
      let whole : serves_back p k.runnable r.item ≡ true =
      at_place (serves_back p) p.runnables k.runnable r.item (and_parts (every_from 0 (server_served p) p.servers) (every_from 0 (serves_back p) p.runnables) sound.servers).1 r.found in
      let is = r.number in
      rw is at whole

  -- the runnable of a server serves it
  pub server_runs : (v : ServerPlan) → slice_get p.servers s ≡ Some v → Sought Runnable p.runnables v.runnable (λ (r : Runnable). same_number r.server (Some s))
  server_runs v there =
      let whole : server_served p s v ≡ true = at_place (server_served p) p.servers s v (and_parts (every_from 0 (server_served p) p.servers) (every_from 0 (serves_back p) p.runnables) sound.servers).0 there in
      sought p.runnables v.runnable (λ (r : Runnable). same_number r.server (Some s)) (and_parts _ _ (and_parts (server_sound v) _ whole).1).1

  pub server_home : (v : ServerPlan) → slice_get p.servers s ≡ Some v → (k : ActKey) → k.runnable ≡ v.runnable → served_by p (Act k) ≡ Some s
  server_home v there k same =
      let at = server_runs v there in
      ap (λ n. option_map_or (λ (r : Runnable). r.server) (slice_get p.runnables n) None) same
      ∙ looked p.runnables v.runnable at.item (λ (r : Runnable). r.server) None at.found ∙ option_same at.item.server (Some s) at.holds

  pub one_runnable : (j k : ActKey) → served_by p (Act j) ≡ Some s → served_by p (Act k) ≡ Some s → j.runnable ≡ k.runnable
  one_runnable j k there home =
      let first = sought p.servers s (λ (v : ServerPlan). v.runnable == j.runnable) (back j there) in
      let second = sought p.servers s (λ (v : ServerPlan). v.runnable == k.runnable) (back k home) in
      let same : first.item ≡ second.item = same_Some first.item second.item (sym first.found ∙ second.found) in
      sym (eqb-true first.item.runnable j.runnable first.holds) ∙ ap (λ (v : ServerPlan). v.runnable) same ∙ eqb-true second.item.runnable k.runnable second.holds

  module _ (most : ℕ) (queue : queue_of p s ≡ Some most) where
    pub queued_plain : (k : ActKey) → key_fits p k ≡ true → served_by p (Act k) ≡ Some s → k.point ≡ None
    queued_plain k fit home = by_point k.point refl
      where
        by_point : (o : Option ℕ) → k.point ≡ o → o ≡ None
        by_point None is = refl
        by_point (Some q) is =
            let named : key_fits p (record { runnable = k.runnable; point = Some q }) ≡ true = subst (λ (o : Option ℕ). key_fits p (record { runnable = k.runnable; point = o }) ≡ true) is fit in
            let direct = (and_parts (serves_directly p k) _ (and_parts (nat_lt k.runnable (length p.runnables)) _ named).1).0 in
            let never : serves_directly p k ≡ false = rw (home, queue) refl in
            absurd (false≢true (sym never ∙ direct))

    pub one_key : (j k : ActKey) → key_fits p j ≡ true → key_fits p k ≡ true → served_by p (Act j) ≡ Some s → served_by p (Act k) ≡ Some s → same_key k j ≡ true
    one_key j k fit mine there home =
        let runnables : k.runnable ≡ j.runnable = sym (one_runnable j k there home) in
        let points : k.point ≡ j.point = queued_plain k mine home ∙ sym (queued_plain j fit there) in
        (same_key-Decides k j).1 (λ i. record { runnable = runnables i; point = points i })

    module _ (k : ActKey) (fit : key_fits p k ≡ true) (home : served_by p (Act k) ≡ Some s) where
      abbrev object : ℕ
      object = first_server p + s

      any_start : (j : ActKey) (e : ℕ) (point : Option ℕ) (value : Value) (event : Option ℕ) → is_proper p (noting (Act j) (deed.Start e point value) event) ≡ true
          → touches p object (noting (Act j) (deed.Start e point value) event) ≡ true → serves_any p (noting (Act j) (deed.Start e point value) event) ≡ serves_by (Act k) (noting (Act j) (deed.Start e point value) event)
      any_start j e point value event proper touch = by_kind (kind_of p e) refl
        where
          owned : runnable_of_event p e ≡ Some j.runnable
          owned = start_owned p j e point value event proper

          other_kind : (kind_of p e ≡ Invoked s → serves_any p (noting (Act j) (deed.Start e point value) event) ≡ serves_by (Act k) (noting (Act j) (deed.Start e point value) event))
              → serves_any p (noting (Act j) (deed.Start e point value) event) ≡ None → serves_any p (noting (Act j) (deed.Start e point value) event) ≡ serves_by (Act k) (noting (Act j) (deed.Start e point value) event)
          other_kind never none = by_own (same_key k j) refl
            where
              by_own : (b : Bool) → same_key k j ≡ b → serves_any p (noting (Act j) (deed.Start e point value) event) ≡ serves_by (Act k) (noting (Act j) (deed.Start e point value) event)
              by_own false apart = none ∙ rw apart refl
              by_own true same = never (serves_invoked p m sound e s j.runnable owned (subst (λ z. served_by p (Act z) ≡ Some s) (sym (key_is k j same)) home))

          by_kind : (x : EventKind) → kind_of p e ≡ x → serves_any p (noting (Act j) (deed.Start e point value) event) ≡ serves_by (Act k) (noting (Act j) (deed.Start e point value) event)
          by_kind (Invoked t) is =
              let at : same_number (server_object p (Some t)) (Some object) ≡ true = subst (λ y. same_number (object_of_kind p y) (Some object) ≡ true) is touch in
              let number : t ≡ s = same_server (first_server p) t s at in
              let there : served_by p (Act j) ≡ Some s = invoked_serves p m sound e s j.runnable (is ∙ ap Invoked number) owned in
              let same : same_key k j ≡ true = one_key j k (key_part p j (deed.Start e point value) event proper) fit there home in
              rw (is, same) refl
          by_kind (Timing period) is = other_kind (λ kind. absurd (cc (sym is ∙ kind))) (rw is refl)
          by_kind Init is = other_kind (λ kind. absurd (cc (sym is ∙ kind))) (rw is refl)
          by_kind (DataReceived x) is = other_kind (λ kind. absurd (cc (sym is ∙ kind))) (rw is refl)
          by_kind (Returns q) is = other_kind (λ kind. absurd (cc (sym is ∙ kind))) (rw is refl)
          by_kind (ModeSwitch n moment) is = other_kind (λ kind. absurd (cc (sym is ∙ kind))) (rw is refl)
          by_kind (Ack n) is = other_kind (λ kind. absurd (cc (sym is ∙ kind))) (rw is refl)

      any_return : (j : ActKey) (code : ℕ) (value : Value) (event : Option ℕ) → is_proper p (noting (Act j) (deed.Return code value) event) ≡ true
          → touches p object (noting (Act j) (deed.Return code value) event) ≡ true → serves_any p (noting (Act j) (deed.Return code value) event) ≡ serves_by (Act k) (noting (Act j) (deed.Return code value) event)
      any_return j code value event proper touch =
          let there : served_by p (Act j) ≡ Some s = by_server (served_by p (Act j)) touch in
          let same : same_key k j ≡ true = one_key j k (key_part p j (deed.Return code value) event proper) fit there home in
          rw same refl
        where
          by_server : (o : Option ℕ) → same_number (server_object p o) (Some object) ≡ true → o ≡ Some s
          by_server None at = absurd (false≢true at)
          by_server (Some t) at = ap (λ n. Some n) (same_server (first_server p) t s at)

      any_own : (a : Actor) (d : Deed) (event : Option ℕ) → is_proper p (noting a d event) ≡ true → touches p object (noting a d event) ≡ true → serves_any p (noting a d event) ≡ serves_by (Act k) (noting a d event)
      any_own (Act j) (deed.Start e point value) event proper touch = any_start j e point value event proper touch
      any_own (Act j) (deed.Return code value) event proper touch = any_return j code value event proper touch
      any_own (Act j) d event proper touch = let nothing : Option Bool = None in sym (if_same (same_key k j) nothing)
      any_own Env (deed.Start e point value) event proper touch = absurd (false≢true proper)
      any_own Env (deed.Return code value) event proper touch = absurd (false≢true touch)
      any_own Env d event proper touch = refl
      any_own (Machine n) (deed.Start e point value) event proper touch = no_starter p n e point value event proper
      any_own (Machine n) (deed.Return code value) event proper touch = absurd (false≢true touch)
      any_own (Machine n) d event proper touch = refl

      newest_any : (l : Past) → list_all (is_proper p) l ≡ true → newest (serves_any p) (filter (touches p object) l) ≡ newest (serves_by (Act k)) (filter (touches p object) l)
      newest_any [] fine = refl
      newest_any (n ∷ l) fine =
          let parts = and_parts (is_proper p n) (list_all (is_proper p) l) fine in
          by_test (newest_any l parts.1) (any_own n.entry.actor n.entry.deed n.event parts.0) (touches p object n) refl
        where
          by_test : newest (serves_any p) (filter (touches p object) l) ≡ newest (serves_by (Act k)) (filter (touches p object) l) → (touches p object n ≡ true → serves_any p n ≡ serves_by (Act k) n)
              → (b : Bool) → touches p object n ≡ b → newest (serves_any p) (if b then n ∷ filter (touches p object) l else filter (touches p object) l) ≡ newest (serves_by (Act k)) (if b then n ∷ filter (touches p object) l else filter (touches p object) l)
          by_test before same true touch = λ i. option_or (same touch i) (before i)
          by_test before same false touch = before

      -- where the key is idle nothing is open
      pub none_open : (h : History) → IsLegal p h → runs k h ≡ false → is_open (serves_any p) (entries_of p h object) ≡ false
      none_open h legal idle =
          ap (λ o. unwrap_or o false) (newest_any (noted h) (proper_legal p h legal) ∙ serves_thin p k m sound s home (noted h) (proper_legal p h legal))
          ∙ serves_open p k h legal ∙ over_closed p k m sound s home h legal idle
