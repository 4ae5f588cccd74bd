-- Keys of a sound plan, its servers with their events, and the direct activations of points.
use Rattle.std.proofs.Common.{◌≡◌, ℕ, ◌<◌, inl, true, false, ◌&&◌, not, ◌==◌, refl, sym, ◌∙◌, ap, subst, arith, length, nat_lt, nat_le, is_none, Option, Some, None}
use Rattle.bus_semantics.specs.Common.{slice_get, option_map_or, and_from, and_parts, eqb-true, ltb-true, lt-ltb, false≢true, not-true, slice_get_within, same_Some, ActKey, same_number}
use Rattle.bus_semantics.specs.Common.{Plan, Runnable, every_from, positions, server_of, queue_of, kind_of, runnable_of_event, instance_of, serves_directly, key_fits, direct_key, plain_key}
use Rattle.bus_semantics.specs.Common.{plain_keys, direct_keys, keys_of, option_list, server_sound, kind_sound, event_sound, server_served, serves_back, IsSound}
use Rattle.bus_laws.specs.Common.{PointPlan, ServerPlan, EventPlan, EventKind, Invoked, Mapping}
use Rattle.bus_laws.proofs.Thinning.{every_at, option_same, option_test, found_where, sought_where}
use Rattle.bus_laws.proofs.OneEvent.{server_of_runnable, kind_at, serves_invoked, server_at}
use Rattle.no_stall.proofs.Lists.{Among, among_left, among_right, among_gathered, among_map, among_positions}

-- a server's event starts its runnable, which serves it
pub record Served (p : Plan) (s : ℕ) (v : ServerPlan) : Type 0 where
  pub kind : kind_of p v.event ≡ Invoked s
  pub runs : runnable_of_event p v.event ≡ Some v.runnable
  pub back : server_of_runnable p v.runnable ≡ Some s
  pub exists : v.runnable < length p.runnables
  pub event : v.event < length p.events

-- a point of a direct server, with its key
pub record IsDirect (p : Plan) (q : ℕ) (d : ActKey) : Type 0 where
  pub server : ℕ
  pub plan : ServerPlan
  pub joined : server_of p q ≡ Some server
  pub found : slice_get p.servers server ≡ Some plan
  pub queue : plan.queue ≡ None
  pub is : record { runnable = plan.runnable; point = Some q } ≡ d

module _ (p : Plan) (m : Mapping) (sound : IsSound p m) where
  pub served : (s : ℕ) (v : ServerPlan) → slice_get p.servers s ≡ Some v → Served p s v
  served s v there = by_event (slice_get p.events v.event) refl
    where
      whole : server_served p s v ≡ true
      whole = server_at p m sound s v there

      by_kind : (w : EventPlan) → slice_get p.events v.event ≡ Some w → (k : EventKind) → w.kind ≡ k → Served p s v
      by_kind w is (Invoked n) kind =
          let test = rw (is, kind) at whole in
          let looked = option_map_or (λ (r : Runnable). same_number r.server (Some s)) (slice_get p.runnables v.runnable) false in
          let parts = and_parts (n == s) looked (and_parts (server_sound v) ((n == s) && looked) test).1 in
          let r = found_where p.runnables v.runnable (λ (r : Runnable). same_number r.server (Some s)) parts.1 in
          let invoked : w.kind ≡ Invoked s = kind ∙ ap Invoked (eqb-true n s parts.0) in
          let sounds = every_at (event_sound p) 0 p.events (and_parts (every_from 0 (event_sound p) p.events) (nat_le (length p.events) 16384) sound.events).0 v.event v.event w (omega arith) is in
          let kinds : kind_sound p v.event w.runnable (instance_of p w.runnable) w.kind ≡ true =
          (and_parts (kind_sound p v.event w.runnable (instance_of p w.runnable) w.kind) _ (and_parts (nat_lt w.runnable (length p.runnables)) _ sounds).1).0 in
          let of_server : ((v.event == v.event) && ((v.runnable == w.runnable) && same_number (Some v.instance) (instance_of p w.runnable))) ≡ true = rw (invoked, there) at kinds in
          let own : v.runnable ≡ w.runnable = eqb-true v.runnable w.runnable (and_parts (v.runnable == w.runnable) _ (and_parts (v.event == v.event) _ of_server).1).0 in
          record {
            kind = kind_at p v.event w is ∙ invoked;
            runs = ap (λ (o : Option EventPlan). option_map_or (λ (u : EventPlan). Some u.runnable) o None) is ∙ ap (λ (n : ℕ). Some n) (sym own);
            back = ap (λ (o : Option Runnable). option_map_or (λ (u : Runnable). u.server) o None) r.found ∙ option_same r.item.server (Some s) r.holds;
            exists = slice_get_within p.runnables v.runnable r.item r.found;
            event = slice_get_within p.events v.event w is;
          }
      by_kind w is k kind = let test = rw (is, kind) at whole in absurd (cc (and_parts (server_sound v) false test).1)

      by_event : (o : Option EventPlan) → slice_get p.events v.event ≡ o → Served p s v
      by_event None none = let test = rw none at whole in absurd (cc (and_parts (server_sound v) false test).1)
      by_event (Some w) is = by_kind w is w.kind refl

  pub queue_at : (s : ℕ) (v : ServerPlan) → slice_get p.servers s ≡ Some v → queue_of p s ≡ v.queue
  queue_at s v there = rw there refl

  -- the server of a runnable has it
  pub has_runnable : (r s : ℕ) → server_of_runnable p r ≡ Some s → (v : ServerPlan) × (slice_get p.servers s ≡ Some v) × (v.runnable ≡ r)
  has_runnable r s serves =
      let of = sought_where p.runnables r (λ (u : Runnable). u.server) s serves in
      let back : serves_back p r of.item ≡ true = every_at (serves_back p) 0 p.runnables (and_parts (every_from 0 (server_served p) p.servers) (every_from 0 (serves_back p) p.runnables) sound.servers).1 r r of.item (omega arith) of.found in
      let number = of.number in
      let looked : option_map_or (λ (w : ServerPlan). w.runnable == r) (slice_get p.servers s) false ≡ true = rw number at back in
      let w = found_where p.servers s (λ (u : ServerPlan). u.runnable == r) looked in
      (w.item, w.found, eqb-true w.item.runnable r w.holds)

  -- ---- keys that fit

  pub plain_among : (r : ℕ) → r < length p.runnables → Among (plain_key r) (keys_of p)
  plain_among r less = among_left (plain_key r) (plain_keys p) (direct_keys p) (among_map plain_key r (positions (length p.runnables)) (among_positions r (length p.runnables) less))

  pub joined_point : (q s : ℕ) → server_of p q ≡ Some s → q < length p.points
  joined_point q s joined = let t = sought_where p.points q (λ (u : PointPlan). u.server) s joined in slice_get_within p.points q t.item t.found

  pub direct_is : (q : ℕ) (d : ActKey) → direct_key p q ≡ Some d → IsDirect p q d
  direct_is q d is = by_server (server_of p q) refl
    where
      by_queue : (s : ℕ) → server_of p q ≡ Some s → (v : ServerPlan) → slice_get p.servers s ≡ Some v → (o : Option ℕ) → v.queue ≡ o → IsDirect p q d
      by_queue s joined v there None queue = let key : Some (record { runnable = v.runnable; point = Some q }) ≡ Some d = rw (joined, there, queue) at is in
          record { server = s; plan = v; joined = joined; found = there; queue = queue; is = cc key }
      by_queue s joined v there (Some most) queue = let none = rw (joined, there, queue) at is in absurd (cc none)

      by_plan : (s : ℕ) → server_of p q ≡ Some s → (o : Option ServerPlan) → slice_get p.servers s ≡ o → IsDirect p q d
      by_plan s joined None there = let none = rw (joined, there) at is in absurd (cc none)
      by_plan s joined (Some v) there = by_queue s joined v there v.queue refl

      by_server : (o : Option ℕ) → server_of p q ≡ o → IsDirect p q d
      by_server None none = let never = rw none at is in absurd (cc never)
      by_server (Some s) joined = by_plan s joined (slice_get p.servers s) refl

  pub key_direct : (q s : ℕ) (v : ServerPlan) → server_of p q ≡ Some s → slice_get p.servers s ≡ Some v → v.queue ≡ None → direct_key p q ≡ Some (record { runnable = v.runnable; point = Some q })
  key_direct q s v joined there queue = rw (joined, there, queue) refl

  pub directly : (r s : ℕ) (o : Option ℕ) → server_of_runnable p r ≡ Some s → serves_directly p (record { runnable = r; point = o }) ≡ is_none (queue_of p s)
  directly r s o serves = rw serves refl

  pub not_directly : (r : ℕ) (o : Option ℕ) → server_of_runnable p r ≡ None → serves_directly p (record { runnable = r; point = o }) ≡ false
  not_directly r o serves = rw serves refl

  pub direct_fits : (q : ℕ) (d : ActKey) → IsDirect p q d → key_fits p d ≡ true
  direct_fits q d of = subst (λ (k : ActKey). key_fits p k ≡ true) of.is fit
    where
      of_server : Served p of.server of.plan
      of_server = served of.server of.plan of.found

      fit : key_fits p (record { runnable = of.plan.runnable; point = Some q }) ≡ true
      fit = and_from (nat_lt of.plan.runnable (length p.runnables)) _ (lt-ltb of.plan.runnable (length p.runnables) of_server.exists)
          (and_from (serves_directly p (record { runnable = of.plan.runnable; point = Some q })) _ (directly of.plan.runnable of.server (Some q) of_server.back ∙ ap is_none (queue_at of.server of.plan of.found ∙ of.queue))
          (option_test (server_of p q) (server_of_runnable p of.plan.runnable) (of.joined ∙ sym of_server.back)))

  pub is_direct : (q : ℕ) (d : ActKey) → IsDirect p q d → serves_directly p d ≡ true
  is_direct q d of = subst (λ (k : ActKey). serves_directly p k ≡ true) of.is
      (directly of.plan.runnable of.server (Some q) (served of.server of.plan of.found).back ∙ ap is_none (queue_at of.server of.plan of.found ∙ of.queue))

  -- the key of a runnable that serves no server directly
  pub plain_fits : (r : ℕ) → r < length p.runnables → serves_directly p (plain_key r) ≡ false → key_fits p (plain_key r) ≡ true
  plain_fits r less other = and_from (nat_lt r (length p.runnables)) (not (serves_directly p (plain_key r))) (lt-ltb r (length p.runnables) less) (ap not other)

  -- a key that fits is plain, or the one of a point of a direct server
  pub data Shape (k : ActKey) : Type 0 where
    plain : plain_key k.runnable ≡ k → serves_directly p k ≡ false → Shape k
    direct : (q : ℕ) → IsDirect p q k → Shape k

  pub shape : (k : ActKey) → key_fits p k ≡ true → Shape k
  shape k fit = by_point k.point refl
    where
      point_part : (o : Option ℕ) → k.point ≡ o → key_fits p (record { runnable = k.runnable; point = o }) ≡ true
      point_part o is = subst (λ (x : Option ℕ). key_fits p (record { runnable = k.runnable; point = x }) ≡ true) is fit

      by_served : (q : ℕ) → k.point ≡ Some q → serves_directly p k ≡ true → same_number (server_of p q) (server_of_runnable p k.runnable) ≡ true → (o : Option ℕ) → server_of_runnable p k.runnable ≡ o → Shape k
      by_served q is serves joined None none = absurd (false≢true (sym (not_directly k.runnable k.point none) ∙ serves))
      by_served q is serves joined (Some s) some =
          let v = has_runnable k.runnable s some in
          let none : is_none (queue_of p s) ≡ true = sym (directly k.runnable s k.point some) ∙ serves in
          direct q (record {
            server = s;
            plan = v.0;
            joined = option_same (server_of p q) (server_of_runnable p k.runnable) joined ∙ some;
            found = v.1;
            queue = empty v.0.queue (ap is_none (sym (queue_at s v.0 v.1)) ∙ none);
            is = λ i. record { runnable = v.2 i; point = sym is i };
          })
        where
          empty : (o : Option ℕ) → is_none o ≡ true → o ≡ None
          empty None e = refl
          empty (Some n) e = absurd (false≢true e)

      by_point : (o : Option ℕ) → k.point ≡ o → Shape k
      by_point None is = let free = (and_parts (nat_lt k.runnable (length p.runnables)) (not (serves_directly p k)) (point_part None is)).1 in
          plain (λ i. record { runnable = k.runnable; point = sym is i }) (not-true (serves_directly p k) free)
      by_point (Some q) is =
          let parts = and_parts (serves_directly p k) (same_number (server_of p q) (server_of_runnable p k.runnable)) (and_parts (nat_lt k.runnable (length p.runnables)) _ (point_part (Some q) is)).1 in
          by_served q is parts.0 parts.1 (server_of_runnable p k.runnable) refl

  pub key_among : (k : ActKey) → key_fits p k ≡ true → Among k (keys_of p)
  key_among k fit = by_shape (shape k fit)
    where
      by_shape : Shape k → Among k (keys_of p)
      by_shape (plain is other) = subst (λ (j : ActKey). Among j (keys_of p)) is (plain_among k.runnable (ltb-true k.runnable (length p.runnables) (and_parts (nat_lt k.runnable (length p.runnables)) _ fit).0))
      by_shape (direct q of) = among_right k (plain_keys p) (direct_keys p)
          (among_gathered (λ q. option_list (direct_key p q)) q k (positions (length p.points)) (among_positions q (length p.points) (joined_point q of.server of.joined))
          (subst (λ (o : Option ActKey). Among k (option_list o)) (sym (key_direct q of.server of.plan of.joined of.found of.queue)) (inl of.is)))

  -- an event that is no server's has a runnable that serves none directly
  pub own_fits : (e r : ℕ) → runnable_of_event p e ≡ Some r → ((s : ℕ) → kind_of p e ≡ Invoked s → is_none (queue_of p s) ≡ false) → key_fits p (plain_key r) ≡ true
  own_fits e r runs queued =
      let v = sought_where p.events e (λ (u : EventPlan). Some u.runnable) r runs in
      let sounds = every_at (event_sound p) 0 p.events (and_parts (every_from 0 (event_sound p) p.events) (nat_le (length p.events) 16384) sound.events).0 e e v.item (omega arith) v.found in
      let less : v.item.runnable < length p.runnables = ltb-true v.item.runnable (length p.runnables) (and_parts (nat_lt v.item.runnable (length p.runnables)) _ sounds).0 in
      plain_fits r (subst (λ n. n < length p.runnables) (same_Some v.item.runnable r v.number) less) (by_served (server_of_runnable p r) refl)
    where
      by_served : (o : Option ℕ) → server_of_runnable p r ≡ o → serves_directly p (plain_key r) ≡ false
      by_served None none = not_directly r None none
      by_served (Some s) some = directly r s None some ∙ queued s (serves_invoked p m sound e s r runs some)
