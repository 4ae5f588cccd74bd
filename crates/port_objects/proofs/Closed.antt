-- When nobody may enter an area: on an object of another kind always, and on an area while somebody is in it.
use Rattle.std.proofs.Common.{◌≡◌, ℕ, false, true, refl, sym, ◌∙◌, ap, subst, Option, Some, None}
use Rattle.std.specs.Prelude.{is_none, option_map, unwrap_or}
use Rattle.bus_semantics.specs.Common.{unsigned_Decides, and_from, ActKey, same_number, Plan, to_enter, wanted_by, Noted, object_of, touches, fits, wish_fits, answer_fits, is_proper}
use Rattle.bus_semantics.specs.Common.{starts_its_own}
use Rattle.bus_laws.specs.Common.{Actor, Env, Machine, Act, Deed}
use Rattle.bus_semantics.specs.declared.entries.Deed.TheVariants as deed
use Rattle.object_kinds.specs.Common.{group_at, given}
use Rattle.object_kinds.proofs.Proper.{noting}
use Rattle.data_objects.specs.Kept as group
use Rattle.data_objects.specs.Leading as group_leading
use Rattle.bundle_objects.specs.Kept as bundle
use Rattle.queue_objects.specs.Kept as queue
use Rattle.bundle_objects.specs.Leading as bundle_leading
use Rattle.queue_objects.specs.Leading as queue_leading
use Rattle.server_objects.specs.Kept as server
use Rattle.area_objects.specs.Kept as area
use Rattle.machine_objects.specs.Kept as machine
use Rattle.server_objects.specs.Leading as server_leading
use Rattle.area_objects.specs.Leading as area_leading
use Rattle.machine_objects.specs.Leading as machine_leading
use Rattle.clock_objects.specs.Kept as clock
use Rattle.clock_objects.specs.Leading as clock_leading
use Rattle.port_objects.specs.Common.{Kept, of_group, of_bundle, of_queues, of_server, of_area, of_machine, of_clock, lead_by_kind, lead, is_leave, IsClosed}
use Rattle.port_objects.proofs.Gate.{passed, opens, stays_shut}

-- what wants to enter is an Enter
enters : (d : Deed) (by x : ℕ) → wanted_by by d ≡ to_enter x → d ≡ deed.Enter x
enters (deed.Enter y) by x is = let same : y ≡ x = cc in ap (λ z. deed.Enter z) same
enters d by x is = absurd (cc is)

-- ---- other kinds

closed_group : (p : Plan) (object : ℕ) (k : group.Kept) → IsClosed p object (of_group k)
closed_group p object k n x is = stays_shut p object (of_group k) n
    (ap (λ d. option_map of_group (option_map (λ (v : _). record { events = k.events; unqueued = v }) (group_leading.lead_of_group p (group_at p object) k.events k.unqueued d))) (enters n.entry.deed (unwrap_or n.event 0) x is))

closed_bundle : (p : Plan) (object : ℕ) (k : bundle.Kept) → IsClosed p object (of_bundle k)
closed_bundle p object k n x is = stays_shut p object (of_bundle k) n (ap (λ d. option_map of_bundle (bundle_leading.lead_by p k n d)) (enters n.entry.deed (unwrap_or n.event 0) x is))

closed_queues : (p : Plan) (object : ℕ) (k : queue.Kept) → IsClosed p object (of_queues k)
closed_queues p object k n x is = stays_shut p object (of_queues k) n
    (ap (λ d. option_map of_queues (option_map (queue_leading.with_queues k) (queue_leading.lead_of_queues p k.receivers k.events k.queued d))) (enters n.entry.deed (unwrap_or n.event 0) x is))

closed_clock : (p : Plan) (object : ℕ) (k : clock.Kept) → IsClosed p object (of_clock k)
closed_clock p object k n x is = stays_shut p object (of_clock k) n
    (ap (λ d. option_map of_clock (option_map (clock_leading.with_clock k) (clock_leading.lead_of_clock k.timings k.inits k.clock d))) (enters n.entry.deed (unwrap_or n.event 0) x is))

closed_server : (p : Plan) (object : ℕ) (k : server.Kept) → IsClosed p object (of_server k)
closed_server p object k n x is = stays_shut p object (of_server k) n
    (ap (λ d. option_map of_server (option_map (server_leading.with_served k) (server_leading.lead_of_server k d n.entry.actor))) (enters n.entry.deed (unwrap_or n.event 0) x is))

closed_machine : (p : Plan) (object : ℕ) (k : machine.Kept) → IsClosed p object (of_machine k)
closed_machine p object k n x is = stays_shut p object (of_machine k) n
    (ap (λ d. option_map of_machine (option_map (machine_leading.with_machine k) (machine_leading.lead_of_machine k n.event d))) (enters n.entry.deed (unwrap_or n.event 0) x is))

-- ---- areas

entered_by : (k : area.Kept) (holder : ActKey) → k.holder ≡ Some holder → (x : ℕ) (a : Actor) → area_leading.lead_of_area k (deed.Enter x) a ≡ None
entered_by k holder is x (Act key) = ap (λ o. given (is_none o) (record { holder = Some key })) is
entered_by k holder is x Env = refl
entered_by k holder is x (Machine m) = refl

closed_area : (p : Plan) (object : ℕ) (k : area.Kept) (holder : ActKey) → k.holder ≡ Some holder → IsClosed p object (of_area k)
closed_area p object k holder held n x is = stays_shut p object (of_area k) n
    (ap (option_map of_area) (ap (λ d. area_leading.lead_of_area k d n.entry.actor) (enters n.entry.deed (unwrap_or n.event 0) x is) ∙ entered_by k holder held x n.entry.actor))

-- ---- who may not enter though the wish fits finds somebody there

module _ (p : Plan) (object x : ℕ) (a : ActKey) (fit : wish_fits p (Act a) (to_enter x) ≡ true) (there : object_of p (Act a) (to_enter x) ≡ Some object) where
  entry : Noted
  entry = noting (Act a) (deed.Enter x) None

  touching : touches p object entry ≡ true
  unfolding entry
  touching = ap (λ o. same_number o (Some object)) there ∙ (unsigned_Decides object object).1 refl

  proper : is_proper p entry ≡ true
  unfolding entry
  proper = and_from (fits p entry.entry) (starts_its_own p entry.entry.actor entry.entry.deed) (and_from (wish_fits p (Act a) (to_enter x)) (answer_fits p (Act a) (deed.Enter x)) fit refl) refl

  pub closed_alike : (k : Kept) → ((n : Noted) → n.entry.actor ≡ Act a → wanted_by (unwrap_or n.event 0) n.entry.deed ≡ to_enter x → lead p object k n ≡ None) → IsClosed p object k
  unfolding entry
  closed_alike (of_group k) none = closed_group p object k
  closed_alike (of_bundle k) none = closed_bundle p object k
  closed_alike (of_queues k) none = closed_queues p object k
  closed_alike (of_server k) none = closed_server p object k
  closed_alike (of_machine k) none = closed_machine p object k
  closed_alike (of_clock k) none = closed_clock p object k
  closed_alike (of_area k) none = by_holder k.holder refl
    where
      free : k.holder ≡ None → lead p object (of_area k) entry ≡ Some (of_area (record { holder = Some a }))
      free is = opens p object (of_area k) entry touching proper ∙ ap (λ o. option_map of_area (given (is_none o) (record { holder = Some a }))) is

      by_holder : (o : Option ActKey) → k.holder ≡ o → IsClosed p object (of_area k)
      by_holder (Some holder) is = closed_area p object k holder is
      by_holder None is = absurd (cc (sym (free is) ∙ none entry refl refl))

-- ---- after an entry

module _ (p : Plan) (object : ℕ) where
  after_area : (k : area.Kept) (after : Kept) (d : Deed) (a : Actor) → is_leave d ≡ false → option_map of_area (area_leading.lead_of_area k d a) ≡ Some after → IsClosed p object after
  after_area k after (deed.Enter x) (Act key) other leads = of_given (is_none k.holder) leads
    where
      of_given : (b : _) → option_map of_area (given b (record { holder = Some key })) ≡ Some after → IsClosed p object after
      of_given true leads = let same : of_area (record { holder = Some key }) ≡ after = cc in subst (IsClosed p object) same (closed_area p object (record { holder = Some key }) key refl)
      of_given false leads = absurd (cc leads)
  after_area k after (deed.Enter x) Env other leads = absurd (cc leads)
  after_area k after (deed.Enter x) (Machine m) other leads = absurd (cc leads)
  after_area k after (deed.Leave x) a other leads = absurd (cc other)
  after_area k after d a other leads = absurd (cc leads)

  by_kind : (k after : Kept) (n : Noted) → is_leave n.entry.deed ≡ false → lead_by_kind p object k n ≡ Some after → IsClosed p object after
  by_kind (of_group k) after n other leads = of_lead (group_leading.lead p object k n) leads
    where
      of_lead : (o : Option group.Kept) → option_map of_group o ≡ Some after → IsClosed p object after
      of_lead None leads = absurd (cc leads)
      of_lead (Some j) leads = let same : of_group j ≡ after = cc in subst (IsClosed p object) same (closed_group p object j)
  by_kind (of_bundle k) after n other leads = of_lead (bundle_leading.lead p k n) leads
    where
      of_lead : (o : Option bundle.Kept) → option_map of_bundle o ≡ Some after → IsClosed p object after
      of_lead None leads = absurd (cc leads)
      of_lead (Some j) leads = let same : of_bundle j ≡ after = cc in subst (IsClosed p object) same (closed_bundle p object j)
  by_kind (of_queues k) after n other leads = of_lead (queue_leading.lead p k n) leads
    where
      of_lead : (o : Option queue.Kept) → option_map of_queues o ≡ Some after → IsClosed p object after
      of_lead None leads = absurd (cc leads)
      of_lead (Some j) leads = let same : of_queues j ≡ after = cc in subst (IsClosed p object) same (closed_queues p object j)
  by_kind (of_server k) after n other leads = of_lead (server_leading.lead k n) leads
    where
      of_lead : (o : Option server.Kept) → option_map of_server o ≡ Some after → IsClosed p object after
      of_lead None leads = absurd (cc leads)
      of_lead (Some j) leads = let same : of_server j ≡ after = cc in subst (IsClosed p object) same (closed_server p object j)
  by_kind (of_machine k) after n other leads = of_lead (machine_leading.lead k n) leads
    where
      of_lead : (o : Option machine.Kept) → option_map of_machine o ≡ Some after → IsClosed p object after
      of_lead None leads = absurd (cc leads)
      of_lead (Some j) leads = let same : of_machine j ≡ after = cc in subst (IsClosed p object) same (closed_machine p object j)
  by_kind (of_clock k) after n other leads = of_lead (clock_leading.lead k n) leads
    where
      of_lead : (o : Option clock.Kept) → option_map of_clock o ≡ Some after → IsClosed p object after
      of_lead None leads = absurd (cc leads)
      of_lead (Some j) leads = let same : of_clock j ≡ after = cc in subst (IsClosed p object) same (closed_clock p object j)
  by_kind (of_area k) after n other leads = after_area k after n.entry.deed n.entry.actor other leads

  pub closed_after : (k after : Kept) (n : Noted) → lead p object k n ≡ Some after → is_leave n.entry.deed ≡ false → IsClosed p object after
  closed_after k after n leads other = by_kind k after n other (passed p object k after n leads).leads
