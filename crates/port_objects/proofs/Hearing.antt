-- When an Answer comes: on a server to whose point something was returned; never on an object of another kind.
use Rattle.std.proofs.Common.{◌≡◌, ℕ, Bool, false, true, refl, sym, ◌∙◌, ap, Some, None}
use Rattle.std.specs.Prelude.{option_map, unwrap_or}
use Rattle.bus_semantics.specs.Common.{unsigned_Decides, and_from, ActKey, Value, same_number, Plan, to_hear, wanted_by, Noted, object_of, touches, fits, wish_fits, answer_fits, is_proper}
use Rattle.bus_semantics.specs.Common.{starts_its_own}
use Rattle.bus_laws.specs.Common.{Act, Deed}
use Rattle.bus_semantics.specs.declared.entries.Deed.TheVariants as deed
use Rattle.object_kinds.specs.Common.{place, group_at}
use Rattle.object_kinds.proofs.Proper.{noting}
use Rattle.server_objects.specs.Kept as server
use Rattle.data_objects.specs.Leading as group_leading
use Rattle.bundle_objects.specs.Leading as bundle_leading
use Rattle.queue_objects.specs.Leading as queue_leading
use Rattle.server_objects.specs.Leading as server_leading
use Rattle.area_objects.specs.Leading as area_leading
use Rattle.machine_objects.specs.Leading as machine_leading
use Rattle.clock_objects.specs.Leading as clock_leading
use Rattle.server_objects.proofs.Hearing.{none_heard_by, may_be_heard}
use Rattle.port_objects.specs.Common.{Kept, of_group, of_bundle, of_queues, of_server, of_area, of_machine, of_clock, lead, may_hear_in}
use Rattle.port_objects.proofs.Gate.{opens, stays_shut}

-- what wants to hear is an Answer
record Hears (d : Deed) (q : ℕ) : Type 0 where
  code : ℕ
  value : Value
  is : d ≡ deed.Answer q code value

hears : (d : Deed) (by q : ℕ) → wanted_by by d ≡ to_hear q → Hears d q
hears (deed.Answer r code value) by q is = let same : r ≡ q = cc in record { code = code; value = value; is = ap (λ z. deed.Answer z code value) same }
hears d by q is = absurd (cc is)

pub none_heard : (p : Plan) (object : ℕ) (k : Kept) (n : Noted) (q : ℕ) → wanted_by (unwrap_or n.event 0) n.entry.deed ≡ to_hear q → may_hear_in k q ≡ false → lead p object k n ≡ None
none_heard p object (of_group k) n q is off =
    let h = hears n.entry.deed (unwrap_or n.event 0) q is in
    stays_shut p object (of_group k) n (ap (λ d. option_map of_group (option_map (λ (v : _). record { events = k.events; unqueued = v }) (group_leading.lead_of_group p (group_at p object) k.events k.unqueued d))) h.is)
none_heard p object (of_bundle k) n q is off =
    let h = hears n.entry.deed (unwrap_or n.event 0) q is in
    stays_shut p object (of_bundle k) n (ap (λ d. option_map of_bundle (bundle_leading.lead_by p k n d)) h.is)
none_heard p object (of_queues k) n q is off =
    let h = hears n.entry.deed (unwrap_or n.event 0) q is in
    stays_shut p object (of_queues k) n (ap (λ d. option_map of_queues (option_map (queue_leading.with_queues k) (queue_leading.lead_of_queues p k.receivers k.events k.queued d))) h.is)
none_heard p object (of_server k) n q is off =
    let h = hears n.entry.deed (unwrap_or n.event 0) q is in
    stays_shut p object (of_server k) n
    (ap (λ d. option_map of_server (option_map (server_leading.with_served k) (server_leading.lead_of_server k d n.entry.actor))) h.is
    ∙ ap (λ o. option_map of_server (option_map (server_leading.with_served k) o)) (none_heard_by k.served (place q k.points) h.code h.value off))
none_heard p object (of_area k) n q is off =
    let h = hears n.entry.deed (unwrap_or n.event 0) q is in
    stays_shut p object (of_area k) n (ap (λ d. option_map of_area (area_leading.lead_of_area k d n.entry.actor)) h.is)
none_heard p object (of_machine k) n q is off =
    let h = hears n.entry.deed (unwrap_or n.event 0) q is in
    stays_shut p object (of_machine k) n (ap (λ d. option_map of_machine (option_map (machine_leading.with_machine k) (machine_leading.lead_of_machine k n.event d))) h.is)
none_heard p object (of_clock k) n q is off =
    let h = hears n.entry.deed (unwrap_or n.event 0) q is in
    stays_shut p object (of_clock k) n (ap (λ d. option_map of_clock (option_map (clock_leading.with_clock k) (clock_leading.lead_of_clock k.timings k.inits k.clock d))) h.is)

-- ---- one that fits and does not come

module _ (p : Plan) (object q : ℕ) (a : ActKey) (fit : wish_fits p (Act a) (to_hear q) ≡ true) (there : object_of p (Act a) (to_hear q) ≡ Some object) (code : ℕ) (value : Value) where
  answer : Noted
  answer = noting (Act a) (deed.Answer q code value) None

  touching : touches p object answer ≡ true
  unfolding answer
  touching = ap (λ o. same_number o (Some object)) there ∙ (unsigned_Decides object object).1 refl

  proper : is_proper p answer ≡ true
  unfolding answer
  proper = and_from (fits p answer.entry) (starts_its_own p answer.entry.actor answer.entry.deed) (and_from (wish_fits p (Act a) (to_hear q)) (answer_fits p (Act a) (deed.Answer q code value)) fit refl) refl

  clashes : {X : Type 0} (k : server.Kept) (after : _) → server_leading.lead_of_server k (deed.Answer q code value) (Act a) ≡ Some after
      → ((n : Noted) → n.entry.actor ≡ Act a → wanted_by (unwrap_or n.event 0) n.entry.deed ≡ to_hear q → lead p object (of_server k) n ≡ None) → X
  unfolding answer
  clashes k after leads none =
      let led : lead p object (of_server k) answer ≡ Some (of_server (server_leading.with_served k after)) =
      opens p object (of_server k) answer touching proper ∙ ap (λ o. option_map of_server (option_map (server_leading.with_served k) o)) leads in
      absurd (cc (sym led ∙ none answer refl refl))

pub held_is_none : (p : Plan) (object q : ℕ) (k : Kept) (a : ActKey) → wish_fits p (Act a) (to_hear q) ≡ true → object_of p (Act a) (to_hear q) ≡ Some object
    → ((n : Noted) → n.entry.actor ≡ Act a → wanted_by (unwrap_or n.event 0) n.entry.deed ≡ to_hear q → lead p object k n ≡ None) → may_hear_in k q ≡ false
held_is_none p object q (of_group k) a fit there none = refl
held_is_none p object q (of_bundle k) a fit there none = refl
held_is_none p object q (of_queues k) a fit there none = refl
held_is_none p object q (of_area k) a fit there none = refl
held_is_none p object q (of_machine k) a fit there none = refl
held_is_none p object q (of_clock k) a fit there none = refl
held_is_none p object q (of_server k) a fit there none = by_test (server.may_hear k q) refl
  where
    by_test : (b : Bool) → server.may_hear k q ≡ b → server.may_hear k q ≡ false
    by_test false off = off
    by_test true on = let h = may_be_heard k (Act a) q on in clashes p object q a fit there h.code h.value k h.after h.leads none
