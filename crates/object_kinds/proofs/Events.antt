-- The events of a plan by kind: each once, in rising order, and each has its place.
use Rattle.std.proofs.Common.{◌≡◌, ◌<◌, ◌≤◌, ℕ, zero, suc, Bool, true, false, refl, ◌∙◌, ap, arith, List, [], ◌∷◌, length, Option, Some}
use Rattle.std.specs.Prelude.{nat_lt}
use Rattle.bus_semantics.specs.Common.{list_all, slice_get, option_map_or, and_parts, eq-eqb, false≢true, nat_tests, same_number, Plan, kind_of, group_of, instance_of, positions, home_of}
use Rattle.bus_semantics.specs.Common.{bundle_of, to_start, key_fits, event_fits, wish_fits, is_in_group, is_distinct, bundles_fit}
use Rattle.bus_laws.specs.Common.{EventPlan, EventKind, Init, DataReceived, Actor, Env, Machine, Act}
use Rattle.object_kinds.specs.Common.{events_of, waits_for_data, waits_in_bundle, is_rising}
use Rattle.object_kinds.proofs.Lists.{all_filter}
use Rattle.object_kinds.proofs.Options.{number_is, is_number, then_some}
use Rattle.object_kinds.proofs.Placing.{Placed, placed}
use Rattle.object_kinds.proofs.Positions.{distinct_positions, few_positions}
use Rattle.object_kinds.proofs.Ranges.{homes_within}
use Rattle.object_kinds.proofs.Rising.{rising_positions}

module _ (p : Plan) (test : EventKind → Bool) where
  pub events_all : list_all (λ e. test (kind_of p e)) (events_of p test) ≡ true
  events_all = all_filter (λ e. test (kind_of p e)) (positions (length p.events))

  pub events_once : is_distinct (events_of p test) ≡ true
  events_once = distinct_positions (λ e. test (kind_of p e)) (length p.events)

  pub events_rise : is_rising (events_of p test) ≡ true
  events_rise = rising_positions (λ e. test (kind_of p e)) (length p.events)

  pub few_events : length (events_of p test) ≤ length p.events
  few_events = few_positions (λ e. test (kind_of p e)) (length p.events)

  -- an event of the plan that passes
  pub event_placed : (e : ℕ) → e < length p.events → test (kind_of p e) ≡ true → Placed e (events_of p test)
  event_placed e within passes = placed (λ f. test (kind_of p f)) (length p.events) e within passes

-- what starts an activation is an event of the plan
pub started_within : (p : Plan) (a : Actor) (e : ℕ) → wish_fits p a (to_start e) ≡ true → e < length p.events
started_within p Env e fit = absurd (false≢true fit)
started_within p (Machine n) e fit = absurd (false≢true (and_parts (nat_lt n (length p.machines)) false fit).1)
started_within p (Act k) e fit =
    let event = (and_parts (key_fits p k) (event_fits p (instance_of p k.runnable) e) fit).1 in
    let there : nat_lt e (length p.events) ≡ true = (and_parts (nat_lt e (length p.events)) _ event).0 in
    grind (arith, nat_tests)

pub started_placed : (p : Plan) (test : EventKind → Bool) (a : Actor) (e : ℕ) → wish_fits p a (to_start e) ≡ true → test (kind_of p e) ≡ true → Placed e (events_of p test)
started_placed p test a e fit passes = event_placed p test e (started_within p a e fit) passes

-- ---- those that wait for the data of a group

pub record Waiting (p : Plan) (g : ℕ) (k : EventKind) : Type 0 where
  pub element : ℕ
  pub kind : k ≡ DataReceived element
  pub inside : is_in_group p g element ≡ true

pub waiting_for : (p : Plan) (g : ℕ) (k : EventKind) → waits_for_data p g k ≡ true → Waiting p g k
waiting_for p g (DataReceived x) e = record { element = x; kind = refl; inside = e }
waiting_for p g k e = absurd (false≢true e)

event_within : (vs : List EventPlan) (e x : ℕ) → option_map_or (λ (v : EventPlan). v.kind) (slice_get vs e) Init ≡ DataReceived x → e < length vs
event_within [] e x is = absurd (cc is)
event_within (v ∷ vs) zero x is = omega arith
event_within (v ∷ vs) (suc e) x is = let deeper = event_within vs e x is in omega arith

pub waiting_placed : (p : Plan) (g e x : ℕ) → kind_of p e ≡ DataReceived x → is_in_group p g x ≡ true → Placed e (events_of p (waits_for_data p g))
waiting_placed p g e x kind inside = event_placed p (waits_for_data p g) e (event_within p.events e x kind) (ap (waits_for_data p g) kind ∙ inside)

-- ---- those that wait for the data of a bundle

pub record Bundled (p : Plan) (b : ℕ) (k : EventKind) : Type 0 where
  pub element : ℕ
  pub kind : k ≡ DataReceived element
  pub inside : bundle_of p element ≡ Some b

pub bundled_for : (p : Plan) (b : ℕ) (k : EventKind) → waits_in_bundle p b k ≡ true → Bundled p b k
bundled_for p b (DataReceived x) e = record { element = x; kind = refl; inside = number_is (bundle_of p x) b e }
bundled_for p b k e = absurd (false≢true e)

pub bundled_placed : (p : Plan) (b e x : ℕ) → kind_of p e ≡ DataReceived x → bundle_of p x ≡ Some b → Placed e (events_of p (waits_in_bundle p b))
bundled_placed p b e x kind inside = event_placed p (waits_in_bundle p b) e (event_within p.events e x kind) (ap (waits_in_bundle p b) kind ∙ is_number (bundle_of p x) b inside)

-- the bundle whose data an event waits for is one of the plan's
pub bundle_awaited : (p : Plan) (k : EventKind) (o : Option ℕ) (b : ℕ) → bundles_fit p ≡ true → ((c : ℕ) → waits_in_bundle p c k ≡ same_number o (Some c)) → o ≡ Some b → b < length p.bundles
bundle_awaited p k o b fit waits is =
    let w = bundled_for p b k (waits b ∙ ap (λ q. same_number q (Some b)) is ∙ eq-eqb b b refl) in
    let at = then_some (home_of p) (group_of p w.element) b w.inside in
    homes_within p fit at.item b at.gives
