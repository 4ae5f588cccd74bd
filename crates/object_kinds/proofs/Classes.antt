-- What an entry names that touches an object, by what the object is. This is the one place that goes through all deeds for it.
use Rattle.std.proofs.Common.{◌≡◌, ℕ, true, Option, Some, None}
use Rattle.std.specs.Prelude.{option_map, option_and_then}
use Rattle.bus_laws.specs.Common.{EventKind, Timing, Init, DataReceived, Invoked, Returns, ModeSwitch, Ack, Mapping, Actor, Deed}
use Rattle.bus_semantics.specs.declared.entries.Deed.TheVariants as deed
use Rattle.bus_semantics.specs.Common.{Plan, kind_of, server_of, machine_of_port, bundle_of, bundle_of_list, disabler_of, machine_of_event, served_by, machine_itself, touches, is_proper}
use Rattle.bus_semantics.specs.Common.{IsSound}
use Rattle.object_kinds.proofs.Numbers.{Which, a_bundle, a_server, an_area, a_machine, the_clock, number_of, IsIn, which_of, which_starts, touched_which}
use Rattle.object_kinds.proofs.Proper.{noting}

-- ---- the object is this one

abbrev pub TheBundle : Which → Option ℕ → Type 0
TheBundle (a_bundle b) o = o ≡ Some b
TheBundle t o = ⊥

abbrev pub TheServer : Which → Option ℕ → Type 0
TheServer (a_server s) o = o ≡ Some s
TheServer t o = ⊥

abbrev pub TheArea : Which → ℕ → Type 0
TheArea (an_area x) y = y ≡ x
TheArea t y = ⊥

abbrev pub TheMachine : Which → Option ℕ → Type 0
TheMachine (a_machine n) o = o ≡ Some n
TheMachine t o = ⊥

abbrev pub TheClock : Which → Type 0
TheClock the_clock = Unit {0}
TheClock t = ⊥

-- ---- what an entry on it names

abbrev pub StartsOn : Plan → Which → EventKind → Type 0
StartsOn p t (Timing period) = TheClock t
StartsOn p t Init = TheClock t
StartsOn p t (DataReceived x) = TheBundle t (bundle_of p x)
StartsOn p t (Invoked s) = TheServer t (Some s)
StartsOn p t (Returns q) = TheServer t (server_of p q)
StartsOn p t (ModeSwitch n moment) = TheMachine t (Some n)
StartsOn p t (Ack n) = TheMachine t (Some n)

abbrev pub On : Plan → Which → Actor → (event : Option ℕ) → Deed → Type 0
On p t a event deed.Tick = TheClock t
On p t a event (deed.Start e point value) = StartsOn p t (kind_of p e)
On p t a event (deed.Admit answer) = TheMachine t (option_and_then (disabler_of p) event)
On p t a event (deed.Fetch x value) = TheBundle t (bundle_of p x)
On p t a event (deed.Write x value) = TheBundle t (bundle_of p x)
On p t a event (deed.Read x code value) = TheBundle t (bundle_of p x)
On p t a event (deed.Invalidate x) = TheBundle t (bundle_of p x)
On p t a event (deed.IsUpdated x updated) = TheBundle t (bundle_of p x)
On p t a event (deed.Send x value code) = TheBundle t (bundle_of p x)
On p t a event (deed.Receive x code value) = TheBundle t (bundle_of p x)
On p t a event (deed.Ask q value code) = TheServer t (server_of p q)
On p t a event (deed.Answer q code value) = TheServer t (server_of p q)
On p t a event (deed.TakeResult q code value) = TheServer t (server_of p q)
On p t a event (deed.Return code value) = TheServer t (served_by p a)
On p t a event (deed.Enter x) = TheArea t x
On p t a event (deed.Leave x) = TheArea t x
On p t a event (deed.Switch n mode code) = TheMachine t (Some n)
On p t a event (deed.Mode port mode) = TheMachine t (machine_of_port p port)
On p t a event (deed.Phase step) = TheMachine t (machine_itself a)
On p t a event (deed.Publish x value) = TheBundle t (bundle_of p x)
On p t a event (deed.FetchAll l value) = TheBundle t (bundle_of_list p l)
On p t a event (deed.PublishAll l written value) = TheBundle t (bundle_of_list p l)
On p t a event deed.End = TheMachine t (option_and_then (machine_of_event p) event)

-- ---- it does

is_bundle : (t : Which) (o : Option ℕ) → option_map a_bundle o ≡ Some t → TheBundle t o
is_bundle t None is = absurd (cc is)
is_bundle (a_bundle b) (Some c) is = cc
is_bundle t (Some c) is = absurd (cc is)

is_server : (t : Which) (o : Option ℕ) → option_map a_server o ≡ Some t → TheServer t o
is_server t None is = absurd (cc is)
is_server (a_server s) (Some c) is = cc
is_server t (Some c) is = absurd (cc is)

is_machine : (t : Which) (o : Option ℕ) → option_map a_machine o ≡ Some t → TheMachine t o
is_machine t None is = absurd (cc is)
is_machine (a_machine n) (Some c) is = cc
is_machine t (Some c) is = absurd (cc is)

is_machine_of : (t : Which) (f : ℕ → Option ℕ) (event : Option ℕ) → option_and_then (λ e. option_map a_machine (f e)) event ≡ Some t → TheMachine t (option_and_then f event)
is_machine_of t f None is = absurd (cc is)
is_machine_of t f (Some e) is = is_machine t (f e) is

is_area : (t : Which) (x : ℕ) → Some (an_area x) ≡ Some t → TheArea t x
is_area (an_area y) x is = cc
is_area t x is = absurd (cc is)

is_clock : (t : Which) → Some the_clock ≡ Some t → TheClock t
is_clock the_clock is = tt
is_clock t is = absurd (cc is)

module _ (p : Plan) (t : Which) where
  starts_on : (k : EventKind) → which_starts p k ≡ Some t → StartsOn p t k
  starts_on (Timing period) is = is_clock t is
  starts_on Init is = is_clock t is
  starts_on (DataReceived x) is = is_bundle t (bundle_of p x) is
  starts_on (Invoked s) is = is_server t (Some s) is
  starts_on (Returns q) is = is_server t (server_of p q) is
  starts_on (ModeSwitch n moment) is = is_machine t (Some n) is
  starts_on (Ack n) is = is_machine t (Some n) is

  pub on : (a : Actor) (event : Option ℕ) (d : Deed) → which_of p a event d ≡ Some t → On p t a event d
  on a event deed.Tick is = is_clock t is
  on a event (deed.Start e point value) is = starts_on (kind_of p e) is
  on a event (deed.Admit answer) is = is_machine_of t (disabler_of p) event is
  on a event (deed.Fetch x value) is = is_bundle t (bundle_of p x) is
  on a event (deed.Write x value) is = is_bundle t (bundle_of p x) is
  on a event (deed.Read x code value) is = is_bundle t (bundle_of p x) is
  on a event (deed.Invalidate x) is = is_bundle t (bundle_of p x) is
  on a event (deed.IsUpdated x updated) is = is_bundle t (bundle_of p x) is
  on a event (deed.Send x value code) is = is_bundle t (bundle_of p x) is
  on a event (deed.Receive x code value) is = is_bundle t (bundle_of p x) is
  on a event (deed.Ask q value code) is = is_server t (server_of p q) is
  on a event (deed.Answer q code value) is = is_server t (server_of p q) is
  on a event (deed.TakeResult q code value) is = is_server t (server_of p q) is
  on a event (deed.Return code value) is = is_server t (served_by p a) is
  on a event (deed.Enter x) is = is_area t x is
  on a event (deed.Leave x) is = is_area t x is
  on a event (deed.Switch n mode code) is = is_machine t (Some n) is
  on a event (deed.Mode port mode) is = is_machine t (machine_of_port p port) is
  on a event (deed.Phase step) is = is_machine t (machine_itself a) is
  on a event (deed.Publish x value) is = is_bundle t (bundle_of p x) is
  on a event (deed.FetchAll l value) is = is_bundle t (bundle_of_list p l) is
  on a event (deed.PublishAll l written value) is = is_bundle t (bundle_of_list p l) is
  on a event deed.End is = is_machine_of t (machine_of_event p) event is

pub touching_on : (p : Plan) (m : Mapping) → IsSound p m → (t : Which) → IsIn p t → (a : Actor) (event : Option ℕ) (d : Deed)
    → touches p (number_of p t) (noting a d event) ≡ true → is_proper p (noting a d event) ≡ true → On p t a event d
touching_on p m sound t there a event d touching proper = on p t a event d (touched_which p m sound t there a event d touching proper)
