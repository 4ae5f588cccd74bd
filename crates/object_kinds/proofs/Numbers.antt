-- Which object an entry touches, by what the object is and not by its number: in a sound plan the two say the same, since no number is of
-- two objects.
use Rattle.std.proofs.Common.{◌≡◌, ◌<◌, ◌+◌, ℕ, true, ◌&&◌, refl, sym, ◌∙◌, ap, subst, arith, length, Option, Some, None}
use Rattle.std.specs.Prelude.{nat_lt, option_map, option_and_then}
use Rattle.bus_semantics.specs.Common.{and_parts, false≢true, ltb-true, same_Some, same_number, Plan, kind_of, server_of, machine_of_port, bundle_of, bundle_of_list, to_enter, to_leave}
use Rattle.bus_semantics.specs.Common.{to_switch, to_move_on, first_server, first_area, first_machine, clock, server_object, machine_object, object_of_kind, disabler_of, owing}
use Rattle.bus_semantics.specs.Common.{machine_of_event, served_by, machine_itself, touched_by, touches, area_fits, switch_fits, wish_fits, machine_may_want, is_proper, IsSound}
use Rattle.bus_laws.specs.Common.{AreaPlan, MachinePlan, EventKind, Timing, Init, DataReceived, Invoked, Returns, ModeSwitch, Ack, Mapping, Actor, Env, Machine, Act, Deed}
use Rattle.bus_semantics.specs.declared.entries.Deed.TheVariants as deed
use Rattle.object_kinds.proofs.Options.{number_is, then_some, mapped_some}
use Rattle.object_kinds.proofs.Proper.{noting, wish_part, by_actor}
use Rattle.object_kinds.proofs.Ranges.{sought, bundle_within, list_within, invoked_server, switching_machine, acked_machine, disabling_machine, joined_server, port_machine, serving_server}

-- ---- objects by what they are

pub data Which : Type 0 where
  a_bundle : ℕ → Which
  a_server : ℕ → Which
  an_area : ℕ → Which
  a_machine : ℕ → Which
  the_clock : Which

abbrev pub number_of : Plan → Which → ℕ
number_of p (a_bundle b) = b
number_of p (a_server s) = first_server p + s
number_of p (an_area x) = first_area p + x
number_of p (a_machine n) = first_machine p + n
number_of p the_clock = clock p

-- it is one of the plan's
abbrev pub IsIn : Plan → Which → Type 0
IsIn p (a_bundle b) = b < length p.bundles
IsIn p (a_server s) = s < length p.servers
IsIn p (an_area x) = x < length p.areas
IsIn p (a_machine n) = n < length p.machines
IsIn p the_clock = Unit {0}

-- no number is of two objects
pub apart : (p : Plan) (v w : Which) → IsIn p v → IsIn p w → number_of p v ≡ number_of p w → v ≡ w
apart p (a_bundle b) (a_bundle c) inv inw same = ap a_bundle same
apart p (a_server s) (a_server t) inv inw same = ap a_server (omega arith)
apart p (an_area x) (an_area y) inv inw same = ap an_area (omega arith)
apart p (a_machine n) (a_machine k) inv inw same = ap a_machine (omega arith)
apart p the_clock the_clock inv inw same = refl
apart p (a_bundle b) (a_server t) inv inw same = absurd (omega arith)
apart p (a_bundle b) (an_area y) inv inw same = absurd (omega arith)
apart p (a_bundle b) (a_machine k) inv inw same = absurd (omega arith)
apart p (a_bundle b) the_clock inv inw same = absurd (omega arith)
apart p (a_server s) (a_bundle c) inv inw same = absurd (omega arith)
apart p (a_server s) (an_area y) inv inw same = absurd (omega arith)
apart p (a_server s) (a_machine k) inv inw same = absurd (omega arith)
apart p (a_server s) the_clock inv inw same = absurd (omega arith)
apart p (an_area x) (a_bundle c) inv inw same = absurd (omega arith)
apart p (an_area x) (a_server t) inv inw same = absurd (omega arith)
apart p (an_area x) (a_machine k) inv inw same = absurd (omega arith)
apart p (an_area x) the_clock inv inw same = absurd (omega arith)
apart p (a_machine n) (a_bundle c) inv inw same = absurd (omega arith)
apart p (a_machine n) (a_server t) inv inw same = absurd (omega arith)
apart p (a_machine n) (an_area y) inv inw same = absurd (omega arith)
apart p (a_machine n) the_clock inv inw same = absurd (omega arith)
apart p the_clock (a_bundle c) inv inw same = absurd (omega arith)
apart p the_clock (a_server t) inv inw same = absurd (omega arith)
apart p the_clock (an_area y) inv inw same = absurd (omega arith)
apart p the_clock (a_machine k) inv inw same = absurd (omega arith)

-- ---- what an entry touches

abbrev pub which_starts : Plan → EventKind → Option Which
which_starts p (Timing period) = Some the_clock
which_starts p Init = Some the_clock
which_starts p (DataReceived x) = option_map a_bundle (bundle_of p x)
which_starts p (Invoked s) = Some (a_server s)
which_starts p (Returns q) = option_map a_server (server_of p q)
which_starts p (ModeSwitch n moment) = Some (a_machine n)
which_starts p (Ack n) = Some (a_machine n)

abbrev pub which_of : Plan → Actor → (event : Option ℕ) → Deed → Option Which
which_of p a event deed.Tick = Some the_clock
which_of p a event (deed.Start e point value) = which_starts p (kind_of p e)
which_of p a event (deed.Admit answer) = option_and_then (λ e. option_map a_machine (disabler_of p e)) event
which_of p a event (deed.Fetch x value) = option_map a_bundle (bundle_of p x)
which_of p a event (deed.Write x value) = option_map a_bundle (bundle_of p x)
which_of p a event (deed.Read x code value) = option_map a_bundle (bundle_of p x)
which_of p a event (deed.Invalidate x) = option_map a_bundle (bundle_of p x)
which_of p a event (deed.IsUpdated x updated) = option_map a_bundle (bundle_of p x)
which_of p a event (deed.Send x value code) = option_map a_bundle (bundle_of p x)
which_of p a event (deed.Receive x code value) = option_map a_bundle (bundle_of p x)
which_of p a event (deed.Ask q value code) = option_map a_server (server_of p q)
which_of p a event (deed.Answer q code value) = option_map a_server (server_of p q)
which_of p a event (deed.TakeResult q code value) = option_map a_server (server_of p q)
which_of p a event (deed.Return code value) = option_map a_server (served_by p a)
which_of p a event (deed.Enter x) = Some (an_area x)
which_of p a event (deed.Leave x) = Some (an_area x)
which_of p a event (deed.Switch n mode code) = Some (a_machine n)
which_of p a event (deed.Mode port mode) = option_map a_machine (machine_of_port p port)
which_of p a event (deed.Phase step) = option_map a_machine (machine_itself a)
which_of p a event (deed.Publish x value) = option_map a_bundle (bundle_of p x)
which_of p a event (deed.FetchAll l value) = option_map a_bundle (bundle_of_list p l)
which_of p a event (deed.PublishAll l written value) = option_map a_bundle (bundle_of_list p l)
which_of p a event deed.End = option_and_then (λ e. option_map a_machine (machine_of_event p e)) event

module _ (p : Plan) where
  as_bundle : (o : Option ℕ) → o ≡ option_map (number_of p) (option_map a_bundle o)
  as_bundle None = refl
  as_bundle (Some b) = refl

  as_server : (o : Option ℕ) → server_object p o ≡ option_map (number_of p) (option_map a_server o)
  as_server None = refl
  as_server (Some s) = refl

  as_machine : (o : Option ℕ) → machine_object p o ≡ option_map (number_of p) (option_map a_machine o)
  as_machine None = refl
  as_machine (Some n) = refl

  starts_number : (k : EventKind) → object_of_kind p k ≡ option_map (number_of p) (which_starts p k)
  starts_number (Timing period) = refl
  starts_number Init = refl
  starts_number (DataReceived x) = as_bundle (bundle_of p x)
  starts_number (Invoked s) = refl
  starts_number (Returns q) = as_server (server_of p q)
  starts_number (ModeSwitch n moment) = refl
  starts_number (Ack n) = refl

  number : (a : Actor) (event : Option ℕ) (d : Deed) → touched_by p (noting a d event) ≡ option_map (number_of p) (which_of p a event d)
  number a event deed.Tick = refl
  number a event (deed.Start e point value) = starts_number (kind_of p e)
  number a None (deed.Admit answer) = refl
  number a (Some e) (deed.Admit answer) = as_machine (disabler_of p e)
  number a event (deed.Fetch x value) = as_bundle (bundle_of p x)
  number a event (deed.Write x value) = as_bundle (bundle_of p x)
  number a event (deed.Read x code value) = as_bundle (bundle_of p x)
  number a event (deed.Invalidate x) = as_bundle (bundle_of p x)
  number a event (deed.IsUpdated x updated) = as_bundle (bundle_of p x)
  number a event (deed.Send x value code) = as_bundle (bundle_of p x)
  number a event (deed.Receive x code value) = as_bundle (bundle_of p x)
  number a event (deed.Ask q value code) = as_server (server_of p q)
  number a event (deed.Answer q code value) = as_server (server_of p q)
  number a event (deed.TakeResult q code value) = as_server (server_of p q)
  number a event (deed.Return code value) = as_server (served_by p a)
  number a event (deed.Enter x) = refl
  number a event (deed.Leave x) = refl
  number a event (deed.Switch n mode code) = refl
  number a event (deed.Mode port mode) = as_machine (machine_of_port p port)
  number a event (deed.Phase step) = as_machine (machine_itself a)
  number a event (deed.Publish x value) = as_bundle (bundle_of p x)
  number a event (deed.FetchAll l value) = as_bundle (bundle_of_list p l)
  number a event (deed.PublishAll l written value) = as_bundle (bundle_of_list p l)
  number a None deed.End = refl
  number a (Some e) deed.End = as_machine (machine_of_event p e)

-- ---- it is one of the plan's

module _ (p : Plan) (m : Mapping) (sound : IsSound p m) where
  in_bundle : (o : Option ℕ) → ((b : ℕ) → o ≡ Some b → b < length p.bundles) → (w : Which) → option_map a_bundle o ≡ Some w → IsIn p w
  in_bundle o within w is = let at = mapped_some a_bundle o w is in subst (IsIn p) at.gives (within at.item at.is)

  in_server : (o : Option ℕ) → ((s : ℕ) → o ≡ Some s → s < length p.servers) → (w : Which) → option_map a_server o ≡ Some w → IsIn p w
  in_server o within w is = let at = mapped_some a_server o w is in subst (IsIn p) at.gives (within at.item at.is)

  in_machine : (o : Option ℕ) → ((n : ℕ) → o ≡ Some n → n < length p.machines) → (w : Which) → option_map a_machine o ≡ Some w → IsIn p w
  in_machine o within w is = let at = mapped_some a_machine o w is in subst (IsIn p) at.gives (within at.item at.is)

  in_start : (e : ℕ) (k : EventKind) → kind_of p e ≡ k → (w : Which) → which_starts p k ≡ Some w → IsIn p w
  in_start e (Timing period) kind w is = subst (IsIn p) (same_Some the_clock w is) tt
  in_start e Init kind w is = subst (IsIn p) (same_Some the_clock w is) tt
  in_start e (DataReceived x) kind w is = in_bundle (bundle_of p x) (bundle_within p m sound x) w is
  in_start e (Invoked s) kind w is = subst (IsIn p) (same_Some (a_server s) w is) (invoked_server p m sound e s kind)
  in_start e (Returns q) kind w is = in_server (server_of p q) (joined_server p m sound q) w is
  in_start e (ModeSwitch n moment) kind w is = subst (IsIn p) (same_Some (a_machine n) w is) (switching_machine p m sound e n moment kind)
  in_start e (Ack n) kind w is = subst (IsIn p) (same_Some (a_machine n) w is) (acked_machine p m sound e n kind)

  mattering : (e : ℕ) (k : EventKind) → kind_of p e ≡ k → (n : ℕ) → owing k (disabler_of p e) ≡ Some n → n < length p.machines
  mattering e (ModeSwitch n moment) kind k is = subst (λ j. j < length p.machines) (same_Some n k is) (switching_machine p m sound e n moment kind)
  mattering e (Timing period) kind k is = disabling_machine p m sound e k is
  mattering e Init kind k is = disabling_machine p m sound e k is
  mattering e (DataReceived x) kind k is = disabling_machine p m sound e k is
  mattering e (Invoked s) kind k is = disabling_machine p m sound e k is
  mattering e (Returns q) kind k is = disabling_machine p m sound e k is
  mattering e (Ack n) kind k is = disabling_machine p m sound e k is

  there_area : (home : Option ℕ) (x : ℕ) → area_fits p home x ≡ true → x < length p.areas
  there_area home x fit = (sought p.areas x (λ (a : AreaPlan). same_number (Some a.instance) home) fit).within

  there_switch : (home : Option ℕ) (n mode : ℕ) → switch_fits p home n mode ≡ true → n < length p.machines
  there_switch home n mode fit = (sought p.machines n (λ (v : MachinePlan). same_number v.instance home && nat_lt mode (length v.modes)) fit).within

  moving : (a : Actor) → wish_fits p a to_move_on ≡ true → (n : ℕ) → machine_itself a ≡ Some n → n < length p.machines
  moving Env fit n is = absurd (cc is)
  moving (Act k) fit n is = absurd (cc is)
  moving (Machine k) fit n is = subst (λ j. j < length p.machines) (same_Some k n is) (ltb-true k (length p.machines) (and_parts (nat_lt k (length p.machines)) (machine_may_want to_move_on) fit).0)

  pub which_in : (a : Actor) (event : Option ℕ) (d : Deed) → is_proper p (noting a d event) ≡ true → (w : Which) → which_of p a event d ≡ Some w → IsIn p w
  which_in a event deed.Tick proper w is = subst (IsIn p) (same_Some the_clock w is) tt
  which_in a event (deed.Start e point value) proper w is = in_start e (kind_of p e) refl w is
  which_in a event (deed.Admit answer) proper w is =
      let at = then_some (λ e. option_map a_machine (disabler_of p e)) event w is in
      in_machine (disabler_of p at.item) (disabling_machine p m sound at.item) w at.gives
  which_in a event (deed.Fetch x value) proper w is = in_bundle (bundle_of p x) (bundle_within p m sound x) w is
  which_in a event (deed.Write x value) proper w is = in_bundle (bundle_of p x) (bundle_within p m sound x) w is
  which_in a event (deed.Read x code value) proper w is = in_bundle (bundle_of p x) (bundle_within p m sound x) w is
  which_in a event (deed.Invalidate x) proper w is = in_bundle (bundle_of p x) (bundle_within p m sound x) w is
  which_in a event (deed.IsUpdated x updated) proper w is = in_bundle (bundle_of p x) (bundle_within p m sound x) w is
  which_in a event (deed.Send x value code) proper w is = in_bundle (bundle_of p x) (bundle_within p m sound x) w is
  which_in a event (deed.Receive x code value) proper w is = in_bundle (bundle_of p x) (bundle_within p m sound x) w is
  which_in a event (deed.Ask q value code) proper w is = in_server (server_of p q) (joined_server p m sound q) w is
  which_in a event (deed.Answer q code value) proper w is = in_server (server_of p q) (joined_server p m sound q) w is
  which_in a event (deed.TakeResult q code value) proper w is = in_server (server_of p q) (joined_server p m sound q) w is
  which_in a event (deed.Return code value) proper w is = in_server (served_by p a) (serving_server p m sound a) w is
  which_in a event (deed.Enter x) proper w is = subst (IsIn p) (same_Some (an_area x) w is)
      (by_actor p a (to_enter x) (wish_part p a (deed.Enter x) event refl proper) (λ fit. absurd (false≢true fit)) (λ k fit. there_area _ x fit) (λ n less fit. absurd (false≢true fit)))
  which_in a event (deed.Leave x) proper w is = subst (IsIn p) (same_Some (an_area x) w is)
      (by_actor p a (to_leave x) (wish_part p a (deed.Leave x) event refl proper) (λ fit. absurd (false≢true fit)) (λ k fit. there_area _ x fit) (λ n less fit. absurd (false≢true fit)))
  which_in a event (deed.Switch n mode code) proper w is = subst (IsIn p) (same_Some (a_machine n) w is)
      (by_actor p a (to_switch n mode) (wish_part p a (deed.Switch n mode code) event refl proper) (λ fit. there_switch None n mode fit) (λ k fit. there_switch _ n mode fit) (λ k less fit. absurd (false≢true fit)))
  which_in a event (deed.Mode port mode) proper w is = in_machine (machine_of_port p port) (port_machine p m sound port) w is
  which_in a event (deed.Phase step) proper w is = in_machine (machine_itself a) (moving a (wish_part p a (deed.Phase step) event refl proper)) w is
  which_in a event (deed.Publish x value) proper w is = in_bundle (bundle_of p x) (bundle_within p m sound x) w is
  which_in a event (deed.FetchAll l value) proper w is = in_bundle (bundle_of_list p l) (list_within p m sound l) w is
  which_in a event (deed.PublishAll l written value) proper w is = in_bundle (bundle_of_list p l) (list_within p m sound l) w is
  which_in a event deed.End proper w is =
      let at = then_some (λ e. option_map a_machine (machine_of_event p e)) event w is in
      in_machine (machine_of_event p at.item) (mattering at.item (kind_of p at.item) refl) w at.gives

  -- ---- what touches a number touches that object

  pub touched_which : (t : Which) → IsIn p t → (a : Actor) (event : Option ℕ) (d : Deed) → touches p (number_of p t) (noting a d event) ≡ true → is_proper p (noting a d event) ≡ true → which_of p a event d ≡ Some t
  touched_which t there a event d touching proper =
      let at = mapped_some (number_of p) (which_of p a event d) (number_of p t) (sym (number p a event d) ∙ number_is (touched_by p (noting a d event)) (number_of p t) touching) in
      at.is ∙ ap (λ w. Some w) (apart p at.item t (which_in a event d proper at.item at.is) there at.gives)
