-- In a sound plan, whatever the environment may ask for has a spelling that is read as just that.
use Rattle.std.proofs.Common.{◌≡◌, ◌↔◌, ℕ, ◌<◌, ◌≤◌, Bool, true, false, not, ◌&&◌, ◌||◌, cond, ◌==◌, List, [], ◌∷◌, ◌++◌, length, map, get_or, is_none, nat_lt, codes, ℤ, Option, Some, None}
use Rattle.std.proofs.Common.{inl, inr, refl, sym, ap, ◌∙◌, subst, arith}
use Rattle.bus_semantics.specs.Common.{list_all, slice_get, option_map_or, and_parts, and_from, ltb-true, or_left, or_right, append-nil, slice_get-get_or, same_number, wish_fits, holds}
use Rattle.bus_semantics.specs.Common.{is_queued, is_unqueued, Plan, caller_of, look, IsSound, is_name, named_once, names_distinct, names_fit, is_variable, Letters, elem_name, point_name}
use Rattle.bus_semantics.specs.Common.{machine_name, mode_port_name, spaced, words_text, Wanted, to_write, to_send, to_read, to_receive, to_ask, to_take_result, to_switch, to_see_mode}
use Rattle.std.proofs.lemmas.Option.{slice_get_cases}
use Rattle.bus_semantics.specs.declared.entries.Actor.TheVariants.{Env}
use Rattle.bus_semantics.specs.declared.plan.ElemPlan.{ElemPlan}
use Rattle.bus_semantics.specs.declared.plan.PointPlan.{PointPlan}
use Rattle.bus_semantics.specs.declared.plan.MachinePlan.{MachinePlan}
use Rattle.bus_semantics.specs.declared.plan.ModePortPlan.{ModePortPlan}
use Rattle.bus_semantics.specs.declared.script.Mapping.{Mapping}
use Rattle.bus_semantics.specs.SoundNames as sound
use Rattle.script_reading.specs.Common.{Form, Write, Send, Read, Receive, Ask, TakeResult, Switch, SeeMode, to_wait, to_run, to_call, behind, phrase_text, third_fits, Asked, ticks, a_run}
use Rattle.script_reading.specs.Common.{a_call, Saying, asks, is_bad, not_of_type, call_at, call_with, named_call, saying, switch_call, elem_offered, is_for, machine_offered, mode_in}
use Rattle.script_reading.specs.Common.{mode_of, mode_port_offered, named_if, offered, point_offered, takes, AsksOfFirst, IsFirst, IsFirstMode, may_ask, may_call, mode_name, text_of}
use Rattle.line_fields.specs.Numbers.{are_held, is_value, words_in}
use Rattle.script_reading.specs.Sentences.{IsSpelling, IsOfFirst}
use Rattle.line_fields.specs.Texts.{is_pair_name, parts}
use Rattle.line_fields.proofs.Distinct.{all_at}
use Rattle.script_reading.proofs.Apart.{AreDistinct, are_distinct, elem_apart, machine_apart, mode_port_apart, modes_apart, point_apart}
use Rattle.script_reading.proofs.Asking.{at_place, saying_asks}
use Rattle.script_reading.proofs.Causes.{form_says}
use Rattle.script_reading.proofs.Naming.{mode_is, named_is}
use Rattle.line_fields.proofs.Parts.{same_parts}
use Rattle.line_fields.proofs.Words.{value_back}

-- ---- the names of a sound plan

same_pair : (t : Letters) → sound.is_pair_name t ≡ true → is_pair_name t ≡ true
same_pair t h = subst (λ ts. ((length ts == 2) && list_all is_name ts) ≡ true) (same_parts 46 t) h

record AreNames (p : Plan) : Type 0 where
  elements : list_all (λ (e : ElemPlan). cond (is_variable e) (is_name e.name) (sound.is_pair_name e.name)) p.elements ≡ true
  points : list_all (λ (t : PointPlan). sound.is_pair_name t.name) p.points ≡ true
  machines : list_all (λ (n : MachinePlan). sound.is_pair_name n.name && list_all is_name n.modes) p.machines ≡ true
  mode_ports : list_all (λ (t : ModePortPlan). sound.is_pair_name t.name) p.mode_ports ≡ true

are_names : (p : Plan) → names_fit p ≡ true → AreNames p
are_names p h =
    let a = and_parts _ _ h in
    let b = and_parts _ _ a.1 in
    let elements = and_parts _ _ b.1 in
    let points = and_parts _ _ elements.1 in
    let servers = and_parts _ _ points.1 in
    let areas = and_parts _ _ servers.1 in
    let machines = and_parts _ _ areas.1 in
    let mode_ports = and_parts _ _ machines.1 in
    record { elements = elements.0; points = points.0; machines = machines.0; mode_ports = mode_ports.0 }

-- ---- what is there

record IsThere {X : Type 0} (xs : List X) (i : ℕ) (test : X → Bool) : Type 0 where
  item : X
  place : slice_get xs i ≡ Some item
  holds_of : test item ≡ true

is_there : {X : Type 0} (xs : List X) (i : ℕ) (test : X → Bool) → look xs i test false ≡ true → IsThere xs i test
is_there {X} xs i test h = step (slice_get xs i) refl h
  where
    step : (o : Option X) → slice_get xs i ≡ o → option_map_or test o false ≡ true → IsThere xs i test
    step None is h = absurd (cc)
    step (Some x) is h = record { item = x; place = is; holds_of = h }

is_home : (o : Option ℕ) → same_number o None ≡ true → is_none o ≡ true
is_home None h = refl
is_home (Some i) h = absurd (cc)

-- a thing with a name of its own
record HasName (p : Plan) (f : Form) (x : ℕ) (name : Letters) : Type 0 where
  named : offered f p x ≡ Some name
  pair : is_pair_name name ≡ true

no_variable : (e : ElemPlan) → (is_queued e || is_unqueued e) ≡ true → is_variable e ≡ false
no_variable e h = ap not h

elem_named : (p : Plan) (n : AreNames p) (f : Form) (x : ℕ) (test : ElemPlan → Bool) → ((e : ElemPlan) → test e ≡ true → is_for f e ≡ true)
    → ((e : ElemPlan) → is_for f e ≡ true → is_variable e ≡ false)
    → look p.elements x (λ (e : ElemPlan). same_number e.instance None && test e) false ≡ true
    → (look p.elements x (elem_offered f) None ≡ Some (elem_name p x)) × (is_pair_name (elem_name p x) ≡ true)
elem_named p n f x test for real h =
    let there = is_there p.elements x (λ (e : ElemPlan). same_number e.instance None && test e) h in
    let e = there.item in
    let two = and_parts (same_number e.instance None) (test e) there.holds_of in
    let own : elem_name p x ≡ e.name = at_place p.elements x e there.place (λ (v : ElemPlan). v.name) [] in
    let its = all_at (λ (v : ElemPlan). cond (is_variable v) (is_name v.name) (sound.is_pair_name v.name)) p.elements x e n.elements there.place in (
      at_place p.elements x e there.place (elem_offered f) None
          ∙ ap (λ b. named_if b e.name) (and_from (is_none e.instance) (is_for f e) (is_home e.instance two.0) (for e two.1))
          ∙ ap (λ t. Some t) (sym own),
      subst (λ t. is_pair_name t ≡ true) (sym own) (same_pair e.name (sym (ap (λ b. cond b (is_name e.name) (sound.is_pair_name e.name)) (real e (for e two.1))) ∙ its)),
    )

write_real : (e : ElemPlan) → is_for Write e ≡ true → is_variable e ≡ false
write_real e h = no_variable e (or_right (is_queued e) (is_unqueued e) (and_parts (is_unqueued e) _ h).0)

send_real : (e : ElemPlan) → is_for Send e ≡ true → is_variable e ≡ false
send_real e h = no_variable e (or_left (is_queued e) (is_unqueued e) (and_parts (is_queued e) _ h).0)

read_real : (e : ElemPlan) → is_for Read e ≡ true → is_variable e ≡ false
read_real e h = no_variable e (or_right (is_queued e) (is_unqueued e) (and_parts (is_unqueued e) _ h).0)

receive_real : (e : ElemPlan) → is_for Receive e ≡ true → is_variable e ≡ false
receive_real e h = no_variable e (or_left (is_queued e) (is_unqueued e) (and_parts (is_queued e) _ h).0)

-- a point of the environment's own
own_there : (p : Plan) (q : ℕ) → (nat_lt q (length p.points) && same_number (caller_of p q) None) ≡ true → IsThere p.points q (λ (t : PointPlan). is_none t.runnable)
own_there p q h =
    let two = and_parts (nat_lt q (length p.points)) (same_number (caller_of p q) None) h in
    let within : q < length p.points = ltb-true q (length p.points) two.0 in
    elim (slice_get_cases p.points q).1 [
      | inl here ↦ found here.0 here.2 two.1
      | inr past ↦ (let far : length p.points ≤ q = past.0 in absurd (omega arith))
    ]
  where
    found : (t : PointPlan) → slice_get p.points q ≡ Some t → same_number (caller_of p q) None ≡ true → IsThere p.points q (λ (t : PointPlan). is_none t.runnable)
    found t place home = record {
      item = t;
      place = place;
      holds_of = is_home t.runnable (sym (ap (λ o. same_number o None) (at_place p.points q t place (λ (v : PointPlan). v.runnable) None)) ∙ home);
    }

point_named : (p : Plan) (n : AreNames p) (q : ℕ) → (nat_lt q (length p.points) && same_number (caller_of p q) None) ≡ true
    → (look p.points q point_offered None ≡ Some (point_name p q)) × (is_pair_name (point_name p q) ≡ true)
point_named p n q h =
    let there = own_there p q h in
    let t = there.item in
    let own : point_name p q ≡ t.name = at_place p.points q t there.place (λ (v : PointPlan). v.name) [] in (
      at_place p.points q t there.place point_offered None ∙ ap (λ b. named_if b t.name) there.holds_of ∙ ap (λ u. Some u) (sym own),
      subst (λ u. is_pair_name u ≡ true) (sym own) (same_pair t.name (all_at (λ (v : PointPlan). sound.is_pair_name v.name) p.points q t n.points there.place)),
    )

mode_port_named : (p : Plan) (n : AreNames p) (x : ℕ) → look p.mode_ports x (λ (t : ModePortPlan). same_number t.instance None) false ≡ true
    → (look p.mode_ports x mode_port_offered None ≡ Some (mode_port_name p x)) × (is_pair_name (mode_port_name p x) ≡ true)
mode_port_named p n x h =
    let there = is_there p.mode_ports x (λ (t : ModePortPlan). same_number t.instance None) h in
    let t = there.item in
    let own : mode_port_name p x ≡ t.name = at_place p.mode_ports x t there.place (λ (v : ModePortPlan). v.name) [] in (
      at_place p.mode_ports x t there.place mode_port_offered None ∙ ap (λ b. named_if b t.name) (is_home t.instance there.holds_of) ∙ ap (λ u. Some u) (sym own),
      subst (λ u. is_pair_name u ≡ true) (sym own) (same_pair t.name (all_at (λ (v : ModePortPlan). sound.is_pair_name v.name) p.mode_ports x t n.mode_ports there.place)),
    )

-- ---- calls

-- what a call of a form says, where its name is that of a first thing
call_says : (p : Plan) (f : Form) (x : ℕ) (name : Letters) (third : Option Letters) (s : Saying) → offered f p x ≡ Some name → is_pair_name name ≡ true → IsFirst p f x name
    → third_fits (behind f) third ≡ true → call_at p f (behind f) x third ≡ s → saying p (phrase_text (to_call f name third)) ≡ s
call_says p f x name third s there pair first fits h =
    form_says p (phrase_text (to_call f name third)) (to_call f name third) (record { fits = and_from (is_pair_name name) _ pair fits; text = refl })
    ∙ ap (named_call p f third) (named_is p f name x (record { named = there; first = first }))
    ∙ h

no_end : (k name : Letters) → k ++ spaced name ≡ k ++ spaced name ++ []
no_end k name = sym (append-nil (k ++ spaced name))

taken : (p : Plan) (f : Form) (x : ℕ) (ws : List ℤ) → takes f p x ws ≡ true → is_value (words_text ws) ≡ true × (words_in (words_text ws) ≡ ws) → cond (takes f p x (words_in (words_text ws))) (call_with f x (words_in (words_text ws))) (is_bad not_of_type) ≡ call_with f x ws
taken p f x ws takes_it back = ap (λ v. cond (takes f p x v) (call_with f x v) (is_bad not_of_type)) back.1 ∙ ap (λ b. cond b (call_with f x ws) (is_bad not_of_type)) takes_it

call_said : (p : Plan) (n : AreNames p) (w : Wanted) → may_call p w ≡ true → IsOfFirst p w → saying p (text_of p (a_call w)) ≡ asks (a_call w)
call_said p n (to_write x ws) may first =
    let two = and_parts (wish_fits p Env (to_write x ws)) (takes Write p x ws) may in
    let e = elem_named p n Write x (λ v. (is_unqueued v && v.provided) && holds ws v) (λ v h. (and_parts (is_unqueued v && v.provided) (holds ws v) h).0) write_real two.0 in
    let back = value_back ws (and_parts (are_held ws) _ two.1).0 in
    call_says p Write x (elem_name p x) (Some (words_text ws)) (asks (a_call (to_write x ws))) e.0 e.1 first back.0 (taken p Write x ws two.1 back)
call_said p n (to_send x ws) may first =
    let two = and_parts (wish_fits p Env (to_send x ws)) (takes Send p x ws) may in
    let e = elem_named p n Send x (λ v. (is_queued v && v.provided) && holds ws v) (λ v h. (and_parts (is_queued v && v.provided) (holds ws v) h).0) send_real two.0 in
    let back = value_back ws (and_parts (are_held ws) _ two.1).0 in
    call_says p Send x (elem_name p x) (Some (words_text ws)) (asks (a_call (to_send x ws))) e.0 e.1 first back.0 (taken p Send x ws two.1 back)
call_said p n (to_ask q ws) may first =
    let two = and_parts (wish_fits p Env (to_ask q ws)) (takes Ask p q ws) may in
    let e = point_named p n q two.0 in
    let back = value_back ws (and_parts (are_held ws) _ two.1).0 in
    call_says p Ask q (point_name p q) (Some (words_text ws)) (asks (a_call (to_ask q ws))) e.0 e.1 first back.0 (taken p Ask q ws two.1 back)
call_said p n (to_read x) may first =
    let e = elem_named p n Read x (λ v. is_unqueued v && not v.provided) (λ v h. h) read_real may in
    ap (saying p) (no_end (codes "read") (elem_name p x)) ∙ call_says p Read x (elem_name p x) None (asks (a_call (to_read x))) e.0 e.1 first refl refl
call_said p n (to_receive x) may first =
    let e = elem_named p n Receive x (λ v. is_queued v && not v.provided) (λ v h. h) receive_real may in
    ap (saying p) (no_end (codes "receive") (elem_name p x)) ∙ call_says p Receive x (elem_name p x) None (asks (a_call (to_receive x))) e.0 e.1 first refl refl
call_said p n (to_take_result q) may first =
    let e = point_named p n q may in
    ap (saying p) (no_end (codes "result") (point_name p q)) ∙ call_says p TakeResult q (point_name p q) None (asks (a_call (to_take_result q))) e.0 e.1 first refl refl
call_said p n (to_see_mode x) may first =
    let e = mode_port_named p n x may in
    ap (saying p) (no_end (codes "mode") (mode_port_name p x)) ∙ call_says p SeeMode x (mode_port_name p x) None (asks (a_call (to_see_mode x))) e.0 e.1 first refl refl
call_said p n (to_switch m k) may first =
    let there = is_there p.machines m (λ (v : MachinePlan). same_number v.instance None && nat_lt k (length v.modes)) may in
    let v = there.item in
    let two = and_parts (same_number v.instance None) (nat_lt k (length v.modes)) there.holds_of in
    let within : k < length v.modes = ltb-true k (length v.modes) two.1 in
    let own : machine_name p m ≡ v.name = at_place p.machines m v there.place (λ (u : MachinePlan). u.name) [] in
    let names = and_parts (sound.is_pair_name v.name) (list_all is_name v.modes) (all_at (λ (u : MachinePlan). sound.is_pair_name u.name && list_all is_name u.modes) p.machines m v n.machines there.place) in
    let named = at_place p.machines m v there.place machine_offered None ∙ ap (λ b. named_if b v.name) (is_home v.instance two.0) ∙ ap (λ u. Some u) (sym own) in
    let pair = subst (λ u. is_pair_name u ≡ true) (sym own) (same_pair v.name names.0) in
    elim (slice_get_cases v.modes k).1 [
      | inl here ↦ found v there.place names.1 here.0 here.2 named pair
      | inr past ↦ (let far : length v.modes ≤ k = past.0 in absurd (omega arith))
    ]
  where
    found : (v : MachinePlan) → slice_get p.machines m ≡ Some v → list_all is_name v.modes ≡ true → (t : Letters) → slice_get v.modes k ≡ Some t → offered Switch p m ≡ Some (machine_name p m) → is_pair_name (machine_name p m) ≡ true
        → saying p (text_of p (a_call (to_switch m k))) ≡ asks (a_call (to_switch m k))
    found v place all t here named pair =
        let spelt : mode_name p m k ≡ t = at_place p.machines m v place (λ (u : MachinePlan). look u.modes k (λ (w : Letters). w) []) [] ∙ at_place v.modes k t here (λ (w : Letters). w) [] in
        let none = λ (y : ℕ) (less : y < k) (is : slice_get v.modes y ≡ Some (mode_name p m k)). first.1 y less (at_place p.machines m v place (λ (u : MachinePlan). slice_get u.modes y) None ∙ is) in
        let mode : mode_of p m (mode_name p m k) ≡ Some k = at_place p.machines m v place (λ (u : MachinePlan). mode_in u.modes (mode_name p m k)) None ∙ mode_is v.modes (mode_name p m k) k (here ∙ ap (λ u. Some u) (sym spelt)) none in
        call_says p Switch m (machine_name p m) (Some (mode_name p m k)) (asks (a_call (to_switch m k))) named pair first.0
        (subst (λ u. is_name u ≡ true) (sym spelt) (all_at is_name v.modes k t all here)) (ap (switch_call m) mode)
call_said p n w may first = absurd (cc)

said : (p : Plan) (n : AreNames p) (a : Asked) → may_ask p a ≡ true → AsksOfFirst p a → saying p (text_of p a) ≡ asks a
said p n (ticks k) may first = form_says p (text_of p (ticks k)) (to_wait k) (record { fits = may; text = refl })
said p n a_run may first = form_says p (text_of p a_run) to_run (record { fits = refl; text = refl })
said p n (a_call w) may first = call_said p n w may first

-- ---- in a sound plan each is the first of its name

elem_first : (p : Plan) (d : AreDistinct p) (f : Form) (x : ℕ) (test : ElemPlan → Bool) → look p.elements x (λ (e : ElemPlan). same_number e.instance None && test e) false ≡ true
    → (y : ℕ) → y < x → look p.elements y (elem_offered f) None ≡ Some (elem_name p x) → ⊥
elem_first p d f x test h y less is =
    let there = is_there p.elements x (λ (e : ElemPlan). same_number e.instance None && test e) h in
    let e = there.item in
    elem_apart p d f x e there.place (is_home e.instance (and_parts (same_number e.instance None) (test e) there.holds_of).0) y less
    (is ∙ ap (λ t. Some t) (at_place p.elements x e there.place (λ (v : ElemPlan). v.name) []))

switch_first : (p : Plan) (d : AreDistinct p) (m k : ℕ) → look p.machines m (λ (v : MachinePlan). same_number v.instance None && nat_lt k (length v.modes)) false ≡ true → IsFirst p Switch m (machine_name p m) × IsFirstMode p m k
switch_first p d m k h = (machine, mode)
  where
    there : IsThere p.machines m (λ (v : MachinePlan). same_number v.instance None && nat_lt k (length v.modes))
    there = is_there p.machines m (λ (v : MachinePlan). same_number v.instance None && nat_lt k (length v.modes)) h

    two : (same_number there.item.instance None ≡ true) × (nat_lt k (length there.item.modes) ≡ true)
    two = and_parts (same_number there.item.instance None) (nat_lt k (length there.item.modes)) there.holds_of

    machine : IsFirst p Switch m (machine_name p m)
    machine y less is = machine_apart p d m there.item there.place (is_home there.item.instance two.0) y less
        (is ∙ ap (λ t. Some t) (at_place p.machines m there.item there.place (λ (v : MachinePlan). v.name) []))

    mode : IsFirstMode p m k
    mode y less is =
        let modes = there.item.modes in
        let within : k < length modes = ltb-true k (length modes) two.1 in
        let own : mode_name p m k ≡ get_or modes k [] = at_place p.machines m there.item there.place (λ (u : MachinePlan). look u.modes k (λ (w : Letters). w) []) []
        ∙ at_place modes k (get_or modes k []) (slice_get-get_or modes k [] within) (λ (w : Letters). w) [] in
        modes_apart modes (all_at (λ (n : MachinePlan). named_once (map (λ t. (0, t)) n.modes)) p.machines m there.item d.modes there.place) y k less (get_or modes k [])
        (sym (at_place p.machines m there.item there.place (λ (u : MachinePlan). slice_get u.modes y) None) ∙ is ∙ ap (λ t. Some t) own)
        (slice_get-get_or modes k [] within)

mode_port_first : (p : Plan) (d : AreDistinct p) (x : ℕ) → look p.mode_ports x (λ (t : ModePortPlan). same_number t.instance None) false ≡ true → IsFirst p SeeMode x (mode_port_name p x)
mode_port_first p d x h y less is =
    let there = is_there p.mode_ports x (λ (t : ModePortPlan). same_number t.instance None) h in
    mode_port_apart p d x there.item there.place (is_home there.item.instance there.holds_of) y less
    (is ∙ ap (λ t. Some t) (at_place p.mode_ports x there.item there.place (λ (v : ModePortPlan). v.name) []))

point_first : (p : Plan) (d : AreDistinct p) (q : ℕ) → (nat_lt q (length p.points) && same_number (caller_of p q) None) ≡ true → (y : ℕ) → y < q → look p.points y point_offered None ≡ Some (point_name p q) → ⊥
point_first p d q h y less is =
    let there = own_there p q h in
    point_apart p d q there.item there.place there.holds_of y less (is ∙ ap (λ t. Some t) (at_place p.points q there.item there.place (λ (v : PointPlan). v.name) []))

call_first : (p : Plan) (d : AreDistinct p) → (w : Wanted) → may_call p w ≡ true → IsOfFirst p w
call_first p d (to_write x ws) may = elem_first p d Write x (λ v. (is_unqueued v && v.provided) && holds ws v) (and_parts (wish_fits p Env (to_write x ws)) (takes Write p x ws) may).0
call_first p d (to_send x ws) may = elem_first p d Send x (λ v. (is_queued v && v.provided) && holds ws v) (and_parts (wish_fits p Env (to_send x ws)) (takes Send p x ws) may).0
call_first p d (to_read x) may = elem_first p d Read x (λ v. is_unqueued v && not v.provided) may
call_first p d (to_receive x) may = elem_first p d Receive x (λ v. is_queued v && not v.provided) may
call_first p d (to_ask q ws) may = point_first p d q (and_parts (wish_fits p Env (to_ask q ws)) (takes Ask p q ws) may).0
call_first p d (to_take_result q) may = point_first p d q may
call_first p d (to_switch machine mode) may = switch_first p d machine mode may
call_first p d (to_see_mode port) may = mode_port_first p d port may
call_first p d w may = absurd (cc)

asks_first : (p : Plan) (d : AreDistinct p) (a : Asked) → may_ask p a ≡ true → AsksOfFirst p a
asks_first p d (ticks n) may = tt
asks_first p d a_run may = tt
asks_first p d (a_call w) may = call_first p d w may

pub asks_said : (p : Plan) (m : Mapping) (t : Letters) (a : Asked) → IsSound p m → IsSpelling p t a → saying p t ≡ asks a
asks_said p m t a s h =
    let names = and_parts (names_fit p) _ s.names in
    ap (saying p) h.text ∙ said p (are_names p names.0) a h.may (asks_first p (are_distinct p (and_parts (names_distinct p) _ names.1).0) a h.may)

pub asks_exactly : (p : Plan) (m : Mapping) (t : Letters) (a : Asked) → IsSound p m → (saying p t ≡ asks a) ↔ IsSpelling p t a
asks_exactly p m t a s = (λ h. (saying_asks p t a h).spelling, λ h. asks_said p m t a s h)

pub asks_once : (p : Plan) (m : Mapping) (t : Letters) (a b : Asked) → IsSound p m → IsSpelling p t a → IsSpelling p t b → a ≡ b
asks_once p m t a b s h k = let same : asks a ≡ asks b = sym (asks_said p m t a s h) ∙ asks_said p m t b s k in cc
