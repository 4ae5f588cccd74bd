-- The deed of an item is read back from its fields.
use Rattle.std.proofs.Common.{◌≡◌, ℕ, ◌<◌, ◌≤◌, Bool, true, false, ◌&&◌, ◌==◌, cond, List, [], length, nat_le, nat_lt, bytes_eq, codes, decimal, Option, Some, None, refl, sym, ap, ◌∙◌, arith}
use Rattle.bus_semantics.specs.Common.{slice_get, option_and_then, option_map_or, and_parts, leb-true, ltb-true, ActKey, Step, Value, same_words-Decides, same_number, words_of}
use Rattle.bus_semantics.specs.Common.{activation_fits, activation_may_want, answer_fits, environment_may_want, machine_may_want, start_fits, wish_fits, needs_event, elems_of, list_fits}
use Rattle.bus_semantics.specs.Common.{marks_fit, words_of_all, marked, area_fits, key_fits, elem_fits, event_fits, mode_port_fits, modes_of, own_point, result_point, switch_fits, Plan}
use Rattle.bus_semantics.specs.Common.{instance_of, kind_of, look, machine_of_port, are_words, is_byte, is_index, is_sized, Letters, elem_name, mask_text, mode_text, point_name, point_text}
use Rattle.bus_semantics.specs.Common.{position_of, value_text, Wanted, to_tick, to_start, to_admit, to_fetch, to_write, to_read, to_invalidate, to_see_updated, to_send, to_receive, to_ask}
use Rattle.bus_semantics.specs.Common.{to_hear, to_take_result, to_return, to_enter, to_leave, to_switch, to_see_mode, to_move_on, to_publish, to_fetch_all, to_publish_all, to_end}
use Rattle.bus_semantics.specs.Common.{wanted_by}
use Rattle.rte_value.specs.declared.kinds.Step.TheVariants as step
use Rattle.bus_laws.specs.Common.{Actor, Env, Machine, Act, Deed, ElemPlan, EventKind, Timing, Init, DataReceived, Invoked, Returns, ModeSwitch, Ack, MachinePlan, ModePortPlan, Version}
use Rattle.bus_semantics.specs.declared.entries.Deed.TheVariants as deed
use Rattle.trace_reading.specs.declared.words.CallWord.TheVariants as call
use Rattle.trace_reading.specs.Deeds.{Line, called_at, caller_itself, home_of, mode_at}
use Rattle.trace_reading.specs.Fields.{code_at, no_value, value_at}
use Rattle.trace_reading.specs.Actors.{point_in}
use Rattle.trace_reading.specs.Finding.{elem_at, point_at}
use Rattle.trace_reading.specs.Guess.{deed_in}
use Rattle.line_fields.proofs.Distinct.{all_at}
use Rattle.trace_reading.proofs.ActorTexts.{IsThere, point_read_in, served_within}
use Rattle.trace_reading.proofs.Cutting.{part}
use Rattle.trace_reading.specs.Lists.{list_at, marks_at}
use Rattle.trace_reading.proofs.Lines.{fields_of, word_of}
use Rattle.trace_reading.proofs.ListTexts.{list_read, marks_read}
use Rattle.trace_reading.proofs.Modes.{IsModeOf, mode_read, result_read}
use Rattle.trace_reading.proofs.Naming.{IsNamed}
use Rattle.trace_reading.proofs.Things.{IsRead, area_read, elem_read, event_read, machine_read, mode_port_read, point_read, within}
use Rattle.trace_reading.proofs.Values.{code_back, no_value-is, value_text_back}

-- ---- what a fitting wish names

-- one of the home's elements
record IsOwnElem (p : Plan) (home : Option ℕ) (x : ℕ) : Type 0 where
  test : ElemPlan → Bool
  fit : elem_fits p home test x ≡ true

-- a point whose result the actor may take
abbrev MayTake : Plan → Actor → ℕ → Type 0
MayTake p Env q = own_point p None q ≡ true
MayTake p (Machine m) q = ⊥
MayTake p (Act k) q = result_point p (instance_of p k.runnable) q ≡ true

-- a list of the actor's runnable
abbrev IsOwnList : Plan → Actor → ℕ → Type 0
IsOwnList p Env l = ⊥
IsOwnList p (Machine m) l = ⊥
IsOwnList p (Act k) l = (reads : Bool) × (list_fits p k.runnable reads l ≡ true)

abbrev Names : Plan → Actor → Wanted → Type 0
Names p a to_tick = Unit {0}
Names p a (to_start e) = event_fits p (home_of p a) e ≡ true
Names p a (to_admit e) = Unit {0}
Names p a (to_fetch x) = IsOwnElem p (home_of p a) x
Names p a (to_write x ws) = IsOwnElem p (home_of p a) x
Names p a (to_read x) = IsOwnElem p (home_of p a) x
Names p a (to_invalidate x) = IsOwnElem p (home_of p a) x
Names p a (to_see_updated x) = IsOwnElem p (home_of p a) x
Names p a (to_send x ws) = IsOwnElem p (home_of p a) x
Names p a (to_receive x) = IsOwnElem p (home_of p a) x
Names p a (to_ask q ws) = own_point p (caller_itself a) q ≡ true
Names p a (to_hear q) = own_point p (caller_itself a) q ≡ true
Names p a (to_take_result q) = MayTake p a q
Names p a (to_return code ws) = Unit {0}
Names p a (to_enter x) = area_fits p (home_of p a) x ≡ true
Names p a (to_leave x) = area_fits p (home_of p a) x ≡ true
Names p a (to_switch m mode) = switch_fits p (home_of p a) m mode ≡ true
Names p a (to_see_mode port) = mode_port_fits p (home_of p a) port ≡ true
Names p a to_move_on = Unit {0}
Names p a (to_publish x ws) = IsOwnElem p (home_of p a) x
Names p a (to_fetch_all l) = IsOwnList p a l
Names p a (to_publish_all l written ws) = IsOwnList p a l × (marks_fit written (elems_of p l) ≡ true)
Names p a (to_end e) = Unit {0}

environment_names : (p : Plan) (w : Wanted) → environment_may_want p w ≡ true → Names p Env w
environment_names p to_tick h = tt
environment_names p (to_write x ws) h = record { test = _; fit = h }
environment_names p (to_read x) h = record { test = _; fit = h }
environment_names p (to_send x ws) h = record { test = _; fit = h }
environment_names p (to_receive x) h = record { test = _; fit = h }
environment_names p (to_ask q ws) h = h
environment_names p (to_take_result q) h = h
environment_names p (to_switch m mode) h = h
environment_names p (to_see_mode port) h = h
environment_names p _ h = absurd (cc)

activation_names : (p : Plan) (k : ActKey) (w : Wanted) → activation_may_want p k (instance_of p k.runnable) w ≡ true → Names p (Act k) w
activation_names p k to_tick h = tt
activation_names p k (to_start e) h = h
activation_names p k (to_admit e) h = tt
activation_names p k (to_fetch x) h = record { test = _; fit = h }
activation_names p k (to_write x ws) h = record { test = _; fit = h }
activation_names p k (to_read x) h = record { test = _; fit = h }
activation_names p k (to_invalidate x) h = record { test = _; fit = h }
activation_names p k (to_see_updated x) h = record { test = _; fit = h }
activation_names p k (to_send x ws) h = record { test = _; fit = h }
activation_names p k (to_receive x) h = record { test = _; fit = h }
activation_names p k (to_ask q ws) h = h
activation_names p k (to_hear q) h = h
activation_names p k (to_take_result q) h = h
activation_names p k (to_return code ws) h = tt
activation_names p k (to_enter x) h = h
activation_names p k (to_leave x) h = h
activation_names p k (to_switch m mode) h = h
activation_names p k (to_see_mode port) h = h
activation_names p k to_move_on h = tt
activation_names p k (to_publish x ws) h = record { test = _; fit = h }
activation_names p k (to_fetch_all l) h = (true, h)
activation_names p k (to_publish_all l written ws) h =
    let sized = length ws == words_of_all p (marked written (elems_of p l)) in
    let two = and_parts (list_fits p k.runnable false l) (marks_fit written (elems_of p l) && sized) h in ((false, two.0), (and_parts (marks_fit written (elems_of p l)) sized two.1).0)
activation_names p k (to_end e) h = tt

machine_names : (p : Plan) (m : ℕ) (w : Wanted) → machine_may_want w ≡ true → Names p (Machine m) w
machine_names p m to_move_on h = tt
machine_names p m _ h = absurd (cc)

wish_names : (p : Plan) (a : Actor) (w : Wanted) → wish_fits p a w ≡ true → Names p a w
wish_names p Env w h = environment_names p w h
wish_names p (Machine m) w h = machine_names p m w (and_parts (nat_lt m (length p.machines)) (machine_may_want w) h).1
wish_names p (Act k) w h = activation_names p k w (and_parts _ (activation_may_want p k (instance_of p k.runnable) w) h).1

deed_names : (p : Plan) (a : Actor) (d : Deed) → cond (needs_event d) (activation_fits p a) (wish_fits p a (wanted_by 0 d)) ≡ true → Names p a (wanted_by 0 d)
deed_names p a (deed.Admit admitted) h = tt
deed_names p a deed.End h = tt
deed_names p a d h = wish_names p a (wanted_by 0 d) h

pub deed_there : (p : Plan) (r : IsNamed p) (a : Actor) (d : Deed) → cond (needs_event d) (activation_fits p a) (wish_fits p a (wanted_by 0 d)) ≡ true → IsThere p r a
deed_there p r Env d h = tt
deed_there p r (Machine m) d h = step (needs_event d) h
  where
    step : (b : Bool) → cond b false (nat_lt m (length p.machines) && machine_may_want (wanted_by 0 d)) ≡ true → nat_lt m (length p.machines) ≡ true
    step true h = absurd (cc)
    step false h = (and_parts (nat_lt m (length p.machines)) (machine_may_want (wanted_by 0 d)) h).0
deed_there p r (Act k) d h = step (needs_event d) h
  where
    step : (b : Bool) → cond b (activation_fits p (Act k)) (wish_fits p (Act k) (wanted_by 0 d)) ≡ true → activation_fits p (Act k) ≡ true
    step true h = h
    step false h = (and_parts (activation_fits p (Act k)) _ h).0

-- ---- deeds by the kinds of their fields

with_value : (mk : ℕ → Value → Deed) (o : Option ℕ) (x : ℕ) (t : Letters) (value : Value) → o ≡ Some x → value_at t ≡ Some value
    → option_and_then (λ y. option_and_then (λ w. Some (mk y w)) (value_at t)) o ≡ Some (mk x value)
with_value mk o x t value e f = ap (option_and_then (λ y. option_and_then (λ w. Some (mk y w)) (value_at t))) e ∙ ap (option_and_then (λ w. Some (mk x w))) f

code_and_value : (mk : ℕ → ℕ → Value → Deed) (o : Option ℕ) (x : ℕ) (s : Letters) (code : ℕ) (t : Letters) (value : Value) → o ≡ Some x → code_at s ≡ Some code → value_at t ≡ Some value
    → option_and_then (λ y. option_and_then (λ c. option_and_then (λ w. Some (mk y c w)) (value_at t)) (code_at s)) o ≡ Some (mk x code value)
code_and_value mk o x s code t value e f g =
    ap (option_and_then (λ y. option_and_then (λ c. option_and_then (λ w. Some (mk y c w)) (value_at t)) (code_at s))) e
    ∙ ap (option_and_then (λ c. option_and_then (λ w. Some (mk x c w)) (value_at t))) f ∙ ap (option_and_then (λ w. Some (mk x code w))) g

value_and_code : (mk : ℕ → Value → ℕ → Deed) (o : Option ℕ) (x : ℕ) (s : Letters) (value : Value) (t : Letters) (code : ℕ) → o ≡ Some x → value_at s ≡ Some value → code_at t ≡ Some code
    → option_and_then (λ y. option_and_then (λ w. option_and_then (λ c. Some (mk y w c)) (code_at t)) (value_at s)) o ≡ Some (mk x value code)
value_and_code mk o x s value t code e f g =
    ap (option_and_then (λ y. option_and_then (λ w. option_and_then (λ c. Some (mk y w c)) (code_at t)) (value_at s))) e
    ∙ ap (option_and_then (λ w. option_and_then (λ c. Some (mk x w c)) (code_at t))) f ∙ ap (option_and_then (λ c. Some (mk x value c))) g

-- ---- all deeds

abbrev pub line_with : Letters → Letters → List Letters → Line
line_with a w ts = record { who = a; word = w; first = part ts 0; second = part ts 1; third = part ts 2; fourth = part ts 3 }

module _ (v : Version) (p : Plan) (r : IsNamed p) where
  pub record IsDeedText (a : Actor) (d : Deed) : Type 0 where
    pub found : (who : Letters) → deed_in v p a (line_with who (word_of d) (fields_of v p a d)) ≡ Some d

  own_elem : (home : Option ℕ) (x : ℕ) → IsOwnElem p home x → is_index x ≡ true → IsRead (elem_at p home (elem_name p x)) (elem_name p x) x
  own_elem home x o index = elem_read p r home o.test x o.fit index

  own_list : (a : Actor) (l : ℕ) → IsOwnList p a l → is_index l ≡ true → IsRead (list_at p a (decimal (position_of p l))) (decimal (position_of p l)) l
  own_list Env l own index = absurd own
  own_list (Machine m) l own index = absurd own
  own_list (Act k) l own index = list_read p r.lists k own.0 l own.1 index

  -- a start: of a server, or of any other runnable
  start_text : (a : Actor) (e : ℕ) (point : Option ℕ) (value : Value) → event_fits p (home_of p a) e ≡ true → (kind : EventKind) → start_fits p kind point (words_of value) ≡ true
      → is_sized (deed.Start e point value) ≡ true → IsDeedText a (deed.Start e point value)
  start_text a e None value own kind fit sized =
      let index = (and_parts (is_index e) _ sized).0 in
      let x = event_read p r (home_of p a) e own index in
      let none : words_of value ≡ [] = no_words kind fit in
      record { found = λ who. ap (option_and_then (λ y. Some (deed.Start y None no_value))) x.found ∙ ap (λ w. Some (deed.Start e None w)) (sym (no_value-is value none)) }
    where
      no_words : (kind : EventKind) → start_fits p kind None (words_of value) ≡ true → words_of value ≡ []
      no_words (Invoked s) h = absurd (cc)
      no_words (Timing period) h = (same_words-Decides (words_of value) []).0 h
      no_words Init h = (same_words-Decides (words_of value) []).0 h
      no_words (DataReceived x) h = (same_words-Decides (words_of value) []).0 h
      no_words (Returns q) h = (same_words-Decides (words_of value) []).0 h
      no_words (ModeSwitch m moment) h = (same_words-Decides (words_of value) []).0 h
      no_words (Ack m) h = (same_words-Decides (words_of value) []).0 h
  start_text a e (Some q) value own kind fit sized =
      let two = and_parts (is_index e) (is_index q && are_words value) sized in
      let more = and_parts (is_index q) (are_words value) two.1 in
      let x = event_read p r (home_of p a) e own two.0 in
      let y = point_read_in p r q more.0 (within_points kind fit) in
      record {
        found = λ who.
            ap (option_and_then (λ k. option_and_then (λ n. option_and_then (λ w. Some (deed.Start k (Some n) w)) (value_at (value_text value))) (point_in p (point_text p q)))) x.found
            ∙ ap (option_and_then (λ n. option_and_then (λ w. Some (deed.Start e (Some n) w)) (value_at (value_text value)))) y.found
            ∙ ap (option_and_then (λ w. Some (deed.Start e (Some q) w))) (value_text_back value more.1);
      }
    where
      within_points : (kind : EventKind) → start_fits p kind (Some q) (words_of value) ≡ true → nat_lt q (length p.points) ≡ true
      within_points (Invoked s) h = served_within p r q (Some s) refl h
      within_points _ h = absurd (cc)

  -- the machine of a mode that is seen, that is switched to, and that begins to close
  seen_mode : (port mode : ℕ) → look p.mode_ports port (λ (t : ModePortPlan). nat_le mode (modes_of p t.machine)) false ≡ true → IsModeOf p r (machine_of_port p port) mode
  seen_mode port mode h = step (slice_get p.mode_ports port) refl h
    where
      at_machine : (m : ℕ) → machine_of_port p port ≡ Some m → nat_le mode (modes_of p m) ≡ true → nat_lt m (length p.machines) ≡ true → IsModeOf p r (machine_of_port p port) mode
      at_machine m is most less = within p.machines m (IsModeOf p r (machine_of_port p port) mode) less (λ n there.
          let few : modes_of p m ≡ length n.modes = ap (λ o. option_map_or (λ (k : MachinePlan). length k.modes) o 0) there in
          let le : mode ≤ modes_of p m = leb-true mode (modes_of p m) most in
          record { place = m; machine = n; is = is; there = there; most = omega arith })

      step : (o : Option ModePortPlan) → slice_get p.mode_ports port ≡ o → option_map_or (λ (t : ModePortPlan). nat_le mode (modes_of p t.machine)) o false ≡ true → IsModeOf p r (machine_of_port p port) mode
      step None is h = absurd (cc)
      step (Some t) is h = at_machine t.machine (ap (λ o. option_map_or (λ (u : ModePortPlan). Some u.machine) o None) is) h (all_at (λ (u : ModePortPlan). nat_lt u.machine (length p.machines)) p.mode_ports port t r.port_machines is)

  switched_mode : (home : Option ℕ) (m mode : ℕ) → switch_fits p home m mode ≡ true → IsModeOf p r (Some m) mode
  switched_mode home m mode h = step (slice_get p.machines m) refl h
    where
      step : (o : Option MachinePlan) → slice_get p.machines m ≡ o → option_map_or (λ (n : MachinePlan). same_number n.instance home && nat_lt mode (length n.modes)) o false ≡ true → IsModeOf p r (Some m) mode
      step None is h = absurd (cc)
      step (Some n) is h =
          let less : mode < length n.modes = ltb-true mode (length n.modes) (and_parts (same_number n.instance home) (nat_lt mode (length n.modes)) h).1 in
          record { place = m; machine = n; is = refl; there = is; most = omega arith }

  closed_mode : (m mode : ℕ) → nat_lt m (length p.machines) ≡ true → nat_lt mode (modes_of p m) ≡ true → IsModeOf p r (Some m) mode
  closed_mode m mode there fit = within p.machines m (IsModeOf p r (Some m) mode) there (λ n at.
      let few : modes_of p m ≡ length n.modes = ap (λ o. option_map_or (λ (k : MachinePlan). length k.modes) o 0) at in
      let less : mode < modes_of p m = ltb-true mode (modes_of p m) fit in
      record { place = m; machine = n; is = refl; there = at; most = omega arith })

  -- a phase is a machine's
  phase_text_read : (a : Actor) (s : Step) → IsThere p r a → wish_fits p a to_move_on ≡ true → answer_fits p a (deed.Phase s) ≡ true → is_sized (deed.Phase s) ≡ true → IsDeedText a (deed.Phase s)
  phase_text_read Env s there wish fit sized = absurd (cc)
  phase_text_read (Act k) s there wish fit sized = let never : activation_may_want p k (instance_of p k.runnable) to_move_on ≡ true = (and_parts (key_fits p k) (activation_may_want p k (instance_of p k.runnable) to_move_on) wish).1 in absurd (cc)
  phase_text_read (Machine m) (step.Close mode) there wish fit sized =
      let x = mode_read p r v (Some m) mode (closed_mode m mode there fit) sized in
      record { found = λ who. ap (option_and_then (λ s. Some (deed.Phase s))) (ap (option_and_then (λ n. Some (step.Close n))) x.found) }
  phase_text_read (Machine m) step.Exit there wish fit sized = record { found = λ who. refl }
  phase_text_read (Machine m) step.Transition there wish fit sized = record { found = λ who. refl }
  phase_text_read (Machine m) step.Entry there wish fit sized = record { found = λ who. refl }
  phase_text_read (Machine m) step.Stable there wish fit sized = record { found = λ who. refl }

  -- what is done at a point that is called, or whose result is taken
  taken_read : (a : Actor) (q : ℕ) → MayTake p a q → is_index q ≡ true → IsRead (called_at p a call.TakeResult (point_name p q)) (point_name p q) q
  taken_read Env q own index = point_read p r None q own index
  taken_read (Machine m) q own index = absurd own
  taken_read (Act k) q own index = result_read p r (instance_of p k.runnable) q own index

  asked_at : (a : Actor) (t : Letters) → called_at p a call.Ask t ≡ point_at p (caller_itself a) t
  asked_at Env t = refl
  asked_at (Machine m) t = refl
  asked_at (Act k) t = refl

  answered_at : (a : Actor) (t : Letters) → called_at p a call.Answer t ≡ point_at p (caller_itself a) t
  answered_at Env t = refl
  answered_at (Machine m) t = refl
  answered_at (Act k) t = refl

  flag_back : (yes : Bool) → bytes_eq (cond yes (codes "1") (codes "0")) (codes "1") ≡ yes
  flag_back true = refl
  flag_back false = refl

  admitted_back : (yes : Bool) → bytes_eq (cond yes (codes "yes") (codes "no")) (codes "yes") ≡ yes
  admitted_back true = refl
  admitted_back false = refl

  pub deed_read : (a : Actor) (d : Deed) → IsThere p r a → cond (needs_event d) (activation_fits p a) (wish_fits p a (wanted_by 0 d)) ≡ true → answer_fits p a d ≡ true → is_sized d ≡ true → IsDeedText a d
  deed_read a deed.Tick there wish fit sized = record { found = λ who. refl }
  deed_read a (deed.Start e point value) there wish fit sized = start_text a e point value (deed_names p a (deed.Start e point value) wish) (kind_of p e) fit sized
  deed_read a (deed.Admit admitted) there wish fit sized = record { found = λ who. ap (λ b. Some (deed.Admit b)) (admitted_back admitted) }
  deed_read a (deed.Fetch x value) there wish fit sized =
      let two = and_parts (is_index x) (are_words value) sized in
      let e = own_elem (home_of p a) x (deed_names p a (deed.Fetch x value) wish) two.0 in
      record { found = λ who. with_value (λ y w. deed.Fetch y w) (elem_at p (home_of p a) (elem_name p x)) x (value_text value) value e.found (value_text_back value two.1) }
  deed_read a (deed.Write x value) there wish fit sized =
      let two = and_parts (is_index x) (are_words value) sized in
      let e = own_elem (home_of p a) x (deed_names p a (deed.Write x value) wish) two.0 in
      record { found = λ who. with_value (λ y w. deed.Write y w) (elem_at p (home_of p a) (elem_name p x)) x (value_text value) value e.found (value_text_back value two.1) }
  deed_read a (deed.Read x code value) there wish fit sized =
      let two = and_parts (is_index x) (is_byte code && are_words value) sized in
      let more = and_parts (is_byte code) (are_words value) two.1 in
      let e = own_elem (home_of p a) x (deed_names p a (deed.Read x code value) wish) two.0 in
      record { found = λ who. code_and_value (λ y c w. deed.Read y c w) (elem_at p (home_of p a) (elem_name p x)) x (decimal code) code (value_text value) value e.found (code_back code more.0) (value_text_back value more.1) }
  deed_read a (deed.Invalidate x) there wish fit sized =
      let e = own_elem (home_of p a) x (deed_names p a (deed.Invalidate x) wish) sized in
      record { found = λ who. ap (option_and_then (λ y. Some (deed.Invalidate y))) e.found }
  deed_read a (deed.IsUpdated x updated) there wish fit sized =
      let e = own_elem (home_of p a) x (deed_names p a (deed.IsUpdated x updated) wish) sized in
      let flag = cond updated (codes "1") (codes "0") in
      record { found = λ who. ap (option_and_then (λ y. Some (deed.IsUpdated y (bytes_eq flag (codes "1"))))) e.found ∙ ap (λ b. Some (deed.IsUpdated x b)) (flag_back updated) }
  deed_read a (deed.Send x value code) there wish fit sized =
      let two = and_parts (is_index x) (is_byte code && are_words value) sized in
      let more = and_parts (is_byte code) (are_words value) two.1 in
      let e = own_elem (home_of p a) x (deed_names p a (deed.Send x value code) wish) two.0 in
      record { found = λ who. value_and_code (λ y w c. deed.Send y w c) (elem_at p (home_of p a) (elem_name p x)) x (value_text value) value (decimal code) code e.found (value_text_back value more.1) (code_back code more.0) }
  deed_read a (deed.Receive x code value) there wish fit sized =
      let two = and_parts (is_index x) (is_byte code && are_words value) sized in
      let more = and_parts (is_byte code) (are_words value) two.1 in
      let e = own_elem (home_of p a) x (deed_names p a (deed.Receive x code value) wish) two.0 in
      record { found = λ who. code_and_value (λ y c w. deed.Receive y c w) (elem_at p (home_of p a) (elem_name p x)) x (decimal code) code (value_text value) value e.found (code_back code more.0) (value_text_back value more.1) }
  deed_read a (deed.Ask q value code) there wish fit sized =
      let two = and_parts (is_index q) (is_byte code && are_words value) sized in
      let more = and_parts (is_byte code) (are_words value) two.1 in
      let e = point_read p r (caller_itself a) q (deed_names p a (deed.Ask q value code) wish) two.0 in
      record { found = λ who. value_and_code (λ y w c. deed.Ask y w c) (called_at p a call.Ask (point_name p q)) q (value_text value) value (decimal code) code (asked_at a (point_name p q) ∙ e.found) (value_text_back value more.1) (code_back code more.0) }
  deed_read a (deed.Answer q code value) there wish fit sized =
      let two = and_parts (is_index q) (is_byte code && are_words value) sized in
      let more = and_parts (is_byte code) (are_words value) two.1 in
      let e = point_read p r (caller_itself a) q (deed_names p a (deed.Answer q code value) wish) two.0 in
      record { found = λ who. code_and_value (λ y c w. deed.Answer y c w) (called_at p a call.Answer (point_name p q)) q (decimal code) code (value_text value) value (answered_at a (point_name p q) ∙ e.found) (code_back code more.0) (value_text_back value more.1) }
  deed_read a (deed.TakeResult q code value) there wish fit sized =
      let two = and_parts (is_index q) (is_byte code && are_words value) sized in
      let more = and_parts (is_byte code) (are_words value) two.1 in
      let e = taken_read a q (deed_names p a (deed.TakeResult q code value) wish) two.0 in
      record { found = λ who. code_and_value (λ y c w. deed.TakeResult y c w) (called_at p a call.TakeResult (point_name p q)) q (decimal code) code (value_text value) value e.found (code_back code more.0) (value_text_back value more.1) }
  deed_read a (deed.Return code value) there wish fit sized =
      let two = and_parts (is_byte code) (are_words value) sized in
      record { found = λ who. with_value (λ c w. deed.Return c w) (code_at (decimal code)) code (value_text value) value (code_back code two.0) (value_text_back value two.1) }
  deed_read a (deed.Enter x) there wish fit sized =
      let e = area_read p r (home_of p a) x (deed_names p a (deed.Enter x) wish) sized in
      record { found = λ who. ap (option_and_then (λ y. Some (deed.Enter y))) e.found }
  deed_read a (deed.Leave x) there wish fit sized =
      let e = area_read p r (home_of p a) x (deed_names p a (deed.Leave x) wish) sized in
      record { found = λ who. ap (option_and_then (λ y. Some (deed.Leave y))) e.found }
  deed_read a (deed.Switch m mode code) there wish fit sized =
      let two = and_parts (is_index m) (is_index mode && is_byte code) sized in
      let more = and_parts (is_index mode) (is_byte code) two.1 in
      let own = deed_names p a (deed.Switch m mode code) wish in
      let e = machine_read p r (home_of p a) m mode own two.0 in
      let n = mode_read p r v (Some m) mode (switched_mode (home_of p a) m mode own) more.0 in
      let t = mode_text v p (Some m) mode in
      record {
        found = λ who.
            ap (option_and_then (λ y. option_and_then (λ k. option_and_then (λ c. Some (deed.Switch y k c)) (code_at (decimal code))) (mode_at v p (Some y) t))) e.found
            ∙ ap (option_and_then (λ k. option_and_then (λ c. Some (deed.Switch m k c)) (code_at (decimal code)))) n.found
            ∙ ap (option_and_then (λ c. Some (deed.Switch m mode c))) (code_back code more.1);
      }
  deed_read a (deed.Mode port mode) there wish fit sized =
      let two = and_parts (is_index port) (is_index mode) sized in
      let e = mode_port_read p r (home_of p a) port (deed_names p a (deed.Mode port mode) wish) two.0 in
      let n = mode_read p r v (machine_of_port p port) mode (seen_mode port mode fit) two.1 in
      let t = mode_text v p (machine_of_port p port) mode in
      record { found = λ who. ap (option_and_then (λ y. option_and_then (λ k. Some (deed.Mode y k)) (mode_at v p (machine_of_port p y) t))) e.found ∙ ap (option_and_then (λ k. Some (deed.Mode port k))) n.found }
  deed_read a (deed.Phase s) there wish fit sized = phase_text_read a s there wish fit sized
  deed_read a (deed.Publish x value) there wish fit sized =
      let two = and_parts (is_index x) (are_words value) sized in
      let e = own_elem (home_of p a) x (deed_names p a (deed.Publish x value) wish) two.0 in
      record { found = λ who. with_value (λ y w. deed.Publish y w) (elem_at p (home_of p a) (elem_name p x)) x (value_text value) value e.found (value_text_back value two.1) }
  deed_read a (deed.FetchAll l value) there wish fit sized =
      let two = and_parts (is_index l) (are_words value) sized in
      let x = own_list a l (deed_names p a (deed.FetchAll l value) wish) two.0 in
      record { found = λ who. with_value (λ n w. deed.FetchAll n w) (list_at p a (decimal (position_of p l))) l (value_text value) value x.found (value_text_back value two.1) }
  deed_read a (deed.PublishAll l written value) there wish fit sized =
      let two = and_parts (is_index l) (nat_lt written 65536 && are_words value) sized in
      let more = and_parts (nat_lt written 65536) (are_words value) two.1 in
      let names = deed_names p a (deed.PublishAll l written value) wish in
      let x = own_list a l names.0 two.0 in
      let mask = mask_text written (elems_of p l) in
      record {
        found = λ who.
            ap (option_and_then (λ n. option_and_then (λ w. option_and_then (λ u. Some (deed.PublishAll n w u)) (value_at (value_text value))) (marks_at mask))) x.found
            ∙ ap (option_and_then (λ w. option_and_then (λ u. Some (deed.PublishAll l w u)) (value_at (value_text value)))) (marks_read p r.lists l written names.1)
            ∙ ap (option_and_then (λ u. Some (deed.PublishAll l written u))) (value_text_back value more.1);
      }
  deed_read a deed.End there wish fit sized = record { found = λ who. refl }
