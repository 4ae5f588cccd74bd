-- What may be asked fits, touches an object, and gives short values.
use Rattle.std.proofs.Common.{◌≡◌, ℕ, ◌+◌, ◌<◌, ◌≤◌, ℤ, Bool, true, false, ◌&&◌, ◌||◌, not, ◌==◌, refl, sym, ◌∙◌, ap, subst, arith, List, [], ◌∷◌, length, replicate, Option, Some, None}
use Rattle.std.proofs.Common.{is_some, zero, suc, option_map}
use Rattle.std.specs.Prelude.{nat_lt, nat_le, flat_map}
use Rattle.bus_semantics.specs.Common.{list_all, list_any, slice_get, and_from, and_parts, eq-eqb, eqb-true, false≢true, true≢false, ltb-true, leb-true, le-leb, not-true, nat_tests}
use Rattle.bus_semantics.specs.Common.{length-replicate, ActKey, same_number, same_number-Decides, AccessSig, Plan, Runnable, look, queue_of, disabling_of, runnable_of_event, instance_of}
use Rattle.bus_semantics.specs.Common.{machine_of_port, Wanted, to_tick, to_start, to_admit, to_fetch, to_write, to_read, to_invalidate, to_see_updated, to_send, to_receive, to_ask, to_hear}
use Rattle.bus_semantics.specs.Common.{to_take_result, to_return, to_enter, to_leave, to_switch, to_see_mode, to_move_on, to_publish, to_fetch_all, to_publish_all, to_end, elems_of}
use Rattle.bus_semantics.specs.Common.{words_of_all, marked, marks_fit, list_fits, bundle_of, machine_object, first_server, first_machine, disabler_of, served_by, object_of, elem_fits}
use Rattle.bus_semantics.specs.Common.{is_writable, is_readable, is_unqueued, is_queued, holds, event_fits, activation_may_want, is_start, asks_its_own, arguments_of, is_in, argument_limits}
use Rattle.bus_semantics.specs.Common.{direct_sound, list_sound, IsSound}
use Rattle.bus_laws.specs.Common.{Act, ElemPlan, PointPlan, ServerPlan, ModePortPlan, EventPlan, Disabling, Mapping}
use Rattle.history_laws.specs.Given.{are_within, elem_takes, limits_at, elems_take, point_gets, gives_what_fits, words_given}
use Rattle.history_laws.specs.Wishes.{is_of_a_call, is_the_end}
use Rattle.history_laws.specs.LookUps.{clash, sought, looked, at_place, none_of}
use Rattle.history_laws.proofs.Words.{as_many, arguments_few}
use Rattle.history_laws.proofs.Trails.{Trail}
use Rattle.history_laws.proofs.Asked.{is_calling, MayAsk}
use Rattle.history_laws.proofs.Accesses.{fits_on, elem_is, point_is}
use Rattle.history_laws.proofs.SoundServers.{server_is, server_fits}
use Rattle.history_laws.proofs.ActivationLists.{fit_bundled, list_short, list_bundled}
use Rattle.history_laws.proofs.Marks.{limits_count, marked_fewer}

-- an event that starts a runnable is there
event_known : (p : Plan) (e i : ℕ) → runnable_of_event p e ≡ Some i → nat_lt e (length p.events) ≡ true
event_known p e i starts = of_list p.events e starts
  where
    of_list : (vs : List EventPlan) (e : ℕ) → look vs e (λ (v : EventPlan). Some v.runnable) None ≡ Some i → nat_lt e (length vs) ≡ true
    of_list [] e starts = absurd (cc starts)
    of_list (v ∷ vs) zero starts = grind (arith, nat_tests)
    of_list (v ∷ vs) (suc e) starts =
        let less : e < length vs = ltb-true e (length vs) (of_list vs e starts) in
        let more : suc e < length (v ∷ vs) = omega arith in
        grind (arith, nat_tests)

module _ (p : Plan) (m : Mapping) (sound : IsSound p m) (k : ActKey) (r : Runnable) (there : slice_get p.runnables k.runnable ≡ Some r) (event : ℕ) (starts : runnable_of_event p event ≡ Some k.runnable) (t : Trail) where
  abbrev May : Wanted → Type 0
  May = MayAsk p k.runnable r event t

  home_is : instance_of p k.runnable ≡ Some r.instance
  home_is = looked p.runnables k.runnable r (λ (v : Runnable). Some v.instance) None there

  own_event : event_fits p (Some r.instance) event ≡ true
  own_event = and_from (nat_lt event (length p.events)) _ (event_known p event k.runnable starts) (rw starts ((same_number-Decides (instance_of p k.runnable) (Some r.instance)).1 home_is))

  -- ---- wishes that fit

  elem_words : (test : ElemPlan → Bool) (x : ℕ) (ws : List ℤ) → elem_fits p (Some r.instance) test x ≡ true → elem_takes p x ws ≡ true → elem_fits p (Some r.instance) (λ e. test e && holds ws e) x ≡ true
  elem_words test x ws fit takes =
      let at = sought p.elements x (λ (e : ElemPlan). are_within (replicate e.words e.limits) ws) takes in
      let count : length ws ≡ at.item.words = as_many (replicate at.item.words at.item.limits) ws at.holds ∙ length-replicate at.item.words at.item.limits in
      fits_on p (Some r.instance) test (λ e. test e && holds ws e) x fit
      (λ e here is. let same : at.item ≡ e = cc (at.found, here) in and_from (test e) (holds ws e) is (eq-eqb (length ws) e.words (count ∙ ap (λ (v : ElemPlan). v.words) same)))

  list_words : (l written : ℕ) (ws : List ℤ) → list_fits p k.runnable false l ≡ true → marks_fit written (elems_of p l) ≡ true → elems_take p (marked written (elems_of p l)) ws ≡ true
      → activation_may_want p k (Some r.instance) (to_publish_all l written ws) ≡ true
  list_words l written ws fit marks takes =
      let xs = marked written (elems_of p l) in
      let count : length ws ≡ words_of_all p xs = as_many (flat_map (limits_at p) xs) ws takes ∙ limits_count p xs in
      and_from (list_fits p k.runnable false l) (marks_fit written (elems_of p l) && (length ws == words_of_all p xs)) fit
      (and_from (marks_fit written (elems_of p l)) (length ws == words_of_all p xs) marks (eq-eqb (length ws) (words_of_all p xs) count))

  pub may_want : (w : Wanted) → May w → activation_may_want p k (Some r.instance) w ≡ true
  may_want to_tick may = absurd may
  may_want (to_start e) may = absurd may
  may_want (to_admit e) may = subst (λ n. event_fits p (Some r.instance) n ≡ true) (sym may.1) own_event
  may_want (to_fetch x) may = may.1
  may_want (to_write x ws) may = elem_words is_writable x ws may.1.0 may.1.1
  may_want (to_read x) may = may.1
  may_want (to_invalidate x) may = may.1
  may_want (to_see_updated x) may = may.1
  may_want (to_send x ws) may = elem_words (λ e. is_queued e && e.provided) x ws may.1 may.2
  may_want (to_receive x) may = may.1
  may_want (to_ask q ws) may = may.2
  may_want (to_hear q) may = may.2
  may_want (to_take_result q) may = may.1
  may_want (to_return code ws) may = may.3
  may_want (to_enter x) may = may.1
  may_want (to_leave x) may = may.1
  may_want (to_switch n mode) may = may.1
  may_want (to_see_mode port) may = may.1
  may_want to_move_on may = absurd may
  may_want (to_publish x ws) may = elem_words is_writable x ws may.2.0 may.2.1
  may_want (to_fetch_all l) may = may.1.0
  may_want (to_publish_all l written ws) may = list_words l written ws may.2.0 may.3 may.4
  may_want (to_end e) may = subst (λ n. event_fits p (Some r.instance) n ≡ true) (sym may.2) own_event

  names_own : (e : ℕ) → e ≡ event → same_number (runnable_of_event p e) (Some k.runnable) ≡ true
  names_own e same = (same_number-Decides (runnable_of_event p e) (Some k.runnable)).1 (ap (runnable_of_event p) same ∙ starts)

  pub may_own : (w : Wanted) → May w → asks_its_own p (Act k) w ≡ true
  may_own (to_start e) may = absurd may
  may_own (to_admit e) may = names_own e may.1
  may_own (to_end e) may = names_own e may.2
  may_own w may = refl

  pub may_not_start : (w : Wanted) → May w → is_start w ≡ false
  may_not_start (to_start e) may = absurd may
  may_not_start w may = refl

  -- ---- values

  pub may_give : (w : Wanted) → May w → gives_what_fits p r w ≡ true
  may_give (to_write x ws) may = may.1.1
  may_give (to_send x ws) may = may.2
  may_give (to_publish x ws) may = may.2.1
  may_give (to_publish_all l written ws) may = may.4
  may_give (to_ask q ws) may = may.3
  may_give (to_return code ws) may = may.4
  may_give w may = refl

  elem_short : (x : ℕ) (ws : List ℤ) → elem_takes p x ws ≡ true → nat_le (length ws) 16 ≡ true
  elem_short x ws takes =
      let at = sought p.elements x (λ (e : ElemPlan). are_within (replicate e.words e.limits) ws) takes in
      let count : length ws ≡ at.item.words = as_many (replicate at.item.words at.item.limits) ws at.holds ∙ length-replicate at.item.words at.item.limits in
      let few : nat_le at.item.words 16 ≡ true = (and_parts (nat_le 1 at.item.words) (nat_le at.item.words 16) (and_parts (is_in 1 16 at.item.words) _ (elem_is p m sound x at.item at.found)).0).1 in
      subst (λ n. nat_le n 16 ≡ true) (sym count) few

  words_short : (l written : ℕ) (ws : List ℤ) → list_sound p k.runnable r l ≡ true → elems_take p (marked written (elems_of p l)) ws ≡ true → nat_le (length ws) 16 ≡ true
  words_short l written ws fit takes =
      let xs = marked written (elems_of p l) in
      let count : length ws ≡ words_of_all p xs = as_many (flat_map (limits_at p) xs) ws takes ∙ limits_count p xs in
      let fewer : words_of_all p xs ≤ words_of_all p (elems_of p l) = marked_fewer p written (elems_of p l) in
      let few : words_of_all p (elems_of p l) ≤ 16 = leb-true (words_of_all p (elems_of p l)) 16 (list_short p m sound k.runnable r there l fit) in
      le-leb (length ws) 16 (omega arith)

  point_short : (q : ℕ) (ws : List ℤ) → point_gets p q ws ≡ true → nat_le (length ws) 16 ≡ true
  point_short q ws gets =
      let at = sought p.points q (λ (v : PointPlan). are_within v.ins ws) gets in
      let count : length ws ≡ length at.item.ins = as_many at.item.ins ws at.holds in
      let few : length at.item.ins + length at.item.outs ≤ 16 = leb-true (length at.item.ins + length at.item.outs) 16 (and_parts (nat_le (length at.item.ins + length at.item.outs) 16) _ (point_is p m sound q at.item at.found)).0 in
      le-leb (length ws) 16 (omega arith)

  return_short : (ws : List ℤ) → is_some r.server ≡ true → are_within (argument_limits true (arguments_of p r)) ws ≡ true → nat_le (length ws) 16 ≡ true
  return_short ws some within = by_server r.server refl
    where
      by_server : (o : Option ℕ) → r.server ≡ o → nat_le (length ws) 16 ≡ true
      by_server None is = absurd (true≢false (sym some ∙ ap is_some is))
      by_server (Some n) is =
          let of = server_is p m sound k.runnable r there n is in
          let args = of.server.arguments in
          let count : length ws ≡ length (argument_limits true args) = as_many (argument_limits true args) ws (subst (λ (a : List _). are_within (argument_limits true a) ws ≡ true) of.arguments within) in
          let few : length args ≤ 16 = leb-true (length args) 16 (server_fits of.server of.sound).few in
          let less = arguments_few args in
          le-leb (length ws) 16 (omega arith)

  pub may_be_short : (w : Wanted) → May w → nat_le (length (words_given w)) 16 ≡ true
  may_be_short (to_write x ws) may = elem_short x ws may.1.1
  may_be_short (to_send x ws) may = elem_short x ws may.2
  may_be_short (to_publish x ws) may = elem_short x ws may.2.1
  may_be_short (to_publish_all l written ws) may = words_short l written ws may.2.1 may.4
  may_be_short (to_ask q ws) may = point_short q ws may.3
  may_be_short (to_return code ws) may = return_short ws may.2 may.4
  may_be_short w may = refl

  -- ---- objects

  elem_touches : {X : Type 0} (test : ElemPlan → Bool) (x : ℕ) → elem_fits p (Some r.instance) test x ≡ true → bundle_of p x ≡ None → X
  elem_touches test x fit none = fit_bundled p m sound (Some r.instance) test x fit none

  mapped : {X : Type 0} (o : Option ℕ) (f : ℕ → ℕ) → is_some o ≡ true → option_map f o ≡ None → X
  mapped None f some none = absurd (false≢true some)
  mapped (Some n) f some none = absurd (cc none)

  disabler : is_some (disabling_of p event) ≡ true → is_some (disabler_of p event) ≡ true
  disabler some = of_option (disabling_of p event) some
    where
      of_option : (o : Option Disabling) → is_some o ≡ true → is_some (option_map (λ (d : Disabling). d.machine) o) ≡ true
      of_option None some = some
      of_option (Some d) some = refl

  port_touches : {X : Type 0} (port : ℕ) → look p.mode_ports port (λ (v : ModePortPlan). same_number v.instance (Some r.instance)) false ≡ true → machine_object p (machine_of_port p port) ≡ None → X
  port_touches port fit none =
      let at = sought p.mode_ports port (λ (v : ModePortPlan). same_number v.instance (Some r.instance)) fit in
      absurd (cc (ap (machine_object p) (looked p.mode_ports port at.item (λ (v : ModePortPlan). Some v.machine) None at.found), none))

  served_is : served_by p (Act k) ≡ r.server
  served_is = looked p.runnables k.runnable r (λ (v : Runnable). v.server) None there

  pub may_touch : (w : Wanted) → May w → object_of p (Act k) w ≡ None → (is_of_a_call w || is_the_end w) ≡ true
  may_touch to_tick may none = absurd may
  may_touch (to_start e) may none = absurd may
  may_touch (to_admit e) may none = mapped (disabler_of p e) (λ n. first_machine p + n) (subst (λ n. is_some (disabler_of p n) ≡ true) (sym may.1) (disabler may.3)) none
  may_touch (to_fetch x) may none = elem_touches is_readable x may.1 none
  may_touch (to_write x ws) may none = elem_touches is_writable x may.1.0 none
  may_touch (to_read x) may none = elem_touches is_readable x may.1 none
  may_touch (to_invalidate x) may none = elem_touches (λ e. is_unqueued e && e.provided) x may.1 none
  may_touch (to_see_updated x) may none = elem_touches (λ e. is_unqueued e && not e.provided) x may.1 none
  may_touch (to_send x ws) may none = elem_touches (λ e. is_queued e && e.provided) x may.1 none
  may_touch (to_receive x) may none = elem_touches (λ e. is_queued e && not e.provided) x may.1 none
  may_touch (to_ask q ws) may none = refl
  may_touch (to_hear q) may none = refl
  may_touch (to_take_result q) may none = refl
  may_touch (to_return code ws) may none = mapped (served_by p (Act k)) (λ n. first_server p + n) (ap is_some served_is ∙ may.2) none
  may_touch (to_enter x) may none = absurd (cc none)
  may_touch (to_leave x) may none = absurd (cc none)
  may_touch (to_switch n mode) may none = absurd (cc none)
  may_touch (to_see_mode port) may none = port_touches port may.1 none
  may_touch to_move_on may none = absurd may
  may_touch (to_publish x ws) may none = elem_touches is_writable x may.2.0 none
  may_touch (to_fetch_all l) may none = list_bundled p m sound k.runnable r there l may.1.1 none
  may_touch (to_publish_all l written ws) may none = list_bundled p m sound k.runnable r there l may.2.1 none
  may_touch (to_end e) may none = refl

  -- ---- direct servers

  abbrev calls_none : Runnable → Bool
  calls_none v = list_all (λ (a : AccessSig). not (is_calling a)) v.accesses

  direct_calls_none : (n : ℕ) → r.server ≡ Some n → queue_of p n ≡ None → list_any is_calling r.accesses ≡ false
  direct_calls_none n is direct =
      let of = server_is p m sound k.runnable r there n is in
      let v = of.server in
      let whole : direct_sound p n v ≡ true = at_place (direct_sound p) p.servers n v sound.direct of.there in
      let queue : v.queue ≡ None = sym (looked p.servers n v (λ (w : ServerPlan). w.queue) None of.there) ∙ direct in
      let mine : v.runnable ≡ k.runnable = eqb-true v.runnable k.runnable of.runnable in
      let none : look p.runnables v.runnable calls_none false ≡ true = (and_parts (look p.runnables v.runnable calls_none false) _ (unqueued (is_some v.queue) _ (ap is_some queue) whole)).0 in
      let calls : calls_none r ≡ true = sym (ap (λ i. look p.runnables i calls_none false) mine ∙ looked p.runnables k.runnable r calls_none false there) ∙ none in
      none_of (λ (a : AccessSig). not (is_calling a)) is_calling r.accesses (λ a is. not-true (is_calling a) is) calls
    where
      unqueued : (b c : Bool) → b ≡ false → (b || c) ≡ true → c ≡ true
      unqueued true c never either = absurd (true≢false never)
      unqueued false c never either = either

  pub no_calls : (n : ℕ) → r.server ≡ Some n → queue_of p n ≡ None → (w : Wanted) → May w → is_of_a_call w ≡ false
  no_calls n is direct (to_ask q ws) may = clash (list_any is_calling r.accesses) may.4 (direct_calls_none n is direct)
  no_calls n is direct (to_hear q) may = clash (list_any is_calling r.accesses) may.5 (direct_calls_none n is direct)
  no_calls n is direct (to_take_result q) may = clash (list_any is_calling r.accesses) may.2 (direct_calls_none n is direct)
  no_calls n is direct w may = refl
