-- What is so after an accepted ask of an activation: its point has a server, and the request is not taken while the activation waits.
use Rattle.std.proofs.Common.{◌≡◌, ℕ, zero, ℤ, Bool, true, false, ◌&&◌, not, ◌==◌, refl, sym, ◌∙◌, ap, subst, List, [], ◌∷◌, length, nat_lt, Option, Some, None}
use Rattle.bus_semantics.specs.Common.{slice_get, and_from, and_parts, or_left, or_right, eqb-true, eq-eqb, false≢true, same_Some, ActKey, Value, words_of, same_number, same_key-Decides}
use Rattle.bus_semantics.specs.Common.{Plan, server_of, caller_of, instance_of, Wanted, to_ask, to_hear, to_take_result, same_wanted, History, is_of, runs, noted, serves_directly, key_fits}
use Rattle.bus_semantics.specs.Common.{own_point, result_point, wish_fits, fits, is_request_at, takes_reply_at, is_outstanding, IsLegal, MayFollow, next_wish, accepted_point, asked_last}
use Rattle.bus_semantics.specs.Common.{is_held_back, is_this, starts_or_goes_on, IsSound}
use Rattle.bus_laws.specs.Common.{PointPlan, Mapping, Actor, Env, Machine, Act, Deed, Entry}
use Rattle.bus_semantics.specs.declared.entries.Deed.TheVariants as deed
use Rattle.bus_laws.proofs.Thinning.{option_same}
use Rattle.history_laws.specs.Followed.{IsActivation}
use Rattle.history_laws.specs.Wishes.{is_of_a_call, is_awaited}
use Rattle.history_laws.specs.Running.{GoesOn}
use Rattle.no_stall.proofs.Premises.{Laws}
use Rattle.no_stall.proofs.Keys.{IsDirect, Shape, plain, direct, shape, is_direct}

ask_is_call : (q : ℕ) (ws : List ℤ) (w : Wanted) → same_wanted (to_ask q ws) w ≡ true → is_of_a_call w ≡ true
ask_is_call q ws (to_ask r us) e = refl
ask_is_call q ws w e = absurd (false≢true e)

module _ (p : Plan) (m : Mapping) (sound : IsSound p m) (laws : Laws p m) where
  pub activity : (h : History) (k : ActKey) (g : GoesOn p h k) → IsActivation p m k g.runnable g.activation.event
  activity h k g = record { sound = sound; key = g.key; runnable = g.found; starts = g.own }

  -- what was wanted is what the activation wanted next
  pub record WasNext (h : History) (k : ActKey) (v : Wanted) : Type 0 where
    pub goes : GoesOn p h k
    pub same : same_wanted v goes.wish ≡ true
    pub running : runs k h ≡ true

  pub was_next : (h : History) (k : ActKey) (v : Wanted) → IsLegal p h → is_this v (next_wish p h k) ≡ true → WasNext h k v
  was_next h k v legal e = by_wish (next_wish p h k) refl e
    where
      by_run : (w : Wanted) → next_wish p h k ≡ Some w → same_wanted v w ≡ true → (b : Bool) → runs k h ≡ b → WasNext h k v
      by_run w next same false off = let none = rw off at next in absurd (cc none)
      by_run w next same true on = let g = laws.going h k legal on in
          record { goes = g; same = subst (λ u. same_wanted v u ≡ true) (same_Some w g.wish (sym next ∙ g.next)) same; running = on }

      by_wish : (o : Option Wanted) → next_wish p h k ≡ o → is_this v o ≡ true → WasNext h k v
      by_wish None is e = absurd (false≢true e)
      by_wish (Some w) is e = by_run w is e (runs k h) refl

  -- who made an accepted ask at a point
  pub record HasAsked (q : ℕ) (k : ActKey) : Type 0 where
    pub server : ℕ
    pub joined : server_of p q ≡ Some server
    pub own : caller_of p q ≡ Some k.runnable
    pub fits : key_fits p k ≡ true
    pub plain : serves_directly p k ≡ false

  ask_entry : (h : History) → IsLegal p h → (k : ActKey) (q : ℕ) (value : Value) → MayFollow p h (record { actor = Act k; deed = deed.Ask q value 0 }) → HasAsked q k
  ask_entry h legal k q value may = by_server (server_of p q) refl
    where
      wish : (key_fits p k ≡ true) × (own_point p (Some k.runnable) q ≡ true)
      wish = and_parts (key_fits p k) (own_point p (Some k.runnable) q) (and_parts (key_fits p k && own_point p (Some k.runnable) q) true may.fit).0

      next : WasNext h k (to_ask q (words_of value))
      next = was_next h k (to_ask q (words_of value)) legal (and_parts (starts_or_goes_on p h k (deed.Ask q value 0)) (not (is_held_back p h k)) may.actor).0

      callless : (b : Bool) → serves_directly p k ≡ b → serves_directly p k ≡ false
      callless false is = is
      callless true is = let g = next.goes in
          absurd (false≢true (sym (laws.callless k g.runnable g.activation.event g.activation.start g.activation.deeds g.wish (activity h k g) is g.asks.next) ∙ ask_is_call q (words_of value) g.wish next.same))

      by_server : (o : Option ℕ) → server_of p q ≡ o → HasAsked q k
      by_server None none = let code : (0 == 134) ≡ true = rw none at may.answers.calls in absurd (false≢true code)
      by_server (Some s) some = record {
        server = s;
        joined = some;
        own = option_same (caller_of p q) (Some k.runnable) (and_parts (nat_lt q (length p.points)) (same_number (caller_of p q) (Some k.runnable)) wish.1).1;
        fits = wish.0;
        plain = callless (serves_directly p k) refl;
      }

  -- an entry of the key that is an accepted ask at the point
  pub record IsAsk (h : History) (k : ActKey) (q : ℕ) (a : Actor) (d : Deed) : Type 0 where
    pub value : Value
    pub deed_is : d ≡ deed.Ask q value 0
    pub asked : HasAsked q k

  pub is_ask : (h : History) → IsLegal p h → (k : ActKey) (q : ℕ) (a : Actor) (d : Deed) (e : Entry) → MayFollow p h (record { actor = a; deed = d }) → is_of k (record { actor = a; deed = d }) ≡ true → accepted_point d ≡ Some q → IsAsk h k q a d
  is_ask h legal k q (Act j) (deed.Ask r value zero) e may own is =
      let key : k ≡ j = (same_key-Decides k j).0 own in
      let point : r ≡ q = cc is in
      record {
        value = value;
        deed_is = ap (λ x. deed.Ask x value 0) point;
        asked = subst (λ x. HasAsked x k) point (subst (HasAsked r) (sym key) (ask_entry h legal j r value may));
      }
  is_ask h legal k q Env d e may own is = absurd (false≢true own)
  is_ask h legal k q (Machine i) d e may own is = absurd (false≢true own)
  is_ask h legal k q (Act j) d e may own is = absurd (cc is)

  pub asked : (h : History) → IsLegal p h → (k : ActKey) (q : ℕ) → asked_last k h ≡ Some q → HasAsked q k
  asked [] legal k q e = absurd (cc e)
  asked (e ∷ h) legal k q is = by_own (asked h legal.0 k q) (is_of k e) refl
    where
      by_own : (asked_last k h ≡ Some q → HasAsked q k) → (b : Bool) → is_of k e ≡ b → HasAsked q k
      by_own before true own = let point : accepted_point e.deed ≡ Some q = rw own at is in (is_ask h legal.0 k q e.actor e.deed e legal.1 own point).asked
      by_own before false other = before (rw other at is)

  -- ---- a caller that waits: its request is not taken

  sole : (q : ℕ) (k j : ActKey) → HasAsked q k → key_fits p j ≡ true → caller_of p q ≡ Some j.runnable → k ≡ j
  sole q k j has fit own =
      let runnables : k.runnable ≡ j.runnable = same_Some k.runnable j.runnable (sym has.own ∙ own) in
      by_shape (shape p m sound k has.fits) (shape p m sound j fit) runnables
    where
      clash : {X : Type 0} (i : ActKey) (r : ℕ) → IsDirect p r i → serves_directly p i ≡ false → X
      clash i r of no_server = absurd (false≢true (sym no_server ∙ direct_serves r i of))
        where
          direct_serves : (r : ℕ) (i : ActKey) → IsDirect p r i → serves_directly p i ≡ true
          direct_serves r i of = is_direct p m sound r i of

      by_shape : Shape p m sound k → Shape p m sound j → k.runnable ≡ j.runnable → k ≡ j
      by_shape (direct r of) other same = clash k r of has.plain
      by_shape (plain is no_server) (direct r of) same = clash j r of (subst (λ (n : ℕ). serves_directly p (record { runnable = n; point = j.point }) ≡ false) same has.plain)
      by_shape (plain is no_server) (plain its none) same = sym is ∙ ap (λ (n : ℕ). record { runnable = n; point = None }) same ∙ its

  -- nobody but the caller takes a reply at a point whose caller waits
  untaken : (q : ℕ) (k : ActKey) → HasAsked q k → is_awaited p q ≡ true → (a : Actor) (d : Deed) → fits p (record { actor = a; deed = d }) ≡ true → is_of k (record { actor = a; deed = d }) ≡ false → takes_reply_at q d ≡ false
  untaken q k has waits a (deed.Answer r code value) fit other = by_point (q == r) refl
    where
      wish : wish_fits p a (to_hear r) ≡ true
      wish = (and_parts (wish_fits p a (to_hear r)) true fit).0

      by_actor : (b : Actor) → wish_fits p b (to_hear r) ≡ true → is_of k (record { actor = b; deed = deed.Answer r code value }) ≡ false → q ≡ r → (q == r) ≡ false
      by_actor Env w other same = absurd (false≢true w)
      by_actor (Machine i) w other same = absurd (false≢true (and_parts (nat_lt i (length p.machines)) false w).1)
      by_actor (Act j) w other same =
          let parts = and_parts (key_fits p j) (own_point p (Some j.runnable) r) w in
          let caller : caller_of p r ≡ Some j.runnable = option_same (caller_of p r) (Some j.runnable) (and_parts (nat_lt r (length p.points)) (same_number (caller_of p r) (Some j.runnable)) parts.1).1 in
          let key : k ≡ j = sole q k j has parts.0 (subst (λ x. caller_of p x ≡ Some j.runnable) (sym same) caller) in
          absurd (false≢true (sym other ∙ (same_key-Decides k j).1 key))

      by_point : (b : Bool) → (q == r) ≡ b → (q == r) ≡ false
      by_point false is = is
      by_point true is = by_actor a wish other (eqb-true q r is)
  untaken q k has waits a (deed.TakeResult r code value) fit other = by_point (q == r) refl
    where
      wish : wish_fits p a (to_take_result r) ≡ true
      wish = (and_parts (wish_fits p a (to_take_result r)) true fit).0

      by_plan : (o : Option PointPlan) (home : Option ℕ) → slice_get p.points q ≡ o → is_awaited p q ≡ true → result_point p home q ≡ true → ⊥
      by_plan None home there w result = absurd (false≢true (rw there at w))
      by_plan (Some t) home there w result = by_way t.asynchronous refl
        where
          by_way : (b : Bool) → t.asynchronous ≡ b → ⊥
          by_way true is = let none : not true ≡ true = rw (there, is) at w in absurd (false≢true none)
          by_way false is = let none = rw (there, is) at result in absurd (false≢true none)

      by_actor : (b : Actor) → wish_fits p b (to_take_result r) ≡ true → q ≡ r → (q == r) ≡ false
      by_actor Env w same =
          let caller : caller_of p r ≡ None = option_same (caller_of p r) None (and_parts (nat_lt r (length p.points)) (same_number (caller_of p r) None) w).1 in
          let none : Some k.runnable ≡ None = sym has.own ∙ subst (λ x. caller_of p x ≡ None) (sym same) caller in absurd (cc none)
      by_actor (Machine i) w same = absurd (false≢true (and_parts (nat_lt i (length p.machines)) false w).1)
      by_actor (Act j) w same = absurd (by_plan (slice_get p.points q) (instance_of p j.runnable) refl waits
          (subst (λ x. result_point p (instance_of p j.runnable) x ≡ true) (sym same) (and_parts (key_fits p j) (result_point p (instance_of p j.runnable) r) w).1))

      by_point : (b : Bool) → (q == r) ≡ b → ((q == r) && nat_lt code 64) ≡ false
      by_point false is = rw is refl
      by_point true is = rw (by_actor a wish (eqb-true q r is)) refl
  untaken q k has waits a d fit other = refl

  pub outstanding : (h : History) → IsLegal p h → (k : ActKey) (q : ℕ) → is_awaited p q ≡ true → asked_last k h ≡ Some q → is_outstanding q (noted h) ≡ true
  outstanding [] legal k q waits e = absurd (cc e)
  outstanding (e ∷ h) legal k q waits is = by_own (outstanding h legal.0 k q waits) (is_of k e) refl
    where
      by_own : (asked_last k h ≡ Some q → is_outstanding q (noted h) ≡ true) → (b : Bool) → is_of k e ≡ b → is_outstanding q (noted (e ∷ h)) ≡ true
      by_own before true own =
          let point : accepted_point e.deed ≡ Some q = rw own at is in
          let ask = is_ask h legal.0 k q e.actor e.deed e legal.1 own point in
          let request : is_request_at q e.deed ≡ true = ap (is_request_at q) ask.deed_is ∙ eq-eqb q q refl in
          or_left (is_request_at q e.deed) (not (takes_reply_at q e.deed) && is_outstanding q (noted h)) request
      by_own before false other =
          let so_far : asked_last k h ≡ Some q = rw other at is in
          or_right (is_request_at q e.deed) (not (takes_reply_at q e.deed) && is_outstanding q (noted h))
          (and_from (not (takes_reply_at q e.deed)) (is_outstanding q (noted h)) (ap not (untaken q k (asked h legal.0 k q so_far) waits e.actor e.deed legal.1.fit other)) (before so_far))
