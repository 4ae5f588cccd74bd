-- Who wants to hear an answer asked last, and its request is outstanding.
use Rattle.std.proofs.Common.{◌≡◌, ℕ, zero, suc, Bool, true, false, ◌&&◌, ◌||◌, not, ◌==◌, refl, sym, ◌∙◌, ap, subst, List, [], ◌∷◌, ◌++◌, length, Option, Some, None}
use Rattle.bus_semantics.specs.Common.{and_parts, or_left, eq-eqb, eqb-true, false≢true, same_Some, ActKey, same_number, same_key, same_key-Decides, Plan, caller_of, instance_of, Wanted}
use Rattle.bus_semantics.specs.Common.{to_hear, wanted_by, History, noted, is_of, runs, serves_directly, key_fits, own_point, result_point, next_of_activity, Activation, with_deed}
use Rattle.bus_semantics.specs.Common.{activation_of, next_wish, accepted_point, last_deed, asked_last, is_request_at, takes_reply_at, is_outstanding, MayFollow, IsLegal, IsSound}
use Rattle.std.specs.Prelude.{nat_lt}
use Rattle.bus_laws.specs.Common.{PointPlan, Mapping, Actor, Env, Machine, Act, Deed, Entry}
use Rattle.bus_semantics.specs.declared.entries.Deed.TheVariants as deed
use Rattle.history_laws.specs.LookUps.{sought}
use Rattle.history_laws.specs.Wishes.{is_of_a_call, is_awaited}
use Rattle.history_laws.proofs.Asking.{fits, calls_none, accepted, awaited}
use Rattle.bus_laws.proofs.Thinning.{clash, option_same}
use Rattle.history_laws.proofs.Keys.{mine, itself, grown, Alive, alive, alive_next, wish_runs, IsTo, others, starts, goes_on, is_to, runs_other, activation_mine, activation_other}
use Rattle.history_laws.proofs.GoingOn.{acting}

-- ---- the last deed of an activation is the last one of its key

abbrev last_of : List Deed → Option Deed
last_of [] = None
last_of (d ∷ []) = Some d
last_of (d ∷ x ∷ ds) = last_of (x ∷ ds)

last_is : (ds : List Deed) (d : Deed) → last_of (ds ++ d ∷ []) ≡ Some d
last_is [] d = refl
last_is (x ∷ []) d = refl
last_is (x ∷ y ∷ ds) d = last_is (y ∷ ds) d

last_made : (p : Plan) (k : ActKey) (h : History) → IsLegal p h → (b : Activation) → activation_of k h ≡ Some b → (d : Deed) → last_of b.deeds ≡ Some d → last_deed k h ≡ Some d
last_made p k [] legal b is d last = absurd (cc is)
last_made p k (e ∷ h) legal b is d last = by_kind (last_made p k h legal.0) (is_to p k h e legal.1 (alive p k h legal.0))
  where
    by_kind : ((b : Activation) → activation_of k h ≡ Some b → (d : Deed) → last_of b.deeds ≡ Some d → last_deed k h ≡ Some d) → IsTo p k h e → last_deed k (e ∷ h) ≡ Some d
    by_kind before (others other) = rw other (before b (sym (activation_other k e h other) ∙ is) d last)
    by_kind before (starts event point value at own idle runnable asked) =
        let now = sym (ap (λ x. activation_of k (x ∷ h)) at ∙ activation_mine k (deed.Start event point value) h) ∙ is in
        absurd (cc (ap (λ (a : Activation). last_of a.deeds) (same_Some _ b now) ∙ last))
    by_kind before (goes_on at own other running a next) =
        let now = sym (ap (λ x. activation_of k (x ∷ h)) at ∙ activation_mine k e.deed h ∙ ap (with_deed e.deed) a.is ∙ grown e.deed a.activation other) ∙ is in
        let same : e.deed ≡ d = same_Some e.deed d (sym (last_is a.activation.deeds e.deed) ∙ ap (λ (x : Activation). last_of x.deeds) (same_Some _ b now) ∙ last) in
        rw own (ap (λ x. Some x) same)

module _ (p : Plan) (m : Mapping) (sound : IsSound p m) where
  -- who calls serves no direct server, so it has no point of its own
  plain_caller : (j : ActKey) (h : History) (a : Alive p j h) (w : Wanted) → next_of_activity p a.runnable a.activation.event a.activation.start a.activation.deeds ≡ Some w → is_of_a_call w ≡ true → j.point ≡ None
  plain_caller j h a w next call = by_point j.point refl
    where
      by_point : (o : Option ℕ) → j.point ≡ o → o ≡ None
      by_point None is = refl
      by_point (Some t) is =
          let named : key_fits p (record { runnable = j.runnable; point = Some t }) ≡ true = subst (λ (o : Option ℕ). key_fits p (record { runnable = j.runnable; point = o }) ≡ true) is a.key in
          let direct : serves_directly p j ≡ true = (and_parts (serves_directly p j) _ (and_parts (nat_lt j.runnable (length p.runnables)) _ named).1).0 in
          clash (is_of_a_call w) call (calls_none p m j a.runnable a.activation.event (acting p m j h sound a) a.activation.start a.activation.deeds w next direct)

  -- ---- nobody else takes the reply

  module _ (k : ActKey) (plain : k.point ≡ None) (q : ℕ) (calls : caller_of p q ≡ Some k.runnable) (waits : is_awaited p q ≡ true) where
    not_taken : (h : History) (a : Actor) (d : Deed) → IsLegal p h → MayFollow p h (record { actor = a; deed = d }) → is_of k (record { actor = a; deed = d }) ≡ false → takes_reply_at q d ≡ true → false ≡ true
    not_taken h a (deed.Answer r code value) legal may other takes = by_actor a may other
      where
        same : q ≡ r
        same = eqb-true q r takes

        by_kind : (j : ActKey) → j.runnable ≡ k.runnable → IsTo p j h (mine j (deed.Answer r code value)) → same_key k j ≡ true
        by_kind j runnable (others apart) = absurd (false≢true (sym apart ∙ itself j))
        by_kind j runnable (starts event point held is own idle runnable_is asked) = absurd (cc (ap (λ (z : Entry). z.deed) is))
        by_kind j runnable (goes_on is own begun running a next) =
            let points : k.point ≡ j.point = plain ∙ sym (plain_caller j h a (wanted_by a.activation.event (deed.Answer r code value)) next refl) in
            (same_key-Decides k j).1 (λ i. record { runnable = sym runnable i; point = points i })

        by_actor : (a : Actor) → MayFollow p h (record { actor = a; deed = deed.Answer r code value }) → is_of k (record { actor = a; deed = deed.Answer r code value }) ≡ false → false ≡ true
        by_actor Env may other = may.fit
        by_actor (Machine n) may other = (and_parts (nat_lt n (length p.machines)) false (and_parts (nat_lt n (length p.machines) && false) true may.fit).0).1
        by_actor (Act j) may other =
            let both = and_parts (key_fits p j) (own_point p (Some j.runnable) r) (and_parts (key_fits p j && own_point p (Some j.runnable) r) true may.fit).0 in
            let own : same_number (caller_of p r) (Some j.runnable) ≡ true = (and_parts (nat_lt r (length p.points)) (same_number (caller_of p r) (Some j.runnable)) both.1).1 in
            let runnable : j.runnable ≡ k.runnable = same_Some j.runnable k.runnable (sym (option_same (caller_of p r) (Some j.runnable) own) ∙ sym (ap (caller_of p) same) ∙ calls) in
            sym other ∙ by_kind j runnable (is_to p j h (mine j (deed.Answer r code value)) may (alive p j h legal))
    not_taken h a (deed.TakeResult r code value) legal may other takes = by_actor a may
      where
        same : q ≡ r
        same = eqb-true q r (and_parts (q == r) (nat_lt code 64) takes).0

        by_actor : (a : Actor) → MayFollow p h (record { actor = a; deed = deed.TakeResult r code value }) → false ≡ true
        by_actor Env may =
            let own = (and_parts (own_point p None r) true may.fit).0 in
            let none : same_number (caller_of p r) None ≡ true = (and_parts (nat_lt r (length p.points)) (same_number (caller_of p r) None) own).1 in
            absurd (cc (sym calls ∙ ap (caller_of p) same ∙ option_same (caller_of p r) None none))
        by_actor (Machine n) may = (and_parts (nat_lt n (length p.machines)) false (and_parts (nat_lt n (length p.machines) && false) true may.fit).0).1
        by_actor (Act j) may =
            let home = instance_of p j.runnable in
            let result : result_point p home q ≡ true = subst (λ z. result_point p home z ≡ true) (sym same) (and_parts (key_fits p j) (result_point p home r) (and_parts (key_fits p j && result_point p home r) true may.fit).0).1 in
            let one = sought p.points q _ result in
            let two = sought p.points q (λ (t : PointPlan). not t.asynchronous) waits in
            let item : one.item ≡ two.item = same_Some one.item two.item (sym one.found ∙ two.found) in
            let late : one.item.asynchronous ≡ true = (and_parts one.item.asynchronous _ one.holds).0 in
            sym (ap not (ap (λ (t : PointPlan). t.asynchronous) (sym item) ∙ late)) ∙ two.holds
    not_taken h a d legal may other takes = takes

    outstanding : (h : History) → IsLegal p h → runs k h ≡ true → asked_last k h ≡ Some q → is_outstanding q (noted h) ≡ true
    outstanding [] legal running asked = absurd (false≢true running)
    outstanding (x ∷ h) legal running asked = by_own (outstanding h legal.0) (is_of k x) refl
      where
        just_asked : (d : Deed) → accepted_point d ≡ Some q → is_request_at q d ≡ true
        just_asked (deed.Ask r value zero) e = eq-eqb q r (sym (same_Some r q e))
        just_asked (deed.Ask r value (suc code)) e = absurd (cc e)
        just_asked d e = absurd (cc e)

        kept : (b c o : Bool) → (c ≡ true → false ≡ true) → o ≡ true → (b || (not c && o)) ≡ true
        kept true c o none is = refl
        kept false true o none is = none refl
        kept false false o none is = is

        by_own : (runs k h ≡ true → asked_last k h ≡ Some q → is_outstanding q (noted h) ≡ true) → (b : Bool) → is_of k x ≡ b → is_outstanding q (noted (x ∷ h)) ≡ true
        by_own before true own = or_left (is_request_at q x.deed) _ (just_asked x.deed (rw own at asked))
        by_own before false other =
            kept (is_request_at q x.deed) (takes_reply_at q x.deed) (is_outstanding q (noted h)) (not_taken h x.actor x.deed legal.0 legal.1 other)
            (before (sym (runs_other k x h other) ∙ running) (rw other at asked))

pub has_asked : (p : Plan) (m : Mapping) (h : History) (k : ActKey) (point : ℕ) → IsSound p m → IsLegal p h → next_wish p h k ≡ Some (to_hear point) → asked_last k h ≡ Some point
has_asked p m h k q sound legal next =
    let running = wish_runs p k h (to_hear q) next in
    let a = alive p k h legal running in
    let asks = sym (alive_next p k h running a) ∙ next in
    let just = accepted p m k a.runnable a.activation.event (acting p m k h sound a) a.activation.start a.activation.deeds a.followed q asks in
    let last : last_deed k h ≡ Some (deed.Ask q just.value 0) = last_made p k h legal a.activation a.is (deed.Ask q just.value 0) (ap last_of just.last ∙ last_is just.before (deed.Ask q just.value 0)) in
    rw last refl

pub still_outstanding : (p : Plan) (m : Mapping) (h : History) (k : ActKey) (point : ℕ) → IsSound p m → IsLegal p h → next_wish p h k ≡ Some (to_hear point) → is_outstanding point (noted h) ≡ true
still_outstanding p m h k q sound legal next =
    let running = wish_runs p k h (to_hear q) next in
    let a = alive p k h legal running in
    let asks = sym (alive_next p k h running a) ∙ next in
    let of = acting p m k h sound a in
    let fit = fits p m k a.runnable a.activation.event of a.activation.start a.activation.deeds (to_hear q) asks in
    let own = (and_parts (key_fits p k) (own_point p (Some k.runnable) q) fit).1 in
    let calls = option_same (caller_of p q) (Some k.runnable) (and_parts (nat_lt q (length p.points)) (same_number (caller_of p q) (Some k.runnable)) own).1 in
    outstanding p m sound k (plain_caller p m sound k h a (to_hear q) asks refl) q calls
    (awaited p m k a.runnable a.activation.event of a.activation.start a.activation.deeds q asks) h legal running (has_asked p m h k q sound legal next)
