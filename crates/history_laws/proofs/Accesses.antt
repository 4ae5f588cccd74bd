-- What the accesses of a runnable of a sound plan let its statements ask.
use Rattle.std.proofs.Common.{◌≡◌, ℕ, ◌+◌, ℤ, Bool, true, false, ◌&&◌, ◌||◌, not, ◌==◌, if◌then◌else◌, refl, sym, ◌∙◌, ap, subst, arith, List, length, map, replicate, Option, Some, None}
use Rattle.std.specs.Prelude.{nat_lt, nat_le}
use Rattle.bus_semantics.specs.Common.{list_all, list_any, slice_get, and_from, and_parts, or_left, or_right, eqb-true, false≢true, nat_tests, length-map, Limits, same_number, AccessKind}
use Rattle.bus_semantics.specs.Common.{AccessSig, is_at, counts, ExprTree, worth, Plan, Runnable, caller_of, elem_fits, is_writable, is_readable, is_unqueued, is_queued, own_point}
use Rattle.bus_semantics.specs.Common.{result_point, State, Access, access, given, same_kind, elem_sound, limits_fit, same_limits, is_in, is_variable, access_sound, each_access}
use Rattle.bus_semantics.specs.Common.{accesses_distinct, areas_rise, rises_to, point_takes, mode_count, points_fit, runnable_sound, IsSound}
use Rattle.runnable_lang.specs.declared.program.AccessKind.TheVariants as kind
use Rattle.runnable_lang.specs.Accesses.{serves}
use Rattle.bus_laws.specs.Common.{ElemPlan, ElemKind, Unqueued, Queued, Variable, PointPlan, Mapping}
use Rattle.bus_semantics.specs.SoundAccesses as accesses
use Rattle.history_laws.specs.Given.{are_within, elem_takes, point_gets}
use Rattle.history_laws.specs.Wishes.{is_awaited}
use Rattle.history_laws.specs.LookUps.{sought, looked, looks, all_at, at_place, all_same, any_of}
use Rattle.history_laws.proofs.Served.{served, sound_of_kind, of_serves}
use Rattle.history_laws.proofs.Words.{given_within}
use Rattle.history_laws.proofs.Asked.{is_calling, Calls, IsWritten}

-- ---- elements

abbrev of_kind : ElemPlan → ElemKind → ElemPlan
of_kind e k = record e { kind = k }

unqueued_writes : (e : ElemPlan) (k : ElemKind) → is_unqueued (of_kind e k) ≡ true → e.provided ≡ true → is_writable (of_kind e k) ≡ true
unqueued_writes e Unqueued is provided = provided
unqueued_writes e Queued is provided = absurd (false≢true is)
unqueued_writes e Variable is provided = absurd (false≢true is)

unqueued_reads : (e : ElemPlan) (k : ElemKind) → is_unqueued (of_kind e k) ≡ true → not e.provided ≡ true → is_readable (of_kind e k) ≡ true
unqueued_reads e Unqueued is required = required
unqueued_reads e Queued is required = absurd (false≢true is)
unqueued_reads e Variable is required = absurd (false≢true is)

variable_writes : (e : ElemPlan) (k : ElemKind) → is_variable (of_kind e k) ≡ true → is_writable (of_kind e k) ≡ true
variable_writes e Unqueued is = absurd (false≢true is)
variable_writes e Queued is = absurd (false≢true is)
variable_writes e Variable is = refl

variable_reads : (e : ElemPlan) (k : ElemKind) → is_variable (of_kind e k) ≡ true → is_readable (of_kind e k) ≡ true
variable_reads e Unqueued is = absurd (false≢true is)
variable_reads e Queued is = absurd (false≢true is)
variable_reads e Variable is = refl

-- what holds of an element may be had from what held of it
pub fits_on : (p : Plan) (home : Option ℕ) (f g : ElemPlan → Bool) (x : ℕ) → elem_fits p home f x ≡ true → ((e : ElemPlan) → slice_get p.elements x ≡ Some e → f e ≡ true → g e ≡ true) → elem_fits p home g x ≡ true
fits_on p home f g x fit on =
    let at = sought p.elements x (λ (e : ElemPlan). same_number e.instance home && f e) fit in
    let parts = and_parts (same_number at.item.instance home) (f at.item) at.holds in
    looks p.elements x at.item (λ (e : ElemPlan). same_number e.instance home && g e) at.found (and_from (same_number at.item.instance home) (g at.item) parts.0 (on at.item at.found parts.1))

writable : (p : Plan) (home : Option ℕ) (x : ℕ) → elem_fits p home (λ e. is_unqueued e && e.provided) x ≡ true → elem_fits p home is_writable x ≡ true
writable p home x fit = fits_on p home (λ e. is_unqueued e && e.provided) is_writable x fit (λ e at is. let parts = and_parts (is_unqueued e) e.provided is in unqueued_writes e e.kind parts.0 parts.1)

variable_writable : (p : Plan) (home : Option ℕ) (x : ℕ) → elem_fits p home is_variable x ≡ true → elem_fits p home is_writable x ≡ true
variable_writable p home x fit = fits_on p home is_variable is_writable x fit (λ e at is. variable_writes e e.kind is)

pub readable : (p : Plan) (home : Option ℕ) (x : ℕ) → elem_fits p home (λ e. is_unqueued e && not e.provided) x ≡ true → elem_fits p home is_readable x ≡ true
readable p home x fit = fits_on p home (λ e. is_unqueued e && not e.provided) is_readable x fit (λ e at is. let parts = and_parts (is_unqueued e) (not e.provided) is in unqueued_reads e e.kind parts.0 parts.1)

pub variable_readable : (p : Plan) (home : Option ℕ) (x : ℕ) → elem_fits p home is_variable x ≡ true → elem_fits p home is_readable x ≡ true
variable_readable p home x fit = fits_on p home is_variable is_readable x fit (λ e at is. variable_reads e e.kind is)

-- ---- a plan that is sound

module _ (p : Plan) (m : Mapping) (sound : IsSound p m) where
  pub elem_is : (x : ℕ) (e : ElemPlan) → slice_get p.elements x ≡ Some e → elem_sound e ≡ true
  elem_is x e at = all_at elem_sound p.elements x e sound.elements at

  elem_limits : (x : ℕ) (e : ElemPlan) → slice_get p.elements x ≡ Some e → limits_fit e.limits ≡ true
  elem_limits x e at = (and_parts (limits_fit e.limits) _ (and_parts (is_in 1 16 e.words) _ (elem_is x e at)).1).0

  abbrev few : PointPlan → Bool
  few t = nat_le (length t.ins + length t.outs) 16 && (list_all limits_fit t.ins && list_all limits_fit t.outs)

  pub point_is : (q : ℕ) (t : PointPlan) → slice_get p.points q ≡ Some t → few t ≡ true
  point_is q t at = (and_parts (few t) _ (all_at (λ (t : PointPlan). few t && _) p.points q t (and_parts _ _ sound.operations).1 at)).0

  module _ (i : ℕ) (r : Runnable) (there : slice_get p.runnables i ≡ Some r) where
    pub whole : runnable_sound p i r ≡ true
    whole = at_place (runnable_sound p) p.runnables i r sound.runnables there

    pub accesses_sound : each_access (access_sound p i (Some r.instance)) r.accesses r.targets ≡ true
    accesses_sound = (and_parts (each_access (access_sound p i (Some r.instance)) r.accesses r.targets) _ whole).0

    apart : (accesses_distinct r.accesses && areas_rise r.accesses r.targets) ≡ true
    apart = (and_parts (accesses_distinct r.accesses && areas_rise r.accesses r.targets) _ (and_parts (each_access (access_sound p i (Some r.instance)) r.accesses r.targets) _ whole).1).0

    pub distinct : accesses_distinct r.accesses ≡ true
    distinct = (and_parts (accesses_distinct r.accesses) (areas_rise r.accesses r.targets) apart).0

    pub rising : areas_rise r.accesses r.targets ≡ true
    rising = (and_parts (accesses_distinct r.accesses) (areas_rise r.accesses r.targets) apart).1

    -- the access of a statement: it is sound, its limits are those of what is given, and there are as many
    pub record Target (k : AccessKind) (port item : ℕ) (values : Option ℕ) : Type 0 where
      pub sig : AccessSig
      pub is : access_sound p i (Some r.instance) (record { kind = k; port = sig.port; item = sig.item; ins = sig.ins; outs = sig.outs; modes = sig.modes }) (access r k port item).target ≡ true
      pub ins : (access r k port item).ins ≡ sig.ins
      pub many : counts values (length sig.ins) ≡ true

    pub target : (k : AccessKind) (port item : ℕ) (values vars : Option ℕ) → list_any (serves k port item values vars) r.accesses ≡ true → Target k port item values
    target k port item values vars has =
        let s = served (access_sound p i (Some r.instance)) k port item (serves k port item values vars) (of_serves k port item values vars) r.accesses r.targets accesses_sound distinct has in
        let tests = and_parts (is_at k port s.sig && (s.sig.item == item)) (counts values (length s.sig.ins) && counts vars (length s.sig.outs)) s.serves in
        record {
          sig = s.sig;
          is = sound_of_kind p i (Some r.instance) s.sig k (access r k port item).target s.kind s.sound;
          ins = s.ins;
          many = (and_parts (counts values (length s.sig.ins)) (counts vars (length s.sig.outs)) tests.1).0;
        }

    -- ---- what is given

    given_fits : (a : Access) (es : List ExprTree) (s : State) (ls bs : List Limits) → a.ins ≡ ls → (length es == length ls) ≡ true → same_limits ls bs ≡ true → list_all limits_fit bs ≡ true → are_within bs (given a es s) ≡ true
    given_fits a es s ls bs ins many same fit =
        let count : length es ≡ length ls = eqb-true (length es) (length ls) many in
        let words : length (map (worth s.vars) es) ≡ length a.ins = length-map es (worth s.vars) ∙ count ∙ ap length (sym ins) in
        given_within a.ins bs (map (worth s.vars) es) (subst (λ l. same_limits l bs ≡ true) (sym ins) same) words fit

    takes_given : (x : ℕ) (a : Access) (es : List ExprTree) (s : State) (ls : List Limits) → accesses.takes_words p x ls ≡ true → a.ins ≡ ls → (length es == length ls) ≡ true → elem_takes p x (given a es s) ≡ true
    takes_given x a es s ls takes ins many =
        let at = sought p.elements x (λ (e : ElemPlan). same_limits ls (replicate e.words e.limits)) takes in
        looks p.elements x at.item (λ (e : ElemPlan). are_within (replicate e.words e.limits) (given a es s)) at.found
        (given_fits a es s ls (replicate at.item.words at.item.limits) ins many at.holds (all_same limits_fit at.item.limits at.item.words (elem_limits x at.item at.found)))

    written : (x : ℕ) (a : Access) (es : List ExprTree) (s : State) (ls : List Limits) → (elem_fits p (Some r.instance) (λ e. is_unqueued e && e.provided) x && accesses.takes_words p x ls) ≡ true
        → a.ins ≡ ls → (length es == length ls) ≡ true → IsWritten p r x (given a es s)
    written x a es s ls is ins many =
        let parts = and_parts (elem_fits p (Some r.instance) (λ e. is_unqueued e && e.provided) x) (accesses.takes_words p x ls) is in
        (writable p (Some r.instance) x parts.0, takes_given x a es s ls parts.1 ins many)

    variable_written : (x : ℕ) (a : Access) (es : List ExprTree) (s : State) (ls : List Limits) → (elem_fits p (Some r.instance) is_variable x && accesses.takes_words p x ls) ≡ true
        → a.ins ≡ ls → (length es == length ls) ≡ true → IsWritten p r x (given a es s)
    variable_written x a es s ls is ins many =
        let parts = and_parts (elem_fits p (Some r.instance) is_variable x) (accesses.takes_words p x ls) is in
        (variable_writable p (Some r.instance) x parts.0, takes_given x a es s ls parts.1 ins many)

    pub writes_may : (port item : ℕ) (es : List ExprTree) (s : State) → list_any (serves kind.Write port item (Some (length es)) None) r.accesses ≡ true
        → IsWritten p r (access r kind.Write port item).target (given (access r kind.Write port item) es s)
    writes_may port item es s has = let t = target kind.Write port item (Some (length es)) None has in written _ (access r kind.Write port item) es s t.sig.ins t.is t.ins t.many

    pub late_may : (port item : ℕ) (es : List ExprTree) (s : State) → list_any (serves kind.IWrite port item (Some (length es)) None) r.accesses ≡ true
        → IsWritten p r (access r kind.IWrite port item).target (given (access r kind.IWrite port item) es s)
    late_may port item es s has = let t = target kind.IWrite port item (Some (length es)) None has in written _ (access r kind.IWrite port item) es s t.sig.ins t.is t.ins t.many

    pub variable_may : (item : ℕ) (es : List ExprTree) (s : State) → list_any (serves kind.IrvWrite 0 item (Some (length es)) None) r.accesses ≡ true
        → IsWritten p r (access r kind.IrvWrite 0 item).target (given (access r kind.IrvWrite 0 item) es s)
    variable_may item es s has = let t = target kind.IrvWrite 0 item (Some (length es)) None has in variable_written _ (access r kind.IrvWrite 0 item) es s t.sig.ins t.is t.ins t.many

    pub variable_late_may : (item : ℕ) (es : List ExprTree) (s : State) → list_any (serves kind.IrvIWrite 0 item (Some (length es)) None) r.accesses ≡ true
        → IsWritten p r (access r kind.IrvIWrite 0 item).target (given (access r kind.IrvIWrite 0 item) es s)
    variable_late_may item es s has = let t = target kind.IrvIWrite 0 item (Some (length es)) None has in variable_written _ (access r kind.IrvIWrite 0 item) es s t.sig.ins t.is t.ins t.many

    pub sends_may : (port item : ℕ) (es : List ExprTree) (s : State) → list_any (serves kind.Send port item (Some (length es)) None) r.accesses ≡ true
        → (elem_fits p (Some r.instance) (λ e. is_queued e && e.provided) (access r kind.Send port item).target ≡ true) × (elem_takes p (access r kind.Send port item).target (given (access r kind.Send port item) es s) ≡ true)
    sends_may port item es s has =
        let x = (access r kind.Send port item).target in
        let t = target kind.Send port item (Some (length es)) None has in
        let parts = and_parts (elem_fits p (Some r.instance) (λ e. is_queued e && e.provided) x) (accesses.takes_words p x t.sig.ins) t.is in
        (parts.0, takes_given x (access r kind.Send port item) es s t.sig.ins parts.1 t.ins t.many)

    -- ---- what is taken

    pub reads_may : (port item : ℕ) (vs : List ℕ) → list_any (serves kind.Read port item None (Some (length vs))) r.accesses ≡ true → elem_fits p (Some r.instance) is_readable (access r kind.Read port item).target ≡ true
    reads_may port item vs has =
        let x = (access r kind.Read port item).target in
        let t = target kind.Read port item None (Some (length vs)) has in
        readable p (Some r.instance) x (and_parts (elem_fits p (Some r.instance) (λ e. is_unqueued e && not e.provided) x) (accesses.takes_words p x t.sig.outs) t.is).0

    pub variable_reads_may : (item : ℕ) (vs : List ℕ) → list_any (serves kind.IrvRead 0 item None (Some (length vs))) r.accesses ≡ true → elem_fits p (Some r.instance) is_readable (access r kind.IrvRead 0 item).target ≡ true
    variable_reads_may item vs has =
        let x = (access r kind.IrvRead 0 item).target in
        let t = target kind.IrvRead 0 item None (Some (length vs)) has in
        variable_readable p (Some r.instance) x (and_parts (elem_fits p (Some r.instance) is_variable x) (accesses.takes_words p x t.sig.outs) t.is).0

    pub receives_may : (port item : ℕ) (vs : List ℕ) → list_any (serves kind.Receive port item None (Some (length vs))) r.accesses ≡ true
        → elem_fits p (Some r.instance) (λ e. is_queued e && not e.provided) (access r kind.Receive port item).target ≡ true
    receives_may port item vs has =
        let x = (access r kind.Receive port item).target in
        let t = target kind.Receive port item None (Some (length vs)) has in
        (and_parts (elem_fits p (Some r.instance) (λ e. is_queued e && not e.provided) x) (accesses.takes_words p x t.sig.outs) t.is).0

    -- ---- calls

    calling_access : (k : AccessKind) (port item : ℕ) (values vars : Option ℕ) → ((a : AccessSig) → same_kind a.kind k ≡ true → is_calling a ≡ true) → list_any (serves k port item values vars) r.accesses ≡ true → Calls r
    calling_access k port item values vars of has =
        any_of (serves k port item values vars) is_calling r.accesses
        (λ a is. of a (and_parts (same_kind a.kind k) (a.port == port) (and_parts (is_at k port a) (a.item == item) (and_parts (is_at k port a && (a.item == item)) (counts values (length a.ins) && counts vars (length a.outs)) is).0).0).0) has

    -- the point is the runnable's own, and gets what it takes
    abbrev Own : ℕ → List ℤ → Type 0
    Own q ws = (own_point p (Some i) q ≡ true) × (point_gets p q ws ≡ true) × Calls r

    asked : (q : ℕ) (a : Access) (es : List ExprTree) (s : State) (asynchronous : Bool) (ins outs : List Limits) → point_takes p i asynchronous ins outs q ≡ true → a.ins ≡ ins → (length es == length ins) ≡ true → Calls r → Own q (given a es s)
    asked q a es s asynchronous ins outs takes same many some =
        let at = sought p.points q (λ (t : PointPlan). (same_number t.runnable (Some i) && (if asynchronous then t.asynchronous else not t.asynchronous)) && (same_limits ins t.ins && (asynchronous || same_limits outs t.outs))) takes in
        let t = at.item in
        let parts = and_parts (same_number t.runnable (Some i) && (if asynchronous then t.asynchronous else not t.asynchronous)) (same_limits ins t.ins && (asynchronous || same_limits outs t.outs)) at.holds in
        let mine = (and_parts (same_number t.runnable (Some i)) (if asynchronous then t.asynchronous else not t.asynchronous) parts.0).0 in
        let limits = (and_parts (same_limits ins t.ins) (asynchronous || same_limits outs t.outs) parts.1).0 in
        let fit = (and_parts (list_all limits_fit t.ins) (list_all limits_fit t.outs) (and_parts (nat_le (length t.ins + length t.outs) 16) (list_all limits_fit t.ins && list_all limits_fit t.outs) (point_is q t at.found)).1).0 in
        let less = at.within in
        let inside : nat_lt q (length p.points) ≡ true = grind (arith, nat_tests) in (
          and_from (nat_lt q (length p.points)) (same_number (caller_of p q) (Some i)) inside
              (ap (λ o. same_number o (Some i)) (looked p.points q t (λ (v : PointPlan). v.runnable) None at.found) ∙ mine),
          looks p.points q t (λ (v : PointPlan). are_within v.ins (given a es s)) at.found (given_fits a es s ins t.ins same many limits fit),
          some,
        )

    pub calls_may : (port item : ℕ) (es : List ExprTree) (vs : List ℕ) (s : State) → list_any (serves kind.Call port item (Some (length es)) (Some (length vs))) r.accesses ≡ true
        → Own (access r kind.Call port item).target (given (access r kind.Call port item) es s)
    calls_may port item es vs s has =
        let t = target kind.Call port item (Some (length es)) (Some (length vs)) has in
        asked (access r kind.Call port item).target (access r kind.Call port item) es s false t.sig.ins t.sig.outs t.is t.ins t.many
        (calling_access kind.Call port item (Some (length es)) (Some (length vs)) (λ a is. or_left (same_kind a.kind kind.Call) (same_kind a.kind kind.ACall || same_kind a.kind kind.TakeResult) is) has)

    pub goes_on_may : (port item : ℕ) (es : List ExprTree) (s : State) → list_any (serves kind.ACall port item (Some (length es)) None) r.accesses ≡ true
        → Own (access r kind.ACall port item).target (given (access r kind.ACall port item) es s)
    goes_on_may port item es s has =
        let t = target kind.ACall port item (Some (length es)) None has in
        asked (access r kind.ACall port item).target (access r kind.ACall port item) es s true t.sig.ins t.sig.outs t.is t.ins t.many
        (calling_access kind.ACall port item (Some (length es)) None (λ a is. or_right (same_kind a.kind kind.Call) (same_kind a.kind kind.ACall || same_kind a.kind kind.TakeResult)
        (or_left (same_kind a.kind kind.ACall) (same_kind a.kind kind.TakeResult) is)) has)

    pub hears_may : (port item : ℕ) (es : List ExprTree) (vs : List ℕ) → list_any (serves kind.Call port item (Some (length es)) (Some (length vs))) r.accesses ≡ true → is_awaited p (access r kind.Call port item).target ≡ true
    hears_may port item es vs has =
        let q = (access r kind.Call port item).target in
        let sig = (target kind.Call port item (Some (length es)) (Some (length vs)) has).sig in
        let at = sought p.points q (λ (t : PointPlan). (same_number t.runnable (Some i) && not t.asynchronous) && (same_limits sig.ins t.ins && same_limits sig.outs t.outs)) (target kind.Call port item (Some (length es)) (Some (length vs)) has).is in
        let t = at.item in
        looks p.points q t (λ (v : PointPlan). not v.asynchronous) at.found
        (and_parts (same_number t.runnable (Some i)) (not t.asynchronous) (and_parts (same_number t.runnable (Some i) && not t.asynchronous) (same_limits sig.ins t.ins && same_limits sig.outs t.outs) at.holds).0).1

    pub results_may : (port item : ℕ) (vs : List ℕ) → list_any (serves kind.TakeResult port item None (Some (length vs))) r.accesses ≡ true
        → (result_point p (Some r.instance) (access r kind.TakeResult port item).target ≡ true) × Calls r
    results_may port item vs has =
        let q = (access r kind.TakeResult port item).target in (
          (and_parts (result_point p (Some r.instance) q) _ (target kind.TakeResult port item None (Some (length vs)) has).is).0,
          calling_access kind.TakeResult port item None (Some (length vs)) (λ a is. or_right (same_kind a.kind kind.Call) (same_kind a.kind kind.ACall || same_kind a.kind kind.TakeResult)
              (or_right (same_kind a.kind kind.ACall) (same_kind a.kind kind.TakeResult) is)) has,
        )
