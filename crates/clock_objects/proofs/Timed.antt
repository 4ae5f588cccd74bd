-- The kinds of events that wait for the clock, and when they are due.
use Rattle.std.proofs.Common.{◌≡◌, ℕ, Bool, true, false, ◌==◌, ◌||◌, refl, ◌∙◌, ap}
use Rattle.bus_semantics.specs.Common.{eqb-true, false≢true, Plan, kind_of, Past, is_start_by, follows_last, ticks_period, never_started, is_due_kind}
use Rattle.bus_semantics.specs.declared.plan.EventKind.{EventKind}
use Rattle.bus_semantics.specs.declared.plan.EventKind.TheVariants.{Timing, Init}
use Rattle.bus_semantics.specs.declared.entries.Actor.{Actor}
use Rattle.bus_semantics.specs.declared.entries.Actor.TheVariants.{Env}
use Rattle.object_kinds.proofs.Options.{clash}
use Rattle.clock_objects.specs.Layout.{is_timing, is_init}
use Rattle.clock_objects.specs.Standing.{due_after}

pub record OfPeriod (k : EventKind) : Type 0 where
  pub period : ℕ
  pub kind : k ≡ Timing period

pub of_period : (k : EventKind) → is_timing k ≡ true → OfPeriod k
of_period (Timing period) e = record { period = period; kind = refl }
of_period k e = absurd (false≢true e)

pub of_init : (k : EventKind) → is_init k ≡ true → k ≡ Init
of_init Init e = refl
of_init k e = absurd (false≢true e)

-- the kinds that wait for the clock
pub data Timed (k : EventKind) : Type 0 where
  at_time : (period : ℕ) → k ≡ Timing period → Timed k
  at_init : k ≡ Init → Timed k

pub timed_by : (k : EventKind) → (is_timing k || is_init k) ≡ true → Timed k
timed_by (Timing period) e = at_time period refl
timed_by Init e = at_init refl
timed_by k e = absurd (false≢true e)

-- no event is of both kinds
pub not_both : (p : Plan) (e f : ℕ) → is_timing (kind_of p e) ≡ true → is_init (kind_of p f) ≡ true → (e == f) ≡ false
not_both p e f timing init = by_test (e == f) refl
  where
    by_test : (b : Bool) → (e == f) ≡ b → (e == f) ≡ false
    by_test true t =
        let same : kind_of p e ≡ kind_of p f = ap (kind_of p) (eqb-true e f t) in
        let at_init : is_timing (kind_of p e) ≡ false = ap is_timing (same ∙ of_init (kind_of p f) init) in
        clash (is_timing (kind_of p e)) timing at_init
    by_test false t = t

pub timing_due : (p : Plan) (e period : ℕ) (l : Past) → kind_of p e ≡ Timing period → due_after p l e ≡ follows_last (is_start_by e) (ticks_period period) l
timing_due p e period l kind = ap (λ k. is_due_kind p Env e k l) kind

pub init_due : (p : Plan) (e : ℕ) (l : Past) → kind_of p e ≡ Init → due_after p l e ≡ never_started e l
init_due p e l kind = ap (λ k. is_due_kind p Env e k l) kind

-- what is due by the clock is due for every actor
pub any_actor : (p : Plan) (a : Actor) (e : ℕ) (k : EventKind) (l : Past) → (is_timing k || is_init k) ≡ true → is_due_kind p a e k l ≡ is_due_kind p Env e k l
any_actor p a e (Timing period) l is = refl
any_actor p a e Init l is = refl
any_actor p a e k l is = absurd (false≢true is)
