-- What actors ask for along a trace.
use Rattle.std.proofs.Common.{◌≡◌, ℕ, true, not, ◌&&◌, None, Some, refl, sym, ap, ◌∙◌, subst}
use Rattle.std.specs.Prelude.{unwrap_or}
use Rattle.bus_semantics.specs.Common.{and_parts, and_from, false≢true, ActKey, same_number, Plan, runnable_of_event, Wanted, to_admit, to_end, to_move_on, to_start, wanted_by, History}
use Rattle.bus_semantics.specs.Common.{runs, wish_fits, caller_has_asked, follows_program, is_held_back, may_start, event_of}
use Rattle.bus_semantics.specs.declared.entries.Actor.{Actor}
use Rattle.bus_semantics.specs.declared.entries.Actor.TheVariants.{Env, Machine, Act}
use Rattle.bus_semantics.specs.declared.entries.Deed.{Deed}
use Rattle.bus_semantics.specs.declared.entries.Deed.TheVariants as deed
use Rattle.trace_objects.specs.Going.{Asks, by_itself, by_program}
use Rattle.trace_walks.specs.Walking.{IsWanted, MayBegin}

pub wants : (p : Plan) (h : History) (k : ActKey) (w : Wanted) → IsWanted p h k w → Asks p h (Act k) w
wants p h k w is = by_program k refl is.next is.free

-- ---- the environment's calls

no_event : (p : Plan) (w : Wanted) → wish_fits p Env w ≡ true → event_of w ≡ None
no_event p (to_admit event) fit = absurd (false≢true fit)
no_event p (to_end event) fit = absurd (false≢true fit)
no_event p w fit = refl

pub called : (p : Plan) (h : History) (w : Wanted) → wish_fits p Env w ≡ true → Asks p h Env w
called p h w fit = by_itself fit refl (no_event p w fit) (λ d is. refl)

pub calls_itself : (p : Plan) (w : Wanted) → wish_fits p Env w ≡ true → (d : Deed) → wanted_by (unwrap_or (event_of w) 0) d ≡ w → wanted_by 0 d ≡ w
calls_itself p w fit d is = ap (λ o. wanted_by (unwrap_or o 0) d) (sym (no_event p w fit)) ∙ is

-- ---- phases, and starts

pub moves_on : (p : Plan) (h : History) (a : Actor) → ((n : ℕ) × (a ≡ Machine n)) → wish_fits p a to_move_on ≡ true → Asks p h a to_move_on
moves_on p h a who fit = subst (λ x. Asks p h x to_move_on) (sym who.1) (by_itself (ap (λ x. wish_fits p x to_move_on) (sym who.1) ∙ fit) refl refl (λ d is. refl))

same_start : (event other : ℕ) → to_start other ≡ to_start event → other ≡ event
same_start event other is = cc

pub begins : (p : Plan) (h : History) (k : ActKey) (event : ℕ) → wish_fits p (Act k) (to_start event) ≡ true → MayBegin p h k event → Asks p h (Act k) (to_start event)
begins p h k event fit may =
    let rule = and_parts (same_number (runnable_of_event p event) (Some k.runnable) && not (runs k h)) (caller_has_asked p h k) may.may in
    by_itself fit (and_parts (same_number (runnable_of_event p event) (Some k.runnable)) (not (runs k h)) rule.0).0 refl follows
  where
    follows : (d : Deed) → wanted_by 0 d ≡ to_start event → follows_program p h (Act k) d ≡ true
    follows (deed.Start other point value) is =
        and_from (may_start p h k other) (not (is_held_back p h k)) (subst (λ n. may_start p h k n ≡ true) (sym (same_start event other is)) may.may) (ap not may.free)
    follows d is = absurd (cc is)
