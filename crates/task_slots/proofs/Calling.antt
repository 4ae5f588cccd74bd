-- The start of a direct activation may be tried, and touches its server.
use Rattle.std.proofs.Common.{◌≡◌, ℕ, sym, ◌∙◌, ap, subst, refl, List, [], ◌∷◌, true, Option, Some, None}
use Rattle.std.specs.Prelude.{IfSome}
use Rattle.bus_laws.specs.Common.{Actor, Act, Mapping}
use Rattle.bus_semantics.specs.Common.{Plan, kind_of, runnable_of_event, Wanted, to_start, object_of_kind, server_object, object_of, IsObject, wish_fits, Try, IsSound}
use Rattle.bus_laws.proofs.Thinning.{option_test}
use Rattle.port_objects.specs.Benches.{Told}
use Rattle.task_slots.specs.Common.{Look, Call, IsCalled, IsFree, IsTried, looks_at, Looked}
use Rattle.task_slots.proofs.Facts.{CallIs, call_is, direct_at, start_fits, direct_fits, direct_starts, direct_touches}

module _ (p : Plan) (m : Mapping) (sound : IsSound p m) (c : Call) (called : IsCalled p c) where
  is_call : CallIs p c.caller called.point c
  is_call = call_is p c.caller called.point c called.is

  starts_it : runnable_of_event p c.event ≡ Some c.direct.runnable
  starts_it = ap (runnable_of_event p) is_call.event ∙ direct_starts p m sound called.point c.direct is_call.key

  touches_it : object_of p (Act c.direct) (to_start c.event) ≡ server_object p (Some (direct_at p called.point c.direct is_call.key).number)
  touches_it = ap (λ e. object_of_kind p (kind_of p e)) is_call.event ∙ direct_touches p m sound called.point c.direct is_call.key

  pub direct_tried : ((a : Actor) (w : Wanted) → wish_fits p a w ≡ true → IfSome (object_of p a w) (IsObject p)) → IsTried p (Act c.direct) (to_start c.event)
  direct_tried objects =
      let fit = start_fits p m sound c.event c.direct (direct_fits p m sound called.point c.direct is_call.key) starts_it in
      record {
        fits = fit;
        own = option_test (runnable_of_event p c.event) (Some c.direct.runnable) starts_it;
        there = objects (Act c.direct) (to_start c.event) fit;
        free = by_object (object_of p (Act c.direct) (to_start c.event));
      }
    where
      by_object : (o : Option ℕ) → IsFree o (to_start c.event)
      by_object None = refl
      by_object (Some object) = tt

  pub direct_looked : (ts : List Try) (count : ℕ) (old new : Told) (l : Look) → ts ≡ (Act c.direct, to_start c.event) ∷ [] → count ≡ 1
      → Looked p ((Act c.direct, to_start c.event) ∷ []) (looks_at (object_of p (Act c.direct) (to_start c.event)) (to_start c.event)) old new l → Looked p ts count old new l
  direct_looked ts count old new l tries one looked =
      let once : looks_at (object_of p (Act c.direct) (to_start c.event)) (to_start c.event) ≡ 1 = ap (λ o. looks_at o (to_start c.event)) touches_it in
      subst (λ n. Looked p ts n old new l) (once ∙ sym one)
      (subst (λ us. Looked p us (looks_at (object_of p (Act c.direct) (to_start c.event)) (to_start c.event)) old new l) (sym tries) looked)
