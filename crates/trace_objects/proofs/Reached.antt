-- The object that a wish touches, among the objects of a plan.
use Rattle.std.proofs.Common.{◌≡◌, ℕ, suc, ◌<◌, ◌+◌, true, sym, ◌∙◌, ap, subst, arith, List, length, set, get_or, Some}
use Rattle.std.specs.Prelude.{◌==◌, IfSome, unwrap_or}
use Rattle.bus_semantics.specs.Common.{unsigned_Decides, slice_get, and_parts, slice_get-get_or, Plan, Wanted, History, clock, object_of, touched, entries_of, IsObject, wish_fits}
use Rattle.bus_semantics.specs.Common.{asks_its_own, IsSound, objects_counted}
use Rattle.bus_laws.specs.Common.{Actor, Mapping}
use Rattle.port_objects.specs.declared.object.Object.{Object}
use Rattle.port_objects.specs.Common.{MayAsk, kept_of, IsOfPlan, ArePlans, Stands}
use Rattle.trace_objects.specs.Standing.{ObjectsStand}
use Rattle.trace_objects.proofs.Parted.{plans_then}

module _ (p : Plan) (a : Actor) (w : Wanted) (objects : List Object) (object : ℕ) (touching : Some object ≡ object_of p a w) (plans : ArePlans p objects) where
  pub there : objects_counted p ≡ true → IfSome (object_of p a w) (IsObject p) → object < length objects
  there counts known =
      let below : object < p.objects = subst (λ o. IfSome o (IsObject p)) (sym touching) known in
      let counted : p.objects ≡ clock p + 1 = (unsigned_Decides p.objects (clock p + 1)).0 (and_parts (p.objects == clock p + 1) _ counts).0 in
      let count : length objects ≡ suc (clock p) = plans.count in
      omega arith

  pub at : touched p a w ≡ object
  at = ap (λ o. unwrap_or o 0) (sym touching)

  pub found : (old : Object) → object < length objects → old ≡ get_or objects object old → slice_get objects object ≡ Some old
  found old within value = slice_get-get_or objects object old within ∙ ap (λ y. Some y) (sym value)

  module _ (old : Object) (is : slice_get objects object ≡ Some old) where
    pub planned : IsOfPlan p (touched p a w) old
    planned = subst (λ n. IsOfPlan p n old) (sym at) (plans.each object old is)

    pub may_ask : (m : Mapping) (h : History) → IsSound p m → wish_fits p a w ≡ true → asks_its_own p a w ≡ true → ObjectsStand p h objects → MayAsk p m a w (kept_of old) (entries_of p h object)
    may_ask m h sound fits own stand = record {
      sound = sound;
      fits = fits;
      own = own;
      stands = subst (λ n. Stands p n (kept_of old) (entries_of p h object)) (sym at) (stand object old is);
    }

  pub plans_after : (new : Object) → IsOfPlan p (touched p a w) new → ArePlans p (set objects object new)
  plans_after new is = plans_then p objects object new plans (subst (λ n. IsOfPlan p n new) at is)
