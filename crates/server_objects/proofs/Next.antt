-- What the calls of a server made of what was kept, from what the lead says of them.
use Rattle.std.proofs.Common.{◌≡◌, ◌<◌, ℕ, true, refl, sym, ◌∙◌, ap, subst, List, [], ◌∷◌, length, map, drop, Option, Some, None}
use Rattle.std.specs.Prelude.{unwrap_or}
use Rattle.bus_semantics.specs.Common.{list_all, slice_get, false≢true, same_Some, slice_get_within, Value, Plan, server_of, kind_of}
use Rattle.bus_semantics.specs.declared.plan.PointPlan.{PointPlan}
use Rattle.bus_semantics.specs.declared.plan.EventKind.{EventKind}
use Rattle.bus_semantics.specs.declared.plan.EventKind.TheVariants.{Returns}
use Rattle.client_server.specs.declared.point.Outcome.{Outcome}
use Rattle.client_server.specs.declared.point.Request.{Request}
use Rattle.client_server.specs.declared.point.Stage.TheVariants.{Idle, Started}
use Rattle.client_server.specs.Kept as calls
use Rattle.client_server.specs.Points.{outcome_in, value_asked}
use Rattle.object_kinds.specs.Layout.{events_of, place}
use Rattle.object_kinds.proofs.Events.{events_all}
use Rattle.object_kinds.proofs.Lists.{all_at, mapped_at}
use Rattle.object_kinds.proofs.Options.{then_some, mapped_some}
use Rattle.object_kinds.proofs.Placing.{Placed, placed, place_at}
use Rattle.object_kinds.proofs.Ranges.{given_at}
use Rattle.server_objects.specs.Kept.{Kept, awaited_at}
use Rattle.server_objects.specs.Layout.{is_joined_to, points_of, point_in, returns_for, awaited_by}
use Rattle.server_objects.proofs.Facts.{same_option}

-- ---- the next request of a queued server

pub record NextStart (k : calls.Kept) (r : Request) : Type 0 where
  pub more : List ℕ
  pub first : k.waiting ≡ r.point ∷ more
  pub idle : k.serving ≡ None
  pub asked : value_asked (calls.point_at r.point k).stage ≡ Some r.value
  pub after : calls.after_start k ≡ record { queue = k.queue; waiting = more; serving = Some r.point; points = calls.staged r.point Started k }

pub next_start : (k : calls.Kept) (r : Request) → calls.starting k ≡ Some r → NextStart k r
next_start k r starts = by_serving k.serving refl k.waiting refl
  where
    by_serving : (o : Option ℕ) → k.serving ≡ o → (ws : List ℕ) → k.waiting ≡ ws → NextStart k r
    by_serving (Some i) at ws list = let no = rw at at starts in absurd (cc no)
    by_serving None at [] list = let no = rw (at, list) at starts in absurd (cc no)
    by_serving None at (i ∷ more) list =
        let next : calls.next_point k ≡ Some i = rw (at, list) refl in
        let gives = rw next at starts in
        let of = mapped_some {X = Value} (λ v. record { point = i; value = v }) (value_asked (calls.point_at i k).stage) r gives in
        let point : i ≡ r.point = ap (λ (x : Request). x.point) of.gives in
        let value : of.item ≡ r.value = ap (λ (x : Request). x.value) of.gives in
        record {
          more = more;
          first = list ∙ ap (λ n. n ∷ more) point;
          idle = at;
          asked = subst (λ n. value_asked (calls.point_at n k).stage ≡ Some r.value) point (of.is ∙ ap (λ v. Some v) value);
          after = (rw next refl) ∙ (λ t. record { queue = k.queue; waiting = ap (drop 1) list t; serving = Some (point t); points = calls.staged (point t) Started k });
        }

-- ---- outcomes

pub answer_taken : (i : ℕ) (k : calls.Kept) (o : Outcome) → outcome_in (calls.point_at i k).stage ≡ Some o
    → calls.after_answer i k ≡ record { queue = k.queue; waiting = k.waiting; serving = k.serving; points = calls.staged i Idle k }
answer_taken i k o is = rw is refl

pub answer_left : (i : ℕ) (k : calls.Kept) → outcome_in (calls.point_at i k).stage ≡ None → calls.after_answer i k ≡ k
answer_left i k is = rw is refl

-- ---- the point of a return event

-- a point that is joined to a server is one of the plan's
pub joined_within : (p : Plan) (q s : ℕ) → server_of p q ≡ Some s → q < length p.points
joined_within p q s joined = let at = given_at p.points q (λ (t : PointPlan). t.server) s joined in slice_get_within p.points q at.item at.found

pub point_placed : (p : Plan) (q s : ℕ) → is_joined_to p s q ≡ true → Placed q (points_of p s)
point_placed p q s is = placed (is_joined_to p s) (length p.points) q (joined_within p q s (same_option (server_of p q) (Some s) is)) is

pub record Returning (p : Plan) (s : ℕ) (k : EventKind) : Type 0 where
  pub point : ℕ
  pub kind : k ≡ Returns point
  pub joined : is_joined_to p s point ≡ true

pub returning : (p : Plan) (s : ℕ) (k : EventKind) → returns_for p s k ≡ true → Returning p s k
returning p s (Returns q) is = record { point = q; kind = refl; joined = is }
returning p s k is = absurd (false≢true is)

pub record Awaited (p : Plan) (k : Kept) (e i : ℕ) : Type 0 where
  pub point : ℕ
  pub kind : kind_of p e ≡ Returns point
  pub there : place point k.points ≡ Some i

module _ (p : Plan) (s : ℕ) (k : Kept) (points : k.points ≡ points_of p s) (returns : k.returns ≡ events_of p (returns_for p s)) (awaits : k.awaited ≡ map (awaited_by p s) k.returns) where
  pub returns_all : list_all (λ e. returns_for p s (kind_of p e)) k.returns ≡ true
  returns_all = subst (λ es. list_all (λ e. returns_for p s (kind_of p e)) es ≡ true) (sym returns) (events_all p (returns_for p s))

  -- what a return event waits for is at the place that is kept for it
  pub awaited_place : (e q : ℕ) → kind_of p e ≡ Returns q → is_joined_to p s q ≡ true → place q k.points ≡ Some (awaited_by p s e)
  awaited_place e q kind joined =
      let there = point_placed p q s joined in
      ap (place q) points ∙ there.is ∙ sym (ap (λ o. Some (unwrap_or o 0)) (ap (λ c. place (point_in c) (points_of p s)) kind ∙ there.is))

  pub awaited_is : (e j : ℕ) → place e k.returns ≡ Some j → slice_get k.awaited j ≡ Some (awaited_by p s e)
  awaited_is e j at = ap (λ is. slice_get is j) awaits ∙ mapped_at (awaited_by p s) k.returns j e (place_at e k.returns j at)

  pub awaited : (e i : ℕ) → awaited_at k e ≡ Some i → Awaited p k e i
  awaited e i is =
      let at = then_some (λ j. slice_get k.awaited j) (place e k.returns) i is in
      let of = returning p s (kind_of p e) (all_at (λ f. returns_for p s (kind_of p f)) k.returns at.item e returns_all (place_at e k.returns at.item at.is)) in
      let same : awaited_by p s e ≡ i = same_Some (awaited_by p s e) i (sym (awaited_is e at.item at.is) ∙ at.gives) in
      record { point = of.point; kind = of.kind; there = awaited_place e of.point of.kind of.joined ∙ ap (λ n. Some n) same }
