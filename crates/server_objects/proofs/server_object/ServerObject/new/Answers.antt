use Rattle.std.proofs.Common.{◌≡◌, ◌<◌, ◌≤◌, ◌+◌, arith, length, map, sym, ◌∙◌, ap, subst, is_some, true}
use Rattle.std.specs.Prelude.{All, IfSome}
use Rattle.bus_semantics.specs.Common.{length-map, length-replicate, first_server, plan_of, kind_of, positions, queue_of}
use Rattle.std.proofs.lemmas.List.Elements.{filter_passes}
use Rattle.bus_semantics.specs.declared.plan.EventKind.TheVariants.{Invoked}
use Rattle.client_server.specs.Kept as calls
use Rattle.client_server.specs.Points.{new_point}
use Rattle.object_kinds.specs.Common.{events_of, place, is_rising}
use Rattle.object_kinds.proofs.Events.{events_rise}
use Rattle.object_kinds.proofs.Positions.{few_positions}
use Rattle.server_objects.specs.Kept.{Kept, awaiting, opening_at}
use Rattle.server_objects.specs.Layout.{server_in, event_in, points_of, is_joined_to, returns_for, awaited_by}
use Rattle.server_objects.specs.Plans.{IsOfPlan}
use Rattle.server_objects.proofs.Facts.{points_rise}
use Rattle.server_objects.proofs.Opening.{opens_planned}
use Rattle.server_objects.proofs.Whole.{all_inside, no_return_event}
use Rattle.server_objects.proofs.server_object.ServerObject.new.Goals as goal

pub listed_by_point-requires-clause-within : goal.listed_by_point-requires-clause-within
listed_by_point-requires-clause-within c =
    let p = plan_of c.args.p.now in
    let s = c.args.server in
    let long : length (points_of p s) ≡ c.len.result = omega (arith, c.len.ensures, c.args.points.ok, ap length c.requires.points) in
    let passes : All (λ e. returns_for p s (kind_of p e) ≡ true) c.as_slice-2.result.now =
    subst (All (λ e. returns_for p s (kind_of p e) ≡ true)) (sym (c.as_slice-2.ensures.value ∙ c.requires.returns)) (filter_passes (λ e. returns_for p s (kind_of p e)) (positions (length p.events))) in
    subst (All (λ i. i < c.len.result)) (sym (c.as_slice-4.ensures.value ∙ c.in_ok-awaited.ensures)) (all_inside p s c.len.result c.as_slice-2.result.now long passes)

pub overflow_cast-len : goal.overflow_cast-len
overflow_cast-len c =
    let p = plan_of c.args.p.now in
    let few : length (points_of p c.args.server) ≤ length c.args.p.now.points = few_positions (is_joined_to p c.args.server) (length c.args.p.now.points) in
    omega (arith, few, c.requires.server.few_points, c.len-2.ensures, c.args.points.ok, ap length c.requires.points)

pub invariant_of-result : goal.invariant_of-result
invariant_of-result c =
    let p = plan_of c.args.p.now in
    let s = c.args.server in
    let points = c.args.points.items in
    let returns = c.args.returns.items in
    let number : server_in p (first_server p + s) ≡ s = omega arith in
    let long : length (points_of p s) ≡ length points = sym (ap length c.requires.points) in
    let passes : All (λ e. returns_for p s (kind_of p e) ≡ true) c.as_slice-2.result.now =
    subst (All (λ e. returns_for p s (kind_of p e) ≡ true)) (sym (c.as_slice-2.ensures.value ∙ c.requires.returns)) (filter_passes (λ e. returns_for p s (kind_of p e)) (positions (length p.events))) in
    let kind : kind_of p (event_in p s) ≡ Invoked s = subst (λ t. kind_of p (event_in p t) ≡ Invoked t) number c.requires.server.invoked in
    let made : length c.in_ok-served.served.points ≡ c.len-2.result = ap (λ (k : calls.Kept). length k.points) c.in_ok-served.ensures ∙ length-replicate c.len-2.result new_point in
    record {
      points_rise = points_rise p s points c.requires.points;
      returns_rise = subst (λ es. is_rising es ≡ true) (sym c.requires.returns) (events_rise p (returns_for p s));
      apart = (λ t. place (c.event_of.ensures t) (c.requires.returns t)) ∙ no_return_event p s kind;
      many = omega (arith, made, c.len-2.ensures, c.args.points.ok);
      as_many = ap length c.in_ok-awaited.ensures ∙ length-map c.as_slice-2.result.now (awaited_by p s) ∙ ap length c.as_slice-2.ensures.value;
      within = subst (All (λ i. i < length points)) (sym c.in_ok-awaited.ensures) (all_inside p s (length points) c.as_slice-2.result.now long passes);
      serving = subst (λ (k : calls.Kept). IfSome k.serving (λ i. i < length points)) (sym c.in_ok-served.ensures) tt;
      queued_is = c.is_some.ensures ∙ ap is_some (sym (ap (λ (k : calls.Kept). k.queue) c.in_ok-served.ensures));
      listed = λ i. c.in_ok-by_point.ensures.listed i ∙ (λ t. awaiting (c.as_slice-3.ensures.value t) (c.as_slice-4.ensures.value t) i);
      lists_many = omega (arith, c.in_ok-by_point.ensures.long, c.len.ensures, c.args.points.ok);
      room_for = omega (arith, c.in_ok-woken.ensures.capacity, c.len-3.ensures, c.args.returns.ok);
    }

pub returns-clause-kept : goal.returns-clause-kept
returns-clause-kept c =
    let p = plan_of c.args.p.now in
    let s = c.args.server in
    let number : server_in p (first_server p + s) ≡ s = omega arith in
    let long : c.len-2.result ≡ length (points_of p s) = omega (arith, c.len-2.ensures, c.args.points.ok, ap length c.requires.points) in
    let served : c.in_ok-served.served ≡ calls.fresh (length (points_of p s)) (queue_of p s) = c.in_ok-served.ensures ∙ (λ t. calls.fresh (long t) (c.queue_of-queue.ensures t)) in
    let awaited : c.in_ok-awaited.awaited.items ≡ map (awaited_by p s) (events_of p (returns_for p s)) = c.in_ok-awaited.ensures ∙ ap (map (awaited_by p s)) (c.as_slice-2.ensures.value ∙ c.requires.returns) in
    let made : Kept = record { points = c.args.points.items; event = c.event_of.result; returns = c.args.returns.items; awaited = c.in_ok-awaited.awaited.items; served = c.in_ok-served.served } in
    let is : made ≡ opening_at p s = λ t. record { points = c.requires.points t; event = c.event_of.ensures t; returns = c.requires.returns t; awaited = awaited t; served = served t } in
    is ∙ ap (opening_at p) (sym number)

pub returns-clause-planned : goal.returns-clause-planned
returns-clause-planned c =
    let p = plan_of c.args.p.now in
    let s = c.args.server in
    let number : server_in p (first_server p + s) ≡ s = omega arith in
    let long : c.len-2.result ≡ length (points_of p s) = omega (arith, c.len-2.ensures, c.args.points.ok, ap length c.requires.points) in
    let served : c.in_ok-served.served ≡ calls.fresh (length (points_of p s)) (queue_of p s) = c.in_ok-served.ensures ∙ (λ t. calls.fresh (long t) (c.queue_of-queue.ensures t)) in
    let awaited : c.in_ok-awaited.awaited.items ≡ map (awaited_by p s) (events_of p (returns_for p s)) = c.in_ok-awaited.ensures ∙ ap (map (awaited_by p s)) (c.as_slice-2.ensures.value ∙ c.requires.returns) in
    let made : Kept = record { points = c.args.points.items; event = c.event_of.result; returns = c.args.returns.items; awaited = c.in_ok-awaited.awaited.items; served = c.in_ok-served.served } in
    let is : made ≡ opening_at p s = λ t. record { points = c.requires.points t; event = c.event_of.ensures t; returns = c.requires.returns t; awaited = awaited t; served = served t } in
    subst (IsOfPlan p (first_server p + s)) (sym is) (subst (λ n. IsOfPlan p (first_server p + s) (opening_at p n)) number (opens_planned p (first_server p + s) c.requires.server))
