use Rattle.std.proofs.Common.{◌∷◌, sym, subst}
use Rattle.bus_semantics.specs.Plan.{plan_of}
use Rattle.trace_objects.specs.Resting.{IsPaused}
use Rattle.trace_objects.specs.Unrest.{StartsAmong}
use Rattle.trace_objects.proofs.Quiet.{RestLaws, at_rest, rested}
use Rattle.trace_objects.proofs.resting.may_rest.Goals as goal

pub no_start_comes-requires-clause-among : goal.no_start_comes-requires-clause-among
no_start_comes-requires-clause-among c =
    subst (λ xs. StartsAmong (plan_of c.args.p.now) xs c.args.unrest.now.events) (sym (c.no_phase_comes.ensures.same c.if-no_phase_comes.true)) c.requires.among.starts

pub returns-then-no_phase_comes-clause-rest : goal.returns-then-no_phase_comes-clause-rest
returns-then-no_phase_comes-clause-rest c = λ m h sound legal none stand.
    let p = plan_of c.args.p.now in
    let objects = c.args.objects.now.items in
    let phases = c.no_phase_comes.ensures in
    let starts = c.no_start_comes.ensures in
    let yes = c.if-no_phase_comes.true in
    let same = phases.same yes in
    let paused : IsPaused p m h objects = record { sound = sound; legal = legal; none = none; stand = stand } in
    let laws : RestLaws p h = record {
      misses = λ object k l n stands follows. c.leads_miss_nothing.ensures p m object k l n sound stands follows;
      starts = λ object k event n held plain. c.held_starts_lead_nowhere.ensures p object k event n held plain;
      parts = λ object e longer. c.legal_histories_part_into_objects.ensures p m (e ∷ h) object sound longer;
      unjoined = λ a event point kind unjoined. c.unjoined_points_return_nothing.ensures p h a event point legal kind unjoined;
      touched = λ a w fits. c.sound_plans_have_objects.ensures.touched p m a w sound fits;
      goes = λ k running. c.running_activations_go_on.ensures p m h k sound legal running;
    } in
    rested p m h c.no_start_comes.result
    (λ ok. at_rest p m h objects paused c.requires.planned laws c.no_start_comes.new.events c.no_phase_comes.new.machines
    (subst (λ xs. StartsAmong p xs c.no_start_comes.new.events) same (starts.among ok)) (starts.none ok) (phases.among yes) (phases.none yes))
    (λ no. starts.awake no m h (subst (IsPaused p m h) (sym same) paused))
