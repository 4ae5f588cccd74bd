use Rattle.std.proofs.Common.{◌≡◌, [], map, set, sym, ◌∙◌, ap, subst, arith}
use Rattle.std.proofs.lemmas.List.{nil_from_length}
use Rattle.std.specs.Vec.{vec_capacity}
use Rattle.latches.specs.Latches.{set_in, after_set}
use Rattle.latches.specs.Noted.{IsListed, AreNoted}
use Rattle.latches.proofs.Grouped.{group_set}
use Rattle.std.proofs.lemmas.List.Elements.{Contains-push}
use Rattle.latches.proofs.Listed.{last_within, one_set, same_after, all_listed_set}
use Rattle.latches.proofs.Places.{found_at}
use Rattle.latches.proofs.Told.{Stays, Tells, only_on, stays_on, tells_on, tells_all}
use Rattle.latches.proofs.setting.tell_flags.Goals as goal

pub tell-requires-clause-within : goal.tell-requires-clause-within
tell-requires-clause-within c =
    let all = subst (IsListed c.args.group c.loop-place.flags) c.in-Some.ensures.items c.loop-place.invariant.listed in
    last_within c.args.group c.loop-place.flags c.pop.new.self.items c.in-Some.place all

pub loop-place-preserved : goal.loop-place-preserved
loop-place-preserved c =
    let xs = c.loop-place.flags in
    let places = c.pop.new.self.items in
    let p = c.in-Some.place in
    let all = subst (IsListed c.args.group xs) c.in-Some.ensures.items c.loop-place.invariant.listed in
    let last = all.inside p (Contains-push places p) in
    let x = last.latch in
    let now = c.tell.ensures.set x last.is in
    record {
      listed = subst (λ ys. IsListed c.args.group ys places) (sym now) (one_set c.args.group xs places p x last.is all);
      same = ap (map (after_set c.args.group)) now ∙ same_after c.args.group xs places p x last.is all ∙ c.loop-place.invariant.same;
      capacity = c.in-Some.ensures.capacity ∙ c.loop-place.invariant.capacity;
      tells = subst (λ ys. Tells c.args.group c.args.names.now c.args.flags.now ys c.tell.new.told.items) (sym now) (tells_on c.args.group c.args.names.now c.args.flags.now xs c.loop-place.told.items c.tell.new.told.items p (set_in x.group) c.loop-place.invariant.tells c.tell.ensures.told c.tell.ensures.kept);
      stays = subst (Stays c.args.flags.now) (sym now) (stays_on c.args.flags.now xs p x.group c.loop-place.invariant.stays);
      only = only_on c.args.group c.args.names.now c.args.flags.now xs c.args.told.now.items c.loop-place.told.items c.tell.new.told.items p x last.is last.group_is c.loop-place.invariant.stays c.loop-place.invariant.only (λ name. c.tell.ensures.only x name last.is);
      kept = λ name before. c.tell.ensures.kept name (c.loop-place.invariant.kept name before);
      room = omega (arith, c.tell.ensures.room, c.loop-place.invariant.room);
      told_capacity = c.tell.ensures.capacity ∙ c.loop-place.invariant.told_capacity;
    }

pub returns-clause-set : goal.returns-clause-set
returns-clause-set c =
    let none : c.loop-place.places.items ≡ [] = nil_from_length c.loop-place.places.items (omega (arith, c.in_default.ensures.cases)) in
    sym (all_listed_set c.args.group c.loop-place.flags c.loop-place.places.items none c.loop-place.invariant.listed) ∙ c.loop-place.invariant.same

pub returns-clause-told : goal.returns-clause-told
returns-clause-told c =
    let none : c.loop-place.places.items ≡ [] = nil_from_length c.loop-place.places.items (omega (arith, c.in_default.ensures.cases)) in
    tells_all c.args.group c.args.names.now c.args.flags.now c.loop-place.flags c.loop-place.places.items c.loop-place.told.items none c.loop-place.invariant.listed c.loop-place.invariant.tells

pub returns-clause-noted : goal.returns-clause-noted
returns-clause-noted c =
    let group = c.args.group in
    let lists = c.args.cleared.now in
    let before = c.index-cleared-group.result in
    let after = c.pop.new.self in
    let none : c.loop-place.places.items ≡ [] = nil_from_length c.loop-place.places.items (omega (arith, c.in_default.ensures.cases)) in
    let set_all = sym (all_listed_set group c.loop-place.flags c.loop-place.places.items none c.loop-place.invariant.listed) ∙ c.loop-place.invariant.same in
    subst (λ xs. AreNoted xs (set lists group after)) (sym set_all)
    (group_set group c.args.flags.now lists before after (found_at lists group before c.requires.there c.index-cleared-group.is) (nil_from_length after.items (omega (arith, c.in_default.ensures.cases, after.ok)))
    (c.in_default.ensures.capacity ∙ c.loop-place.invariant.capacity ∙ ap vec_capacity (sym c.index-cleared-group.is)) c.requires.noted)
