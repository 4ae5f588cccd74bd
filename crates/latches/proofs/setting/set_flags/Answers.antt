use Rattle.std.proofs.Common.{◌≡◌, ◌<◌, [], length, map, set, sym, ◌∙◌, ap, subst, arith}
use Rattle.std.proofs.lemmas.List.{nil_from_length}
use Rattle.std.specs.Vec.{vec_capacity}
use Rattle.latches.specs.Latches.{Latch, set_in, after_set}
use Rattle.latches.specs.Noted.{IsListed, AreNoted}
use Rattle.latches.proofs.Grouped.{group_set}
use Rattle.latches.proofs.Listed.{last_within, one_set, same_after, all_listed_set}
use Rattle.latches.proofs.Places.{found_at}
use Rattle.latches.proofs.setting.set_flags.Goals as goal

pub offset_bounds-flags-place : goal.offset_bounds-flags-place
offset_bounds-flags-place c =
    let all = subst (IsListed c.args.group c.loop-place.flags) c.in-Some.ensures.items c.loop-place.invariant.listed in
    let within : c.in-Some.place < length c.loop-place.flags = last_within c.args.group c.loop-place.flags c.pop.new.self.items c.in-Some.place all in
    omega arith

pub bounds-flags-place : goal.bounds-flags-place
bounds-flags-place c =
    let all = subst (IsListed c.args.group c.loop-place.flags) c.in-Some.ensures.items c.loop-place.invariant.listed in
    last_within c.args.group c.loop-place.flags c.pop.new.self.items c.in-Some.place all

pub loop-place-preserved : goal.loop-place-preserved
loop-place-preserved c =
    let xs = c.loop-place.flags in
    let p = c.in-Some.place in
    let x = c.index-flags-place.result in
    let all = subst (IsListed c.args.group xs) c.in-Some.ensures.items c.loop-place.invariant.listed in
    let found = found_at xs p x (last_within c.args.group xs c.pop.new.self.items p all) c.index-flags-place.is in
    let now : c.set.new.self ≡ set_in x.group = c.set.ensures ∙ ap (λ (l : Latch). set_in l.group) (sym c.index-flags-place.is) in
    record {
      listed = subst (λ y. IsListed c.args.group (set xs p y) c.pop.new.self.items) (sym now) (one_set c.args.group xs c.pop.new.self.items p x found all);
      same = ap (λ y. map (after_set c.args.group) (set xs p y)) now ∙ same_after c.args.group xs c.pop.new.self.items p x found all ∙ c.loop-place.invariant.same;
      capacity = c.in-Some.ensures.capacity ∙ c.loop-place.invariant.capacity;
    }

pub returns-clause-set : goal.returns-clause-set
returns-clause-set c =
    let none : c.loop-place.places.items ≡ [] = nil_from_length c.loop-place.places.items (omega (arith, c.in_default.ensures.cases)) in
    sym (all_listed_set c.args.group c.loop-place.flags c.loop-place.places.items none c.loop-place.invariant.listed) ∙ c.loop-place.invariant.same

pub returns-clause-noted : goal.returns-clause-noted
returns-clause-noted c =
    let group = c.args.group in
    let lists = c.args.cleared.now in
    let before = c.index-cleared-group.result in
    let after = c.pop.new.self in
    let none : c.loop-place.places.items ≡ [] = nil_from_length c.loop-place.places.items (omega (arith, c.in_default.ensures.cases)) in
    let set_all = sym (all_listed_set group c.loop-place.flags c.loop-place.places.items none c.loop-place.invariant.listed) ∙ c.loop-place.invariant.same in
    subst (λ xs. AreNoted xs (set lists group after)) (sym set_all)
    (group_set group c.args.flags.now lists before after (found_at lists group before c.requires.there c.index-cleared-group.is) (nil_from_length after.items (omega (arith, c.in_default.ensures.cases, after.ok)))
    (c.in_default.ensures.capacity ∙ c.loop-place.invariant.capacity ∙ ap vec_capacity (sym c.index-cleared-group.is)) c.requires.noted)
