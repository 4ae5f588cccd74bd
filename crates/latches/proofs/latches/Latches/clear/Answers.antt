use Rattle.std.proofs.Common.{◌≡◌, ◌<◌, length, set, sym, ◌∙◌, ap, subst, arith}
use Rattle.std.specs.List.{slice_get}
use Rattle.std.proofs.lemmas.Option.{same_Some}
use Rattle.latches.specs.Latches.{Latch, clear_in}
use Rattle.latches.specs.Noted.{IsNoted, AreNoted}
use Rattle.latches.proofs.Noted.{has_room, one_cleared, clear_is}
use Rattle.latches.proofs.Places.{found_at}
use Rattle.latches.proofs.latches.Latches.clear.Goals as goal

pub push_reserved-requires : goal.push_reserved-requires
push_reserved-requires c =
    let xs = c.self.inside.flags.items in
    let lists = c.self.inside.cleared.items in
    let x = c.index_mut-flag.result.now in
    let found = found_at xs c.args.at x (omega (arith, c.requires, ap length c.self.view_is)) c.index_mut-flag.ensures.value in
    let within : c.group-group.result < length lists = omega (arith, c.self.invariant.grouped c.args.at x found, c.group-group.ensures) in
    let noted = c.self.invariant.noted c.group-group.result c.index_mut.result.now (found_at lists c.group-group.result c.index_mut.result.now within c.index_mut.ensures.value) in
    has_room xs c.args.at x found (sym c.if-is_set.ensures) c.index_mut.result.now (subst (λ g. IsNoted g xs c.index_mut.result.now) c.group-group.ensures noted)

pub invariant_of-self : goal.invariant_of-self
invariant_of-self c =
    let xs = c.self.inside.flags.items in
    let lists = c.self.inside.cleared.items in
    let x = c.index_mut-flag.result.now in
    let places = c.index_mut.result.now in
    let more = c.push_reserved.new.self in
    let found = found_at xs c.args.at x (omega (arith, c.requires, ap length c.self.view_is)) c.index_mut-flag.ensures.value in
    let within : c.group-group.result < length lists = omega (arith, c.self.invariant.grouped c.args.at x found, c.group-group.ensures) in
    let is = found_at lists c.group-group.result places within c.index_mut.ensures.value in
    subst (λ y. AreNoted (set xs c.args.at y) (set lists c.group-group.result more)) (sym c.clear.ensures)
    (subst (λ g. AreNoted (set xs c.args.at (clear_in x.group)) (set lists g more)) (sym c.group-group.ensures)
    (one_cleared xs c.args.at x found (sym c.if-is_set.ensures) lists places more (ap (slice_get lists) (sym c.group-group.ensures) ∙ is) c.push_reserved.ensures.items c.push_reserved.ensures.capacity c.self.invariant))

pub returns-then-is_set : goal.returns-then-is_set
returns-then-is_set c = λ l is.
    let xs = c.self.inside.flags.items in
    let x = c.index_mut-flag.result.now in
    let found = found_at xs c.args.at x (omega (arith, c.requires, ap length c.self.view_is)) c.index_mut-flag.ensures.value in
    let same : x ≡ l = same_Some x l (sym found ∙ ap (λ ys. slice_get ys c.args.at) c.self.view_is ∙ is) in
    ap (set xs c.args.at) (c.clear.ensures ∙ ap (λ (y : Latch). clear_in y.group) same) ∙ ap (λ ys. set ys c.args.at (clear_in l.group)) c.self.view_is

pub returns-else-is_set : goal.returns-else-is_set
returns-else-is_set c = λ l is.
    let xs = c.self.inside.flags.items in
    let x = c.index_mut-flag.result.now in
    let found = found_at xs c.args.at x (omega (arith, c.requires, ap length c.self.view_is)) c.index_mut-flag.ensures.value in
    let same : x ≡ l = same_Some x l (sym found ∙ ap (λ ys. slice_get ys c.args.at) c.self.view_is ∙ is) in
    ap (set xs c.args.at) (clear_is x (sym c.if-is_set.ensures) ∙ ap (λ (y : Latch). clear_in y.group) same) ∙ ap (λ ys. set ys c.args.at (clear_in l.group)) c.self.view_is
