use Rattle.std.proofs.Common.{◌≡◌, ◌<◌, ◌==◌, ◌+◌, ◌++◌, [], ◌∷◌, suc, if◌then◌else◌, arith, length, get_or, take, sym, ◌∙◌, ap}
use Rattle.server_objects.specs.Kept.{awaiting}
use Rattle.server_objects.proofs.Whole.{awaiting_more}
use Rattle.server_objects.proofs.making.listed_by_point.Goals as goal

pub loop-at-preserved : goal.loop-at-preserved
loop-at-preserved c =
    let returns = c.args.returns.now in
    let awaited = c.args.awaited.now in
    let n = c.loop-at.at in
    let less : n < length returns = omega (arith, c.loop-at-test.true) in
    let within : n < length awaited = omega (arith, less, c.requires.many) in
    let next : suc n ≡ n + 1 = omega arith in
    record {
      long = c.in_ok-append_to.ensures.long ∙ c.loop-at.invariant.long;
      so_far = λ i. c.in_ok-append_to.ensures.appended i
          ∙ (λ t. if get_or awaited n 0 == i then c.loop-at.invariant.so_far i t ++ get_or returns n 0 ∷ [] else c.loop-at.invariant.so_far i t)
          ∙ sym (awaiting_more returns awaited n less within i)
          ∙ ap (λ m. awaiting (take m returns) (take m awaited) i) next;
    }
