use Rattle.std.proofs.Common.{◌||◌, is_some, nat_lt, not, ap, ◌∙◌}
use Rattle.event_mapping.specs.Sized.{queues_of, things_of}
use Rattle.event_mapping.proofs.Sized.{many_things}
use Rattle.event_mapping.proofs.Spending.{all_spent}
use Rattle.event_mapping.proofs.size.are_too_large.Goals as goal

pub returns : goal.returns
returns c =
    let things = ap (λ o. not (is_some o)) c.things_of.ensures ∙ many_things (things_of c.args.pieces.now) in
    let queues = all_spent c.after_queues-left.result (queues_of c.args.pieces.now) c.after_queues-left.ensures in
    c.is_beyond.ensures ∙ (λ j. (things j || nat_lt 16384 (c.len.ensures j)) || (queues j || nat_lt 262144 (c.len-points.ensures j)))
