use Rattle.std.proofs.Common.{arith, ◌∙◌}
use Rattle.task_machine.proofs.Listing.{no_part, parts_turn}
use Rattle.task_machine.proofs.store.Store.fetch_together.Goals as goal

pub loop-part-preserved : goal.loop-part-preserved
loop-part-preserved c = record {
  left = parts_turn c.args.parts.now c.loop-part.part-index no_part _ _ _ _ _ _ c.loop-part-test.true c.first_words.ensures.first c.words_behind-words.ensures.behind c.fetch_words.ensures.store c.loop-part.invariant.left;
  short = omega (arith, c.words_behind-words.ensures.short, c.loop-part.invariant.short);
  room = c.fetch_words.ensures.room ∙ c.loop-part.invariant.room;
}
