use Rattle.std.proofs.Common.{◌++◌, take, ap, ◌∙◌}
use Rattle.task_machine.specs.Spots.{store_of}
use Rattle.task_machine.specs.Store.{written_in, words_or_none}
use Rattle.task_machine.proofs.Listing.{words_more}
use Rattle.task_machine.proofs.store.Store.published_together.Goals as goal

pub loop-slot-preserved : goal.loop-slot-preserved
loop-slot-preserved c =
    words_more (λ slot. words_or_none (written_in slot (store_of c.args.self.now))) c.args.slots.now c.loop-slot.slot-index 0 _ _ c.loop-slot-test.true
    (c.push_words.ensures ∙ ap (λ ws. take 16 (c.loop-slot.words.items ++ ws)) (c.words.ensures.words ∙ c.published-value.ensures)) c.loop-slot.invariant
