use Rattle.std.proofs.Common.{true, ◌+◌, [], ◌∷◌, ◌++◌, ap, ◌∙◌}
use Rattle.bus_semantics.specs.Activations.{is_read_early, is_written_late}
use Rattle.runnable_lang.specs.declared.program.AccessKind.TheVariants as kind
use Rattle.task_generator.specs.Counts.{count_of}
use Rattle.task_generator.proofs.Numbering.{numbers_more, one_at_most}
use Rattle.task_generator.proofs.numbers.numbers_of.Goals as goal

pub loop-access-preserved : goal.loop-access-preserved
loop-access-preserved c =
    let x = c.access-item.result in
    let old = c.loop-access.counts in
    let k = c.loop-access.access-index + 1 in
    record {
      so_far = numbers_more c.args.accesses.now c.loop-access.access-index x x c.loop-access.found.items c.push.new.self.items _ (count_of old) (count_of c.add.new.self) c.loop-access-test.true c.access-item.is
          (c.in_ok-push.ensures.items ∙ ap (λ n. c.loop-access.found.items ++ n ∷ []) c.of.ensures) c.add.ensures c.loop-access.invariant.so_far;
      all = one_at_most true c.add.new.self.all old.all k (c.add.ensures kind.Write) c.loop-access.invariant.all;
      fetched = one_at_most (is_read_early x.kind) c.add.new.self.fetched old.fetched k (c.add.ensures kind.IRead) c.loop-access.invariant.fetched;
      published = one_at_most (is_written_late x.kind) c.add.new.self.published old.published k (c.add.ensures kind.IWrite) c.loop-access.invariant.published;
    }
