use Rattle.std.proofs.Common.{◌≡◌, drop}
use Rattle.runnable_lang.specs.Trees.{body_tree}
use Rattle.runnable_lang.specs.Places.{first, failing_among}
use Rattle.runnable_lang.specs.Tests.{test_of}
use Rattle.runnable_lang.proofs.walk.Walk.+walk.Given as goal

abbrev pub invariant-in_body-loop-position : goal.invariant-in_body-loop-position
invariant-in_body-loop-position l =
    first (failing_among (test_of l.self.rule l.self.table.now.accesses.now) l.around l.position (body_tree (drop l.position l.body)))
    ≡ first (failing_among (test_of l.self.rule l.self.table.now.accesses.now) l.around 0 (body_tree l.body))
