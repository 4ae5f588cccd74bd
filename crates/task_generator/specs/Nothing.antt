-- Statements that ask nothing of the bus and set nothing, whatever they run over. A loop of them needs no instructions.
use Rattle.std.specs.Prelude.{Bool, true, false, ◌&&◌, ◌||◌, ◌==◌}
use Rattle.runnable_lang.specs.Trees.{StmtTree, chooses, repeats, BodyTree, done, next}

-- a choice or a loop of such statements, and a loop without turns
abbrev mutual
  pub does_nothing : StmtTree → Bool
  does_nothing (chooses c first second) = do_nothing first && do_nothing second
  does_nothing (repeats turns body) = (turns == 0) || do_nothing body
  does_nothing _ = false

  pub do_nothing : BodyTree → Bool
  do_nothing done = true
  do_nothing (next st body) = does_nothing st && do_nothing body
