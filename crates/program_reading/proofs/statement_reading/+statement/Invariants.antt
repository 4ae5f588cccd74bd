use Rattle.std.proofs.Common.{◌≡◌, map, take}
use Rattle.runnable_lang.specs.Trees.{stmt_tree}
use Rattle.serde_json.specs.View.{view}
use Rattle.program_reading.specs.Statements.{block, context_of}
use Rattle.program_reading.proofs.statement_reading.+statement.Given as goal

abbrev pub invariant-read_stmts-loop-position : goal.invariant-read_stmts-loop-position
invariant-read_stmts-loop-position l = map stmt_tree l.body.items ≡ map (λ v. (block (view v)).stmt (context_of l.scope)) (take l.position l.items)
