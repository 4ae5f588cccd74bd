-- The words that a call gives.
use Rattle.std.specs.Prelude.{ℤ, List, map}
use Rattle.bus_semantics.specs.Common.{clamped, expr_tree, worth}
use Rattle.task_machine.specs.declared.given.GivenWord.{GivenWord}

-- each word over the variables, clamped to its limits
abbrev pub words_given : List ℤ → List GivenWord → List ℤ
words_given vars ws = map (λ (w : GivenWord). clamped w.limits (worth vars (expr_tree w.value))) ws
