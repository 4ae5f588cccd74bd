-- What a sound plan bounds of a runnable, so that its body fits in words, jumps and a budget.
use Rattle.std.specs.Prelude.{◌≡◌, ◌≤◌, ℕ, List, length, Bool, true, false}
use Rattle.bus_semantics.specs.Common.{AccessKind, AccessSig, body_cost, Plan, Runnable}
use Rattle.runnable_lang.specs.declared.program.AccessKind.TheVariants as kind
use Rattle.task_generator.specs.Numbers.{numbered}
use Rattle.task_generator.specs.Servers.{served, arguments_in}

-- whether a statement of this kind gives words
abbrev pub gives : AccessKind → Bool
gives kind.Write = true
gives kind.Send = true
gives kind.IWrite = true
gives kind.IrvWrite = true
gives kind.IrvIWrite = true
gives kind.Call = true
gives kind.ACall = true
gives _ = false

-- no statement gives more than 16 words
abbrev pub GivesFewWords : List AccessSig → Type 0
GivesFewWords s = (k : AccessKind) (port item : ℕ) → gives k ≡ true → length (numbered s k port item).ins ≤ 16

-- nor has its operation more than 16 arguments, nor costs its program more than 100,000, and each access has a target
pub record IsBounded (p : Plan) (r : Runnable) : Type 0 where
  pub words : GivesFewWords r.accesses
  pub targets : length r.accesses ≡ length r.targets
  pub arguments : length (arguments_in (served p.servers r.server)) ≤ 16
  pub cost : body_cost r.program.body ≤ 100000
