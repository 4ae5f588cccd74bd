use Rattle.std.proofs.Common.{ℕ, ℤ, List, ap}
use Rattle.runnable_lang.specs.declared.program.AccessKind.TheVariants.{IRead, IrvIRead}
use Rattle.bus_semantics.specs.Common.{Go, put_all, words_under, access}
use Rattle.implicit_buffers.proofs.Keeping.{leaves_what_was_fetched}
use Rattle.implicit_buffers.proofs.laws.programs_leave_what_was_fetched.Goals as goal

pub returns-clause-kept : goal.returns-clause-kept
returns-clause-kept c r body s t answers left goes = leaves_what_was_fetched r body s t answers left goes

pub returns-clause-read : goal.returns-clause-read
returns-clause-read c r before s t answers left port item vars goes =
    ap (λ (f : List (ℕ × List ℤ)). Go (put_all vars (words_under (access r IRead port item).target f) t) left) (leaves_what_was_fetched r before s t answers left goes)

pub returns-clause-read_variable : goal.returns-clause-read_variable
returns-clause-read_variable c r before s t answers left item vars goes =
    ap (λ (f : List (ℕ × List ℤ)). Go (put_all vars (words_under (access r IrvIRead 0 item).target f) t) left) (leaves_what_was_fetched r before s t answers left goes)
