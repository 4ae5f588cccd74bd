-- What accesses name in an instance.
use Rattle.std.specs.Prelude.{ℕ, get_or}
use Rattle.task_machine.specs.declared.instr.Targets.{Targets}

abbrev pub number_at : Targets → (access : ℕ) → ℕ
number_at t a = get_or t.numbers a 0

abbrev pub fetched_at : Targets → (access : ℕ) → ℕ
fetched_at t a = get_or t.fetched a 0

abbrev pub written_at : Targets → (access : ℕ) → ℕ
written_at t a = get_or t.written a 0
