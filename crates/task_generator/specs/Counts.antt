-- The next numbers of accesses.
use Rattle.std.specs.Prelude.{ℕ, if◌then◌else◌}
use Rattle.bus_semantics.specs.Common.{AccessKind, is_read_early, is_written_late}
use Rattle.task_generator.specs.declared.numbers.Counts.{Counts}

-- the next one of an access of this kind
abbrev pub count_of : Counts → AccessKind → ℕ
count_of c k = if is_read_early k then c.fetched else (if is_written_late k then c.published else c.all)
