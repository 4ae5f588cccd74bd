-- Counts that a `u64` keeps.
use Rattle.std.specs.Prelude.{ℕ, ◌+◌, ◌-◌, ◌^◌, ◌<◌, nat_lt, if◌then◌else◌}

-- the last value of a count, where it stands
abbrev pub last_count : ℕ
last_count = 2 ^ 64 - 1

-- one more, up to the last value
abbrev pub raised : ℕ → ℕ
raised count = if nat_lt count last_count then count + 1 else count

-- the count is more than before, or it stands at its last value
abbrev pub Rose : ℕ → ℕ → Type 0
Rose before after = after < last_count → before < after
