-- What a writer has that counts its faults, and what a sink holds that gathers output for it.
use Rattle.std.specs.Prelude.{ℕ, List, Option}
use Rattle.std.specs.Io.KnownBytes.{append_known}

-- a writer: the bytes that it has, if they are known, and its count of faults
pub record Counted : Type 0 where
  pub contents : Option (List ℕ)
  pub faults : ℕ

-- a sink: the bytes that its writer has, if they are known, those that it took and has not written yet, and its writer's count of faults
pub record Gathered : Type 0 where
  pub written : Option (List ℕ)
  pub left : List ℕ
  pub faults : ℕ

-- all bytes that the sink took: those that its writer has, and then those that are left
abbrev pub taken : Gathered → Option (List ℕ)
taken s = append_known s.written s.left
