use Rattle.std.proofs.Common.{◌≡◌, ◌++◌, take}
use Rattle.std.specs.List.{flat_map}
use Rattle.plan_text.specs.Beginnings.{Begins}
use Rattle.plan_text.specs.Lines.{join_line}
use Rattle.plan_text.proofs.joins.add_joins.Given as goal

-- those so far
abbrev pub invariant-loop-join : goal.invariant-loop-join
invariant-loop-join l = (l.text.items ≡ l.initial.text.items ++ flat_map (join_line l.d l.f) (take l.join-index l.joins)) × Begins l.d l.f l.beginning
