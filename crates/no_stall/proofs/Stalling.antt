-- A legal history of a sound plan that is at rest is quiet.
use Rattle.bus_semantics.specs.declared.script.Mapping.{Mapping}
use Rattle.bus_semantics.specs.Common.{Plan, History, IsLegal, IsAtRest, IsQuiet, IsSound}
use Rattle.no_stall.proofs.Premises.{Laws}
use Rattle.no_stall.proofs.Waiting as waiting
use Rattle.no_stall.proofs.Quietness as quietness

pub quiet : (p : Plan) (m : Mapping) (sound : IsSound p m) (laws : Laws p m) (h : History) → IsLegal p h → IsAtRest p m h → IsQuiet p h
quiet p m sound laws h legal rest = quietness.quiet p m sound laws h legal rest (waiting.none_runs p m sound laws h legal rest)
