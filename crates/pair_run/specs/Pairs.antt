-- A run of two linked nodes.
use Rattle.std.specs.Prelude.{List, ◌++◌}
use Rattle.bus_laws.specs.Common.{Line, Mapping}
use Rattle.bus_semantics.specs.Common.{Plan, IsLegalRun}
use Rattle.signal_link.specs.declared.link_elem.LinkElem.{LinkElem}
use Rattle.pair_run.specs.Joint.{Joint, one, two, side_of}
use Rattle.pair_run.specs.Crossing.{Follows}

-- the script's, and legal on each side
pub record IsPairOf (p : Plan) (m : Mapping) (q : Plan) (n : Mapping) (links : List LinkElem) (script : List Line) (j : Joint) : Type 0 where
  pub follows : Follows links script j
  pub first : IsLegalRun p m (side_of one j)
  pub second : IsLegalRun q n (side_of two j)

-- a beginning of one: it would go on as the script's, and is legal on each side so far
pub record IsBegunPairOf (p : Plan) (m : Mapping) (q : Plan) (n : Mapping) (links : List LinkElem) (script : List Line) (j : Joint) : Type 0 where
  pub later : Joint
  pub follows : Follows links script (later ++ j)
  pub first : IsLegalRun p m (side_of one j)
  pub second : IsLegalRun q n (side_of two j)
