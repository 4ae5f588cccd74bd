-- What a run of two linked nodes puts.
use Rattle.std.specs.Prelude.{◌≡◌, ℕ, List, [], Bool, true, Option}
use Rattle.bus_semantics.specs.Common.{list_all, Plan, item_fits, history_of, to_send}
use Rattle.rte_text.specs.Counts.{Rose}
use Rattle.rte_text.specs.Sinks.{AppendsWhereTold, AppendsPrefixWhereTold}
use Rattle.bus_laws.specs.Common.{Line, Mapping}
use Rattle.core_runtime.specs.Nodes.{NodeState, IsLawfulNode}
use Rattle.script_reading.specs.Carried.{IsCarriable}
use Rattle.script_reading.specs.Meaning.{Asked, a_call, asked_of}
use Rattle.script_reading.specs.Reserved.{keeps_off}
use Rattle.script_run.specs.Quieting.{IdlesAreQuiet}
use Rattle.pair_run.specs.Sent.{takes}
use Rattle.signal_link.specs.declared.link_elem.LinkElem.{LinkElem}
use Rattle.pair_run.specs.declared.pair.PairRun.{PairRun}
use Rattle.pair_run.specs.declared.pair.PairRun.TheVariants.{Finished, Failed, LinkFailed, Memory}
use Rattle.pair_run.specs.Joint.{Joint, one, two, side_of, joint_text}
use Rattle.pair_run.specs.Linked.{linked_in}
use Rattle.pair_run.specs.Pairs.{IsPairOf, IsBegunPairOf}

-- a line that the environment of the first node may carry out: it keeps off the linked elements, and what it sends lies within the limits
abbrev pub keeps_limits : Plan → Asked → Bool
keeps_limits p (a_call (to_send x ws)) = takes p x ws
keeps_limits p _ = true

pub record IsPairLine (p : Plan) (links : List LinkElem) (l : Line) : Type 0 where
  pub carriable : IsCarriable p l
  pub off : keeps_off (linked_in p links) (asked_of l) ≡ true
  pub limits : keeps_limits p (asked_of l) ≡ true

-- The bytes put are the text of a whole run. On each side the items fit the plan, what closes with `idle` is quiet, and the node is lawful.
pub record PrintsPair (p : Plan) (m : Mapping) (q : Plan) (n : Mapping) (links : List LinkElem) (script : List Line) (first second : NodeState) (before after : Option (List ℕ)) : Type 0 where
  pub joint : Joint
  pub run : IsPairOf p m q n links script joint
  pub fit_one : list_all (item_fits p) (side_of one joint) ≡ true
  pub fit_two : list_all (item_fits q) (side_of two joint) ≡ true
  pub quiet_one : IdlesAreQuiet p [] (side_of one joint)
  pub quiet_two : IdlesAreQuiet q [] (side_of two joint)
  pub lawful_one : IsLawfulNode first (history_of (side_of one joint))
  pub lawful_two : IsLawfulNode second (history_of (side_of two joint))
  pub put : AppendsWhereTold before after (joint_text p q joint)

-- the bytes put are a prefix of the text of a begun run
pub record PrintsBegunPair (p : Plan) (m : Mapping) (q : Plan) (n : Mapping) (links : List LinkElem) (script : List Line) (before after : Option (List ℕ)) : Type 0 where
  pub joint : Joint
  pub run : IsBegunPairOf p m q n links script joint
  pub put : AppendsPrefixWhereTold before after (joint_text p q joint)

-- a put that failed raised the sink's count, a way that failed the link's, and nothing else changes either
abbrev pub SinkFaultsAfter : PairRun → (before after : ℕ) → Type 0
SinkFaultsAfter Finished before after = after ≡ before
SinkFaultsAfter Failed before after = Rose before after
SinkFaultsAfter LinkFailed before after = after ≡ before
SinkFaultsAfter Memory before after = after ≡ before

abbrev pub LinkFaultsAfter : PairRun → (before after : ℕ) → Type 0
LinkFaultsAfter Finished before after = after ≡ before
LinkFaultsAfter Failed before after = after ≡ before
LinkFaultsAfter LinkFailed before after = Rose before after
LinkFaultsAfter Memory before after = after ≡ before
