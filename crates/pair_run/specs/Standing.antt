-- Where two nodes stand after a joint session, and how calls carry it on. Both began without a history.
use Rattle.std.specs.Prelude.{◌≡◌, ℕ, List, [], ◌++◌, Option}
use Rattle.rte_text.specs.Sinks.{AppendsWhereTold, AppendsPrefixWhereTold}
use Rattle.bus_semantics.specs.declared.script.Mapping.{Mapping}
use Rattle.bus_semantics.specs.declared.version.Version.TheVariants as version
use Rattle.bus_semantics.specs.Common.{Plan, IsSound, IsLegalRun, Ordered, Session, history_of}
use Rattle.core_runtime.specs.Nodes.{NodeState}
use Rattle.pair_run.specs.Sent.{EnvironmentKeepsLimits}
use Rattle.signal_link.specs.Unframing.{Kept}
use Rattle.script_run.specs.declared.script.ScriptRun.{ScriptRun}
use Rattle.script_run.specs.declared.script.ScriptRun.TheVariants as run
use Rattle.script_run.specs.declared.writing.Writing.{Writing}
use Rattle.script_run.specs.Standing.{StandsIn, outside}
use Rattle.pair_run.specs.declared.pair.PairRun.{PairRun}
use Rattle.pair_run.specs.declared.pair.PairRun.TheVariants.{Finished, Failed, LinkFailed, Memory}
use Rattle.pair_run.specs.Joint.{Joint, Side, one, two, side_of, prefix_of, joint_lines}

-- how the lines of a side are written
pub record Writes (k : Side) (w : Writing) : Type 0 where
  pub spelt : w.version ≡ version.Two
  pub behind : w.prefix.now ≡ prefix_of k

abbrev pub StandsOn : Plan → Mapping → NodeState → Session → Type 0
StandsOn p m node s = (orders : List Ordered) × StandsIn p m [] orders outside node s

-- outside run lines, each for what happened on its side; the plans are sound, and what the environment of the first node sent lies within the
-- limits
pub record StandBoth (p : Plan) (m : Mapping) (q : Plan) (n : Mapping) (first second : NodeState) (j : Joint) : Type 0 where
  pub sound_one : IsSound p m
  pub sound_two : IsSound q n
  pub on_one : StandsOn p m first (side_of one j)
  pub on_two : StandsOn q n second (side_of two j)
  pub limits : EnvironmentKeepsLimits p (history_of (side_of one j))

-- both stand so after some joint session
pub record Stand (first second : NodeState) : Type 0 where
  pub p : Plan
  pub m : Mapping
  pub q : Plan
  pub n : Mapping
  pub joint : Joint
  pub stand : StandBoth p m q n first second joint

-- items of this kind were added, and their lines were put
pub record AddsBoth (kind : Joint → Type 0) (p : Plan) (m : Mapping) (q : Plan) (n : Mapping) (first second : NodeState) (j : Joint) (before after : Option (List ℕ)) : Type 0 where
  pub items : Joint
  pub is : kind items
  pub stand : StandBoth p m q n first second (items ++ j)
  pub put : AppendsWhereTold before after (joint_lines p q items)

-- items that would go on as ones of this kind were added legally, and a prefix of their lines was put
pub record CutsBoth (kind : Joint → Type 0) (p : Plan) (m : Mapping) (q : Plan) (n : Mapping) (j : Joint) (before after : Option (List ℕ)) : Type 0 where
  pub items : Joint
  pub later : Joint
  pub is : kind (later ++ items)
  pub legal_one : IsLegalRun p m (side_of one (items ++ j))
  pub legal_two : IsLegalRun q n (side_of two (items ++ j))
  pub put : AppendsPrefixWhereTold before after (joint_lines p q items)

abbrev pub GoOn : (kind : Joint → Type 0) → PairRun → Plan → Mapping → Plan → Mapping → (first second : NodeState) → Joint → (before after : Option (List ℕ)) → Type 0
GoOn kind Finished p m q n first second j before after = AddsBoth kind p m q n first second j before after
GoOn kind Failed p m q n first second j before after = CutsBoth kind p m q n j before after
GoOn kind LinkFailed p m q n first second j before after = CutsBoth kind p m q n j before after
GoOn kind Memory p m q n first second j before after = CutsBoth kind p m q n j before after

-- after whatever joint session both stand, items of this kind are added to it
abbrev pub CarryBoth : (kind : Joint → Type 0) → PairRun → (one_old one_new two_old two_new : NodeState) → (before after : Option (List ℕ)) → Type 0
CarryBoth kind answer one_old one_new two_old two_new before after = (p : Plan) (m : Mapping) (q : Plan) (n : Mapping) (j : Joint)
    → StandBoth p m q n one_old two_old j → GoOn kind answer p m q n one_new two_new j before after

-- unless the link failed nothing is on the way, and the unframer keeps what it kept
abbrev pub LinkAfter : PairRun → (way : List ℕ) → (before after : Kept) → Type 0
LinkAfter Finished way before after = (way ≡ []) × (after ≡ before)
LinkAfter Failed way before after = (way ≡ []) × (after ≡ before)
LinkAfter LinkFailed way before after = Unit {0}
LinkAfter Memory way before after = (way ≡ []) × (after ≡ before)

-- how far both came, where what was done last came so far
abbrev pub came_of : ScriptRun → PairRun
came_of run.Finished = Finished
came_of run.Failed = Failed
came_of run.Memory = Memory
