-- What `live C` finds and puts: a node of the description C that runs while stimuli arrive, which stand in the file `-`, and then a run line.
use Rattle.std.specs.Prelude.{◌≡◌, ◌<◌, ◌≤◌, ℕ, List, [], ◌∷◌, Some, true}
use Rattle.bus_semantics.specs.Common.{list_all, stamps_count, IsLegal, Plan, plan_of, item_fits, Session, IsSessionOf, IsBeginningOf}
use Rattle.rte_text.specs.declared.refusal.Refused.TheVariants.{Rule}
use Rattle.bus_semantics.specs.declared.entries.Stamped.{Stamped}
use Rattle.bus_semantics.specs.declared.script.Line.TheVariants as line
use Rattle.bus_semantics.specs.declared.script.Mapping.{Mapping}
use Rattle.core_lanes.specs.After.{after}
use Rattle.description_stages.specs.declared.planning.PlannedDescription.{PlannedDescription}
use Rattle.description_stages.specs.Plans.{IsPlanRefusalOf, IsPlannedOf}
use Rattle.feed_queue.specs.declared.feeds.Feeds.{Feeds}
use Rattle.feed_queue.specs.Reading.{AreFeeds, first_bad}
use Rattle.line_fields.specs.Texts.{lines_of}
use Rattle.live_lanes.specs.Calls.{called_in}
use Rattle.live_lanes.specs.Drawn.{IsDrawn, IsWhole}
use Rattle.live_node.specs.Printing.{entry_fits, live_text}
use Rattle.script_run.specs.Legal.{IsLegalFrom}
use Rattle.script_run.specs.Quieting.{IdlesAreQuiet}
use Rattle.commands.specs.declared.stop.Finding.{Finding}
use Rattle.commands.specs.declared.stop.Finding.TheVariants as finding
use Rattle.commands.specs.Commands.{Bytes}

-- ---- the files

-- a description of at most 7 cores, and stimuli over its plan, which give these wishes to four feeds
pub record AreLiveInputs (description stimuli : Bytes) (found : PlannedDescription) (feeds : Feeds) : Type 0 where
  pub described : IsPlannedOf description found
  pub few_cores : found.mapping.cores ≤ 7
  pub fed : AreFeeds (plan_of found.plan) stimuli feeds

abbrev pub CanServe : (description : Bytes) → (stimuli : Bytes) → Type 0
CanServe d s = (found : PlannedDescription) × (feeds : Feeds) × AreLiveInputs d s found feeds

-- ---- what is found of them

-- a description that breaks no rule and has 8 cores, beside which the environment has no seat
pub record HaveTooManyCores (description : Bytes) : Type 0 where
  pub found : PlannedDescription
  pub described : IsPlannedOf description found
  pub many : 7 < found.mapping.cores

-- a description of at most 7 cores, and stimuli of which this is the first bad line over its plan, with its least cause
pub record HaveBadStimulus (description stimuli : Bytes) (line cause : ℕ) : Type 0 where
  pub found : PlannedDescription
  pub described : IsPlannedOf description found
  pub few_cores : found.mapping.cores ≤ 7
  pub bad : first_bad (plan_of found.plan) [] (lines_of stimuli) ≡ Some (line, cause)

-- the description breaks a rule, or else it has too many cores, or else a line of the stimuli is refused
abbrev pub IsLiveFinding : (description : Bytes) → (stimuli : Bytes) → Finding → Type 0
IsLiveFinding d s (finding.Refused refusal) = IsPlanRefusalOf d (Rule refusal)
IsLiveFinding d s finding.TooManyCores = HaveTooManyCores d
IsLiveFinding d s (finding.Script line cause) = HaveBadStimulus d s line cause
IsLiveFinding d s (finding.Trace checked) = ⊥
IsLiveFinding d s finding.NoComponent = ⊥
IsLiveFinding d s (finding.Clash name) = ⊥
IsLiveFinding d s (finding.RefusedOf refusal which) = ⊥
IsLiveFinding d s finding.NoLink = ⊥

-- ---- what is put

-- What was made while stimuli came, from nothing: a legal history, in the order of stamps. The environment's calls in it are the wishes of the feeds,
-- drawn in this order of feeds, which names each feed as often as it has wishes: so each feed came whole, once and in its order.
pub record AreServed (p : Plan) (feeds : Feeds) (order : List ℕ) (entries : List Stamped) : Type 0 where
  pub legal : IsLegal p (after entries [])
  pub stamps : stamps_count entries ≡ true
  pub drawn : IsDrawn feeds order (called_in entries)
  pub whole : IsWhole feeds order

-- The bytes are the text of what was made while stimuli came and of a run line that goes on from it. Each entry and item fits the plan, and if the run line closes
-- with `idle` all is quiet.
pub record IsTextOfLive (p : Plan) (m : Mapping) (feeds : Feeds) (bytes : Bytes) : Type 0 where
  pub order : List ℕ
  pub entries : List Stamped
  pub served : AreServed p feeds order entries
  pub fit : list_all (entry_fits p) entries ≡ true
  pub session : Session
  pub run : IsSessionOf (line.Run ∷ []) session
  pub run_fits : list_all (item_fits p) session ≡ true
  pub legal : IsLegalFrom p m (after entries []) session
  pub quiet : IdlesAreQuiet p (after entries []) session
  pub text_is : bytes ≡ live_text p order entries session

-- the bytes are the text of what was made while stimuli came, whole, and of a begun run line
pub record IsTextOfBegunLive (p : Plan) (m : Mapping) (feeds : Feeds) (bytes : Bytes) : Type 0 where
  pub order : List ℕ
  pub entries : List Stamped
  pub served : AreServed p feeds order entries
  pub session : Session
  pub run : IsBeginningOf (line.Run ∷ []) session
  pub legal : IsLegalFrom p m (after entries []) session
  pub text_is : bytes ≡ live_text p order entries session

-- the headline of a live node: the bytes are a description and stimuli over its plan, and the text is that of a node that they were given to
pub record SaysLive (description stimuli text : Bytes) : Type 0 where
  pub found : PlannedDescription
  pub feeds : Feeds
  pub inputs : AreLiveInputs description stimuli found feeds
  pub live : IsTextOfLive (plan_of found.plan) found.mapping feeds text

-- the text is that of the beginning of such a run
pub record BeginsLive (description stimuli text : Bytes) : Type 0 where
  pub found : PlannedDescription
  pub feeds : Feeds
  pub inputs : AreLiveInputs description stimuli found feeds
  pub begun : IsTextOfBegunLive (plan_of found.plan) found.mapping feeds text
