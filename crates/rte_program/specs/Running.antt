-- How the run of a script on a new node ends, or on two, and that of a node to which stimuli come.
use Rattle.std.specs.Prelude.{◌≡◌, ℕ, ◌⊎◌, List, Option}
use Rattle.rte_text.specs.Counts.{Rose}
use Rattle.rte_text.specs.Sinks.{AppendsPrefixWhereTold, AppendsWhereTold}
use Rattle.bus_semantics.specs.declared.script.Line.{Line}
use Rattle.bus_semantics.specs.declared.script.Mapping.{Mapping}
use Rattle.bus_semantics.specs.Plan.{Plan}
use Rattle.feed_queue.specs.declared.feeds.Feeds.{Feeds}
use Rattle.pair_run.specs.declared.pair.PairRun.{PairRun}
use Rattle.pair_run.specs.declared.pair.PairRun.TheVariants.{Finished, Failed, LinkFailed, Memory}
use Rattle.commands.specs.declared.status.Status.{Status}
use Rattle.commands.specs.declared.status.Status.TheVariants as status
use Rattle.commands.specs.Commands.{Bytes}
use Rattle.commands.specs.LiveCommand.{IsTextOfBegunLive, IsTextOfLive}
use Rattle.commands.specs.PairCommand.{IsTextOfBegunPair, IsTextOfPair}
use Rattle.commands.specs.RunCommand.{IsTextOfBeginning, IsTextOfRun}

-- the text of a run was put
pub record PrintsRun (p : Plan) (m : Mapping) (script : List Line) (before after : Option Bytes) : Type 0 where
  pub text : Bytes
  pub run : IsTextOfRun p m script text
  pub put : AppendsWhereTold before after text

-- a prefix of the text of a begun run was put
pub record PrintsBeginning (p : Plan) (m : Mapping) (script : List Line) (before after : Option Bytes) : Type 0 where
  pub text : Bytes
  pub begun : IsTextOfBeginning p m script text
  pub put : AppendsPrefixWhereTold before after text

-- a run ended, a put failed, or there was no memory, before the first line or in a run line
abbrev pub IsRun : Plan → Mapping → (script : List Line) → Status → (before : Option Bytes) → (after : Option Bytes) → (faults_before : ℕ) → (faults_after : ℕ) → Type 0
IsRun p m script answer before after f g =
    ((answer ≡ status.Done) × (g ≡ f) × PrintsRun p m script before after)
    ⊎ (((answer ≡ status.NotWritten) × Rose f g × PrintsBeginning p m script before after)
    ⊎ ((answer ≡ status.Memory) × (g ≡ f) × ((after ≡ before) ⊎ PrintsBeginning p m script before after)))

-- ---- on two nodes

pub record PrintsPairRun (p : Plan) (m : Mapping) (q : Plan) (n : Mapping) (script : List Line) (before after : Option Bytes) : Type 0 where
  pub text : Bytes
  pub run : IsTextOfPair p m q n script text
  pub put : AppendsWhereTold before after text

pub record PrintsPairBeginning (p : Plan) (m : Mapping) (q : Plan) (n : Mapping) (script : List Line) (before after : Option Bytes) : Type 0 where
  pub text : Bytes
  pub begun : IsTextOfBegunPair p m q n script text
  pub put : AppendsPrefixWhereTold before after text

-- a run over a link ended, a put failed, a call of the link failed, or there was no memory, before the first line or in a run line
abbrev pub IsLinkedRun : Plan → Mapping → Plan → Mapping → (script : List Line) → PairRun → (before : Option Bytes) → (after : Option Bytes) → (faults_before : ℕ) → (faults_after : ℕ) → Type 0
IsLinkedRun p m q n script Finished before after f g = (g ≡ f) × PrintsPairRun p m q n script before after
IsLinkedRun p m q n script Failed before after f g = Rose f g × PrintsPairBeginning p m q n script before after
IsLinkedRun p m q n script LinkFailed before after f g = (g ≡ f) × PrintsPairBeginning p m q n script before after
IsLinkedRun p m q n script Memory before after f g = (g ≡ f) × ((after ≡ before) ⊎ PrintsPairBeginning p m q n script before after)

-- so it ended with this status
abbrev pub IsPairRun : Plan → Mapping → Plan → Mapping → (script : List Line) → Status → (before : Option Bytes) → (after : Option Bytes) → (faults_before : ℕ) → (faults_after : ℕ) → Type 0
IsPairRun p m q n script answer before after f g =
    ((answer ≡ status.Done) × (g ≡ f) × PrintsPairRun p m q n script before after)
    ⊎ (((answer ≡ status.NotWritten) × Rose f g × PrintsPairBeginning p m q n script before after)
    ⊎ ((answer ≡ status.Memory) × (g ≡ f) × ((after ≡ before) ⊎ PrintsPairBeginning p m q n script before after)))

-- ---- while stimuli come

pub record PrintsLiveRun (p : Plan) (m : Mapping) (feeds : Feeds) (before after : Option Bytes) : Type 0 where
  pub text : Bytes
  pub live : IsTextOfLive p m feeds text
  pub put : AppendsWhereTold before after text

pub record PrintsLiveBeginning (p : Plan) (m : Mapping) (feeds : Feeds) (before after : Option Bytes) : Type 0 where
  pub text : Bytes
  pub begun : IsTextOfBegunLive p m feeds text
  pub put : AppendsPrefixWhereTold before after text

-- a node was served by feeds and then ran, a put failed, or there was no memory, before the first line or in the run line
abbrev pub IsLiveRun : Plan → Mapping → Feeds → Status → (before : Option Bytes) → (after : Option Bytes) → (faults_before : ℕ) → (faults_after : ℕ) → Type 0
IsLiveRun p m feeds answer before after f g =
    ((answer ≡ status.Done) × (g ≡ f) × PrintsLiveRun p m feeds before after)
    ⊎ (((answer ≡ status.NotWritten) × Rose f g × PrintsLiveBeginning p m feeds before after)
    ⊎ ((answer ≡ status.Memory) × (g ≡ f) × ((after ≡ before) ⊎ PrintsLiveBeginning p m feeds before after)))
