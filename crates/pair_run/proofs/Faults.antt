-- Counts of faults, and what is on the way, after one thing and then another.
use Rattle.std.proofs.Common.{◌≡◌, ◌≢◌, ℕ, List, [], refl, subst}
use Rattle.signal_link.specs.Unframing.{Kept}
use Rattle.script_run.specs.declared.script.ScriptRun.{ScriptRun}
use Rattle.script_run.specs.declared.script.ScriptRun.TheVariants as run
use Rattle.script_run.specs.Running.{FaultsAfter}
use Rattle.pair_run.specs.Common.{PairRun, Finished, Failed, LinkFailed, Memory, SinkFaultsAfter, came_of}
use Rattle.pair_run.specs.Running.{LinkFaultsAfter}
use Rattle.pair_run.specs.Standing.{LinkAfter}

pub sink_came : (r : ScriptRun) (before after : ℕ) → FaultsAfter r before after → SinkFaultsAfter (came_of r) before after
sink_came run.Finished before after h = h
sink_came run.Failed before after h = h
sink_came run.Memory before after h = h

-- after what raised no count
pub sink_then : (answer : PairRun) (before between after : ℕ) → between ≡ before → SinkFaultsAfter answer between after → SinkFaultsAfter answer before after
sink_then answer before between after same h = subst (λ (f : ℕ). SinkFaultsAfter answer f after) same h

pub link_then : (answer : PairRun) (before between after : ℕ) → between ≡ before → LinkFaultsAfter answer between after → LinkFaultsAfter answer before after
link_then answer before between after same h = subst (λ (f : ℕ). LinkFaultsAfter answer f after) same h

-- what does not use the link
pub link_same : (answer : PairRun) (count : ℕ) → answer ≢ LinkFailed → LinkFaultsAfter answer count count
link_same Finished count h = refl
link_same Failed count h = refl
link_same LinkFailed count h = absurd (h refl)
link_same Memory count h = refl

pub after_same : (answer : PairRun) (way : List ℕ) (kept : Kept) → way ≡ [] → LinkAfter answer way kept kept
after_same Finished way kept h = (h, refl)
after_same Failed way kept h = (h, refl)
after_same LinkFailed way kept h = tt
after_same Memory way kept h = (h, refl)

pub after_then : (answer : PairRun) (way : List ℕ) (before between after : Kept) → between ≡ before → LinkAfter answer way between after → LinkAfter answer way before after
after_then answer way before between after same h = subst (λ (k : Kept). LinkAfter answer way k after) same h

pub no_link_came : (r : ScriptRun) → came_of r ≢ LinkFailed
no_link_came run.Finished h = cc
no_link_came run.Failed h = cc
no_link_came run.Memory h = cc
