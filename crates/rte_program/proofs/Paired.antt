-- What running a script on two new nodes says of the whole run.
use Rattle.std.proofs.Common.{◌≡◌, ℕ, List, [], ◌∷◌, Option, inl, inr, refl, subst}
use Rattle.std.specs.Prelude.{◌⊎◌, ◌≢◌}
use Rattle.rte_text.specs.declared.sink.Put.TheVariants as put
use Rattle.bus_semantics.specs.declared.script.Line.{Line}
use Rattle.bus_semantics.specs.declared.script.Mapping.{Mapping}
use Rattle.bus_semantics.specs.Plan.{Plan, plan_of}
use Rattle.core_runtime.specs.Nodes.{NodeState}
use Rattle.description_stages.specs.declared.planning.PlannedDescription.{PlannedDescription}
use Rattle.signal_link.specs.declared.link_elem.LinkElem.{LinkElem}
use Rattle.pair_run.specs.declared.pair.PairRun.{PairRun}
use Rattle.pair_run.specs.declared.pair.PairRun.TheVariants.{Finished, Failed, LinkFailed, Memory}
use Rattle.pair_run.specs.Joint.{joint_text}
use Rattle.pair_run.specs.Linked.{links_of}
use Rattle.pair_run.specs.Pairs.{IsBegunPairOf, IsPairOf}
use Rattle.pair_run.specs.Running as joint
use Rattle.commands.specs.declared.status.Status.{Status}
use Rattle.commands.specs.Carrying.{CarriesOut, PutsBeginning}
use Rattle.commands.specs.Commands.{Bytes, pair}
use Rattle.commands.specs.PairCommand.{ArePairInputs}
use Rattle.commands.specs.Verdicts.{done}
use Rattle.rte_program.specs.Running.{IsLinkedRun, IsPairRun, PrintsPairBeginning, PrintsPairRun}

module _ (p : Plan) (m : Mapping) (q : Plan) (n : Mapping) (links : List LinkElem) (are : links ≡ links_of p q) (script : List Line) (before after : Option Bytes) where
  pub ran : (first second : NodeState) → joint.PrintsPair p m q n links script first second before after → PrintsPairRun p m q n script before after
  ran first second r = record {
    text = joint_text p q r.joint;
    run = record {
      joint = r.joint;
      run = subst (λ (ls : List LinkElem). IsPairOf p m q n ls script r.joint) are r.run;
      fit_one = r.fit_one;
      fit_two = r.fit_two;
      quiet_one = r.quiet_one;
      quiet_two = r.quiet_two;
      text_is = refl;
    };
    put = r.put;
  }

  pub began : joint.PrintsBegunPair p m q n links script before after → PrintsPairBeginning p m q n script before after
  began r = record {
    text = joint_text p q r.joint;
    begun = record { joint = r.joint; run = subst (λ (ls : List LinkElem). IsBegunPairOf p m q n ls script r.joint) are r.run; text_is = refl };
    put = r.put;
  }

  -- what run_pair says, answer by answer
  pub linked : (answer : PairRun) (first second : NodeState) (f g : ℕ) → (answer ≡ Finished → joint.PrintsPair p m q n links script first second before after)
      → (answer ≢ Finished → joint.PrintsBegunPair p m q n links script before after) → joint.SinkFaultsAfter answer f g → IsLinkedRun p m q n script answer before after f g
  linked Finished first second f g whole cut faults = (faults, ran first second (whole refl))
  linked Failed first second f g whole cut faults = (faults, began (cut (λ e. absurd cc)))
  linked LinkFailed first second f g whole cut faults = (faults, began (cut (λ e. absurd cc)))
  linked Memory first second f g whole cut faults = (faults, inr (began (cut (λ e. absurd cc))))

-- how `pair C1 C2 S` ended, if its script was run
pub carried : (c d s one two script : Bytes) (found beside : PlannedDescription) (lines : List Line) → ArePairInputs one two script found beside lines → (answer : Status) (before after : Option Bytes) (f g : ℕ)
    → IsPairRun (plan_of found.plan) found.mapping (plan_of beside.plan) beside.mapping lines answer before after f g → CarriesOut (pair c d s) (one ∷ two ∷ script ∷ []) answer before after f g
carried c d s one two script found beside lines inputs answer before after f g (inl x) = let printed = x.2 in inl (record {
  verdict = done;
  verdict_is = (found, beside, lines, inputs);
  text = printed.text;
  said = record { found = found; beside = beside; lines = lines; inputs = inputs; run = printed.run };
  put = record { answered = put.Done; status_is = x.0; told = printed.put; faults = x.1 };
})
carried c d s one two script found beside lines inputs answer before after f g (inr (inl x)) = let printed = x.2 in inr (inl (record {
  status_is = x.0;
  rose = x.1;
  put = record { text = printed.text; begun = record { found = found; beside = beside; lines = lines; inputs = inputs; begun = printed.begun }; put = printed.put };
}))
carried c d s one two script found beside lines inputs answer before after f g (inr (inr x)) = inr (inr (record { status_is = x.0; faults = x.1; put = by x.2 }))
  where
    by : (after ≡ before) ⊎ PrintsPairBeginning (plan_of found.plan) found.mapping (plan_of beside.plan) beside.mapping lines before after
        → (after ≡ before) ⊎ PutsBeginning (pair c d s) (one ∷ two ∷ script ∷ []) before after
    by (inl same) = inl same
    by (inr printed) = inr (record { text = printed.text; begun = record { found = found; beside = beside; lines = lines; inputs = inputs; begun = printed.begun }; put = printed.put })
