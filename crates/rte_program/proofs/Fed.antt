-- What serving a new node by feeds, and putting what came of it, says of the whole.
use Rattle.std.proofs.Common.{◌≡◌, ℕ, [], ◌∷◌, Option, inl, inr, refl, subst}
use Rattle.std.specs.Prelude.{◌⊎◌}
use Rattle.rte_text.specs.declared.sink.Put.TheVariants as put
use Rattle.bus_semantics.specs.declared.plan.BusPlan.{BusPlan}
use Rattle.bus_semantics.specs.declared.script.Mapping.{Mapping}
use Rattle.bus_semantics.specs.Plan.{plan_of}
use Rattle.core_runtime.specs.Nodes.{NodeState, IsLawfulNode}
use Rattle.description_stages.specs.declared.planning.PlannedDescription.{PlannedDescription}
use Rattle.feed_queue.specs.Passes.{order_of}
use Rattle.feed_queue.specs.declared.feeds.Feeds.{Feeds}
use Rattle.live_node.specs.declared.serving.Report.{Report}
use Rattle.live_node.specs.Printing.{live_text, PrintsBegunLive, PrintsLive}
use Rattle.live_node.specs.Serving.{IsSameBus, KeepsTheLaw, MakesTheCalls}
use Rattle.commands.specs.declared.status.Status.{Status}
use Rattle.commands.specs.Carrying.{CarriesOut, PutsBeginning}
use Rattle.commands.specs.Commands.{Bytes, live}
use Rattle.commands.specs.LiveCommand.{AreLiveInputs, AreServed}
use Rattle.commands.specs.Verdicts.{done}
use Rattle.rte_program.specs.Running.{IsLiveRun, PrintsLiveBeginning, PrintsLiveRun}

module _ (n : NodeState) (feeds : Feeds) (r : Report) (bus : IsSameBus n r.node) (keeps : KeepsTheLaw n r.node) (calls : MakesTheCalls feeds r) (lawful : IsLawfulNode n []) (before after : Option Bytes) where
  are_served : AreServed (plan_of r.node.plan) feeds (order_of r.pump) r.node.entries
  are_served = let made = keeps.lawful [] lawful in record { legal = made.legal; stamps = keeps.stamps; drawn = calls.drawn; whole = calls.whole }

  of_report : PrintsLive (plan_of r.node.plan) r.node.mapping [] (order_of r.pump) r.node.entries before after → PrintsLiveRun (plan_of r.node.plan) r.node.mapping feeds before after
  of_report x = record {
    text = live_text (plan_of r.node.plan) (order_of r.pump) r.node.entries x.session;
    live = record {
      order = order_of r.pump;
      entries = r.node.entries;
      served = are_served;
      fit = x.entries_fit;
      session = x.session;
      run = x.of_run;
      run_fits = x.fit;
      legal = x.legal;
      quiet = x.quiet;
      text_is = refl;
    };
    put = x.put;
  }

  of_begun_report : PrintsBegunLive (plan_of r.node.plan) r.node.mapping [] (order_of r.pump) r.node.entries before after → PrintsLiveBeginning (plan_of r.node.plan) r.node.mapping feeds before after
  of_begun_report x = record {
    text = live_text (plan_of r.node.plan) (order_of r.pump) r.node.entries x.session;
    begun = record { order = order_of r.pump; entries = r.node.entries; served = are_served; session = x.session; run = x.of_run; legal = x.legal; text_is = refl };
    put = x.put;
  }

  -- the node of the report has the plan and the mapping of the one that was served
  pub ran : PrintsLive (plan_of r.node.plan) r.node.mapping [] (order_of r.pump) r.node.entries before after → PrintsLiveRun (plan_of n.plan) n.mapping feeds before after
  ran x = subst (λ (p : BusPlan). PrintsLiveRun (plan_of p) n.mapping feeds before after) bus.plan
      (subst (λ (m : Mapping). PrintsLiveRun (plan_of r.node.plan) m feeds before after) bus.mapping (of_report x))

  pub began : PrintsBegunLive (plan_of r.node.plan) r.node.mapping [] (order_of r.pump) r.node.entries before after → PrintsLiveBeginning (plan_of n.plan) n.mapping feeds before after
  began x = subst (λ (p : BusPlan). PrintsLiveBeginning (plan_of p) n.mapping feeds before after) bus.plan
      (subst (λ (m : Mapping). PrintsLiveBeginning (plan_of r.node.plan) m feeds before after) bus.mapping (of_begun_report x))

-- how `live C` ended, if a node was served
pub carried : (d description stimuli : Bytes) (found : PlannedDescription) (feeds : Feeds) → AreLiveInputs description stimuli found feeds → (answer : Status) (before after : Option Bytes) (f g : ℕ)
    → IsLiveRun (plan_of found.plan) found.mapping feeds answer before after f g → CarriesOut (live d) (description ∷ stimuli ∷ []) answer before after f g
carried d description stimuli found feeds inputs answer before after f g (inl x) = let printed = x.2 in inl (record {
  verdict = done;
  verdict_is = (found, feeds, inputs);
  text = printed.text;
  said = record { found = found; feeds = feeds; inputs = inputs; live = printed.live };
  put = record { answered = put.Done; status_is = x.0; told = printed.put; faults = x.1 };
})
carried d description stimuli found feeds inputs answer before after f g (inr (inl x)) = let printed = x.2 in inr (inl (record {
  status_is = x.0;
  rose = x.1;
  put = record { text = printed.text; begun = record { found = found; feeds = feeds; inputs = inputs; begun = printed.begun }; put = printed.put };
}))
carried d description stimuli found feeds inputs answer before after f g (inr (inr x)) = inr (inr (record { status_is = x.0; faults = x.1; put = by x.2 }))
  where
    by : (after ≡ before) ⊎ PrintsLiveBeginning (plan_of found.plan) found.mapping feeds before after → (after ≡ before) ⊎ PutsBeginning (live d) (description ∷ stimuli ∷ []) before after
    by (inl same) = inl same
    by (inr printed) = inr (record { text = printed.text; begun = record { found = found; feeds = feeds; inputs = inputs; begun = printed.begun }; put = printed.put })
