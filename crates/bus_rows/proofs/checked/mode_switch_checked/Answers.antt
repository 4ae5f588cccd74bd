use Rattle.std.proofs.Common.{[], codes, refl, inr}
use Rattle.bus_semantics.specs.Common.{digits, IsRunOf, IsBegunRunOf}
use Rattle.bus_semantics.specs.declared.version.Version.TheVariants.{One, Two}
use Rattle.bus_rows.specs.RowParts.{machine}
use Rattle.bus_rows.specs.ModeSwitch.{one_machine, three_cores, switch_and_run, switched, phase_entry}
use Rattle.bus_rows.specs.Traces.{until_ended, until_not_admitted}
use Rattle.bus_rows.proofs.Lines.{no_item}
use Rattle.bus_rows.proofs.checked.mode_switch_checked.Goals as goal

ended_begun : IsRunOf one_machine three_cores switch_and_run switched → IsBegunRunOf one_machine three_cores switch_and_run until_ended
ended_begun run = record { session = record { left = []; orders = refl; placed = refl }; legal = run.legal.0.0.0.0.0.0.0.0 }

not_admitted_begun : IsRunOf one_machine three_cores switch_and_run switched → IsBegunRunOf one_machine three_cores switch_and_run until_not_admitted
not_admitted_begun run = record { session = record { left = []; orders = refl; placed = refl }; legal = run.legal.0.0.0.0.0.0.0.0.0.0.0 }

pub returns-clause-legal : goal.returns-clause-legal
returns-clause-legal c = record { version = One; session = switched; fit = refl; text = c.mode_switch_on_three_cores.ensures.spelled; run = c.mode_switch_on_three_cores.ensures.runs }

pub returns-clause-named : goal.returns-clause-named
returns-clause-named c = record { version = Two; session = switched; fit = refl; text = c.mode_switch_on_three_cores.ensures.named; run = c.mode_switch_on_three_cores.ensures.runs }

pub returns-clause-exchanged : goal.returns-clause-exchanged
unfolding digits
returns-clause-exchanged c = λ more. inr (record {
  version = One;
  session = until_ended;
  item = machine 0 phase_entry;
  more = more;
  so_far = record { fit = refl; text = refl; run = ended_begun c.mode_switch_on_three_cores.ensures.runs };
  fit = refl;
  line_is = refl;
  refused = inr (record { in_order = record { left = []; orders = refl; placed = refl }; broken = refl });
})

pub returns-clause-exchanged_by_names : goal.returns-clause-exchanged_by_names
unfolding digits
returns-clause-exchanged_by_names c = λ more. inr (record {
  version = Two;
  session = until_ended;
  item = machine 0 phase_entry;
  more = more;
  so_far = record { fit = refl; text = refl; run = ended_begun c.mode_switch_on_three_cores.ensures.runs };
  fit = refl;
  line_is = refl;
  refused = inr (record { in_order = record { left = []; orders = refl; placed = refl }; broken = refl });
})

pub returns-clause-cut : goal.returns-clause-cut
unfolding digits
returns-clause-cut c = inr (record {
  version = One;
  session = until_not_admitted;
  left = codes "env";
  so_far = record { fit = refl; text = refl; run = not_admitted_begun c.mode_switch_on_three_cores.ensures.runs };
  some = λ e. cc;
  none = no_item One one_machine (c.items_have_one_line.ensures one_machine three_cores c.mode_switch_on_three_cores.ensures.sound) (codes "env") refl;
  line_is = refl;
})
