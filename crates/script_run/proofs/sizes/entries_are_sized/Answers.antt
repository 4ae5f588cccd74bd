use Rattle.std.proofs.Common.{◌≡◌, true, take, ◌∙◌, subst}
use Rattle.bus_semantics.specs.Common.{list_all, and_from}
use Rattle.std.proofs.lemmas.List.Folds.{list_all_more}
use Rattle.bus_semantics.specs.declared.entries.Stamped.{Stamped}
use Rattle.script_run.specs.Sizes.{is_sized_stamped}
use Rattle.script_run.proofs.sizes.entries_are_sized.Goals as goal

pub loop-stamped-preserved : goal.loop-stamped-preserved
loop-stamped-preserved c =
    let xs = c.args.entries.now in
    let i = c.loop-stamped.stamped-index in
    let x = c.stamped-item.result in
    list_all_more is_sized_stamped xs i x c.loop-stamped-test.true
    ∙ and_from (list_all is_sized_stamped (take i xs)) _ c.loop-stamped.invariant (subst (λ (y : Stamped). is_sized_stamped y ≡ true) c.stamped-item.is c.entry_is_sized.ensures)
