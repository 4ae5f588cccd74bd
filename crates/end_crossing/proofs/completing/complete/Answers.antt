use Rattle.std.proofs.Common.{inr, sym, subst, ◌∙◌, Vec}
use Rattle.std.specs.Global.{Global}
use Rattle.std.specs.Prelude.{IfSome}
use Rattle.composition_tables.specs.declared.tree.PortEnd.{PortEnd}
use Rattle.end_search.specs.Sides.{AreOf}
use Rattle.composition_tables.proofs.Members.{found_key, same_number, itself_number}
use Rattle.end_crossing.proofs.completing.complete.Goals as goal

pub returns-then-contains-clause-has : goal.returns-then-contains-clause-has
returns-then-contains-clause-has c = λ _. inr (found_key _ same_number itself_number c.args.interface c.args.side.now.known.keys (sym c.contains.ensures ∙ c.if-contains.true))

pub returns-in_ok-note_known-in-Some-clause-side : goal.returns-in_ok-note_known-in-Some-clause-side
returns-in_ok-note_known-in-Some-clause-side c = c.in_ok-note_known-in-Some.ensures.side c.args.tree.now.d.now c.requires.side
    (subst (λ o. IfSome o (λ (list : Vec PortEnd Global). AreOf c.args.tree.now.d.now c.args.gate c.args.interface list.items)) c.in-Some.is c.in_ok-found.ensures)
