use Rattle.std.proofs.Common.{◌∙◌, sym}
use Rattle.composition_flatten.proofs.Assembling.{assembly_same}
use Rattle.composition_flatten.proofs.own.add_assembly.Goals as goal

pub returns-in_ok-is_full-in-Assembly-clause-grown :
    goal.returns-in_ok-is_full-in-Assembly-clause-grown
returns-in_ok-is_full-in-Assembly-clause-grown c = assembly_same c.args.tree.now.d.now c.args.depth c.args.composition c.args.connector c.in-Assembly.provider c.in-Assembly.requester c.args.links.now.list.items c.add_crossing.new.links.list.items c.in_ok-is_full-in-Assembly.is_full
    c.in-Assembly.is (sym c.lets_join.ensures ∙ c.if-not-lets_join.false) c.in_ok-is_full-in-Assembly.ensures.grown
