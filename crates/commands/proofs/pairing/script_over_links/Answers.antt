use Rattle.std.proofs.Common.{◌≡◌, ◌<◌, [], length, List, Some, subst}
use Rattle.bus_semantics.specs.Plan.{plan_of}
use Rattle.line_fields.specs.Texts.{lines_of}
use Rattle.script_reading.specs.Common.{IsScriptBy, first_bad, saying_around}
use Rattle.signal_link.specs.declared.link_elem.LinkElem.{LinkElem}
use Rattle.pair_run.specs.Linked.{linked_in}
use Rattle.commands.proofs.Numbered.{numbered}
use Rattle.commands.proofs.pairing.script_over_links.Goals as goal

pub read_pair_script-requires-clause-few : goal.read_pair_script-requires-clause-few
read_pair_script-requires-clause-few c = numbered c.requires.planned.0 c.args.nodes.now.one c.requires.planned.2.of_one

pub returns-in-Read-clause-scripted : goal.returns-in-Read-clause-scripted
returns-in-Read-clause-scripted c =
    let p = plan_of c.args.nodes.now.one.plan in
    subst (λ (ls : List LinkElem). IsScriptBy (saying_around p (linked_in p ls)) c.args.script.now c.in-Read.script.lines) c.requires.links c.in-Read.ensures.read

pub returns-in-BadLine-clause-stopped : goal.returns-in-BadLine-clause-stopped
returns-in-BadLine-clause-stopped c = λ first second both.
    let p = plan_of c.args.nodes.now.one.plan in
    record {
      found = c.args.nodes.now.one;
      beside = c.args.nodes.now.two;
      described = both;
      linked = subst (λ (ls : List LinkElem). 0 < length ls) c.requires.links c.requires.some;
      bad = subst (λ (ls : List LinkElem). first_bad (saying_around p (linked_in p ls)) [] (lines_of c.args.script.now) ≡ Some (c.in-BadLine.line, c.in-BadLine.cause)) c.requires.links c.in-BadLine.ensures.bad_line;
    }
