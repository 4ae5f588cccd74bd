use Rattle.std.proofs.Common.{◌≡◌, true, List, sym, subst}
use Rattle.bus_semantics.specs.Common.{All, list_all, plan_of, IsSound}
use Rattle.bus_laws.specs.Common.{BusPlan, Line}
use Rattle.signal_link.specs.declared.link_elem.LinkElem.{LinkElem}
use Rattle.signal_link.specs.Common.{is_link, Kept}
use Rattle.pair_run.specs.Common.{PairRun, Follows, IsPairLine, CarryBoth}
use Rattle.pair_run.proofs.Linking.{links_are_links}
use Rattle.pair_run.proofs.Printed.{prints, prints_begun, prints_headers, stand_begun}
use Rattle.pair_run.proofs.pair.run_pair.Goals as goal

pub new-unframer-requires : goal.new-unframer-requires
new-unframer-requires g c =
    let sound = subst (λ (b : BusPlan). IsSound (plan_of b) c.args.one.now.mapping) c.plan-first.ensures.plan c.plan-first.ensures.sound in
    record {
      some = c.requires.some;
      each = subst (λ (ls : List LinkElem). list_all is_link ls ≡ true) (sym c.requires.links) (links_are_links (plan_of c.args.one.now.plan) (plan_of c.args.two.now.plan) c.args.one.now.mapping sound);
    }

pub put_lines-requires-clause-stand : goal.put_lines-requires-clause-stand
put_lines-requires-clause-stand g c κs within =
    let sound = subst (λ (b : BusPlan). IsSound (plan_of b) c.args.one.now.mapping) c.plan-first.ensures.plan c.plan-first.ensures.sound in
    let other = subst (λ (b : BusPlan). IsSound (plan_of b) c.args.two.now.mapping) c.plan-second.ensures.plan c.plan-second.ensures.sound in
    stand_begun c.args.one.now c.args.two.now sound other c.requires.lawful_one c.requires.lawful_two

pub put_lines-requires-clause-script : goal.put_lines-requires-clause-script
put_lines-requires-clause-script g c κs within =
    subst (λ (ls : List Line). All (IsPairLine (plan_of c.args.one.now.plan) c.new-unframer.result.links) ls) (sym c.items.ensures)
    (subst (λ (u : Kept). All (IsPairLine (plan_of c.args.one.now.plan) u.links) c.args.s.now.lines) (sym c.new-unframer.ensures) c.requires.script)

pub returns-in-Done-clause-finished : goal.returns-in-Done-clause-finished
returns-in-Done-clause-finished g c = λ is.
    let told = g.K.Sink.told in
    let links = c.args.links.items in
    let sound = subst (λ (b : BusPlan). IsSound (plan_of b) c.args.one.now.mapping) c.plan-first.ensures.plan c.plan-first.ensures.sound in
    let other = subst (λ (b : BusPlan). IsSound (plan_of b) c.args.two.now.mapping) c.plan-second.ensures.plan c.plan-second.ensures.sound in
    let did = subst (λ (r : PairRun). CarryBoth (Follows links c.args.s.now.lines) r c.args.one.now c.put_lines.new.one c.args.two.now c.put_lines.new.two (told c.put_headers.new.out) (told c.put_lines.new.out)) is
    (subst (λ (ls : List Line). CarryBoth (Follows links ls) c.put_lines.result c.args.one.now c.put_lines.new.one c.args.two.now c.put_lines.new.two (told c.put_headers.new.out) (told c.put_lines.new.out)) c.items.ensures
    (subst (λ (u : Kept). CarryBoth (Follows u.links c.items.result.now) c.put_lines.result c.args.one.now c.put_lines.new.one c.args.two.now c.put_lines.new.two (told c.put_headers.new.out) (told c.put_lines.new.out)) c.new-unframer.ensures
    c.put_lines.ensures.carries)) in
    prints links c.args.s.now.lines c.args.one.now c.put_lines.new.one c.args.two.now c.put_lines.new.two (told c.args.out.now) (told c.put_headers.new.out) (told c.put_lines.new.out)
    sound other c.requires.lawful_one c.requires.lawful_two c.in-Done.ensures.told c.no_history_stalls.ensures.quiet did

pub returns-in-Done-clause-cut : goal.returns-in-Done-clause-cut
returns-in-Done-clause-cut g c = λ cut.
    let told = g.K.Sink.told in
    let links = c.args.links.items in
    let sound = subst (λ (b : BusPlan). IsSound (plan_of b) c.args.one.now.mapping) c.plan-first.ensures.plan c.plan-first.ensures.sound in
    let other = subst (λ (b : BusPlan). IsSound (plan_of b) c.args.two.now.mapping) c.plan-second.ensures.plan c.plan-second.ensures.sound in
    let did = subst (λ (ls : List Line). CarryBoth (Follows links ls) c.put_lines.result c.args.one.now c.put_lines.new.one c.args.two.now c.put_lines.new.two (told c.put_headers.new.out) (told c.put_lines.new.out)) c.items.ensures
    (subst (λ (u : Kept). CarryBoth (Follows u.links c.items.result.now) c.put_lines.result c.args.one.now c.put_lines.new.one c.args.two.now c.put_lines.new.two (told c.put_headers.new.out) (told c.put_lines.new.out)) c.new-unframer.ensures
    c.put_lines.ensures.carries) in
    prints_begun links c.args.s.now.lines c.args.one.now c.put_lines.new.one c.args.two.now c.put_lines.new.two (told c.args.out.now) (told c.put_headers.new.out) (told c.put_lines.new.out)
    sound other c.requires.lawful_one c.requires.lawful_two c.in-Done.ensures.told c.put_lines.result cut did

pub returns-clause-cut : goal.returns-clause-cut
returns-clause-cut g c = λ cut.
    let told = g.K.Sink.told in
    prints_headers (plan_of c.args.one.now.plan) c.args.one.now.mapping (plan_of c.args.two.now.plan) c.args.two.now.mapping c.args.links.items c.args.s.now.lines
    (told c.args.out.now) (told c.put_headers.new.out) c.requires.script c.in-Failed.ensures.told
