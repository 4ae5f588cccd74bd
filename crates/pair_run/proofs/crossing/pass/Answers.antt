use Rattle.std.proofs.Common.{◌≡◌, ◌≢◌, length, ap, arith}
use Rattle.std.proofs.lemmas.Option.{slice_get_within}
use Rattle.signal_link.specs.Unframing.{Kept}
use Rattle.pair_run.specs.Common.{Finished, LinkFailed, Sends}
use Rattle.pair_run.proofs.Carrying.{stops_here}
use Rattle.pair_run.proofs.Completing.{sends_may}
use Rattle.pair_run.proofs.Draining.{sent_cut, sent_whole}
use Rattle.pair_run.proofs.crossing.pass.Goals as goal

pub returns-in_default-clause-carries : goal.returns-in_default-clause-carries
returns-in_default-clause-carries g c = λ l one at.
    let other : LinkFailed ≢ Finished = λ e. cc in
    stops_here (Sends l c.args.value.now) LinkFailed one one c.args.two.now c.args.two.now (g.K.Sink.told c.args.out.now) other (sends_may l c.args.value.now)

pub link_at-requires : goal.link_at-requires
link_at-requires g c =
    let carried = c.in-Some.ensures.carried in
    let within = slice_get_within c.args.unframer.now.links c.args.number c.requires.good.link c.requires.good.linked in
    let many : length c.carry.new.unframer.links ≡ length c.args.unframer.now.links = ap (λ (k : Kept). length k.links) carried.kept in
    omega (arith, within, many, carried.link)

pub returns-in-Done-clause-carries : goal.returns-in-Done-clause-carries
returns-in-Done-clause-carries g c = λ l one at.
    let told = g.K.Sink.told in
    sent_whole c.lines_of_two-w.result c.lines_of_two-w.ensures c.args.number c.args.value.now c.args.two.now c.make_call.new.n one (told c.args.out.now) (told c.make_call.new.out)
    c.make_call.result.0 c.make_call.result.1 c.args.unframer.now c.carry.new.unframer c.in-Some.arrived (g.L.Link.way c.carry.new.way) c.in-Some.ensures.carried c.link_at.result c.link_at.ensures
    l at c.make_call.ensures.calls c.in-Done.is

pub returns-in-Failed-clause-carries : goal.returns-in-Failed-clause-carries
returns-in-Failed-clause-carries g c = λ l one at.
    let told = g.K.Sink.told in
    sent_cut c.lines_of_two-w.result c.lines_of_two-w.ensures c.args.number c.args.value.now c.args.two.now c.make_call.new.n one (told c.args.out.now) (told c.make_call.new.out)
    c.make_call.result.0 c.make_call.result.1 c.args.unframer.now c.carry.new.unframer c.in-Some.arrived (g.L.Link.way c.carry.new.way) c.in-Some.ensures.carried c.link_at.result c.link_at.ensures
    l at c.make_call.ensures.calls c.in-Failed.is
