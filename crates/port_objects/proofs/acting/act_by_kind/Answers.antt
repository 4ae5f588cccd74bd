use Rattle.std.proofs.Common.{refl, sym, ap, subst}
use Rattle.bus_semantics.specs.Common.{false≢true, plan_of, wanted_of, touched}
use Rattle.object_kinds.specs.Kinds.{IsAnswerOf, acted}
use Rattle.data_objects.specs.Kept as groups
use Rattle.data_objects.specs.Leading as group_leading
use Rattle.data_objects.specs.Standing as group_standing
use Rattle.bundle_objects.specs.Kept as bundles
use Rattle.queue_objects.specs.Kept as queues
use Rattle.bundle_objects.specs.Leading as bundle_leading
use Rattle.queue_objects.specs.Leading as queue_leading
use Rattle.bundle_objects.specs.Standing as bundle_standing
use Rattle.queue_objects.specs.Standing as queue_standing
use Rattle.server_objects.specs.Kept as servers
use Rattle.area_objects.specs.Kept as areas
use Rattle.machine_objects.specs.Kept as machines
use Rattle.server_objects.specs.Leading as server_leading
use Rattle.area_objects.specs.Leading as area_leading
use Rattle.machine_objects.specs.Leading as machine_leading
use Rattle.server_objects.specs.Standing as server_standing
use Rattle.area_objects.specs.Standing as area_standing
use Rattle.machine_objects.specs.Standing as machine_standing
use Rattle.clock_objects.specs.Kept as clocks
use Rattle.clock_objects.specs.Leading as clock_leading
use Rattle.clock_objects.specs.Standing as clock_standing
use Rattle.machine_objects.specs.Plans.{IsAskedOf}
use Rattle.port_objects.specs.declared.object.Object.TheVariants.{Unqueued, Bundle, Queued, Server, Area, Machine, Clock}
use Rattle.port_objects.specs.Common.{of_group, of_bundle, of_queues, of_server, of_area, of_machine, of_clock, IsOfPlan, IsAnswer}
use Rattle.port_objects.proofs.Rows.{group_row, bundle_row, queue_row, server_row, area_row, machine_row, clock_row}
use Rattle.port_objects.proofs.Answering.{answered}
use Rattle.port_objects.proofs.acting.act_by_kind.Goals as goal

pub returns-in-Unqueued-clause-lead : goal.returns-in-Unqueued-clause-lead
returns-in-Unqueued-clause-lead c =
    let p = plan_of c.args.p.now in
    let a = c.args.who.now in
    let w = wanted_of c.args.wish.now in
    let o = touched p a w in
    let old = c.in-Unqueued.group in
    let new = c.act.new.self in
    subst (λ x. IsAnswer p o a w x (Unqueued new) (acted c.act.result c.act.new.out)) (sym c.in-Unqueued.is)
    (answered p a w of_group (group_standing.Keeps p o) (group_leading.lead p o) groups.may_start group_leading.why_held (group_row p o)
    c.requires.touching c.requires.fits c.requires.own (Unqueued old) (Unqueued new) old.kept new.kept c.act.result c.act.new.out refl refl
    c.act.ensures.answer (λ shown is. ap Unqueued (c.act.ensures.same shown is)) c.act.ensures.told (λ point off on. absurd (false≢true on)))

pub returns-in-Bundle-clause-lead : goal.returns-in-Bundle-clause-lead
returns-in-Bundle-clause-lead c =
    let p = plan_of c.args.p.now in
    let a = c.args.who.now in
    let w = wanted_of c.args.wish.now in
    let o = touched p a w in
    let old = c.in-Bundle.bundle in
    let new = c.act-in-Bundle.new.self in
    subst (λ x. IsAnswer p o a w x (Bundle new) (acted c.act-in-Bundle.result c.act-in-Bundle.new.out)) (sym c.in-Bundle.is)
    (answered p a w of_bundle (bundle_standing.Keeps p o) (bundle_leading.lead p) bundles.may_start bundle_leading.why_held (bundle_row p o)
    c.requires.touching c.requires.fits c.requires.own (Bundle old) (Bundle new) old.kept new.kept c.act-in-Bundle.result c.act-in-Bundle.new.out refl refl
    c.act-in-Bundle.ensures.answer (λ shown is. ap Bundle (c.act-in-Bundle.ensures.same shown is)) c.act-in-Bundle.ensures.told (λ point off on. absurd (false≢true on)))

pub returns-in-Queued-clause-lead : goal.returns-in-Queued-clause-lead
returns-in-Queued-clause-lead c =
    let p = plan_of c.args.p.now in
    let a = c.args.who.now in
    let w = wanted_of c.args.wish.now in
    let o = touched p a w in
    let old = c.in-Queued.group in
    let new = c.act-in-Queued.new.self in
    subst (λ x. IsAnswer p o a w x (Queued new) (acted c.act-in-Queued.result c.act-in-Queued.new.out)) (sym c.in-Queued.is)
    (answered p a w of_queues (queue_standing.Keeps p o) (queue_leading.lead p) queues.may_start queue_leading.why_held (queue_row p o)
    c.requires.touching c.requires.fits c.requires.own (Queued old) (Queued new) old.kept new.kept c.act-in-Queued.result c.act-in-Queued.new.out refl refl
    c.act-in-Queued.ensures.answer (λ shown is. ap Queued (c.act-in-Queued.ensures.same shown is)) c.act-in-Queued.ensures.told (λ point off on. absurd (false≢true on)))

pub returns-in-Server-clause-lead : goal.returns-in-Server-clause-lead
returns-in-Server-clause-lead c =
    let p = plan_of c.args.p.now in
    let a = c.args.who.now in
    let w = wanted_of c.args.wish.now in
    let o = touched p a w in
    let old = c.in-Server.server in
    let new = c.act-in-Server.new.self in
    subst (λ x. IsAnswer p o a w x (Server new) (acted c.act-in-Server.result c.act-in-Server.new.out)) (sym c.in-Server.is)
    (answered p a w of_server (server_standing.Keeps p o) server_leading.lead servers.may_start server_leading.why_held (server_row p o)
    c.requires.touching c.requires.fits c.requires.own (Server old) (Server new) old.kept new.kept c.act-in-Server.result c.act-in-Server.new.out refl refl
    (c.act-in-Server.ensures.answer p o (subst (IsOfPlan p o) c.in-Server.is c.requires.planned)) (λ shown is. ap Server (c.act-in-Server.ensures.same shown is)) c.act-in-Server.ensures.told c.act-in-Server.ensures.heard)

pub returns-in-Server-clause-planned : goal.returns-in-Server-clause-planned
returns-in-Server-clause-planned c =
    let p = plan_of c.args.p.now in
    let o = touched p c.args.who.now (wanted_of c.args.wish.now) in
    c.act-in-Server.ensures.planned p o (subst (IsOfPlan p o) c.in-Server.is c.requires.planned)

pub returns-in-Area-clause-lead : goal.returns-in-Area-clause-lead
returns-in-Area-clause-lead c =
    let p = plan_of c.args.p.now in
    let a = c.args.who.now in
    let w = wanted_of c.args.wish.now in
    let o = touched p a w in
    let old = c.in-Area.area in
    let new = c.act-in-Area.new.self in
    let answer = c.act-in-Area.ensures.answer p in
    subst (λ x. IsAnswer p o a w x (Area new) (acted c.act-in-Area.result c.act-in-Area.new.out)) (sym c.in-Area.is)
    (answered p a w of_area (area_standing.Keeps p o) area_leading.lead areas.may_start area_leading.why_held (area_row p o)
    c.requires.touching c.requires.fits c.requires.own (Area old) (Area new) old new c.act-in-Area.result c.act-in-Area.new.out refl refl
    answer (λ shown is. ap Area (subst (λ r. IsAnswerOf p area_leading.lead areas.may_start area_leading.why_held a w old new (acted r c.act-in-Area.new.out)) is answer).1) (λ event off on. absurd (false≢true on)) (λ point off on. absurd (false≢true on)))

pub returns-in-Area-clause-planned : goal.returns-in-Area-clause-planned
returns-in-Area-clause-planned c =
    let p = plan_of c.args.p.now in
    let o = touched p c.args.who.now (wanted_of c.args.wish.now) in
    c.act-in-Area.ensures.planned p o (subst (IsOfPlan p o) c.in-Area.is c.requires.planned)

pub returns-in-Machine-clause-lead : goal.returns-in-Machine-clause-lead
returns-in-Machine-clause-lead c =
    let p = plan_of c.args.p.now in
    let a = c.args.who.now in
    let w = wanted_of c.args.wish.now in
    let o = touched p a w in
    let old = c.in-Machine.machine in
    let new = c.act-in-Machine.new.self in
    let asked : IsAskedOf p o a w old.kept = record { fits = c.requires.fits; touching = c.requires.touching; planned = subst (IsOfPlan p o) c.in-Machine.is c.requires.planned } in
    subst (λ x. IsAnswer p o a w x (Machine new) (acted c.act-in-Machine.result c.act-in-Machine.new.out)) (sym c.in-Machine.is)
    (answered p a w of_machine (machine_standing.Keeps p o) machine_leading.lead machines.may_start machine_leading.why_held (machine_row p o)
    c.requires.touching c.requires.fits c.requires.own (Machine old) (Machine new) old.kept new.kept c.act-in-Machine.result c.act-in-Machine.new.out refl refl
    (c.act-in-Machine.ensures.answer p o asked) (λ shown is. ap Machine (c.act-in-Machine.ensures.same shown is)) c.act-in-Machine.ensures.told (λ point off on. absurd (false≢true on)))

pub returns-in-Machine-clause-planned : goal.returns-in-Machine-clause-planned
returns-in-Machine-clause-planned c =
    let p = plan_of c.args.p.now in
    let a = c.args.who.now in
    let w = wanted_of c.args.wish.now in
    let o = touched p a w in
    c.act-in-Machine.ensures.planned p o (record { fits = c.requires.fits; touching = c.requires.touching; planned = subst (IsOfPlan p o) c.in-Machine.is c.requires.planned })

pub returns-in-Clock-clause-lead : goal.returns-in-Clock-clause-lead
returns-in-Clock-clause-lead c =
    let p = plan_of c.args.p.now in
    let a = c.args.who.now in
    let w = wanted_of c.args.wish.now in
    let o = touched p a w in
    let old = c.in-Clock.ticks in
    let new = c.act-in-Clock.new.self in
    subst (λ x. IsAnswer p o a w x (Clock new) (acted c.act-in-Clock.result c.act-in-Clock.new.out)) (sym c.in-Clock.is)
    (answered p a w of_clock (clock_standing.Keeps p o) clock_leading.lead clocks.may_start clock_leading.why_held (clock_row p o)
    c.requires.touching c.requires.fits c.requires.own (Clock old) (Clock new) old.kept new.kept c.act-in-Clock.result c.act-in-Clock.new.out refl refl
    (c.act-in-Clock.ensures.answer p o (subst (IsOfPlan p o) c.in-Clock.is c.requires.planned)) (λ shown is. ap Clock (c.act-in-Clock.ensures.same shown is)) c.act-in-Clock.ensures.told (λ point off on. absurd (false≢true on)))

pub returns-in-Clock-clause-planned : goal.returns-in-Clock-clause-planned
returns-in-Clock-clause-planned c =
    let p = plan_of c.args.p.now in
    let o = touched p c.args.who.now (wanted_of c.args.wish.now) in
    c.act-in-Clock.ensures.planned p o (subst (IsOfPlan p o) c.in-Clock.is c.requires.planned)
