use Rattle.std.proofs.Common.{◌∷◌, [], ◌++◌, take, sym, ◌∙◌, ap, subst, Option}
use Rattle.std.proofs.Math.Seq.{take-append_seam}
use Rattle.std.specs.Option.{option_map_or}
use Rattle.bus_semantics.specs.declared.entries.Stamped.{Stamped}
use Rattle.bus_semantics.specs.Common.{plan_of, wanted_of, event_of}
use Rattle.port_objects.specs.declared.bench.Benched.TheVariants.{Done, Contended}
use Rattle.port_objects.specs.Benches.{written_last}
use Rattle.cross_core_table.specs.declared.seats.CoreSeat.{CoreSeat}
use Rattle.cross_core_table.specs.Places.{KnowsAfter}
use Rattle.cross_core_table.specs.Plays.{Sat, as_stamped}
use Rattle.cross_core_table.specs.Seats.{view_of}
use Rattle.cross_core_table.proofs.Acts.{to_keep, has_made, holds_still, has_looked, seat_made, seat_looked}
use Rattle.cross_core_table.proofs.acting.act_at.Goals as goal

pub keep_entry-requires-clause-keeps : goal.keep_entry-requires-clause-keeps
keep_entry-requires-clause-keeps c =
    let w = wanted_of c.args.wish.now in
    let t = c.try_lock.ensures.tried.took c.if-try_lock-ne0.false in
    let f = c.in-Done.ensures.filled t.0 (ap (λ (x : Sat). x.1) t.1.seat) in
    (c.args.seat.now.made.items, as_stamped 0 f.entry (event_of w), f.made, to_keep c.args.top.now.key (view_of c.args.seat.now) c.args.object t.0 (plan_of c.args.p.now) c.args.who.now w _ c.act_on.new.seat c.requires.plan t.1 c.act_on.ensures.view f)

pub returns-in-Done-clause-seat : goal.returns-in-Done-clause-seat
returns-in-Done-clause-seat c =
    let w = wanted_of c.args.wish.now in
    let t = c.try_lock.ensures.tried.took c.if-try_lock-ne0.false in
    let f = c.in-Done.ensures.filled t.0 (ap (λ (x : Sat). x.1) t.1.seat) in
    let last = as_stamped 0 f.entry (event_of w) in
    let kept = c.keep_entry.ensures.seat c.args.seat.now.made.items last f.made in
    let made = has_made c.args.top.now.key (view_of c.args.seat.now) c.args.object t.0 (plan_of c.args.p.now) c.args.who.now w _ c.act_on.new.seat c.requires.plan t.1 c.act_on.ensures.view f _ c.keep_entry.result c.requires.seat.idle.held kept in
    seat_made c.args.top.now.table_id c.args.top.now.key c.args.seat.now.core c.args.seat.now c.keep_entry.new.seat (as_stamped c.keep_entry.result f.entry (event_of w)) c.requires.seat c.requires.room
    (c.keep_entry.ensures.table ∙ c.act_on.ensures.same.table ∙ c.try_lock.ensures.same.table) (c.keep_entry.ensures.core ∙ c.act_on.ensures.core) made.view (ap (λ (x : Sat). x.1) kept)
    (c.keep_entry.ensures.made c.args.seat.now.made.items last f.made) (c.keep_entry.ensures.capacity ∙ c.act_on.ensures.capacity)

pub returns-in-Done-clause-written : goal.returns-in-Done-clause-written
returns-in-Done-clause-written c =
    let t = c.try_lock.ensures.tried.took c.if-try_lock-ne0.false in
    let f = c.in-Done.ensures.filled t.0 (ap (λ (x : Sat). x.1) t.1.seat) in
    (_, c.keep_entry.ensures.made c.args.seat.now.made.items (as_stamped 0 f.entry (event_of (wanted_of c.args.wish.now))) f.made)

pub returns-in-Done-clause-knows : goal.returns-in-Done-clause-knows
returns-in-Done-clause-knows c =
    let k = c.args.top.now.key in
    let v = view_of c.args.seat.now in
    let a = c.args.who.now in
    let w = wanted_of c.args.wish.now in
    let before = c.args.seat.now.made.items in
    let t = c.try_lock.ensures.tried.took c.if-try_lock-ne0.false in
    let f = c.in-Done.ensures.filled t.0 (ap (λ (x : Sat). x.1) t.1.seat) in
    let last = as_stamped 0 f.entry (event_of w) in
    let x : Stamped = as_stamped c.keep_entry.result f.entry (event_of w) in
    let behind = ap written_last (c.keep_entry.ensures.made before last f.made) ∙ c.last_entries_are_last.ensures before x in
    subst (λ (o : Option Stamped). KnowsAfter k c.args.seat.now.core c.args.object a w v (view_of c.keep_entry.new.seat) (option_map_or Done o Contended)) (sym behind)
    (has_made k v c.args.object t.0 (plan_of c.args.p.now) a w _ c.act_on.new.seat c.requires.plan t.1 c.act_on.ensures.view f _ c.keep_entry.result c.requires.seat.idle.held (c.keep_entry.ensures.seat before last f.made))

pub look-requires-clause-holds : goal.look-requires-clause-holds
look-requires-clause-holds c =
    let t = c.try_lock.ensures.tried.took c.if-try_lock-ne0.false in
    let f = c.in-NotYet.ensures.filled t.0 (ap (λ (x : Sat). x.1) t.1.seat) in
    holds_still c.args.top.now.key (view_of c.args.seat.now) c.args.object t.0 (plan_of c.args.p.now) c.args.who.now (wanted_of c.args.wish.now) _ c.act_on.new.seat c.requires.plan t.1 c.act_on.ensures.view c.in-NotYet.shown f c.requires.seat.idle.opening

pub returns-in-NotYet-clause-written : goal.returns-in-NotYet-clause-written
returns-in-NotYet-clause-written c =
    let before = c.args.seat.now.made.items in
    let t = c.try_lock.ensures.tried.took c.if-try_lock-ne0.false in
    let f = c.in-NotYet.ensures.filled t.0 (ap (λ (x : Sat). x.1) t.1.seat) in
    let last = as_stamped 0 f.entry (event_of (wanted_of c.args.wish.now)) in
    c.truncate.ensures.items
    ∙ ap (take c.len-before.result) f.made
    ∙ ap (λ n. take n (before ++ last ∷ [])) (c.len-before.ensures ∙ c.args.seat.now.made.ok.0)
    ∙ take-append_seam before (last ∷ [])

pub returns-in-NotYet-clause-knows : goal.returns-in-NotYet-clause-knows
returns-in-NotYet-clause-knows c =
    let t = c.try_lock.ensures.tried.took c.if-try_lock-ne0.false in
    let f = c.in-NotYet.ensures.filled t.0 (ap (λ (x : Sat). x.1) t.1.seat) in
    has_looked c.args.top.now.key (view_of c.args.seat.now) c.args.object t.0 (plan_of c.args.p.now) c.args.who.now (wanted_of c.args.wish.now) _ c.act_on.new.seat c.requires.plan t.1 c.act_on.ensures.view c.in-NotYet.shown _ f c.requires.seat.idle.held c.look.ensures.idle

pub returns-in-NotYet-clause-seat : goal.returns-in-NotYet-clause-seat
returns-in-NotYet-clause-seat c =
    let t = c.try_lock.ensures.tried.took c.if-try_lock-ne0.false in
    let f = c.in-NotYet.ensures.filled t.0 (ap (λ (x : Sat). x.1) t.1.seat) in
    let looked = has_looked c.args.top.now.key (view_of c.args.seat.now) c.args.object t.0 (plan_of c.args.p.now) c.args.who.now (wanted_of c.args.wish.now) _ c.act_on.new.seat c.requires.plan t.1 c.act_on.ensures.view c.in-NotYet.shown _ f c.requires.seat.idle.held c.look.ensures.idle in
    let n : CoreSeat = record { place = c.look.new.place; made = c.truncate.new.self; core = c.act_on.new.seat.core } in
    seat_looked c.args.top.now.table_id c.args.top.now.key c.args.seat.now.core c.args.seat.now n _ _ c.requires.seat
    (c.look.ensures.same.table ∙ c.act_on.ensures.same.table ∙ c.try_lock.ensures.same.table) c.act_on.ensures.core looked.view (ap (λ (x : Sat). x.1) c.look.ensures.idle)
    (returns-in-NotYet-clause-written c) (c.truncate.ensures.capacity ∙ c.act_on.ensures.capacity)
