use Rattle.std.proofs.Common.{◌≡◌, sym, ◌∙◌, ap, subst, Some, None, ◌∷◌, []}
use Rattle.bus_semantics.specs.Common.{plan_of, wanted_of, object_of}
use Rattle.port_objects.specs.declared.bench.Answered.TheVariants as answered
use Rattle.port_objects.specs.declared.bench.Benched.TheVariants.{NotYet, Contended}
use Rattle.port_objects.specs.Benches.{IsActed, benched, written_last}
use Rattle.task_slots.specs.Common.{look_of, IsTried, EntryOf, looks_at, Looked}
use Rattle.task_slots.proofs.Tries.{asked_on, made_entry, made_looked, held_looked, lost_looked}
use Rattle.task_slots.proofs.trying.try_wish.Goals as goal

pub act_into-requires-clause-asked : goal.act_into-requires-clause-asked
act_into-requires-clause-asked g c =
    let touching : object_of (plan_of c.args.p.now) c.args.who.now (wanted_of c.args.wish.now) ≡ Some c.in-Some.object = sym c.in-Some.ensures in
    asked_on (plan_of c.args.p.now) _ c.args.who.now (wanted_of c.args.wish.now) c.in-Some.object c.requires.plan touching c.requires.tried

pub returns-in-Made-clause-entry : goal.returns-in-Made-clause-entry
returns-in-Made-clause-entry g c =
    let touching : object_of (plan_of c.args.p.now) c.args.who.now (wanted_of c.args.wish.now) ≡ Some c.in-Some.object = sym c.in-Some.ensures in
    let written = c.in-Made.ensures.written in
    let last : written_last c.act_into.new.made.items ≡ Some written.0 = ap written_last written.1 ∙ c.last_entries_are_last.ensures c.args.made.now.items written.0 in
    let acted = subst (λ q. IsActed q c.in-Some.object c.args.who.now (wanted_of c.args.wish.now) (g.B.Bench.told c.args.bench.now) (g.B.Bench.told c.act_into.new.self) (benched answered.Made c.act_into.new.made.items)) c.requires.plan c.in-Made.ensures.acted in
    made_entry (plan_of c.args.p.now) c.args.who.now (wanted_of c.args.wish.now) c.in-Some.object touching c.act_into.new.made.items written.0 last (g.B.Bench.told c.args.bench.now) (g.B.Bench.told c.act_into.new.self) acted

pub returns-in-Made-clause-looked : goal.returns-in-Made-clause-looked
returns-in-Made-clause-looked g c =
    let touching : object_of (plan_of c.args.p.now) c.args.who.now (wanted_of c.args.wish.now) ≡ Some c.in-Some.object = sym c.in-Some.ensures in
    let written = c.in-Made.ensures.written in
    let last : written_last c.act_into.new.made.items ≡ Some written.0 = ap written_last written.1 ∙ c.last_entries_are_last.ensures c.args.made.now.items written.0 in
    let acted = subst (λ q. IsActed q c.in-Some.object c.args.who.now (wanted_of c.args.wish.now) (g.B.Bench.told c.args.bench.now) (g.B.Bench.told c.act_into.new.self) (benched answered.Made c.act_into.new.made.items)) c.requires.plan c.in-Made.ensures.acted in
    made_looked (plan_of c.args.p.now) c.args.who.now (wanted_of c.args.wish.now) c.in-Some.object touching c.act_into.new.made.items written.0 last (g.B.Bench.told c.args.bench.now) (g.B.Bench.told c.act_into.new.self) acted

pub returns-in-NotYet-clause-looked : goal.returns-in-NotYet-clause-looked
returns-in-NotYet-clause-looked g c =
    let touching : object_of (plan_of c.args.p.now) c.args.who.now (wanted_of c.args.wish.now) ≡ Some c.in-Some.object = sym c.in-Some.ensures in
    let acted = subst (λ q. IsActed q c.in-Some.object c.args.who.now (wanted_of c.args.wish.now) (g.B.Bench.told c.args.bench.now) (g.B.Bench.told c.act_into.new.self) (NotYet c.in-NotYet.field-0)) c.requires.plan c.in-NotYet.ensures.acted in
    held_looked (plan_of c.args.p.now) c.args.who.now (wanted_of c.args.wish.now) c.in-Some.object touching c.in-NotYet.field-0 _ _ acted

pub returns-in-Contended-clause-looked : goal.returns-in-Contended-clause-looked
returns-in-Contended-clause-looked g c =
    let touching : object_of (plan_of c.args.p.now) c.args.who.now (wanted_of c.args.wish.now) ≡ Some c.in-Some.object = sym c.in-Some.ensures in
    let acted = subst (λ q. IsActed q c.in-Some.object c.args.who.now (wanted_of c.args.wish.now) (g.B.Bench.told c.args.bench.now) (g.B.Bench.told c.act_into.new.self) Contended) c.requires.plan c.in-Contended.ensures.acted in
    lost_looked (plan_of c.args.p.now) c.args.who.now (wanted_of c.args.wish.now) c.in-Some.object touching _ _ acted

pub answer_alone-requires-clause-tried : goal.answer_alone-requires-clause-tried
answer_alone-requires-clause-tried g c = subst (λ q. IsTried q c.args.who.now (wanted_of c.args.wish.now)) (sym c.requires.plan) c.requires.tried

pub returns-in-None-clause-entry : goal.returns-in-None-clause-entry
returns-in-None-clause-entry g c = subst (λ q. EntryOf q c.args.who.now (wanted_of c.args.wish.now) (look_of c.answer_alone.result c.answer_alone.new.made.items)) c.requires.plan c.answer_alone.ensures.entry

pub returns-in-None-clause-looked : goal.returns-in-None-clause-looked
returns-in-None-clause-looked g c =
    let w = wanted_of c.args.wish.now in
    let l = look_of c.answer_alone.result c.answer_alone.new.made.items in
    subst (λ n. Looked (plan_of c.args.p.now) ((c.args.who.now, w) ∷ []) n (g.B.Bench.told c.args.bench.now) (g.B.Bench.told c.answer_alone.new.bench) l) (ap (λ o. looks_at o w) c.in-None.ensures)
    (subst (λ q. Looked q ((c.args.who.now, w) ∷ []) (looks_at None w) (g.B.Bench.told c.args.bench.now) (g.B.Bench.told c.answer_alone.new.bench) l) c.requires.plan c.answer_alone.ensures.looked)
