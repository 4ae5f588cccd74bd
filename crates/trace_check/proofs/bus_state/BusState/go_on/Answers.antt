use Rattle.std.proofs.lemmas.Option.{IfSome_then}
use Rattle.std.proofs.lemmas.Result.{IfOk-weaker}
use Rattle.trace_check.specs.Along.{plan_in}
use Rattle.trace_check.proofs.Making.{legal_then}
use Rattle.trace_check.proofs.bus_state.BusState.go_on.Goals as goal

pub go_on-requires-clause-planned : goal.go_on-requires-clause-planned
go_on-requires-clause-planned c = c.requires.asked.stands.planned

pub go_on-requires-clause-among : goal.go_on-requires-clause-among
go_on-requires-clause-among c = c.requires.asked.stands.unrest

pub go_on-requires-clause-next : goal.go_on-requires-clause-next
go_on-requires-clause-next c =
    let a = c.requires.asked in
    record {
      mapping = c.args.rules.now.mapping.now;
      history = a.history;
      next = record { sound = c.requires.sound.sound; legal = a.legal; asks = a.asks };
      stand = a.stands.objects;
    }

pub note_line-requires-clause-made : goal.note_line-requires-clause-made
note_line-requires-clause-made c =
    let r = c.args.rules.now in
    let e = c.go_on.new.out in
    let a = c.requires.asked in
    let makes = c.go_on.ensures.made r.mapping.now a.history (record { sound = c.requires.sound.sound; legal = a.legal; asks = a.asks }) a.stands.objects c.if-go_on.true in (
      a.history,
      record {
        fit = makes.fit;
        legal = legal_then (plan_in r) a.history e a.legal makes.fit makes.unbroken;
        planned = c.go_on.ensures.planned;
        objects = makes.stand;
        unrest = c.go_on.ensures.among;
        walks = a.stands.walks;
        runners = a.stands.runners;
      },
    )

pub returns-then-go_on : goal.returns-then-go_on
returns-then-go_on c =
    let r = c.args.rules.now in
    let e = c.go_on.new.out in
    IfOk-weaker c.note_line.result _ _
    (λ behind notes. IfSome_then behind notes (λ more n. λ h legal stands asks.
    let makes = c.go_on.ensures.made r.mapping.now h (record { sound = c.requires.sound.sound; legal = legal; asks = asks }) stands.objects c.if-go_on.true in
    let later = legal_then (plan_in r) h e legal makes.fit makes.unbroken in
    record {
      entry = e;
      actor = makes.actor;
      wanted = makes.wanted;
      begins = n.begins;
      legal = later;
      stands = n.stands h (record {
        fit = makes.fit;
        legal = later;
        planned = c.go_on.ensures.planned;
        objects = makes.stand;
        unrest = c.go_on.ensures.among;
        walks = stands.walks;
        runners = stands.runners;
      });
    }))
    c.note_line.ensures
