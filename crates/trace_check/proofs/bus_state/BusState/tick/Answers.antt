use Rattle.std.proofs.Common.{◌≡◌, true, ◌++◌, refl, subst, rules}
use Rattle.bus_semantics.specs.Common.{and_from}
use Rattle.port_objects.specs.Common.{tick_of_env}
use Rattle.trace_check.specs.Along.{plan_in}
use Rattle.trace_check.proofs.Making.{legal_then}
use Rattle.trace_check.proofs.bus_state.BusState.tick.Goals as goal

pub tick-requires-clause-planned : goal.tick-requires-clause-planned
tick-requires-clause-planned c = c.requires.asked.stands.planned

pub tick-requires-clause-among : goal.tick-requires-clause-among
tick-requires-clause-among c = c.requires.asked.stands.unrest

pub tick-requires-clause-next : goal.tick-requires-clause-next
tick-requires-clause-next c =
    let a = c.requires.asked in
    record {
      mapping = c.args.rules.now.mapping.now;
      history = a.history;
      next = record { sound = c.requires.sound.sound; legal = a.legal; asks = a.asks };
      stand = a.stands.objects;
    }

pub note-requires-2 : goal.note-requires-2
note-requires-2 c =
    let r = c.args.rules.now in
    let a = c.requires.asked in
    let came : c.tick.result ≡ true = search rules in
    let makes = c.tick.ensures.made r.mapping.now a.history (record { sound = c.requires.sound.sound; legal = a.legal; asks = a.asks }) a.stands.objects came in
    record {
      can = record {
        plan = plan_in r;
        mapping = r.mapping.now;
        history = a.history;
        sound = c.requires.sound.sound;
        fits = makes.fit;
        stands = a.stands.runners;
      };
    }

pub returns : goal.returns
returns c = λ h legal stands asks.
    let r = c.args.rules.now in
    let p = plan_in r in
    let came : c.tick.result ≡ true = search rules in
    let makes = c.tick.ensures.made r.mapping.now h (record { sound = c.requires.sound.sound; legal = legal; asks = asks }) stands.objects came in
    let later = legal_then p h tick_of_env legal makes.fit makes.unbroken in
    record {
      entry = tick_of_env;
      actor = refl;
      wanted = refl;
      begins = record { fit = and_from _ _ makes.fit refl; whole = subst (λ line. c.args.text.now ≡ line ++ c.in-Some.more.now) (c.tick_line.ensures r.version p) c.in-Some.ensures };
      legal = later;
      stands = record {
        planned = c.tick.ensures.planned;
        objects = makes.stand;
        unrest = c.tick.ensures.among;
        walks = c.in_ok-note.ensures r.mapping.now h c.requires.sound.sound later stands.walks;
        runners = c.note-2.ensures p r.mapping.now h c.requires.sound.sound makes.fit stands.runners;
      };
    }
