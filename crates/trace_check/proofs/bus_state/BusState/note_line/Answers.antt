use Rattle.trace_check.specs.Along.{plan_in}
use Rattle.trace_check.proofs.bus_state.BusState.note_line.Goals as goal

pub behind_line_of-requires-clause-readable : goal.behind_line_of-requires-clause-readable
behind_line_of-requires-clause-readable c = c.sound_plans_are_readable.ensures (plan_in c.args.rules.now) c.args.rules.now.mapping.now c.requires.sound.sound

pub behind_line_of-requires-clause-fits : goal.behind_line_of-requires-clause-fits
behind_line_of-requires-clause-fits c = c.requires.made.1.fit

pub note-requires-in-Some : goal.note-requires-in-Some
note-requires-in-Some c =
    let made = c.requires.made.1 in
    record {
      can = record {
        plan = plan_in c.args.rules.now;
        mapping = c.args.rules.now.mapping.now;
        history = c.requires.made.0;
        sound = c.requires.sound.sound;
        fits = made.fit;
        stands = made.runners;
      };
    }

pub returns-in_ok-note-in-Some : goal.returns-in_ok-note-in-Some
returns-in_ok-note-in-Some c =
    let r = c.args.rules.now in
    record {
      begins = c.in-Some.ensures.begins;
      stands = λ h made. record {
        planned = made.planned;
        objects = made.objects;
        unrest = made.unrest;
        walks = c.in_ok-note-in-Some.ensures r.mapping.now h c.requires.sound.sound made.legal made.walks;
        runners = c.note-in-Some.ensures (plan_in r) r.mapping.now h c.requires.sound.sound made.fit made.runners;
      };
    }
