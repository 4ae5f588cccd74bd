use Rattle.std.proofs.Common.{refl, sym}
use Rattle.trace_check.specs.Along.{plan_in}
use Rattle.trace_check.proofs.Making.{legal_then, made_some, runs_then, tried}
use Rattle.trace_check.proofs.bus_state.BusState.answer.Goals as goal

pub make-requires-clause-tried : goal.make-requires-clause-tried
make-requires-clause-tried c =
    let r = c.args.rules.now in
    let e = c.args.entry.now in
    let a = c.requires.asked in
    record {
      mapping = r.mapping.now;
      history = a.history;
      tried = tried (plan_in r) r.mapping.now a.history e c.event_for-event.result c.requires.sound.sound a.legal c.requires.fits a.program
          (c.event_for-event.ensures r.tasks.now a.history a.stands.walks (λ needs k who. runs_then (plan_in r) a.history e a.program needs k who));
      stand = a.stands.objects;
    }

pub note-requires-in-None : goal.note-requires-in-None
note-requires-in-None c =
    let r = c.args.rules.now in
    let a = c.requires.asked in
    record {
      can = record {
        plan = plan_in r;
        mapping = r.mapping.now;
        history = a.history;
        sound = c.requires.sound.sound;
        fits = c.requires.fits;
        stands = a.stands.runners;
      };
    }

pub returns-in-Some : goal.returns-in-Some
returns-in-Some c = λ h legal stands program.
    let r = c.args.rules.now in
    let e = c.args.entry.now in
    let by = c.event_for-event.ensures r.tasks.now h stands.walks (λ needs k who. runs_then (plan_in r) h e program needs k who) in
    let asked = tried (plan_in r) r.mapping.now h e c.event_for-event.result c.requires.sound.sound legal c.requires.fits program by in
    made_some r.tasks.now (plan_in r) h e _ c.in-Some.clause (c.in-Some.ensures.broken r.mapping.now h asked stands.objects)

pub returns-in_ok-note-in-None : goal.returns-in_ok-note-in-None
returns-in_ok-note-in-None c = λ h legal stands program.
    let r = c.args.rules.now in
    let e = c.args.entry.now in
    let by = c.event_for-event.ensures r.tasks.now h stands.walks (λ needs k who. runs_then (plan_in r) h e program needs k who) in
    let asked = tried (plan_in r) r.mapping.now h e c.event_for-event.result c.requires.sound.sound legal c.requires.fits program by in
    let unbroken = c.in-None.ensures.broken r.mapping.now h asked stands.objects in
    let later = legal_then (plan_in r) h e legal c.requires.fits (sym unbroken) in
    record {
      clause = unbroken;
      stands = λ none. record {
        planned = c.make.ensures.planned;
        objects = c.in-None.ensures.made r.mapping.now h asked stands.objects refl;
        unrest = c.make.ensures.among;
        walks = c.in_ok-note-in-None.ensures r.mapping.now h c.requires.sound.sound later stands.walks;
        runners = c.note-in-None.ensures (plan_in r) r.mapping.now h c.requires.sound.sound c.requires.fits stands.runners;
      };
    }
