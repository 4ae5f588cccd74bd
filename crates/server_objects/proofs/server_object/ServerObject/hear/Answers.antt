use Rattle.std.proofs.Common.{◌≡◌, refl, sym, ◌∙◌, ap, subst, Some}
use Rattle.bus_semantics.specs.declared.entries.Deed.TheVariants as deed
use Rattle.bus_semantics.specs.Wanted.{to_hear}
use Rattle.object_kinds.specs.declared.acted.Acted.TheVariants.{NotYet}
use Rattle.object_kinds.specs.declared.acted.Shown.TheVariants.{NotReturned}
use Rattle.object_kinds.specs.Common.{acted, place}
use Rattle.server_objects.specs.Acting.{IsActed, Leads}
use Rattle.server_objects.specs.Kept.{Kept, ServerState}
use Rattle.server_objects.proofs.Acted.{state, hear_leads, hear_holds, none_heard, nothing_taken}
use Rattle.server_objects.proofs.server_object.ServerObject.hear.Goals as goal
use Rattle.server_objects.proofs.server_object.ServerObject.hear.Goals.{in-Some-answer, in-None-answer}

pub returns-after-answer : goal.returns-after-answer
returns-after-answer c =
    let i = c.self.inside in
    let q = c.args.point in
    let kept : Kept = record { points = i.points.items; event = i.event; returns = i.returns.items; awaited = i.awaited.items; served = i.server } in
    let new = state i.points.items i.event i.returns.items i.awaited.items c.answer.new.self i.woken.items i.heard in
    let there : place q i.points.items ≡ Some c.in-Some.place = ap (λ (z : ServerState). place q z.kept.points) c.self.view_is ∙ sym c.place_of.ensures.place ∙ c.in-Some.is in
    elim c.match-answer.branch [
      | in-Some-answer w ↦ subst (IsActed c.args.who.now (to_hear q) c.args.self.now new) (λ t. acted (sym w.result-is t) (sym w.out-is t))
          (subst (Leads c.args.who.now (to_hear q) c.args.self.now new) (λ t. record { actor = sym w.fill_answer.ensures.actor t; deed = sym w.fill_answer.ensures.deed t })
          (subst (λ old. Leads c.args.who.now (to_hear q) old new (record { actor = c.args.who.now; deed = deed.Answer q w.in-Some-answer.outcome.code w.in-Some-answer.outcome.value })) c.self.view_is
          (hear_leads c.args.who.now q c.in-Some.place w.in-Some-answer.outcome kept c.answer.new.self i.woken.items i.heard there (sym w.in-Some-answer.is ∙ c.answer.ensures.answer) c.answer.ensures.kept)))
      | in-None-answer w ↦ subst (IsActed c.args.who.now (to_hear q) c.args.self.now new) (λ t. acted (sym w.result-is t) (sym w.out-is t))
          (subst (λ old. IsActed c.args.who.now (to_hear q) old new (NotYet (NotReturned q))) c.self.view_is
          (hear_holds c.args.who.now q (record { kept = kept; woken = i.woken.items; heard = i.heard }) new (NotReturned q) refl
          (ap (λ z. state i.points.items i.event i.returns.items i.awaited.items z i.woken.items i.heard) (c.answer.ensures.kept ∙ nothing_taken i.server c.in-Some.place (sym w.in-None-answer.is ∙ c.answer.ensures.answer)))
          (none_heard i.server (place q i.points.items) c.in-Some.place there (sym w.in-None-answer.is ∙ c.answer.ensures.answer))))
    ]
