use Rattle.std.proofs.Common.{◌≡◌, ◌∷◌, ◌∙◌, not, sym, ap, subst}
use Rattle.bus_semantics.specs.History.{is_over}
use Rattle.trace_walks.specs.Runners.{RunnersStand, with_key}
use Rattle.trace_walks.proofs.Flags.{entry_noted, has_place, others_noted}
use Rattle.trace_walks.proofs.runners.Runners.note.Goals as goal

pub note_key-requires : goal.note_key-requires
note_key-requires c = has_place c.args.entry.now c.in-Act.key c.args.self.now c.in-Act.is c.requires.can

pub returns-in-Act : goal.returns-in-Act
returns-in-Act c = λ p m h sound fit stands.
    let e = c.args.entry.now in
    let k = c.in-Act.key in
    let rs = c.args.self.now in
    let is : c.note_key.new.self ≡ with_key k (not (is_over e.deed)) rs = c.note_key.ensures ∙ ap (λ b. with_key k (not b) rs) c.is_over.ensures in
    subst (RunnersStand p (e ∷ h)) (sym is) (entry_noted p m h e k rs c.in-Act.is sound fit stands)

pub returns-in_default : goal.returns-in_default
returns-in_default c = λ p m h sound fit stands. others_noted p h c.args.entry.now c.args.self.now c.in_default.not-Act stands
