use Rattle.std.proofs.Common.{ℤ, [], ◌∷◌, ◌++◌, refl, sym, ap, ◌∙◌, arith, true≢false}
use Rattle.std.proofs.lemmas.Int.{to_z-of_z}
use Rattle.std.specs.Int.{w64}
use Rattle.signal_link.specs.declared.payload.Payload.{Payload}
use Rattle.signal_link.proofs.Payloads.{ended, grown}
use Rattle.signal_link.proofs.payload.Payload.push.Goals as goal

pub returns-then-is_whole : goal.returns-then-is_whole
returns-then-is_whole c =
    let old = c.args.self.now in
    let whole = c.is_whole.ensures.0 c.if-is_whole.true in
    let q : Payload = record { number = c.args.self.now.number; link = c.args.self.now.link; words = c.push.new.self; head = c.empty-self.result } in
    let word = to_z-of_z w64 c.word.result (record { sfits = c.word.type_inv }) ∙ c.word.ensures in
    let words = c.push.ensures.items ∙ ap (λ (z : ℤ). c.args.self.now.words.items ++ z ∷ []) word in
    ended c.args.self.now q c.with-head.result c.args.byte c.requires.payload (omega arith) c.requires.room c.with-head.ensures.head
    c.with-head.ensures.count c.with-head.ensures.number refl refl words c.empty-self.ensures whole
    (c.may_be_within.ensures.whole c.if-not-may_be_within.false whole)

pub returns-else-is_whole : goal.returns-else-is_whole
returns-else-is_whole c =
    let q : Payload = record { number = c.args.self.now.number; link = c.args.self.now.link; words = c.args.self.now.words; head = c.with-head.result } in
    grown c.args.self.now q c.with-head.result c.args.byte c.requires.payload (omega arith) c.requires.room c.with-head.ensures.head
    c.with-head.ensures.count c.with-head.ensures.number refl refl refl refl
    (λ e. true≢false (sym (c.is_whole.ensures.1 e) ∙ c.if-is_whole.false))
    (c.may_be_within.ensures.open.0 c.if-not-may_be_within.false)
