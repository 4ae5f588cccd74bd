use Rattle.std.proofs.Common.{◌++◌, ◌∷◌, ℕ, List, [], Bool, Option, sym, ap, ◌∙◌, subst, arith}
use Rattle.std.specs.Option.{unwrap_or}
use Rattle.signal_link.specs.Common.{Part, IsPart, IsPushed, begun_of, IsBeginning}
use Rattle.signal_link.proofs.Payloads.{no_good_frame}
use Rattle.signal_link.proofs.advancing.push.Goals as goal

pub returns-then-not-push : goal.returns-then-not-push
returns-then-not-push c = λ kept begun.
    let links = c.args.links.now in
    let held = subst (λ (p : Part). IsPart c.args.links.now p) c.in-InWords.is c.requires.part in
    let bytes = ap (λ (o : Option (List ℕ)). unwrap_or o []) (sym (ap (λ (p : Part). begun_of p) c.in-InWords.is) ∙ begun) in
    let pushed = subst (λ (b : Bool). IsPushed c.in-InWords.payload c.args.byte c.push.new.self b) c.if-not-push.true c.push.ensures in
    subst (λ (bs : List ℕ). IsBeginning c.args.links.now (bs ++ c.args.byte ∷ []) → ⊥) bytes
    (no_good_frame c.args.links.now c.in-InWords.payload c.push.new.self c.args.byte held.0 held.1 (omega arith) pushed)
