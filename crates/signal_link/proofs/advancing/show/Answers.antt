use Rattle.std.proofs.Common.{refl, sym, ◌∙◌, subst}
use Rattle.signal_link.specs.Common.{Part, IsNext}
use Rattle.signal_link.proofs.Payloads.{whole_frame}
use Rattle.signal_link.proofs.advancing.show.Goals as goal

pub returns-in-Some : goal.returns-in-Some
returns-in-Some c = λ links bytes next.
    let held = subst (λ (p : Part). IsNext links bytes p) c.in-InWords.is next in
    let whole = whole_frame links c.in-InWords.payload c.in-Some.value held.0 c.in-Some.ensures in
    (whole.0, sym held.1 ∙ whole.1, refl)
