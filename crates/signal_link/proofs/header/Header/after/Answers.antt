use Rattle.std.proofs.Common.{◌++◌, ◌∷◌, [], sym, subst}
use Rattle.signal_link.specs.Common.{Header, IsNext, header_bytes}
use Rattle.signal_link.proofs.header.Header.after.Goals as goal

pub returns-in-Nothing : goal.returns-in-Nothing
returns-in-Nothing c =
    subst (λ (h : Header). IsNext c.args.links.now (header_bytes h ++ c.args.byte ∷ []) c.after_nothing.result) (sym c.in-Nothing.is)
    (c.after_nothing.ensures c.args.links.now)
