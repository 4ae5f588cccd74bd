use Rattle.std.proofs.Common.{◌≡◌, ◌++◌, drop, length, sym, ◌∙◌, ap, take, take-append-drop}
use Rattle.std.proofs.lemmas.List.{take_rest}
use Rattle.std.proofs.lemmas.Slice.Eq.{bytes_eq-Decides}
use Rattle.trace_reading.proofs.reading.behind.Goals as goal

pub returns-then-same_bytes : goal.returns-then-same_bytes
returns-then-same_bytes c =
    let text = c.args.text.now in
    let start = c.args.start.now in
    let same : take (length start) text ≡ start = (bytes_eq-Decides (take (length start) text) start).0 (sym c.same_bytes.ensures ∙ c.if-same_bytes.true) in
    sym (take-append-drop (length start) text) ∙ ap (λ t. t ++ drop (length start) text) same ∙ ap (λ t. start ++ t) (sym (take_rest text (length start)))
