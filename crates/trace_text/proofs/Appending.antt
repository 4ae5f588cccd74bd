-- Texts appended one after the other.
use Rattle.std.proofs.Common.{◌≡◌, ◌+◌, [], ◌++◌, length, sym, ap, ◌∙◌, append_assoc, length-append, arith}
use Rattle.bus_semantics.specs.Common.{append-nil, Letters}
use Rattle.trace_text.specs.Appending.{Appends}

pub appends_nothing : (old : Letters) → Appends old old []
appends_nothing old = record { appended = λ room. sym (append-nil old) }

-- one text and then another
pub appends_both : {old mid new a b : Letters} → Appends old mid a → Appends mid new b → Appends old new (a ++ b)
appends_both {old} {mid} {new} {a} {b} first second = record {
  appended = λ room.
      let whole : length (a ++ b) ≡ length a + length b = length-append a b in
      let there : mid ≡ old ++ a = first.appended (omega arith) in
      let long : length mid ≡ length old + length a = ap length there ∙ length-append old a in
      second.appended (omega arith) ∙ ap (λ m. m ++ b) there ∙ append_assoc old a b;
}
