-- The laws by which a caller of `put` joins what it put.
use Rattle.std.specs.Prelude.{◌≡◌, ℕ, ◌+◌, min, List, [], ◌++◌, length, take, Option, Some, None, refl}
use Rattle.std.proofs.Common.{sym, ap, ◌∙◌, append_assoc, append-nil, arith}
use Rattle.std.proofs.Math.Seq.{take-append-add}
use Rattle.std.proofs.lemmas.Grind.{common_steps}
use Rattle.std.specs.Io.KnownBytes.{append_known}
use Rattle.rte_text.specs.declared.sink.Put.{Put}
use Rattle.rte_text.specs.declared.sink.Put.TheVariants.{Done, Failed}
use Rattle.rte_text.specs.Sinks.{AppendsWhereTold, AppendsPrefixWhereTold, ToldAfter}

-- nothing put is nothing appended
pub appends_none : (told : Option (List ℕ)) → AppendsWhereTold told told []
appends_none None = refl
appends_none (Some bytes) = ap Some (sym (append-nil bytes))

-- two appends are one
pub appends_twice : (told : Option (List ℕ)) (first more : List ℕ) → append_known (append_known told first) more ≡ append_known told (first ++ more)
appends_twice None first more = refl
appends_twice (Some bytes) first more = ap Some (append_assoc bytes first more)

pub appends_both : (before between after : Option (List ℕ)) (first more : List ℕ)
    → AppendsWhereTold before between first → AppendsWhereTold between after more → AppendsWhereTold before after (first ++ more)
appends_both before between after first more p q = q ∙ ap (λ told. append_known told more) p ∙ appends_twice before first more

-- an append of all is one of a prefix
pub prefix_whole : (before after : Option (List ℕ)) (bytes : List ℕ) → AppendsWhereTold before after bytes → AppendsPrefixWhereTold before after bytes
prefix_whole before after bytes p = record { taken = length bytes; told = let all : take (length bytes) bytes ≡ bytes = grind (arith, common_steps) in rw all p }

-- a prefix of the first is a prefix of both
pub prefix_first : {before after : Option (List ℕ)} {first : List ℕ} (more : List ℕ)
    → AppendsPrefixWhereTold before after first → AppendsPrefixWhereTold before after (first ++ more)
prefix_first {before} {after} {first} more p = record {
  taken = min p.taken (length first);
  told = let same : take (min p.taken (length first)) (first ++ more) ≡ take p.taken first = grind (arith, common_steps) in rw same p.told;
}

-- a prefix after an append is a prefix of both
pub prefix_after : {between after : Option (List ℕ)} {more : List ℕ} (before : Option (List ℕ)) (first : List ℕ)
    → AppendsWhereTold before between first → AppendsPrefixWhereTold between after more → AppendsPrefixWhereTold before after (first ++ more)
prefix_after {between} {after} {more} before first p q = record {
  taken = length first + q.taken;
  told = rw (take-append-add first more q.taken) (appends_both before between after first (take q.taken more) p q.told);
}

-- a put after an append answers for both
pub told_after : (answer : Put) (before between after : Option (List ℕ)) (first more : List ℕ)
    → AppendsWhereTold before between first → ToldAfter answer between after more → ToldAfter answer before after (first ++ more)
told_after Done before between after first more p q = appends_both before between after first more p q
told_after Failed before between after first more p q = prefix_after before first p q
