-- One more line of a table of words is looked at.
use Rattle.std.proofs.Common.{◌≡◌, ℕ, ◌+◌, ◌<◌, List, map, drop, length, get_or, bytes_eq, cond}
use Rattle.std.proofs.lemmas.List.{at_drop_more}
use Rattle.program_reading.specs.Words.{Meaning, meaning}

pub meaning_turn : {K Y : Type 0} (seen : Y → Meaning K) (ys : List Y) (other : K) (word : List ℕ) (i : ℕ) (d : Y) → i < length ys
    → meaning (map seen (drop i ys)) other word ≡ cond (bytes_eq (seen (get_or ys i d)).word word) (seen (get_or ys i d)).means (meaning (map seen (drop (i + 1) ys)) other word)
meaning_turn seen ys other word i d h = at_drop_more (λ zs. meaning (map seen zs) other word) ys i d h
