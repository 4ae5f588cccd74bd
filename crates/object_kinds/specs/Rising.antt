-- Numbers in rising order, each once.
use Rattle.std.specs.Prelude.{ℕ, List, [], ◌∷◌, Bool, true, ◌&&◌, nat_lt}
use Rattle.std.specs.List.{list_all}

abbrev pub is_rising : List ℕ → Bool
is_rising [] = true
is_rising (x ∷ xs) = list_all (nat_lt x) xs && is_rising xs
