-- Links, and the values that they take.
use Rattle.std.specs.Prelude.{◌≡◌, ◌<◌, ℤ, pos, negsuc, List, length, Bool, true, ◌&&◌, ◌==◌, nat_le, int_le}
use Rattle.std.specs.List.{list_all}
use Rattle.rte_value.specs.declared.kinds.Limits.{Limits}
use Rattle.signal_link.specs.declared.link_elem.LinkElem.{LinkElem}

-- 1 to 16 words, and some word lies within the limits
abbrev pub is_link : LinkElem → Bool
is_link l = nat_le 1 l.words && (nat_le l.words 16 && int_le l.limits.low l.limits.high)

pub record AreLinks (links : List LinkElem) : Type 0 where
  pub some : 0 < length links
  pub each : list_all is_link links ≡ true

abbrev pub is_within : Limits → ℤ → Bool
is_within l w = int_le l.low w && int_le w l.high

-- as many words as the link has, each within the limits
abbrev pub takes : LinkElem → List ℤ → Bool
takes l ws = (length ws == l.words) && list_all (is_within l.limits) ws

-- a word of 64 bits
abbrev pub is_word : ℤ → Bool
is_word w = int_le (negsuc 9223372036854775807) w && int_le w (pos 9223372036854775807)

-- the limits are words, as those of every link in a program are
abbrev pub AreOfWords : List LinkElem → Type 0
AreOfWords links = list_all (λ (l : LinkElem). is_word l.limits.low && is_word l.limits.high) links ≡ true
