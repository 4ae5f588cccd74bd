-- What happens on two nodes, in one order, and its text. Two nodes side by side are this project's own.
use Rattle.std.specs.Prelude.{List, [], ◌∷◌, ◌++◌, codes, map, Bool, true, false, if◌then◌else◌}
use Rattle.bus_semantics.specs.declared.version.Version.TheVariants as version
use Rattle.bus_semantics.specs.Common.{Plan, Item, Session, Letters, header, item_text}

-- the node that sends into the link, and the one that the link sends to
pub data Side : Type 0 where
  one : Side
  two : Side

-- items of both, the newest first
abbrev pub Joint : Type 0
Joint = List (Side × Item)

abbrev pub same_side : Side → Side → Bool
same_side one one = true
same_side one two = false
same_side two one = false
same_side two two = true

-- what happened on one side
abbrev pub side_of : Side → Joint → Session
side_of k [] = []
side_of k (i ∷ j) = if same_side k i.0 then i.1 ∷ side_of k j else side_of k j

abbrev pub all_on : Side → Session → Joint
all_on k s = map (λ i. (k, i)) s

-- ---- its text: both headers, then each line, behind the number of its side and a space

abbrev pub prefix_of : Side → Letters
prefix_of one = codes "1 "
prefix_of two = codes "2 "

abbrev pub plan_at : Side → Plan → Plan → Plan
plan_at one p q = p
plan_at two p q = q

abbrev pub joint_lines : Plan → Plan → Joint → Letters
joint_lines p q [] = []
joint_lines p q (i ∷ j) = joint_lines p q j ++ (prefix_of i.0 ++ item_text version.Two (plan_at i.0 p q) i.1)

abbrev pub headers : Letters
headers = (prefix_of one ++ header version.Two) ++ (prefix_of two ++ header version.Two)

abbrev pub joint_text : Plan → Plan → Joint → Letters
joint_text p q j = headers ++ joint_lines p q j
