-- What the definitions of a pair come to, in sentences: what each side does of the script, and what each link carries.
use Rattle.std.specs.Prelude.{ℕ, ℤ, List, [], ◌∷◌, ◌++◌, Bool, true, false, ◌&&◌, ◌||◌, ◌==◌, if◌then◌else◌}
use Rattle.bus_semantics.specs.Common.{list_any, words_of, History, is_environment, Ordered, a_call, to_receive, to_send}
use Rattle.bus_laws.specs.Common.{Deed, Line}
use Rattle.bus_semantics.specs.declared.entries.Deed.TheVariants as deed
use Rattle.bus_semantics.specs.declared.script.Line.TheVariants as line
use Rattle.signal_link.specs.declared.link_elem.LinkElem.{LinkElem}

-- a Receive from a linked element, and a Send to one
abbrev pub is_link_receive : List LinkElem → Ordered → Bool
is_link_receive links (a_call (to_receive x)) = list_any (λ (l : LinkElem). l.out_elem == x) links
is_link_receive links _ = false

abbrev pub is_link_send : List LinkElem → Ordered → Bool
is_link_send links (a_call (to_send x ws)) = list_any (λ (l : LinkElem). l.in_elem == x) links
is_link_send links _ = false

-- the lines of a script that both nodes carry out
abbrev pub is_of_both : Line → Bool
is_of_both (line.Tick n) = true
is_of_both line.Run = true
is_of_both (line.Call w) = false

-- the values that the environment took from an element, and those that it sent to one, the oldest first
abbrev pub value_taken : ℕ → Deed → List (List ℤ)
value_taken x (deed.Receive y code value) = if (x == y) && ((code == 0) || (code == 64)) then words_of value ∷ [] else []
value_taken x _ = []

abbrev pub value_sent : ℕ → Deed → List (List ℤ)
value_sent x (deed.Send y value code) = if x == y then words_of value ∷ [] else []
value_sent x _ = []

abbrev pub all_by_environment : (Deed → List (List ℤ)) → History → List (List ℤ)
all_by_environment f [] = []
all_by_environment f (e ∷ h) = all_by_environment f h ++ (if is_environment e.actor then f e.deed else [])

abbrev pub values_taken : ℕ → History → List (List ℤ)
values_taken x h = all_by_environment (value_taken x) h

abbrev pub values_sent : ℕ → History → List (List ℤ)
values_sent x h = all_by_environment (value_sent x) h
