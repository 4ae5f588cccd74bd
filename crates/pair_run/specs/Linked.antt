-- Which elements of two nodes are linked (SWS_RTE: Rte_Send, Rte_Receive, made from outside). What the first node sends at an outer port its
-- environment receives, and what the environment of the second node sends comes in at an outer port of this.
use Rattle.std.specs.Prelude.{ℕ, suc, List, [], ◌∷◌, ◌++◌, map, length, Bool, false, ◌&&◌, ◌==◌, is_none, if◌then◌else◌, Option, Some, None}
use Rattle.bus_semantics.specs.Common.{list_any, int_eq, Plan, look}
use Rattle.std.specs.List.{range_with_len}
use Rattle.std.specs.Option.{option_to_list}
use Rattle.bus_semantics.specs.declared.plan.ElemPlan.{ElemPlan}
use Rattle.script_reading.specs.declared.forms.Form.TheVariants.{Send, Receive}
use Rattle.script_reading.specs.Offers.{is_for, number_of}
use Rattle.signal_link.specs.declared.link_elem.LinkElem.{LinkElem}

-- the same limits, and as many words
abbrev pub is_alike : ElemPlan → ElemPlan → Bool
is_alike e f = int_eq e.limits.low f.limits.low && (int_eq e.limits.high f.limits.high && (e.words == f.words))

-- the link to the element of this number, if that is alike
abbrev pub linked_to : Plan → (x : ℕ) → ElemPlan → (into : Option ℕ) → Option LinkElem
linked_to q x e None = None
linked_to q x e (Some y) = if look q.elements y (is_alike e) false
    then Some (record { out_elem = x; in_elem = y; words = e.words; limits = e.limits }) else None

-- an element from which the environment receives goes to the one that the environment of the other node may send to by the same name,
-- PORT.ELEMENT, if both are alike
abbrev pub link_of : Plan → (x : ℕ) → ElemPlan → Option LinkElem
link_of q x e = if is_none e.instance && is_for Receive e then linked_to q x e (number_of Send q e.name) else None

-- the links of elements from this number on
abbrev pub links_from : Plan → (x : ℕ) → List ElemPlan → List LinkElem
links_from q x [] = []
links_from q x (e ∷ es) = option_to_list (link_of q x e) ++ links_from q (suc x) es

-- in the order of the first node's elements, which is the declared order of its ports
abbrev pub links_of : Plan → Plan → List LinkElem
links_of p q = links_from q 0 p.elements

-- of each element of the first node whether it is linked
abbrev pub linked_in : Plan → List LinkElem → List Bool
linked_in p links = map (λ x. list_any (λ (l : LinkElem). l.out_elem == x) links) (range_with_len 0 (length p.elements))
