-- Coherent access lists (SWS_RTE: Rte_IRead, Rte_IWrite; the arrangement is this project's own): elements that a runnable
-- fetches at one moment, or publishes at one. A mask says which elements of a list are meant: its lowest bit is the first's.
use Rattle.std.specs.Prelude.{ℕ, ◌+◌, ◌*◌, ◌/◌, ◌%◌, ◌^◌, ℤ, List, [], ◌∷◌, length, take, drop, Bool, false, not, ◌&&◌, ◌==◌, nat_lt, if◌then◌else◌}
use Rattle.bus_semantics.specs.declared.plan.CoherentList.{CoherentList}
use Rattle.bus_semantics.specs.declared.plan.ElemPlan.{ElemPlan}
use Rattle.bus_semantics.specs.Plan.{Plan, look}

-- the elements of a list, in declared order
abbrev pub elems_of : Plan → (list : ℕ) → List ℕ
elems_of p l = look p.lists l (λ (c : CoherentList). c.elems) []

-- how many words an element has, and some elements together
abbrev pub words_at : Plan → (elem : ℕ) → ℕ
words_at p x = look p.elements x (λ (e : ElemPlan). e.words) 0

abbrev pub words_of_all : Plan → (elems : List ℕ) → ℕ
words_of_all p [] = 0
words_of_all p (x ∷ xs) = words_at p x + words_of_all p xs

-- ---- masks

-- the elements whose bits are set
abbrev pub marked : (mask : ℕ) → (elems : List ℕ) → List ℕ
marked w [] = []
marked w (x ∷ xs) = if w % 2 == 1 then x ∷ marked (w / 2) xs else marked (w / 2) xs

-- no bit is set beyond the elements
abbrev pub marks_fit : (mask : ℕ) → (elems : List ℕ) → Bool
marks_fit w xs = nat_lt w (2 ^ length xs)

-- the mask of the elements that pass
abbrev pub mask_of : (ℕ → Bool) → (elems : List ℕ) → ℕ
mask_of test [] = 0
mask_of test (x ∷ xs) = (if test x then 1 else 0) + 2 * mask_of test xs

-- ---- values

-- the words of some elements, one after the other, for each element its own
abbrev pub split : Plan → (elems : List ℕ) → List ℤ → List (ℕ × List ℤ)
split p [] ws = []
split p (x ∷ xs) ws = (x, take (words_at p x) ws) ∷ split p xs (drop (words_at p x) ws)

-- ---- whose lists

-- the list is one of the runnable's: of reads, or of writes
abbrev pub list_fits : Plan → (runnable : ℕ) → (reads : Bool) → (list : ℕ) → Bool
list_fits p r reads l = look p.lists l (λ (c : CoherentList). (c.runnable == r) && (if reads then c.reads else not c.reads)) false
