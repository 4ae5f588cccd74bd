-- A sound plan: its coherent lists and its bundles. Both are this project's own.
use Rattle.std.specs.Prelude.{ℕ, List, [], ◌∷◌, map, length, flat_map, option_to_list, Bool, true, false, ◌&&◌, ◌||◌, ◌==◌, nat_lt, nat_le}
use Rattle.std.specs.List.{list_all}
use Rattle.runnable_lang.specs.declared.program.AccessKind.{AccessKind}
use Rattle.runnable_lang.specs.declared.program.AccessKind.TheVariants as kind
use Rattle.runnable_lang.specs.declared.program.AccessSig.{AccessSig}
use Rattle.bus_semantics.specs.declared.plan.CoherentList.{CoherentList}
use Rattle.bus_semantics.specs.Plan.{Plan, Runnable, look, every_from, positions, group_of}
use Rattle.bus_semantics.specs.State.{same_kind}
use Rattle.bus_semantics.specs.Lists.{elems_of, words_of_all}
use Rattle.bus_semantics.specs.Bundles.{groups_at, leaders_by}
use Rattle.bus_semantics.specs.SoundPlan.{is_in, is_rising, is_distinct, same_numbers, first_of, firsts}

-- ---- lists

-- the runnable has an access of this kind to the element
abbrev pub accesses_elem : AccessKind → (elem : ℕ) → List AccessSig → (targets : List ℕ) → Bool
accesses_elem k x (a ∷ more) (t ∷ ts) = (same_kind a.kind k && (t == x)) || accesses_elem k x more ts
accesses_elem k x _ _ = false

-- the kind of access to which the elements of a list are: of those that are fetched, or published
abbrev pub list_kind : (reads : Bool) → AccessKind
list_kind true = kind.IRead
list_kind false = kind.IWrite

-- a list of the runnable has 2 to 16 elements with at most 16 words, each one that the runnable reads (or writes) implicitly
abbrev pub list_sound : Plan → (runnable : ℕ) → Runnable → (list : ℕ) → Bool
list_sound p i r l = look p.lists l (λ (c : CoherentList). (c.runnable == i)
    && (is_in 2 16 (length c.elems)
    && (nat_le (words_of_all p c.elems) 16
    && list_all (λ x. accesses_elem (list_kind c.reads) x r.accesses r.targets) c.elems))) false

-- the lists of the runnables, one after the other, are all lists; no element stands in two lists of a runnable, or twice in one
abbrev pub lists_sound : Plan → Bool
lists_sound p =
    same_numbers (flat_map (λ (r : Runnable). r.lists) p.runnables) (positions (length p.lists))
    && every_from 0 (λ i (r : Runnable). list_all (list_sound p i r) r.lists && is_distinct (flat_map (elems_of p) r.lists)) p.runnables

-- ---- bundles

abbrev pub groups_listed : Plan → CoherentList → List ℕ
groups_listed p c = flat_map (λ x. option_to_list (group_of p x)) c.elems

abbrev pub first_group : Plan → (bundle : ℕ) → List ℕ
first_group p b = look p.bundles b first_of []

-- a bundle lists its groups in rising order, and the bundles stand in order of their least groups; the first group of a group's bundle
-- is the least one that lists connect with it
abbrev pub bundles_fit : Plan → Bool
bundles_fit p =
    (length p.homes == length p.groups)
    && (list_all (λ b. nat_lt b (length p.bundles)) p.homes
    && (every_from 0 (λ b gs. same_numbers gs (groups_at p b) && nat_lt 0 (length gs)) p.bundles
    && (is_rising (firsts p.bundles)
    && same_numbers (flat_map (first_group p) p.homes) (leaders_by (length p.groups) (map (groups_listed p) p.lists)))))
