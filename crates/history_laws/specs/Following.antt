-- Answers that are followed, and open areas, one answer further.
use Rattle.std.proofs.Common.{◌≡◌, ℕ, ℤ, Bool, true, false, true≢false, refl, sym, ◌∙◌, ap, List, [], ◌∷◌, ◌++◌, Some}
use Rattle.bus_semantics.specs.declared.entries.Deed.{Deed}
use Rattle.bus_semantics.specs.Common.{Plan, Runnable, wanted_by, next_of_activity}
use Rattle.history_laws.specs.Followed.{Followed}
use Rattle.history_laws.specs.OpenAreas.{open_after, opened_on, open_areas}

abbrev first_or : Deed → List Deed → Deed
first_or d [] = d
first_or d (x ∷ ds) = x

abbrev all_but_first : List Deed → List Deed
all_but_first [] = []
all_but_first (x ∷ ds) = ds

abbrev is_any : List Deed → Bool
is_any [] = false
is_any (x ∷ ds) = true

no_more : (before : List Deed) (d : Deed) (after : List Deed) {X : Type 0} → before ++ d ∷ after ≡ [] → X
no_more [] d after e = absurd (true≢false (ap is_any e))
no_more (b ∷ before) d after e = absurd (true≢false (ap is_any e))

pub followed_none : (p : Plan) (r : Runnable) (event : ℕ) (start : List ℤ) → Followed p r event start []
followed_none p r event start = record { each = λ before d after e. no_more before d after e }

-- a part of a longer list is the whole but its last item, or ends before that
data Cut (before : List Deed) (d : Deed) (after : List Deed) (answers : List Deed) (last : Deed) : Type 0 where
  at_last : before ≡ answers → d ≡ last → Cut before d after answers last
  earlier : (rest : List Deed) → before ++ d ∷ rest ≡ answers → Cut before d after answers last

cut : (before : List Deed) (d : Deed) (after : List Deed) (answers : List Deed) (last : Deed) → before ++ d ∷ after ≡ answers ++ last ∷ [] → Cut before d after answers last
cut [] d after [] last e = at_last refl (ap (first_or d) e)
cut [] d after (a ∷ answers) last e = earlier answers (ap (λ x. first_or d x ∷ answers) e)
cut (b ∷ before) d after [] last e = no_more before d after (ap all_but_first e)
cut (b ∷ before) d after (a ∷ answers) last e = longer (cut before d after answers last (ap all_but_first e)) (ap (first_or b) e)
  where
    longer : Cut before d after answers last → b ≡ a → Cut (b ∷ before) d after (a ∷ answers) last
    longer (at_last whole is) same = at_last (λ j. same j ∷ whole j) is
    longer (earlier left is) same = earlier left (λ j. same j ∷ is j)

pub followed_more : (p : Plan) (r : Runnable) (event : ℕ) (start : List ℤ) (answers : List Deed) (last : Deed) → Followed p r event start answers
    → next_of_activity p r event start answers ≡ Some (wanted_by event last) → Followed p r event start (answers ++ last ∷ [])
followed_more p r event start answers last followed next = record { each = λ before d after e. by_cut before d after (cut before d after answers last e) }
  where
    by_cut : (before : List Deed) (d : Deed) (after : List Deed) → Cut before d after answers last → next_of_activity p r event start before ≡ Some (wanted_by event d)
    by_cut before d after (at_last whole is) = ap (next_of_activity p r event start) whole ∙ next ∙ ap (λ x. Some (wanted_by event x)) (sym is)
    by_cut before d after (earlier left is) = followed.each before d left is

opened_more : (areas : List ℕ) (answers : List Deed) (d : Deed) → opened_on areas (answers ++ d ∷ []) ≡ open_after d (opened_on areas answers)
opened_more areas [] d = refl
opened_more areas (a ∷ answers) d = opened_more (open_after a areas) answers d

pub open_areas_more : (answers : List Deed) (d : Deed) → open_areas (answers ++ d ∷ []) ≡ open_after d (open_areas answers)
open_areas_more answers d = opened_more [] answers d
