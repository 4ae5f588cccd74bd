-- The lead of an area misses no entry that may follow.
use Rattle.std.proofs.Common.{◌≡◌, ℕ, true, not, refl, sym, ◌∙◌, ap, subst, Option, Some, None, is_some}
use Rattle.std.specs.Prelude.{is_none}
use Rattle.bus_semantics.specs.Common.{false≢true, ActKey, Plan, kind_of, Past, is_held, is_open, enters_by, Follows, IsPastOf, IsSound}
use Rattle.bus_semantics.specs.declared.script.Mapping.{Mapping}
use Rattle.bus_semantics.specs.declared.entries.Actor.{Actor}
use Rattle.bus_semantics.specs.declared.entries.Actor.TheVariants.{Act}
use Rattle.bus_semantics.specs.declared.entries.Deed.{Deed}
use Rattle.bus_semantics.specs.declared.entries.Deed.TheVariants as deed
use Rattle.area_objects.specs.Held.{is_held_by}
use Rattle.object_kinds.proofs.Classes.{On}
use Rattle.object_kinds.proofs.Numbers.{an_area}
use Rattle.object_kinds.proofs.Options.{given_where}
use Rattle.object_kinds.proofs.Proper.{noting}
use Rattle.area_objects.specs.Layout.{area_of}
use Rattle.area_objects.specs.Kept.{Kept}
use Rattle.area_objects.specs.Leading.{lead_of_area}
use Rattle.area_objects.specs.Standing.{Keeps}
use Rattle.area_objects.proofs.Holders.{State, key_itself, open_is_held, one_open, the_area, entered_by, left_by, state_of}
use Rattle.area_objects.proofs.Touching.{no_start, touches_area}

free_none : (o : Option ActKey) → not (is_some o) ≡ true → is_none o ≡ true
free_none None free = refl
free_none (Some key) free = absurd (false≢true free)

module _ (p : Plan) (object : ℕ) (k : Kept) (l : Past) (past : IsPastOf p object l) (keeps : Keeps p object k l) (event : Option ℕ) where
  enter_comes : (a : Actor) (x : ℕ) → Follows p object l (noting a (deed.Enter x) event) → is_some (lead_of_area k (deed.Enter x) a) ≡ true
  enter_comes a x follows =
      let by = entered_by p object a x event follows.proper in
      let same = the_area p object x follows.touching in
      let free : not (is_some k.holder) ≡ true = ap not (keeps.held ∙ ap (λ z. is_held z l) (sym same)) ∙ follows.answers.areas in
      subst (λ b. is_some (lead_of_area k (deed.Enter x) b) ≡ true) (sym by.is) (given_where (is_none k.holder) (record { holder = Some by.key }) (free_none k.holder free))

  leave_comes : (a : Actor) (x : ℕ) → Follows p object l (noting a (deed.Leave x) event) → is_some (lead_of_area k (deed.Leave x) a) ≡ true
  leave_comes a x follows =
      let by = left_by p object a x event follows.proper in
      let opens : is_open (enters_by (Act by.key)) l ≡ true = subst (λ b. is_open (enters_by b) l ≡ true) by.is follows.matching in
      subst (λ b. is_some (lead_of_area k (deed.Leave x) b) ≡ true) (sym by.is)
      (given_where (is_held_by by.key k.holder) (record { holder = None }) (by_holder by.key opens k.holder refl))
    where
      state : State (area_of p object) l
      state = state_of p object l past

      by_holder : (key : ActKey) → is_open (enters_by (Act key)) l ≡ true → (o : Option ActKey) → k.holder ≡ o → is_held_by key o ≡ true
      by_holder key opens None none =
          let held : is_some k.holder ≡ true = keeps.held ∙ open_is_held (area_of p object) l key state opens in
          absurd (false≢true (sym (ap is_some none) ∙ held))
      by_holder key opens (Some holder) is =
          let same : holder ≡ key = one_open (area_of p object) l holder key state (keeps.holder holder is) opens in
          subst (λ j. is_held_by key (Some j) ≡ true) (sym same) (key_itself key)

  comes : (a : Actor) (d : Deed) → On p (an_area (area_of p object)) a event d → Follows p object l (noting a d event) → is_some (lead_of_area k d a) ≡ true
  comes a (deed.Enter x) on follows = enter_comes a x follows
  comes a (deed.Leave x) on follows = leave_comes a x follows
  comes a (deed.Start e point value) on follows = absurd (no_start p (area_of p object) (kind_of p e) on)
  comes a d on follows = absurd on

  pub missed_none : (m : Mapping) → IsSound p m → (a : Actor) (d : Deed) → Follows p object l (noting a d event) → is_some (lead_of_area k d a) ≡ true
  missed_none m sound a d follows = comes a d (touches_area p m object a event d sound keeps.is_area follows.touching follows.proper) follows
