-- An entry that is the actor's and of the wish touches what the wish touches, and is proper where the wish fits and the answer does.
use Rattle.std.proofs.Common.{◌≡◌, ℕ, true, false, ◌&&◌, if◌then◌else◌, refl, sym, ◌∙◌, ap, subst, Some, None}
use Rattle.std.specs.Prelude.{is_none, unwrap_or}
use Rattle.bus_semantics.specs.Common.{and_parts, eq-eqb, false≢true, same_number, Plan, instance_of, Wanted, to_admit, to_end, wanted_by, needs_event, object_of, touched_by, touches}
use Rattle.bus_semantics.specs.Common.{touched, key_fits, event_fits, wish_fits, activation_fits, answer_fits, starts_its_own, is_proper, event_of, noted_for, asks_its_own}
use Rattle.bus_laws.specs.Common.{Actor, Env, Machine, Act, Deed, Entry}
use Rattle.bus_semantics.specs.declared.entries.Deed.TheVariants as deed

-- an entry that needs an event has one
has_event : (w : Wanted) (d : Deed) → wanted_by (unwrap_or (event_of w) 0) d ≡ w → (needs_event d && is_none (event_of w)) ≡ false
has_event w (deed.Admit admitted) same = ap (λ v. is_none (event_of v)) (sym same)
has_event w deed.End same = ap (λ v. is_none (event_of v)) (sym same)
has_event w d same = refl

activation_may : (p : Plan) (a : Actor) (e : ℕ) (w : Wanted) → w ≡ to_admit e → wish_fits p a w ≡ true → activation_fits p a ≡ true
activation_may p Env e w is fit = subst (λ v. wish_fits p Env v ≡ true) is fit
activation_may p (Machine n) e w is fit = let parts = and_parts _ false (subst (λ v. wish_fits p (Machine n) v ≡ true) is fit) in absurd (false≢true parts.1)
activation_may p (Act k) e w is fit = (and_parts (key_fits p k) (event_fits p (instance_of p k.runnable) e) (subst (λ v. wish_fits p (Act k) v ≡ true) is fit)).0

activation_ends : (p : Plan) (a : Actor) (e : ℕ) (w : Wanted) → w ≡ to_end e → wish_fits p a w ≡ true → activation_fits p a ≡ true
activation_ends p Env e w is fit = subst (λ v. wish_fits p Env v ≡ true) is fit
activation_ends p (Machine n) e w is fit = let parts = and_parts _ false (subst (λ v. wish_fits p (Machine n) v ≡ true) is fit) in absurd (false≢true parts.1)
activation_ends p (Act k) e w is fit = (and_parts (key_fits p k) (event_fits p (instance_of p k.runnable) e) (subst (λ v. wish_fits p (Act k) v ≡ true) is fit)).0

fits_first : (p : Plan) (a : Actor) (w : Wanted) (d : Deed) (by : ℕ) → wanted_by by d ≡ w → wish_fits p a w ≡ true → (if needs_event d then activation_fits p a else wish_fits p a (wanted_by 0 d)) ≡ true
fits_first p a w (deed.Admit admitted) by same fit = activation_may p a by w (sym same) fit
fits_first p a w deed.End by same fit = activation_ends p a by w (sym same) fit
fits_first p a w d by same fit = subst (λ v. wish_fits p a v ≡ true) (sym same) fit

starts_own : (p : Plan) (a : Actor) (w : Wanted) (d : Deed) (by : ℕ) → wanted_by by d ≡ w → asks_its_own p a w ≡ true → starts_its_own p a d ≡ true
starts_own p (Act k) w (deed.Start e point value) by same own = subst (λ v. asks_its_own p (Act k) v ≡ true) (sym same) own
starts_own p (Act k) w d by same own = refl
starts_own p Env w d by same own = refl
starts_own p (Machine n) w d by same own = refl

module _ (p : Plan) (a : Actor) (w : Wanted) (e : Entry) (actor : e.actor ≡ a) (wish : wanted_by (unwrap_or (event_of w) 0) e.deed ≡ w) where
  pub made_touches : object_of p a w ≡ Some (touched p a w) → touches p (touched p a w) (noted_for w e) ≡ true
  made_touches touching =
      let by = unwrap_or (event_of w) 0 in
      let free : (needs_event e.deed && is_none (event_of w)) ≡ false = has_event w e.deed wish in
      let object : object_of p e.actor (wanted_by by e.deed) ≡ Some (touched p a w) = (λ i. object_of p (actor i) (wish i)) ∙ touching in
      let whole : touched_by p (noted_for w e) ≡ Some (touched p a w) = ap (λ b. if b then None else object_of p e.actor (wanted_by by e.deed)) free ∙ object in
      ap (λ o. same_number o (Some (touched p a w))) whole ∙ eq-eqb (touched p a w) (touched p a w) refl

  pub made_proper : wish_fits p a w ≡ true → asks_its_own p a w ≡ true → answer_fits p a e.deed ≡ true → is_proper p (noted_for w e) ≡ true
  made_proper fit own answers =
      let by = unwrap_or (event_of w) 0 in
      let first : (if needs_event e.deed then activation_fits p e.actor else wish_fits p e.actor (wanted_by 0 e.deed)) ≡ true = fits_first p e.actor w e.deed by wish (subst (λ z. wish_fits p z w ≡ true) (sym actor) fit) in
      let answer : answer_fits p e.actor e.deed ≡ true = subst (λ z. answer_fits p z e.deed ≡ true) (sym actor) answers in
      let starts : starts_its_own p e.actor e.deed ≡ true = starts_own p e.actor w e.deed by wish (subst (λ z. asks_its_own p z w ≡ true) (sym actor) own) in
      λ i. (first i && answer i) && starts i
