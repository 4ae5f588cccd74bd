-- Sets that grow, step by step.
use Rattle.std.proofs.Common.{◌≡◌, ℕ, ◌+◌, ◌<◌, ◌≤◌, List, [], ◌∷◌, ◌++◌, length, get_or, take, drop, Bool, true, false, ltb, ◌⊎◌, inl, inr, ⊎_elim, ◌↔◌, refl, sym, subst, ◌∙◌, true≢false}
use Rattle.std.proofs.lemmas.Bool.{ltb-true}
use Rattle.std.proofs.lemmas.List.{take_more, take_all, take-append-drop}
use Rattle.std.specs.Prelude.{IsPermutation}
use Rattle.description_types.specs.Growing.{AnyOf, IsPastLimit, Grown}
use Rattle.description_types.specs.Members.{Among, AllApart}
use Rattle.composition_tables.proofs.Members.{left, right, cases, at}
use Rattle.composition_tables.proofs.Sorting.{moved_same}

pub past_weaker : {X : Type 0} (P Q : X → Type 0) → ((x : X) → P x → Q x) → IsPastLimit P → IsPastLimit Q
past_weaker P Q weaker h = (h.0, h.1, (λ x a. weaker x (h.2 x a)), h.3)

module _ {X : Type 0} where
  pushed : (before after : List X) (x : X) → after ≡ before ++ x ∷ [] → (y : X) → Among y after ↔ (Among y before ⊎ (y ≡ x))
  pushed before after x is y = (
    (λ h. ⊎_elim (λ l. inl l) (λ r. ⊎_elim (λ e. inr e) (λ no. absurd no) r) (cases y before (x ∷ []) (subst (Among y) is h))),
    (λ s. subst (Among y) (sym is) (⊎_elim (λ l. left y before (x ∷ []) l) (λ e. right y before (x ∷ []) (inl e)) s)),
  )

  -- the elements are moved, and one is put behind them
  pub grown_pushed : (before moved after : List X) (x : X) → IsPermutation before moved → after ≡ moved ++ x ∷ [] → Grown (λ y. y ≡ x) before after false
  grown_pushed before moved after x same is = record {
    sound = λ y h. ⊎_elim (λ l. inl ((moved_same before moved same y).0 l)) (λ e. inr e) ((pushed moved after x is y).0 h);
    stays = λ y h. (pushed moved after x is y).1 (inl ((moved_same before moved same y).1 h));
    has = λ _ y h. (pushed moved after x is y).1 (inr h);
    past = λ full. absurd (true≢false (sym full));
  }

  -- so many different ones are past the limit
  pub grown_counted : (P : X → Type 0) (before after : List X) (is_full : Bool) → Grown P before after false → AllApart after → is_full ≡ ltb 65536 (length after) → Grown P before after is_full
  grown_counted P before after is_full g apart is = record {
    sound = g.sound;
    stays = g.stays;
    has = λ _ x p. g.has refl x p;
    past = λ full. (after, apart, g.sound, ltb-true 65536 (length after) (sym is ∙ full));
  }

  -- a list is put in order
  pub grown_ordered : (P : X → Type 0) (before between after : List X) (is_full : Bool) → ((x : X) → Among x after ↔ Among x between) → Grown P before between is_full → Grown P before after is_full
  grown_ordered P before between after is_full same g = record {
    sound = λ x h. g.sound x ((same x).0 h);
    stays = λ x h. (same x).1 (g.stays x h);
    has = λ f x p. (same x).1 (g.has f x p);
    past = g.past;
  }

  pub grown_same : (P Q : X → Type 0) (before after : List X) (is_full : Bool) → ((x : X) → P x → Q x) → ((x : X) → Q x → P x) → Grown P before after is_full → Grown Q before after is_full
  grown_same P Q before after is_full there back g = record {
    sound = λ x h. ⊎_elim (λ o. inl o) (λ p. inr (there x p)) (g.sound x h);
    stays = g.stays;
    has = λ f x q. g.has f x (back x q);
    past = λ f. past_weaker (λ x. Among x before ⊎ P x) (λ x. Among x before ⊎ Q x) (λ x h. ⊎_elim (λ o. inl o) (λ p. inr (there x p)) h) (g.past f);
  }

  pub grown_none : (P : X → Type 0) (list : List X) → ((x : X) → P x → ⊥) → Grown P list list false
  grown_none P list none = record {
    sound = λ x h. inl h;
    stays = λ x h. h;
    has = λ _ x p. absurd (none x p);
    past = λ full. absurd (true≢false (sym full));
  }

  pub grown_then : (P Q : X → Type 0) (before between after : List X) (is_full : Bool) → Grown P before between false → Grown Q between after is_full → Grown (λ x. P x ⊎ Q x) before after is_full
  grown_then P Q before between after is_full g h = record {
    sound = λ x a. ⊎_elim (λ b. ⊎_elim (λ o. inl o) (λ p. inr (inl p)) (g.sound x b)) (λ q. inr (inr q)) (h.sound x a);
    stays = λ x a. h.stays x (g.stays x a);
    has = λ f x pq. ⊎_elim (λ p. h.stays x (g.has refl x p)) (λ q. h.has f x q) pq;
    past = λ f. past_weaker (λ x. Among x between ⊎ Q x) (λ x. Among x before ⊎ (P x ⊎ Q x))
        (λ x s. ⊎_elim (λ b. ⊎_elim (λ o. inl o) (λ p. inr (inl p)) (g.sound x b)) (λ q. inr (inr q)) s) (h.past f);
  }

  pub grown_stop : (P Q : X → Type 0) (before after : List X) → Grown P before after true → Grown (λ x. P x ⊎ Q x) before after true
  grown_stop P Q before after g = record {
    sound = λ x a. ⊎_elim (λ o. inl o) (λ p. inr (inl p)) (g.sound x a);
    stays = g.stays;
    has = λ f. absurd (true≢false f);
    past = λ f. past_weaker (λ x. Among x before ⊎ P x) (λ x. Among x before ⊎ (P x ⊎ Q x)) (λ x s. ⊎_elim (λ o. inl o) (λ p. inr (inl p)) s) (g.past f);
  }

module _ {X Y : Type 0} (Q : X → Y → Type 0) (xs : List X) where
  any_more : (i : ℕ) (d : X) (y : Y) → i < length xs → AnyOf Q (take i xs) y ⊎ Q (get_or xs i d) y → AnyOf Q (take (i + 1) xs) y
  any_more i d y h s = subst (λ l. AnyOf Q l y) (sym (take_more xs i d h))
      (⊎_elim (λ a. (a.0, left a.0 (take i xs) (get_or xs i d ∷ []) a.1, a.2)) (λ q. (get_or xs i d, right (get_or xs i d) (take i xs) (get_or xs i d ∷ []) (inl refl), q)) s)

  more_any : (i : ℕ) (d : X) (y : Y) → i < length xs → AnyOf Q (take (i + 1) xs) y → AnyOf Q (take i xs) y ⊎ Q (get_or xs i d) y
  more_any i d y h a =
      let b = subst (λ l. AnyOf Q l y) (take_more xs i d h) a in
      ⊎_elim (λ l. inl (b.0, l, b.2)) (λ r. ⊎_elim (λ e. inr (subst (λ x. Q x y) e b.2)) (λ no. absurd no) r) (cases b.0 (take i xs) (get_or xs i d ∷ []) b.1)

  within_all : (i : ℕ) (x : X) → Among x (take i xs) → Among x xs
  within_all i x h = subst (Among x) (take-append-drop i xs) (left x (take i xs) (drop i xs) h)

  pub grown_more : (i : ℕ) (d : X) (before between after : List Y) (is_full : Bool) → i < length xs → Grown (AnyOf Q (take i xs)) before between false → Grown (Q (get_or xs i d)) between after is_full → is_full ≡ false
      → Grown (AnyOf Q (take (i + 1) xs)) before after false
  grown_more i d before between after is_full h g one room =
      grown_same (λ y. AnyOf Q (take i xs) y ⊎ Q (get_or xs i d) y) (AnyOf Q (take (i + 1) xs)) before after false (λ y s. any_more i d y h s) (λ y a. more_any i d y h a)
      (grown_then (AnyOf Q (take i xs)) (Q (get_or xs i d)) before between after false g (subst (Grown (Q (get_or xs i d)) between after) room one))

  pub grown_full : (i : ℕ) (d : X) (before between after : List Y) (is_full : Bool) → i < length xs → Grown (AnyOf Q (take i xs)) before between false → Grown (Q (get_or xs i d)) between after is_full → is_full ≡ true
      → Grown (AnyOf Q xs) before after true
  grown_full i d before between after is_full h g one full =
      let all = grown_stop (λ y. AnyOf Q (take i xs) y ⊎ Q (get_or xs i d) y) (AnyOf Q xs) before after
      (grown_then (AnyOf Q (take i xs)) (Q (get_or xs i d)) before between after true g (subst (Grown (Q (get_or xs i d)) between after) full one)) in
      grown_same (λ y. (AnyOf Q (take i xs) y ⊎ Q (get_or xs i d) y) ⊎ AnyOf Q xs y) (AnyOf Q xs) before after true
      (λ y s. ⊎_elim (λ t. ⊎_elim (λ a. (a.0, within_all i a.0 a.1, a.2)) (λ q. (get_or xs i d, at xs i d h, q)) t) (λ a. a) s) (λ y a. inr a) all

  pub grown_all : (i : ℕ) (before after : List Y) → length xs ≤ i → Grown (AnyOf Q (take i xs)) before after false → Grown (AnyOf Q xs) before after false
  grown_all i before after past g = subst (λ l. Grown (AnyOf Q l) before after false) (take_all i xs past) g
