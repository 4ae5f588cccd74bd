-- The points that wait, after a request was accepted, after one was started, and at the beginning.
use Rattle.std.proofs.Common.{◌≡◌, ◌<◌, ◌==◌, ◌||◌, ℕ, suc, refl, sym, ◌∙◌, ap, subst, arith, Bool, true, false, List, [], ◌∷◌, ◌++◌, length, get_or, set, drop, nat_eq, if◌then◌else◌}
use Rattle.std.proofs.Common.{is_some, Option, Some, None, ◌⊎◌, inl, inr}
use Rattle.std.specs.Cmp.{nat_eq_equiv}
use Rattle.std.specs.List.{list_any, slice_get, IsDistinct}
use Rattle.std.proofs.lemmas.Bool.{cases_eq, eq-eqb, false≢true, ne_eqb, or_right}
use Rattle.std.proofs.lemmas.List.{length-set, get_or-set_same, get_or-set_other}
use Rattle.std.proofs.lemmas.List.Folds.{list_any-append, list_any_none}
use Rattle.std.proofs.lemmas.Map.Keys.{IsDistinct-push, IsDistinct-tail, apart_from_distinct}
use Rattle.std.proofs.lemmas.Option.{same_Some}
use Rattle.circular_buffer.specs.Buffer.{Buffer, buffer}
use Rattle.client_server.specs.Asked.{AreAsked, IsAsked}
use Rattle.client_server.specs.Points.{is_idle, new_point, value_asked}
use Rattle.client_server.specs.Queue.{after_first, after_queueing, has_place_in, waiting_in}
use Rattle.client_server.specs.declared.point.Point.{Point}
use Rattle.client_server.specs.declared.point.Stage.{Stage}
use Rattle.client_server.specs.declared.point.Stage.TheVariants.{Idle, Asked, Started, Returned}

pub idle_not_asked : (s : Stage) → is_idle s ≡ true → is_some (value_asked s) ≡ false
idle_not_asked Idle idle = refl
idle_not_asked (Asked v) idle = absurd (false≢true idle)
idle_not_asked Started idle = refl
idle_not_asked (Returned o) idle = refl

-- nobody waits
pub none_asked : (points : List Point) (waiting : List ℕ) → waiting ≡ [] → AreAsked points waiting
unfolding IsDistinct
none_asked points [] none = record { distinct = tt; asked = λ q found. absurd (false≢true found) }
none_asked points (p ∷ waiting) none = absurd (cc none)

module _ (points : List Point) (p : ℕ) (x : Point) where
  -- what is known of another point
  pub other_asked : (q : ℕ) → (q ≡ p → ⊥) → IsAsked points q → IsAsked (set points p x) q
  other_asked q apart was = record {
    within = omega (arith, was.within, length-set points p x);
    asked = ap (λ (y : Point). is_some (value_asked y.stage)) (get_or-set_other points p q x new_point apart) ∙ was.asked;
  }

  pub not_waiting : (waiting : List ℕ) → is_some (value_asked (get_or points p new_point).stage) ≡ false → AreAsked points waiting → list_any (λ q. p == q) waiting ≡ false
  not_waiting waiting idle all = by_test (list_any (λ q. p == q) waiting) refl
    where
      by_test : (b : Bool) → list_any (λ q. p == q) waiting ≡ b → b ≡ false
      by_test true found = let was = all.asked p found in absurd (false≢true (sym idle ∙ was.asked))
      by_test false found = refl

  -- ---- one more waits

  pub one_more : (waiting : List ℕ) → p < length points → is_some (value_asked (get_or points p new_point).stage) ≡ false → is_some (value_asked x.stage) ≡ true → AreAsked points waiting → AreAsked (set points p x) (waiting ++ p ∷ [])
  one_more waiting within idle now all = record { distinct = IsDistinct-push nat_eq_equiv waiting p all.distinct (not_waiting waiting idle all); asked = asked }
    where
      asked : (q : ℕ) → list_any (λ r. q == r) (waiting ++ p ∷ []) ≡ true → IsAsked (set points p x) q
      asked q found = by_place (cases_eq q p)
        where
          in_front : (b : Bool) → (q == p) ≡ false → (b || ((q == p) || false)) ≡ true → b ≡ true
          in_front true apart e = refl
          in_front false apart e = absurd (false≢true (sym (ap (λ c. c || false) apart) ∙ e))

          by_place : (q ≡ p) ⊎ (q ≡ p → ⊥) → IsAsked (set points p x) q
          by_place (inl same) = record {
            within = omega (arith, within, length-set points p x);
            asked = ap (λ r. is_some (value_asked (get_or (set points p x) r new_point).stage)) same ∙ ap (λ (y : Point). is_some (value_asked y.stage)) (get_or-set_same points p x new_point within) ∙ now;
          }
          by_place (inr apart) = other_asked q apart (all.asked q (in_front (list_any (λ r. q == r) waiting) (ne_eqb q p apart) (sym (list_any-append (λ r. q == r) waiting (p ∷ [])) ∙ found)))

  pub queued : (waiting : Option (Buffer ℕ)) → p < length points → is_idle (get_or points p new_point).stage ≡ true → is_some (value_asked x.stage) ≡ true → has_place_in waiting ≡ true → AreAsked points (waiting_in waiting) → AreAsked (set points p x) (waiting_in (after_queueing p waiting))
  queued None within idle now place all = none_asked (set points p x) [] refl
  queued (Some b) within idle now place all =
      subst (λ (c : Buffer ℕ). AreAsked (set points p x) c.items) (sym (ap (λ c. if c then buffer (b.items ++ p ∷ []) b.capacity else b) place))
      (one_more b.items within (idle_not_asked (get_or points p new_point).stage idle) now all)

  -- ---- the first starts

  pub not_again : (waiting : List ℕ) → IsDistinct nat_eq (p ∷ waiting) → list_any (λ q. p == q) waiting ≡ false
  not_again waiting distinct = list_any_none (λ q. p == q) waiting (λ i d within. apart_from_distinct nat_eq (p ∷ waiting) 0 (suc i) d distinct (omega arith) (omega arith))

  pub one_less : (waiting : List ℕ) → AreAsked points (p ∷ waiting) → AreAsked (set points p x) waiting
  one_less waiting all = record { distinct = IsDistinct-tail nat_eq p waiting all.distinct; asked = asked }
    where
      asked : (q : ℕ) → list_any (λ r. q == r) waiting ≡ true → IsAsked (set points p x) q
      asked q found = other_asked q apart (all.asked q (or_right (q == p) (list_any (λ r. q == r) waiting) found))
        where
          apart : q ≡ p → ⊥
          apart same = false≢true (sym (not_again waiting all.distinct) ∙ ap (λ s. list_any (λ r. s == r) waiting) (sym same) ∙ found)

  pub started_list : (waiting : List ℕ) → slice_get waiting 0 ≡ Some p → AreAsked points waiting → AreAsked (set points p x) (drop 1 waiting)
  started_list [] first all = absurd (cc first)
  started_list (q ∷ waiting) first all = one_less waiting (subst (λ r. AreAsked points (r ∷ waiting)) (same_Some q p first) all)

  pub first_started : (waiting : Option (Buffer ℕ)) → slice_get (waiting_in waiting) 0 ≡ Some p → AreAsked points (waiting_in waiting) → AreAsked (set points p x) (waiting_in (after_first waiting))
  first_started None first all = absurd (cc first)
  first_started (Some b) first all = started_list b.items first all

pub first_asked : (points : List Point) (p : ℕ) (waiting : List ℕ) → slice_get waiting 0 ≡ Some p → AreAsked points waiting → IsAsked points p
first_asked points p [] first all = absurd (cc first)
first_asked points p (q ∷ waiting) first all = all.asked p (ap (λ b. b || list_any (λ r. p == r) waiting) (eq-eqb p q (sym (same_Some q p first))))
