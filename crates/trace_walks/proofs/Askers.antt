-- Who asks: an activation of a key without a point, at a point of its own.
use Rattle.std.proofs.Common.{◌≡◌, ℕ, zero, Bool, true, false, ◌&&◌, refl, sym, ◌∙◌, ap, subst, [], ◌∷◌, length, Option, Some, None}
use Rattle.bus_semantics.specs.Common.{and_parts, false≢true, same_Some, ActKey, same_number, Plan, caller_of, wanted_by, History, is_of, serves_directly, key_fits, own_point}
use Rattle.bus_semantics.specs.Common.{accepted_point, asked_last, MayFollow, IsLegal, IsSound}
use Rattle.std.specs.Prelude.{nat_lt}
use Rattle.bus_laws.specs.Common.{Mapping, Deed}
use Rattle.bus_semantics.specs.declared.entries.Deed.TheVariants as deed
use Rattle.history_laws.proofs.Asking.{calls_none}
use Rattle.bus_laws.proofs.Thinning.{option_same}
use Rattle.history_laws.proofs.Keys.{mine, itself, is_mine, alive, IsTo, others, starts, goes_on, is_to}
use Rattle.history_laws.proofs.GoingOn.{acting}

pub record IsAsker (p : Plan) (j : ActKey) (q : ℕ) : Type 0 where
  pub calls : caller_of p q ≡ Some j.runnable
  pub plain : j.point ≡ None

module _ (p : Plan) (m : Mapping) (sound : IsSound p m) (j : ActKey) (q : ℕ) where
  asks_now : (h : History) → IsLegal p h → (d : Deed) → MayFollow p h (mine j d) → accepted_point d ≡ Some q → IsAsker p j q
  asks_now h legal (deed.Ask r value zero) may asked =
      let same : q ≡ r = sym (same_Some r q asked) in
      let both = and_parts (key_fits p j) (own_point p (Some j.runnable) r) (and_parts (key_fits p j && own_point p (Some j.runnable) r) true may.fit).0 in
      let own = (and_parts (nat_lt r (length p.points)) (same_number (caller_of p r) (Some j.runnable)) both.1).1 in
      record { calls = ap (caller_of p) same ∙ option_same (caller_of p r) (Some j.runnable) own; plain = by_point j.point refl }
    where
      by_point : (o : Option ℕ) → j.point ≡ o → o ≡ None
      by_point None is = refl
      by_point (Some t) some = by_kind (is_to p j h (mine j (deed.Ask r value 0)) may (alive p j h legal))
        where
          by_kind : IsTo p j h (mine j (deed.Ask r value 0)) → Some t ≡ None
          by_kind (others other) = absurd (false≢true (sym other ∙ itself j))
          by_kind (starts event point held is own idle runnable_is asked) = absurd (cc (ap (λ z. z.deed) is))
          by_kind (goes_on is own other running a next) =
              let named : key_fits p (record { runnable = j.runnable; point = Some t }) ≡ true = subst (λ (o : Option ℕ). key_fits p (record { runnable = j.runnable; point = o }) ≡ true) some a.key in
              let direct : serves_directly p j ≡ true = (and_parts (serves_directly p j) _ (and_parts (nat_lt j.runnable (length p.runnables)) _ named).1).0 in
              absurd (false≢true (sym (calls_none p m j a.runnable a.activation.event (acting p m j h sound a) a.activation.start a.activation.deeds (wanted_by a.activation.event (deed.Ask r value 0)) next direct)))
  asks_now h legal d may asked = absurd (cc asked)

  pub asker : (h : History) → IsLegal p h → asked_last j h ≡ Some q → IsAsker p j q
  asker [] legal asked = absurd (cc asked)
  asker (e ∷ h) legal asked = by_own (asker h legal.0) (is_of j e) refl
    where
      by_own : (asked_last j h ≡ Some q → IsAsker p j q) → (b : Bool) → is_of j e ≡ b → IsAsker p j q
      by_own before true own =
          let now : asked_last j (e ∷ h) ≡ accepted_point e.deed = rw own refl in
          asks_now h legal.0 e.deed (subst (MayFollow p h) (is_mine j e own) legal.1) (sym now ∙ asked)
      by_own before false other =
          let still : asked_last j (e ∷ h) ≡ asked_last j h = rw other refl in
          before (sym still ∙ asked)
