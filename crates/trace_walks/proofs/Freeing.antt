-- Who is held back after a further entry: another's entry frees a caller exactly if it is the end of the direct activation that it called.
use Rattle.std.proofs.Common.{◌≡◌, ℕ, true, false, ◌&&◌, not, refl, ap, ◌∷◌, Option, Some, None}
use Rattle.std.specs.Prelude.{option_and_then}
use Rattle.bus_semantics.specs.Common.{ActKey, Plan, History, is_of, is_end, direct_key, asked_last, ended_since, is_held_back}
use Rattle.bus_semantics.specs.declared.entries.Deed.TheVariants as deed
use Rattle.bus_semantics.specs.declared.entries.Entry.{Entry}
use Rattle.trace_walks.specs.Walking.{entry_of}
use Rattle.history_laws.proofs.Keys.{itself}

module _ (p : Plan) (h : History) (k : ActKey) where
  pub held_still : (e : Entry) → is_of k e ≡ false → ((j : ActKey) → option_and_then (direct_key p) (asked_last k h) ≡ Some j → (is_of j e && is_end e.deed) ≡ false)
      → is_held_back p (e ∷ h) k ≡ is_held_back p h k
  held_still e other none = by_direct (option_and_then (direct_key p) (asked_last k h)) refl
    where
      asked : asked_last k (e ∷ h) ≡ asked_last k h
      asked = rw other refl

      by_direct : (o : Option ActKey) → option_and_then (direct_key p) (asked_last k h) ≡ o → is_held_back p (e ∷ h) k ≡ is_held_back p h k
      by_direct None is = rw (asked, is) refl
      by_direct (Some j) is =
          let same : ended_since k j (e ∷ h) ≡ ended_since k j h = rw (other, none j is) refl in
          rw (asked, is) (ap not same)

  pub freed_now : (d : ActKey) (q : ℕ) → is_of k (entry_of d deed.End) ≡ false → asked_last k h ≡ Some q → direct_key p q ≡ Some d
      → is_held_back p (entry_of d deed.End ∷ h) k ≡ false
  freed_now d q other asks key =
      let asked : asked_last k (entry_of d deed.End ∷ h) ≡ Some q = rw other asks in
      let ended : ended_since k d (entry_of d deed.End ∷ h) ≡ true = rw (other, itself d) refl in
      rw (asked, key) (ap not ended)
