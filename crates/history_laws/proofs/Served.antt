-- The access that a statement has in a sound plan: it is of the statement's kind, names what there is, and has a limit for each word that is given.
use Rattle.std.proofs.Common.{◌≡◌, ℕ, Bool, true, false, ◌&&◌, ◌||◌, not, ◌==◌, if◌then◌else◌, refl, sym, ◌∙◌, ap, subst, List, [], ◌∷◌, length, Option}
use Rattle.bus_semantics.specs.Common.{list_any, and_from, and_parts, or_left, or_right, eq-eqb, eqb-true, false≢true, not-true, AccessKind, AccessSig, kind_number, is_at, counts, Plan}
use Rattle.bus_semantics.specs.Common.{Access, same_kind, is_to, found, access_sound, each_access, same_access, accesses_distinct}
use Rattle.runnable_lang.specs.declared.program.AccessKind.TheVariants as kind
use Rattle.runnable_lang.specs.Accesses.{serves}
use Rattle.history_laws.specs.LookUps.{clash}

-- ---- kinds

kind_at : ℕ → AccessKind
kind_at n =
    if n == 0 then kind.Write else if n == 1 then kind.Read else if n == 2 then kind.Invalidate else if n == 3 then kind.IsUpdated
    else if n == 4 then kind.Send else if n == 5 then kind.Receive else if n == 6 then kind.IWrite else if n == 7 then kind.IRead
    else if n == 8 then kind.IrvWrite else if n == 9 then kind.IrvRead else if n == 10 then kind.IrvIWrite else if n == 11 then kind.IrvIRead
    else if n == 12 then kind.Call else if n == 13 then kind.ACall else if n == 14 then kind.TakeResult else if n == 15 then kind.Switch
    else if n == 16 then kind.Mode else kind.Enter

kind_back : (k : AccessKind) → kind_at (kind_number k) ≡ k
unfolding kind_at
kind_back kind.Write = refl
kind_back kind.Read = refl
kind_back kind.Invalidate = refl
kind_back kind.IsUpdated = refl
kind_back kind.Send = refl
kind_back kind.Receive = refl
kind_back kind.IWrite = refl
kind_back kind.IRead = refl
kind_back kind.IrvWrite = refl
kind_back kind.IrvRead = refl
kind_back kind.IrvIWrite = refl
kind_back kind.IrvIRead = refl
kind_back kind.Call = refl
kind_back kind.ACall = refl
kind_back kind.TakeResult = refl
kind_back kind.Switch = refl
kind_back kind.Mode = refl
kind_back kind.Enter = refl

pub kind_same : (a b : AccessKind) → same_kind a b ≡ true → a ≡ b
kind_same a b e = sym (kind_back a) ∙ ap kind_at (eqb-true (kind_number a) (kind_number b) e) ∙ kind_back b

-- ---- the access that is found

-- it is of that kind, and passes both tests
pub record Serving (f : AccessSig → ℕ → Bool) (test : AccessSig → Bool) (k : AccessKind) (a : Access) : Type 0 where
  pub sig : AccessSig
  pub kind : sig.kind ≡ k
  pub ins : a.ins ≡ sig.ins
  pub sound : f sig a.target ≡ true
  pub serves : test sig ≡ true

module _ (f : AccessSig → ℕ → Bool) (k : AccessKind) (port item : ℕ) (test : AccessSig → Bool) (of : (a : AccessSig) → test a ≡ true → is_to k port item a ≡ true) where
  -- two accesses to one item of one kind are the same access
  twice : (a b : AccessSig) → is_to k port item a ≡ true → is_to k port item b ≡ true → same_access a b ≡ true
  twice a b one two =
      let x = and_parts (same_kind a.kind k && (a.port == port)) (a.item == item) one in
      let y = and_parts (same_kind b.kind k && (b.port == port)) (b.item == item) two in
      let xs = and_parts (same_kind a.kind k) (a.port == port) x.0 in
      let ys = and_parts (same_kind b.kind k) (b.port == port) y.0 in
      let kinds : kind_number a.kind ≡ kind_number b.kind = eqb-true _ _ xs.0 ∙ sym (eqb-true _ _ ys.0) in
      let ports : a.port ≡ b.port = eqb-true _ _ xs.1 ∙ sym (eqb-true _ _ ys.1) in
      let items : a.item ≡ b.item = eqb-true _ _ x.1 ∙ sym (eqb-true _ _ y.1) in
      and_from (same_kind a.kind b.kind) ((a.port == b.port) && (a.item == b.item)) (eq-eqb _ _ kinds) (and_from (a.port == b.port) (a.item == b.item) (eq-eqb _ _ ports) (eq-eqb _ _ items))

  not_again : (a : AccessSig) (sigs : List AccessSig) → is_to k port item a ≡ true → list_any (same_access a) sigs ≡ false → list_any test sigs ≡ false
  not_again a [] here none = refl
  not_again a (b ∷ sigs) here none = by_first (same_access a b) refl none (λ e. not_again a sigs here e)
    where
      by_first : (v : Bool) → same_access a b ≡ v → (v || list_any (same_access a) sigs) ≡ false → (list_any (same_access a) sigs ≡ false → list_any test sigs ≡ false) → (test b || list_any test sigs) ≡ false
      by_first true is e rest = clash true refl e
      by_first false is e rest = by_test (test b) refl
        where
          by_test : (v : Bool) → test b ≡ v → (v || list_any test sigs) ≡ false
          by_test true t = clash (same_access a b) (twice a b here (of b t)) is
          by_test false t = rest e

  pub served : (sigs : List AccessSig) (targets : List ℕ) → each_access f sigs targets ≡ true → accesses_distinct sigs ≡ true → list_any test sigs ≡ true
      → Serving f test k (found (is_to k port item) sigs targets)
  served [] [] all distinct some = absurd (false≢true some)
  served [] (n ∷ ns) all distinct some = absurd (false≢true some)
  served (a ∷ sigs) [] all distinct some = absurd (false≢true all)
  served (a ∷ sigs) (n ∷ ns) all distinct some =
      let parts = and_parts (f a n) (each_access f sigs ns) all in
      let apart = and_parts (not (list_any (same_access a) sigs)) (accesses_distinct sigs) distinct in
      by_test (is_to k port item a) refl (test a) refl parts.0 apart.0 some (λ rest. served sigs ns parts.1 apart.1 rest)
    where
      by_test : (v : Bool) → is_to k port item a ≡ v → (u : Bool) → test a ≡ u → f a n ≡ true → not (list_any (same_access a) sigs) ≡ true → (u || list_any test sigs) ≡ true
          → (list_any test sigs ≡ true → Serving f test k (found (is_to k port item) sigs ns))
          → Serving f test k (if v then record { target = n; ins = a.ins } else found (is_to k port item) sigs ns)
      by_test true at true t sound alone any rest =
          let kinds = and_parts (same_kind a.kind k) (a.port == port) (and_parts (same_kind a.kind k && (a.port == port)) (a.item == item) at).0 in
          record { sig = a; kind = kind_same a.kind k kinds.0; ins = refl; sound = sound; serves = t }
      by_test true at false t sound alone any rest =
          let none : list_any (same_access a) sigs ≡ false = not-true (list_any (same_access a) sigs) alone in
          clash (list_any test sigs) any (not_again a sigs at none)
      by_test false at true t sound alone any rest = clash (is_to k port item a) (of a t) at
      by_test false at false t sound alone any rest = rest any

-- what is sound of an access of a kind
pub sound_of_kind : (p : Plan) (i : ℕ) (home : Option ℕ) (sig : AccessSig) (k : AccessKind) (target : ℕ) → sig.kind ≡ k → access_sound p i home sig target ≡ true
    → access_sound p i home (record { kind = k; port = sig.port; item = sig.item; ins = sig.ins; outs = sig.outs; modes = sig.modes }) target ≡ true
sound_of_kind p i home sig k target is sound =
    subst (λ j. access_sound p i home (record { kind = j; port = sig.port; item = sig.item; ins = sig.ins; outs = sig.outs; modes = sig.modes }) target ≡ true) is sound

pub of_serves : (k : AccessKind) (port item : ℕ) (values vars : Option ℕ) (a : AccessSig) → serves k port item values vars a ≡ true → is_to k port item a ≡ true
of_serves k port item values vars a e = (and_parts (is_at k port a && (a.item == item)) (counts values (length a.ins) && counts vars (length a.outs)) e).0

-- an access that passes a test and is sound passes what follows of both
pub any_sound : (f : AccessSig → ℕ → Bool) (test other : AccessSig → Bool) → ((a : AccessSig) (n : ℕ) → f a n ≡ true → test a ≡ true → other a ≡ true) → (sigs : List AccessSig) (targets : List ℕ)
    → each_access f sigs targets ≡ true → list_any test sigs ≡ true → list_any other sigs ≡ true
any_sound f test other of [] targets all some = some
any_sound f test other of (a ∷ sigs) [] all some = absurd (false≢true all)
any_sound f test other of (a ∷ sigs) (n ∷ ns) all some =
    let parts = and_parts (f a n) (each_access f sigs ns) all in
    by_test (test a) refl parts.0 some (λ rest. any_sound f test other of sigs ns parts.1 rest)
  where
    by_test : (v : Bool) → test a ≡ v → f a n ≡ true → (v || list_any test sigs) ≡ true → (list_any test sigs ≡ true → list_any other sigs ≡ true) → (other a || list_any other sigs) ≡ true
    by_test true t sound any rest = or_left (other a) (list_any other sigs) (of a n sound t)
    by_test false t sound any rest = or_right (other a) (list_any other sigs) (rest any)
