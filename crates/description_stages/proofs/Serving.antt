-- Lists of names that grow, and the first event of each server.
use Rattle.std.proofs.Common.{◌≡◌, ℕ, suc, ◌+◌, ◌<◌, ◌≤◌, List, [], ◌∷◌, ◌++◌, map, length, Bool, true, false, not, ◌&&◌, ◌||◌, eqb, cond, bytes_eq, codes, Some, refl, sym, ap, subst}
use Rattle.std.proofs.Common.{append_assoc, arith, ◌∙◌, ◌⊎◌, inl, inr}
use Rattle.bus_semantics.specs.Common.{list_any, slice_get, and_parts, and_from, eq-eqb, false≢true, true≢false, or_cases, or_from, or_left, or_parts, or_right, false_from_ne_true, not-true}
use Rattle.bus_semantics.specs.Common.{list_any-append, bytes_eq-Decides, length-append, same_numbers}
use Rattle.std.specs.List.{filter}
use Rattle.std.proofs.lemmas.Bool.{cond-false, cond_both, cases_Bool}
use Rattle.serde_json.specs.Data.{Data, Items, no_items, item}
use Rattle.serde_json.specs.Find.{get_item}
use Rattle.plan_definitions.specs.Common.{Event, EventKind, OperationInvoked, distinct}
use Rattle.declared_names.specs.Names.{Names, position_in}
use Rattle.declared_names.specs.Values.{listed, text_at}
use Rattle.program_reading.specs.Variables.{added, all_added}
use Rattle.component_model.specs.Programs.{is_invoked, runnable_names}
use Rattle.description_stages.proofs.Programs.{has}

-- ---- names that are added

added_longer : (vars : Names) (t : List ℕ) → length vars ≤ length (added vars t)
added_longer vars t = cond_both (list_any (bytes_eq t) vars) vars (vars ++ t ∷ []) (λ vs. length vars ≤ length vs) (λ h. omega arith) (λ h. let e : length (vars ++ t ∷ []) ≡ length vars + 1 = length-append vars (t ∷ []) in omega arith)

all_longer : (vars ns : Names) → length vars ≤ length (all_added vars ns)
all_longer vars [] = omega arith
all_longer vars (n ∷ ns) =
    let a : length vars ≤ length (added vars n) = added_longer vars n in
    let b : length (added vars n) ≤ length (all_added (added vars n) ns) = all_longer (added vars n) ns in
    omega arith

all_split : (vars ns more : Names) → all_added vars (ns ++ more) ≡ all_added (all_added vars ns) more
all_split vars [] more = refl
all_split vars (n ∷ ns) more = all_split (added vars n) ns more

-- each name is none of those before
abbrev New : Names → Names → Type 0
New vars [] = Unit {0}
New vars (n ∷ ns) = (list_any (bytes_eq n) vars ≡ false) × New (vars ++ n ∷ []) ns

new_long : (vars ns : Names) → New vars ns → length vars + length ns ≤ length (all_added vars ns)
new_long vars [] h = omega arith
new_long vars (n ∷ ns) h =
    let grown : added vars n ≡ vars ++ n ∷ [] = cond-false (list_any (bytes_eq n) vars) vars (vars ++ n ∷ []) h.0 in
    let one : length (vars ++ n ∷ []) ≡ length vars + 1 = length-append vars (n ∷ []) in
    let rest : length (vars ++ n ∷ []) + length ns ≤ length (all_added (vars ++ n ∷ []) ns) = new_long (vars ++ n ∷ []) ns h.1 in
    let goal : length vars + suc (length ns) ≤ length (all_added (vars ++ n ∷ []) ns) = omega arith in
    subst (λ vs. length vars + suc (length ns) ≤ length (all_added vs ns)) (sym grown) goal

not_among : (n : List ℕ) (ns : Names) (m : List ℕ) → list_any (same_numbers n) ns ≡ false → list_any (λ k. bytes_eq k m) ns ≡ true → bytes_eq m n ≡ false
not_among n [] m h k = absurd (false≢true k)
not_among n (x ∷ ns) m h k = by_case (or_cases (bytes_eq x m) (list_any (λ k. bytes_eq k m) ns) k) (not_among n ns m (or_parts (same_numbers n x) (list_any (same_numbers n) ns) h).1)
  where
    parts : (same_numbers n x ≡ false) × (list_any (same_numbers n) ns ≡ false)
    parts = or_parts _ _ h

    by_case : (bytes_eq x m ≡ true) ⊎ (list_any (λ k. bytes_eq k m) ns ≡ true) → (list_any (λ k. bytes_eq k m) ns ≡ true → bytes_eq m n ≡ false) → bytes_eq m n ≡ false
    by_case (inl e) more = false_from_ne_true _ (λ f. true≢false (sym (same_true n x (sym ((bytes_eq-Decides x m).0 e ∙ (bytes_eq-Decides m n).0 f))) ∙ parts.0))
      where
        same_true : (a b : List ℕ) → a ≡ b → same_numbers a b ≡ true
        same_true a b e = subst (λ c. same_numbers a c ≡ true) e (itself a)
          where
            itself : (a : List ℕ) → same_numbers a a ≡ true
            itself [] = refl
            itself (x ∷ a) = and_from _ _ (eq-eqb x x refl) (itself a)
    by_case (inr later) more = more later

-- distinct names, and one more that is none of them
abbrev ApartFrom : Names → Names → Type 0
ApartFrom vars ns = (m : List ℕ) → list_any (λ k. bytes_eq k m) ns ≡ true → list_any (bytes_eq m) vars ≡ false

grown_any : (m : List ℕ) (vars : Names) (n : List ℕ) → list_any (bytes_eq m) vars ≡ false → bytes_eq m n ≡ false → list_any (bytes_eq m) (vars ++ n ∷ []) ≡ false
grown_any m vars n h k = list_any-append (bytes_eq m) vars (n ∷ []) ∙ or_from _ _ h (or_from _ _ k refl)

new_names : (vars ns : Names) (last : List ℕ) → distinct ns ≡ true → ApartFrom vars ns → list_any (bytes_eq last) vars ≡ false → list_any (bytes_eq last) ns ≡ false → New vars (ns ++ last ∷ [])
new_names vars [] last d apart out fresh = (out, tt)
new_names vars (n ∷ ns) last d apart out fresh =
    let parts = and_parts (not (list_any (same_numbers n) ns)) (distinct ns) d in
    let last_parts = or_parts (bytes_eq last n) (list_any (bytes_eq last) ns) fresh in (
      apart n (or_left (bytes_eq n n) _ ((bytes_eq-Decides n n).1 refl)),
      new_names (vars ++ n ∷ []) ns last parts.1
          (λ m is. grown_any m vars n (apart m (or_right (bytes_eq n m) _ is)) (not_among n ns m (not-true (list_any (same_numbers n) ns) parts.0) is))
          (grown_any last vars n out last_parts.0) last_parts.1,
    )

pub enough_names : (ns : Names) (last : List ℕ) (more : Names) → distinct ns ≡ true → list_any (bytes_eq last) ns ≡ false → length ns < length (all_added [] ((ns ++ last ∷ []) ++ more))
enough_names ns last more d fresh =
    let a : 0 + length (ns ++ last ∷ []) ≤ length (all_added [] (ns ++ last ∷ [])) = new_long [] (ns ++ last ∷ []) (new_names [] ns last d (λ m is. refl) refl fresh) in
    let b : length (ns ++ last ∷ []) ≡ length ns + 1 = length-append ns (last ∷ []) in
    let c : length (all_added [] (ns ++ last ∷ [])) ≤ length (all_added (all_added [] (ns ++ last ∷ [])) more) = all_longer (all_added [] (ns ++ last ∷ [])) more in
    let goal : length ns < length (all_added (all_added [] (ns ++ last ∷ [])) more) = omega arith in
    subst (λ vs. length ns < length vs) (sym (all_split [] (ns ++ last ∷ []) more)) goal

pub some_name : (ns : Names) (last : List ℕ) (more : Names) → 0 < length (all_added [] ((ns ++ last ∷ []) ++ more))
some_name [] last more = let a : 1 ≤ length (all_added (last ∷ []) more) = all_longer (last ∷ []) more in omega arith
some_name (n ∷ ns) last more = let a : 1 ≤ length (all_added (n ∷ []) ((ns ++ last ∷ []) ++ more)) = all_longer (n ∷ []) ((ns ++ last ∷ []) ++ more) in omega arith

-- ---- the first event that names a runnable

first_at : (done : List Data) (x : Data) (rest : List Data) (t : List ℕ) → has (runnable_names done) t ≡ false → text_at (codes "runnable") x ≡ t
    → slice_get (done ++ x ∷ rest) (position_in (runnable_names (done ++ x ∷ rest)) t) ≡ Some x
first_at [] x rest t h e = ap (λ b. slice_get (x ∷ rest) (cond b 0 (1 + position_in (runnable_names rest) t))) ((bytes_eq-Decides (text_at (codes "runnable") x) t).1 e)
first_at (y ∷ done) x rest t h e =
    let parts = or_parts (bytes_eq (text_at (codes "runnable") y) t) (has (runnable_names done) t) h in
    let next : 1 + position_in (runnable_names (done ++ x ∷ rest)) t ≡ suc (position_in (runnable_names (done ++ x ∷ rest)) t) = omega arith in
    ap (λ b. slice_get (y ∷ (done ++ x ∷ rest)) (cond b 0 (1 + position_in (runnable_names (done ++ x ∷ rest)) t))) parts.0
    ∙ ap (slice_get (y ∷ (done ++ x ∷ rest))) next ∙ first_at done x rest t parts.1 e

-- the runnables that calls start, by an event of the kind too
abbrev pub with_served : EventKind → (runnable : ℕ) → (seen : List ℕ) → List ℕ
with_served (OperationInvoked k n) x seen = x ∷ seen
with_served _ x seen = seen

-- what is wanted of an event, as `serves_fit` says it
abbrev pub well : (serves : ℕ → ℕ → ℕ → Bool) → (seen : List ℕ) → (runnable : ℕ) → EventKind → Bool
well serves seen x (OperationInvoked k n) = list_any (λ r. eqb r x) seen || serves x k n
well serves seen x _ = true

abbrev pub all_well : (serves : ℕ → ℕ → ℕ → Bool) → List Event → (seen : List ℕ) → Bool
all_well serves [] seen = true
all_well serves (e ∷ es) seen = well serves seen e.runnable e.kind && all_well serves es (with_served e.kind e.runnable seen)

module _ (reading : Data → Event) (names : Names) (serves : (runnable port operation : ℕ) → Bool) (invoked : List Data) where
  abbrev place : Data → ℕ
  place x = position_in names (text_at (codes "runnable") x)

  -- an event that starts no server, and one that does
  pub record Aside (x : Data) : Type 0 where
    pub not_invoked : is_invoked x ≡ false
    pub fine : (seen : List ℕ) → well serves seen (reading x).runnable (reading x).kind ≡ true
    pub same : (seen : List ℕ) → with_served (reading x).kind (reading x).runnable seen ≡ seen

  pub record Starts (x : Data) : Type 0 where
    pub port : ℕ
    pub operation : ℕ
    pub invoked_so : is_invoked x ≡ true
    pub runnable_is : (reading x).runnable ≡ place x
    pub kind_is : (reading x).kind ≡ OperationInvoked port operation
    pub serves_first : slice_get invoked (position_in (runnable_names invoked) (text_at (codes "runnable") x)) ≡ Some x → serves (place x) port operation ≡ true

  abbrev Remembers : List Data → List ℕ → Type 0
  Remembers done seen = (t : List ℕ) → has (runnable_names done) t ≡ true → list_any (λ r. eqb r (position_in names t)) seen ≡ true

  names_push : (done : List Data) (x : Data) (t : List ℕ) → has (runnable_names (done ++ x ∷ [])) t ≡ (has (runnable_names done) t || (bytes_eq (text_at (codes "runnable") x) t || false))
  names_push [] x t = refl
  names_push (y ∷ done) x t = ap (λ b. bytes_eq (text_at (codes "runnable") y) t || b) (names_push done x t) ∙ regroup (bytes_eq (text_at (codes "runnable") y) t) (has (runnable_names done) t) _
    where
      regroup : (a b c : Bool) → (a || (b || c)) ≡ ((a || b) || c)
      regroup true b c = refl
      regroup false b c = refl

  remember : (done : List Data) (x : Data) (seen : List ℕ) → Remembers done seen → Remembers (done ++ x ∷ []) (place x ∷ seen)
  remember done x seen h t is = by_case (or_cases (has (runnable_names done) t) _ (sym (names_push done x t) ∙ is))
    where
      by_case : (has (runnable_names done) t ≡ true) ⊎ ((bytes_eq (text_at (codes "runnable") x) t || false) ≡ true) → list_any (λ r. eqb r (position_in names t)) (place x ∷ seen) ≡ true
      by_case (inl k) = or_right (eqb (place x) (position_in names t)) _ (h t k)
      by_case (inr k) = or_left (eqb (place x) (position_in names t)) _ (eq-eqb (place x) (position_in names t) (ap (position_in names) ((bytes_eq-Decides (text_at (codes "runnable") x) t).0 (or_false (bytes_eq (text_at (codes "runnable") x) t) k))))
        where
          or_false : (b : Bool) → (b || false) ≡ true → b ≡ true
          or_false true h = refl
          or_false false h = h

  pub served : (ps : Items) (done : List Data) (seen : List ℕ) → ((i : ℕ) (x : Data) → get_item i ps ≡ Some x → Aside x ⊎ Starts x) → invoked ≡ done ++ filter is_invoked (listed ps) → Remembers done seen → all_well serves (map reading (listed ps)) seen ≡ true
  served no_items done seen h e r = refl
  served (item x ps) done seen h e r = by_case (h 0 x refl) (λ more. served ps done more (λ i y is. h (suc i) y is)) (λ more. served ps (done ++ x ∷ []) more (λ i y is. h (suc i) y is))
    where
      by_case : Aside x ⊎ Starts x → ((more : List ℕ) → invoked ≡ done ++ filter is_invoked (listed ps) → Remembers done more → all_well serves (map reading (listed ps)) more ≡ true)
          → ((more : List ℕ) → invoked ≡ (done ++ x ∷ []) ++ filter is_invoked (listed ps) → Remembers (done ++ x ∷ []) more → all_well serves (map reading (listed ps)) more ≡ true) → all_well serves (map reading (listed (item x ps))) seen ≡ true
      by_case (inl a) aside starts = and_from _ _ (a.fine seen)
          (subst (λ s. all_well serves (map reading (listed ps)) s ≡ true) (sym (a.same seen)) (aside seen (e ∙ ap (λ b. done ++ cond b (x ∷ filter is_invoked (listed ps)) (filter is_invoked (listed ps))) a.not_invoked) r))
      by_case (inr s) aside starts =
          let rest = filter is_invoked (listed ps) in
          let all : invoked ≡ done ++ x ∷ rest = e ∙ ap (λ b. done ++ cond b (x ∷ rest) rest) s.invoked_so in
          let runnable = text_at (codes "runnable") x in
          and_from _ _
          (ap (λ k. well serves seen (reading x).runnable k) s.kind_is ∙ ap (λ n. list_any (λ q. eqb q n) seen || serves n s.port s.operation) s.runnable_is ∙ by_first (cases_Bool (has (runnable_names done) runnable)))
          (ap (λ k. all_well serves (map reading (listed ps)) (with_served k (reading x).runnable seen)) s.kind_is ∙ ap (λ n. all_well serves (map reading (listed ps)) (n ∷ seen)) s.runnable_is
          ∙ starts (place x ∷ seen) (all ∙ sym (append_assoc done (x ∷ []) rest)) (remember done x seen r))
        where
          by_first : (has (runnable_names done) (text_at (codes "runnable") x) ≡ true) ⊎ (has (runnable_names done) (text_at (codes "runnable") x) ≡ false) → (list_any (λ q. eqb q (place x)) seen || serves (place x) s.port s.operation) ≡ true
          by_first (inl k) = or_left (list_any (λ q. eqb q (place x)) seen) _ (r (text_at (codes "runnable") x) k)
          by_first (inr k) = or_right (list_any (λ q. eqb q (place x)) seen) _ (s.serves_first
              (subst (λ xs. slice_get xs (position_in (runnable_names xs) (text_at (codes "runnable") x)) ≡ Some x)
              (sym (e ∙ ap (λ b. done ++ cond b (x ∷ filter is_invoked (listed ps)) (filter is_invoked (listed ps))) s.invoked_so))
              (first_at done x (filter is_invoked (listed ps)) (text_at (codes "runnable") x) k refl)))
