-- What lies in the slots of a frame is what stands under their elements.
use Rattle.std.proofs.Common.{◌≡◌, ◌≢◌, ℕ, zero, suc, ◌<◌, ℤ, List, [], ◌∷◌, length, get_or, set, replicate, Bool, true, false, if◌then◌else◌, Option, Some, None, refl, sym, ap, ◌∙◌, subst, arith}
use Rattle.std.specs.Prelude.{◌==◌}
use Rattle.bus_semantics.specs.Common.{eqb-true, get_or-set_same, get_or-set_other, length-set, length-replicate, State, found_under, words_under}
use Rattle.std.proofs.lemmas.Bool.{eqb-false}
use Rattle.task_machine.specs.Store.{Store}
use Rattle.task_generator.specs.Slots.{slot_of}
use Rattle.task_generator.proofs.Slots.{same_slot}

-- the slots of a store
pub record Slots : Type 0 where
  pub fetched : List (List ℤ)
  pub written : List (Option (List ℤ))

-- the store of an activation in a state, with these slots
abbrev pub store_in : State → Slots → Store
store_in s b = record { vars = s.vars; fetched = b.fetched; written = b.written }

-- there is a slot for each fetched element and for each that is to be published, and it has what was fetched or written last
pub record Agrees (fetches publishes : List ℕ) (fetched written : List (ℕ × List ℤ)) (b : Slots) : Type 0 where
  pub fetched_slots : length b.fetched ≡ length fetches
  pub written_slots : length b.written ≡ length publishes
  pub has_fetched : (x : ℕ) → get_or b.fetched (slot_of x fetches) [] ≡ words_under x fetched
  pub has_written : (x : ℕ) → slot_of x publishes < length publishes → get_or b.written (slot_of x publishes) None ≡ found_under x written

-- ---- at the start

empty_at : {X : Type 0} → (n i : ℕ) (d : X) → get_or (replicate n d) i d ≡ d
empty_at zero i d = refl
empty_at (suc n) zero d = refl
empty_at (suc n) (suc i) d = empty_at n i d

abbrev pub no_slots : List ℕ → List ℕ → Slots
no_slots fetches publishes = record { fetched = replicate (length fetches) []; written = replicate (length publishes) None }

pub starts_agreeing : (fetches publishes : List ℕ) → Agrees fetches publishes [] [] (no_slots fetches publishes)
starts_agreeing fetches publishes = record {
  fetched_slots = length-replicate (length fetches) [];
  written_slots = length-replicate (length publishes) None;
  has_fetched = λ x. empty_at (length fetches) (slot_of x fetches) [];
  has_written = λ x below. empty_at (length publishes) (slot_of x publishes) None;
}

-- ---- what is put last under an element is found there

-- the slot that is set, seen at another element
set_at : {X : Type 0} → (elements : List ℕ) (l : List X) (x y : ℕ) (w d : X) (b : Bool) → (x == y) ≡ b → slot_of x elements < length elements → length l ≡ length elements
    → get_or (set l (slot_of x elements) w) (slot_of y elements) d ≡ (if b then w else get_or l (slot_of y elements) d)
set_at elements l x y w d true same below long =
    let at : slot_of y elements ≡ slot_of x elements = ap (λ z. slot_of z elements) (sym (eqb-true x y same)) in
    ap (λ i. get_or (set l (slot_of x elements) w) i d) at ∙ get_or-set_same l (slot_of x elements) w d (omega (arith, below, long))
set_at elements l x y w d false other below long =
    let apart : slot_of y elements ≢ slot_of x elements = λ at. eqb-false x y other (sym (same_slot x y elements below at)) in
    get_or-set_other l (slot_of x elements) (slot_of y elements) w d apart

kept_more : (x y : ℕ) (ws : List ℤ) (pairs : List (ℕ × List ℤ)) (b : Bool) → (x == y) ≡ b → found_under y ((x, ws) ∷ pairs) ≡ (if b then Some ws else found_under y pairs)
kept_more x y ws pairs b is = ap (λ b. if b then Some ws else found_under y pairs) is

words_more : (x y : ℕ) (ws : List ℤ) (pairs : List (ℕ × List ℤ)) (b : Bool) → (x == y) ≡ b → words_under y ((x, ws) ∷ pairs) ≡ (if b then ws else words_under y pairs)
words_more x y ws pairs true is = rw is refl
words_more x y ws pairs false is = rw is refl

module _ (fetches publishes : List ℕ) (fetched written : List (ℕ × List ℤ)) (b : Slots) (agrees : Agrees fetches publishes fetched written b) (x : ℕ) (ws : List ℤ) where
  -- after a fetch
  abbrev pub after_fetch : Slots
  after_fetch = record { fetched = set b.fetched (slot_of x fetches) ws; written = b.written }

  pub fetch_agrees : slot_of x fetches < length fetches → Agrees fetches publishes ((x, ws) ∷ fetched) written after_fetch
  fetch_agrees below = record {
    fetched_slots = length-set b.fetched (slot_of x fetches) ws ∙ agrees.fetched_slots;
    written_slots = agrees.written_slots;
    has_fetched = λ y.
        set_at fetches b.fetched x y ws [] (x == y) refl below agrees.fetched_slots
        ∙ ap (λ vs. if x == y then ws else vs) (agrees.has_fetched y)
        ∙ sym (words_more x y ws fetched (x == y) refl);
    has_written = agrees.has_written;
  }

  -- after an implicit write
  abbrev pub after_keep : Slots
  after_keep = record { fetched = b.fetched; written = set b.written (slot_of x publishes) (Some ws) }

  kept_at : (y : ℕ) → slot_of y publishes < length publishes → (t : Bool) → (x == y) ≡ t → get_or (set b.written (slot_of x publishes) (Some ws)) (slot_of y publishes) None ≡ found_under y ((x, ws) ∷ written)
  kept_at y below true same =
      let element : x ≡ y = eqb-true x y same in
      let inside : slot_of x publishes < length publishes = subst (λ z. slot_of z publishes < length publishes) (sym element) below in
      set_at publishes b.written x y (Some ws) None true same inside agrees.written_slots ∙ sym (kept_more x y ws written true same)
  kept_at y below false other =
      let apart : slot_of y publishes ≢ slot_of x publishes = λ at. eqb-false x y other (same_slot y x publishes below (sym at)) in
      get_or-set_other b.written (slot_of x publishes) (slot_of y publishes) (Some ws) None apart ∙ agrees.has_written y below ∙ sym (kept_more x y ws written false other)

  -- an element without a slot is not published
  pub keep_agrees : Agrees fetches publishes fetched ((x, ws) ∷ written) after_keep
  keep_agrees = record {
    fetched_slots = agrees.fetched_slots;
    written_slots = length-set b.written (slot_of x publishes) (Some ws) ∙ agrees.written_slots;
    has_fetched = agrees.has_fetched;
    has_written = λ y below. kept_at y below (x == y) refl;
  }
