-- What each kind of object owes, in words over what its objects keep (`K`). A kind has for each object of a plan: `keeps`, whether kept data
-- are what the definitions give from a past; `lead`, what is kept after an entry, or nothing if the entry may not come; `may_start`, whether
-- a start by an event may come. No word names a kind.
use Rattle.std.specs.Prelude.{◌≡◌, ◌∷◌, ℕ, Bool, true, false, Option, Some, None, is_some, unwrap_or}
use Rattle.bus_laws.specs.Common.{Actor, Act, Deed, Entry}
use Rattle.bus_semantics.specs.Common.{Plan, Noted, Past, touches, is_proper, Wanted, to_start, wanted_by, answer_fits, plain_key, event_of, noted_for, Follows, IsPastOf}
use Rattle.object_kinds.specs.declared.acted.Acted.{Acted}
use Rattle.object_kinds.specs.declared.acted.Acted.TheVariants.{Done, NotYet}
use Rattle.object_kinds.specs.declared.acted.Filled.{Filled}
use Rattle.object_kinds.specs.declared.acted.Filled.TheVariants as filled
use Rattle.object_kinds.specs.declared.acted.Shown.{Shown}

-- ---- what an object stands for

-- a past of the object, and what is kept is what the definitions give from it
pub record StandsFor {K : Type 0} (p : Plan) (object : ℕ) (keeps : K → Past → Type 0) (k : K) (l : Past) : Type 0 where
  pub past : IsPastOf p object l
  pub kept : keeps k l

-- ---- the laws of leads

-- an entry by which an object leads on is what the bus answers after its past, and matches it
abbrev pub LeadsFollow : {K : Type 0} → Plan → (object : ℕ) → (keeps : K → Past → Type 0) → (lead : K → Noted → Option K) → Type 0
LeadsFollow {K} p object keeps lead = (before after : K) (l : Past) (n : Noted) → StandsFor p object keeps before l →
    touches p object n ≡ true → is_proper p n ≡ true → lead before n ≡ Some after → Follows p object l n

-- and what is kept then is what the definitions give from the past and the entry
abbrev pub LeadsKeep : {K : Type 0} → Plan → (object : ℕ) → (keeps : K → Past → Type 0) → (lead : K → Noted → Option K) → Type 0
LeadsKeep {K} p object keeps lead = (before after : K) (l : Past) (n : Noted) → StandsFor p object keeps before l →
    touches p object n ≡ true → is_proper p n ≡ true → lead before n ≡ Some after → keeps after (n ∷ l)

-- no entry that may follow the past is missed
abbrev pub MissesNothing : {K : Type 0} → Plan → (object : ℕ) → (keeps : K → Past → Type 0) → (lead : K → Noted → Option K) → Type 0
MissesNothing {K} p object keeps lead = (k : K) (l : Past) (n : Noted) → StandsFor p object keeps k l → Follows p object l n → is_some (lead k n) ≡ true

-- ---- starts

-- a start by an event for an activation that serves no single point
pub record IsPlainStart (event : ℕ) (n : Noted) : Type 0 where
  pub runnable : ℕ
  pub actor : n.entry.actor ≡ Act (plain_key runnable)
  pub wish : wanted_by (unwrap_or n.event 0) n.entry.deed ≡ to_start event

-- if the flag of an event is clear, no plain start by it leads on
abbrev pub StartsByFlag : {K : Type 0} → (may_start : K → ℕ → Bool) → (lead : K → Noted → Option K) → Type 0
StartsByFlag {K} may_start lead = (k : K) (event : ℕ) (n : Noted) → may_start k event ≡ false → IsPlainStart event n → lead k n ≡ None

-- an entry that is none of those that wake leaves each clear flag clear
abbrev pub OthersWakeNothing : {K : Type 0} → (wakes : Deed → Bool) → (may_start : K → ℕ → Bool) → (lead : K → Noted → Option K) → Type 0
OthersWakeNothing {K} wakes may_start lead = (before after : K) (n : Noted) → lead before n ≡ Some after → wakes n.entry.deed ≡ false →
    (event : ℕ) → may_start before event ≡ false → may_start after event ≡ false

-- ---- what is answered to a wish

-- the entry is the actor's and of the wish, what it names as an answer fits, and what was kept leads by it to what is kept
pub record IsMadeBy {K : Type 0} (p : Plan) (lead : K → Noted → Option K) (a : Actor) (w : Wanted) (old new : K) (e : Entry) : Type 0 where
  pub actor : e.actor ≡ a
  pub wish : wanted_by (unwrap_or (event_of w) 0) e.deed ≡ w
  pub answer : answer_fits p a e.deed ≡ true
  pub leads : lead old (noted_for w e) ≡ Some new

-- no entry of the actor and of the wish leads on, and the flag of a plain start is clear
pub record IsHeldBy {K : Type 0} (lead : K → Noted → Option K) (may_start : K → ℕ → Bool) (a : Actor) (w : Wanted) (k : K) : Type 0 where
  pub none : (n : Noted) → n.entry.actor ≡ a → wanted_by (unwrap_or n.event 0) n.entry.deed ≡ w → lead k n ≡ None
  pub flag : (runnable event : ℕ) → a ≡ Act (plain_key runnable) → w ≡ to_start event → may_start k event ≡ false

-- an entry was made; or none may come, for the reason that is shown, and nothing changed
abbrev pub IsAnswerOf : {K : Type 0} → Plan → (lead : K → Noted → Option K) → (may_start : K → ℕ → Bool) → (why : K → Wanted → Shown) → Actor → Wanted → (old new : K) → Acted → Type 0
IsAnswerOf p lead may_start why a w old new (Done e) = IsMadeBy p lead a w old new e
IsAnswerOf p lead may_start why a w old new (NotYet shown) = (shown ≡ why old w) × (new ≡ old) × IsHeldBy lead may_start a w old

-- what came of a wish, with the entry that was filled in
abbrev pub acted : Filled → Entry → Acted
acted filled.Done e = Done e
acted (filled.NotYet shown) e = NotYet shown
