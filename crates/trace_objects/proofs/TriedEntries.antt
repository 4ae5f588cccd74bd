-- What comes of making an entry that is tried, with the laws that are used.
use Rattle.std.proofs.Common.{◌≡◌, ℕ, true, false, sym, ◌∙◌, ap, subst, List, ◌∷◌, set, Option, Some, None}
use Rattle.std.specs.Prelude.{unwrap_or}
use Rattle.bus_semantics.specs.Common.{ActKey, Plan, Wanted, wanted_by, History, Noted, needs_event, note, noted, runs, object_of, touched, entries_of, next_wish, is_held_back}
use Rattle.bus_semantics.specs.Common.{follows_program, Answers, IsLegal, MayFollow, IsSound, IsPastOf, MayCome, NoneMayCome}
use Rattle.bus_laws.specs.Common.{Actor, Act, Entry, Mapping}
use Rattle.history_laws.specs.Running.{GoesOn}
use Rattle.port_objects.specs.declared.object.Object.{Object}
use Rattle.port_objects.specs.Common.{is_free, kept_of}
use Rattle.trace_objects.specs.declared.came.Came.{Came}
use Rattle.trace_objects.specs.declared.came.Came.TheVariants.{Itself, Another, Nothing}
use Rattle.trace_objects.specs.Standing.{IsTried, IsAnother, IsOther, IsMadeOn, IsMadeAlone, ObjectsStand, Tries}
use Rattle.trace_objects.proofs.Tried.{Laws, Facts, facts, asked}
use Rattle.trace_objects.proofs.Parted.{answers, stand_then, unanswered}
use Rattle.trace_objects.proofs.Alone as alone
use Rattle.trace_objects.proofs.Spoken.{unbroken}
use Rattle.trace_objects.proofs.Broken.{StartLaws, as_answered, another, another_alone, nothing, nothing_alone}

-- ---- the laws, as functions say them

abbrev pub GoesLaw : Type 0
GoesLaw = (p : Plan) (m : Mapping) (h : History) (k : ActKey) → IsSound p m → IsLegal p h → runs k h ≡ true → GoesOn p h k

abbrev pub WishLaw : Type 0
WishLaw = (p : Plan) (m : Mapping) (h : History) (k : ActKey) (w : Wanted) (n : Noted) → IsSound p m → IsLegal p h
    → next_wish p h k ≡ Some w → is_held_back p h k ≡ false → MayCome p (Act k) w (entries_of p h (touched p (Act k) w)) n → MayFollow p h n.entry

abbrev pub EntryLaw : Type 0
EntryLaw = (p : Plan) (m : Mapping) (h : History) (a : Actor) (w : Wanted) (n : Noted) → IsSound p m → IsLegal p h
    → needs_event n.entry.deed ≡ false → follows_program p h a n.entry.deed ≡ true → MayCome p a w (entries_of p h (touched p a w)) n → MayFollow p h n.entry

abbrev pub PartsLaw : Type 0
PartsLaw = (p : Plan) (m : Mapping) (h : History) (object : ℕ) → IsSound p m → IsLegal p h → IsPastOf p object (entries_of p h object)

module _ (p : Plan) (e : Entry) (event : Option ℕ) (w : Wanted) (same : w ≡ wanted_by (unwrap_or event 0) e.deed) (goes : GoesLaw) (wish : WishLaw) (entry : EntryLaw) where
  pub facts_at : (m : Mapping) (h : History) → IsTried p m h e event → Facts p h e event w
  facts_at m h tried =
      let laws : Laws p h = record {
        goes = λ k running. goes p m h k tried.sound tried.legal running;
        wish = λ k v n next free comes. wish p m h k v n tried.sound tried.legal next free comes;
        entry = λ a v n free program comes. entry p m h a v n tried.sound tried.legal free program comes;
      } in
      subst (λ v. Facts p h e event v) (sym same) (facts p m h e event tried laws)

  -- ---- on its object

  module _ (objects : List Object) (object : ℕ) (touching : Some object ≡ object_of p e.actor w) (m : Mapping) (h : History) (tried : IsTried p m h e event) (stand : ObjectsStand p h objects) where
    module _ (parts : PartsLaw) (starts : StartLaws p m h) where
      not_answered : ((n : Noted) → MayCome p e.actor w (entries_of p h object) n → n.entry ≡ e → ⊥) → Answers p (noted h) (note h e) → ⊥
      not_answered none = unanswered p m h e event w tried (facts_at m h tried) object (sym touching) (λ legal. parts p m (e ∷ h) object tried.sound legal) none (sym same)

      reached : object_of p e.actor (wanted_by (unwrap_or event 0) e.deed) ≡ Some object
      reached = ap (object_of p e.actor) (sym same) ∙ sym touching

      pub tried_on : (new : Object) (came : Came) → IsMadeOn p w (kept_of new) (entries_of p h object) e came → Tries p h (set objects object new) e came
      tried_on new Itself one = record {
        broken = as_answered p h e None tried.program (unbroken p (noted h) (note h e) (answers p m h e event w tried (facts_at m h tried) object (sym touching) objects stand new one));
        made = λ is. stand_then p m h e event w tried (facts_at m h tried) object (sym touching) objects stand new one;
      }
      tried_on new Another other = record {
        broken = as_answered p h e _ tried.program (another p m h tried.sound starts e.actor e.deed (unwrap_or event 0) object tried.fit tried.program (not_answered other.other) reached
            (subst (λ v. IsAnother p v (entries_of p h object) e) same other));
        made = λ is. absurd (cc is);
      }
      tried_on new Nothing none = record {
        broken = as_answered p h e _ tried.program (nothing p m h tried.sound starts e.actor e.deed (unwrap_or event 0) object tried.fit tried.program (not_answered (λ n comes is. none n comes)) reached
            (subst (λ v. NoneMayCome p e.actor v (entries_of p h object)) same none));
        made = λ is. absurd (cc is);
      }

  -- ---- without one

  module _ (m : Mapping) (h : History) (tried : IsTried p m h e event) (free : alone.FreeLaws p m h) (starts : StartLaws p m h) (none : None ≡ object_of p e.actor w) where
    none_too : object_of p e.actor (wanted_by (unwrap_or event 0) e.deed) ≡ None
    none_too = ap (object_of p e.actor) (sym same) ∙ sym none

    laws : Laws p h
    laws = record {
      goes = λ k running. goes p m h k tried.sound tried.legal running;
      wish = λ k v n next held comes. wish p m h k v n tried.sound tried.legal next held comes;
      entry = λ a v n needs program comes. entry p m h a v n tried.sound tried.legal needs program comes;
    }

    own : Facts p h e event (wanted_by (unwrap_or event 0) e.deed)
    own = facts p m h e event tried laws

    pub tried_alone : (objects : List Object) → ObjectsStand p h objects → (came : Came) → IsMadeAlone w e came → Tries p h objects e came
    tried_alone objects stand Itself is =
        let moved = subst (λ v. IsMadeAlone v e Itself) same is in
        record {
          broken = as_answered p h e None tried.program (unbroken p (noted h) (note h e) (alone.answered p m h e event tried free none_too own moved.0 moved.1));
          made = λ same. alone.stand_then p m h e event tried free none_too own objects stand;
        }
    tried_alone objects stand Another other =
        let moved = subst (λ v. IsOther v e) same other in
        record {
          broken = as_answered p h e _ tried.program (another_alone p m h tried.sound starts e.actor e.deed (unwrap_or event 0) moved.free (alone.others p m h e event tried free none_too own moved));
          made = λ is. absurd (cc is);
        }
    tried_alone objects stand Nothing bound = record {
      broken = as_answered p h e _ tried.program (nothing_alone p m h tried.sound starts e.actor e.deed (unwrap_or event 0) tried.fit tried.program
          (alone.unfree p m h e event tried free none_too own (subst (λ v. is_free v ≡ false) same bound) (asked p m h e event tried laws)) none_too);
      made = λ is. absurd (cc is);
    }
