-- The entries of a legal history that touch an object follow one after the other.
use Rattle.std.proofs.Common.{◌≡◌, ℕ, Bool, true, false, ◌&&◌, if◌then◌else◌, refl, sym, ◌∙◌, ap, subst, [], ◌∷◌, length, Some, None}
use Rattle.bus_semantics.specs.Common.{and_parts, false≢true, list_all, ActKey, Plan, to_admit, to_end, wanted_by, History, Noted, Past, noted, note, touched_by, touches, entries_of}
use Rattle.bus_semantics.specs.Common.{is_proper, SameAnswers, matches, IsPastOf, Answers, MayFollow, IsLegal, IsSound}
use Rattle.std.specs.Prelude.{nat_lt, unwrap_or}
use Rattle.bus_laws.specs.Common.{Mapping, Actor, Env, Machine, Act, Deed}
use Rattle.bus_semantics.specs.declared.entries.Deed.TheVariants as deed
use Rattle.bus_laws.proofs.Thinning.{option_same}
use Rattle.bus_laws.proofs.Local.{touching, proper_legal}
use Rattle.history_laws.proofs.Keys.{mine, itself, Alive, alive, IsTo, others, starts, goes_on, is_to, fit_key}
use Rattle.history_laws.proofs.Wished.{begin_matches, wish_matches}
use Rattle.history_laws.proofs.OneKey.{no_starter}

fewer : (p : Plan) (n : Noted) (h l : Past) → SameAnswers p n h l → Answers p h n → Answers p l n
fewer p n h l same answers = record {
  unqueued = sym same.unqueued ∙ answers.unqueued;
  queued = sym same.queued ∙ answers.queued;
  calls = sym same.calls ∙ answers.calls;
  areas = sym same.areas ∙ answers.areas;
  modes = sym same.modes ∙ answers.modes;
  admission = sym same.admission ∙ answers.admission;
  due = sym same.due ∙ answers.due;
}

module _ (p : Plan) (m : Mapping) (sound : IsSound p m) (h : History) (legal : IsLegal p h) (object : ℕ) where
  abbrev before : Past
  before = entries_of p h object

  key_matches : (k : ActKey) (d : Deed) → MayFollow p h (mine k d) → touches p object (note h (mine k d)) ≡ true → matches p before (note h (mine k d)) ≡ true
  key_matches k d may touch = by_kind (is_to p k h (mine k d) may (alive p k h legal))
    where
      noted_wish : (a : Alive p k h) (d : Deed) → wanted_by a.activation.event d ≡ wanted_by (unwrap_or (note h (mine k d)).event 0) d
      noted_wish a (deed.Admit said) = ap (λ o. to_admit (unwrap_or o 0)) (sym a.started)
      noted_wish a deed.End = ap (λ o. to_end (unwrap_or o 0)) (sym a.started)
      noted_wish a d = refl

      by_kind : IsTo p k h (mine k d) → matches p before (note h (mine k d)) ≡ true
      by_kind (others other) = absurd (false≢true (sym other ∙ itself k))
      by_kind (starts e point value is own idle runnable asked) =
          let touch_it : touches p object (note h (mine k (deed.Start e point value))) ≡ true = subst (λ x. touches p object (note h x) ≡ true) is touch in
          subst (λ x. matches p before (note h x) ≡ true) (sym is) (begin_matches p m sound h legal object k e (fit_key p k d may.fit) runnable idle touch_it)
      by_kind (goes_on is own other running a next) = wish_matches p m sound h legal object k running a d (note h (mine k d)).event (next ∙ ap (λ w. Some w) (noted_wish a d)) touch

  entry_matches : (a : Actor) (d : Deed) → MayFollow p h (record { actor = a; deed = d }) → is_proper p (note h (record { actor = a; deed = d })) ≡ true
      → touches p object (note h (record { actor = a; deed = d })) ≡ true → matches p before (note h (record { actor = a; deed = d })) ≡ true
  entry_matches (Act k) d may proper touch = key_matches k d may touch
  entry_matches Env (deed.Leave x) may proper touch = absurd (false≢true may.fit)
  entry_matches Env (deed.Return code value) may proper touch = absurd (false≢true touch)
  entry_matches Env deed.End may proper touch = absurd (false≢true may.fit)
  entry_matches Env (deed.Admit said) may proper touch = absurd (false≢true may.fit)
  entry_matches Env (deed.Start e point value) may proper touch = absurd (false≢true may.fit)
  entry_matches Env d may proper touch = refl
  entry_matches (Machine n) (deed.Leave x) may proper touch = absurd (false≢true (and_parts (nat_lt n (length p.machines)) false (and_parts (nat_lt n (length p.machines) && false) true may.fit).0).1)
  entry_matches (Machine n) (deed.Return code value) may proper touch = absurd (false≢true touch)
  entry_matches (Machine n) deed.End may proper touch = absurd (false≢true may.fit)
  entry_matches (Machine n) (deed.Admit said) may proper touch = absurd (false≢true may.fit)
  entry_matches (Machine n) (deed.Start e point value) may proper touch = no_starter p n e point value None proper
  entry_matches (Machine n) d may proper touch = refl

pub parts : (p : Plan) (m : Mapping) (h : History) (object : ℕ) → IsSound p m → IsLegal p h → IsPastOf p object (entries_of p h object)
parts p m [] object sound legal = tt
parts p m (e ∷ h) object sound legal =
    let all = proper_legal p (e ∷ h) legal in
    let both = and_parts (is_proper p (note h e)) (list_all (is_proper p) (noted h)) all in
    by_test (touches p object (note h e)) refl both.0 both.1 (parts p m h object sound legal.0)
  where
    by_test : (b : Bool) → touches p object (note h e) ≡ b → is_proper p (note h e) ≡ true → list_all (is_proper p) (noted h) ≡ true → IsPastOf p object (entries_of p h object)
        → IsPastOf p object (if b then note h e ∷ entries_of p h object else entries_of p h object)
    by_test true touch proper fine past = (
      past,
      record {
        touching = touch;
        proper = proper;
        answers = fewer p (note h e) (noted h) (entries_of p h object) (touching p m (noted h) (note h e) object sound fine proper (option_same (touched_by p (note h e)) (Some object) touch)) legal.1.answers;
        matching = entry_matches p m sound h legal.0 object e.actor e.deed legal.1 proper touch;
      },
    )
    by_test false touch proper fine past = past
