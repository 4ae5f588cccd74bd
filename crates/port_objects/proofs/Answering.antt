-- What a kind answers on its object is what `act` answers on it.
use Rattle.std.proofs.Common.{◌≡◌, ◌∷◌, ℕ, Bool, true, refl, sym, ◌∙◌, ap, Option, Some, is_some}
use Rattle.std.specs.Prelude.{option_map}
use Rattle.bus_semantics.specs.Common.{false≢true, Plan, Wanted, Noted, Past, object_of, touched, wish_fits, noted_for, asks_its_own, MayCome, NoneMayCome, Follows, IsSound}
use Rattle.bus_laws.specs.Common.{Mapping, Actor, Entry}
use Rattle.object_kinds.specs.declared.acted.Filled.{Filled}
use Rattle.object_kinds.specs.declared.acted.Filled.TheVariants as filled
use Rattle.object_kinds.specs.declared.acted.Shown.{Shown}
use Rattle.object_kinds.specs.Kinds.{IsAnswerOf, acted}
use Rattle.port_objects.specs.Common.{Object, Kept, lead, kept_of, Stands, may_start_in, Tells, TellsPoint, why_held, IsMade, IsHeld, IsAnswer, MayAsk, IsTheOne}
use Rattle.port_objects.proofs.Gate.{opens, stays_shut}
use Rattle.port_objects.proofs.Rows.{Row}
use Rattle.port_objects.proofs.Asking.{made_touches, made_proper}

module _ {K : Type 0} (p : Plan) (a : Actor) (w : Wanted) (of : K → Kept) (keeps : K → Past → Type 0) (kind_leads : K → Noted → Option K) (flag : K → ℕ → Bool) (why : K → Wanted → Shown)
    (row : Row p (touched p a w) of keeps kind_leads flag why) where
  pub answered : object_of p a w ≡ Some (touched p a w) → wish_fits p a w ≡ true → asks_its_own p a w ≡ true → (old new : Object) (before after : K) (r : Filled) (out : Entry) → kept_of old ≡ of before → kept_of new ≡ of after
      → IsAnswerOf p kind_leads flag why a w before after (acted r out) → ((shown : Shown) → r ≡ filled.NotYet shown → new ≡ old) → Tells (kept_of old) new → TellsPoint (kept_of old) new → IsAnswer p (touched p a w) a w old new (acted r out)
  answered touching fits own old new before after filled.Done e was is made same told heard =
      let touches_it = made_touches p a w e made.actor made.wish touching in
      let proper = made_proper p a w e made.actor made.wish fits own made.answer in
      record {
        actor = made.actor;
        wish = made.wish;
        answer = made.answer;
        leads = ap (λ k. lead p (touched p a w) k (noted_for w e)) was
            ∙ opens p (touched p a w) (of before) (noted_for w e) touches_it proper
            ∙ row.leads before (noted_for w e)
            ∙ ap (option_map of) made.leads
            ∙ ap (λ k. Some k) (sym is);
        told = told;
        heard = heard;
      }
  answered touching fits own old new before after (filled.NotYet shown) out was is (shows, stays, held) same told heard = record {
    why = shows ∙ sym (row.shows before w) ∙ ap (λ k. why_held k w) (sym was);
    same = same shown refl;
    none = λ n who wish. ap (λ k. lead p (touched p a w) k n) was ∙ stays_shut p (touched p a w) (of before) n (row.leads before n ∙ ap (option_map of) (held.none n who wish));
    flag = λ runnable event who wish. ap (λ k. may_start_in k event) was ∙ row.flags before event ∙ held.flag runnable event who wish;
  }

-- ---- what is answered is what may come

-- the laws that say so
pub record Laws : Type 0 where
  pub one : (p : Plan) (m : Mapping) (a : Actor) (w : Wanted) (l : Past) (n other : Noted) → IsSound p m → MayCome p a w l n → MayCome p a w l other → other.entry ≡ n.entry
  pub follows : (p : Plan) (object : ℕ) (before after : Kept) (l : Past) (n : Noted) → Stands p object before l → lead p object before n ≡ Some after → Follows p object l n
  pub stands : (p : Plan) (object : ℕ) (before after : Kept) (l : Past) (n : Noted) → Stands p object before l → lead p object before n ≡ Some after → Stands p object after (n ∷ l)
  pub misses : (p : Plan) (m : Mapping) (object : ℕ) (before : Kept) (l : Past) (n : Noted) → IsSound p m → Stands p object before l → Follows p object l n → is_some (lead p object before n) ≡ true

pub made_is_one : Laws → (p : Plan) (m : Mapping) (a : Actor) (w : Wanted) (old new : Object) (l : Past) (e : Entry) → MayAsk p m a w (kept_of old) l → IsMade p (touched p a w) a w old new e → IsTheOne p a w (kept_of new) l e
made_is_one laws p m a w old new l e ask made =
    let follows = laws.follows p (touched p a w) (kept_of old) (kept_of new) l (noted_for w e) ask.stands made.leads in
    let comes : MayCome p a w l (noted_for w e) = record { actor = made.actor; wish = made.wish; follows = follows } in
    record {
      comes = comes;
      only = λ n may. laws.one p m a w l (noted_for w e) n ask.sound comes may;
      stands = laws.stands p (touched p a w) (kept_of old) (kept_of new) l (noted_for w e) ask.stands made.leads;
    }

pub held_is_none : Laws → (p : Plan) (m : Mapping) (a : Actor) (w : Wanted) (old new : Object) (l : Past) (shown : Shown) → MayAsk p m a w (kept_of old) l → IsHeld p (touched p a w) a w old new shown → NoneMayCome p a w l
held_is_none laws p m a w old new l shown ask held n may =
    let some : is_some (lead p (touched p a w) (kept_of old) n) ≡ true = laws.misses p m (touched p a w) (kept_of old) l n ask.sound ask.stands may.follows in
    false≢true (sym (ap is_some (held.none n may.actor may.wish)) ∙ some)
