-- Turns of cores in the order of their numbers.
use Rattle.std.proofs.Common.{◌≡◌, ◌<◌, ◌+◌, ℕ, zero, suc, refl, sym, ◌∙◌, ap, subst, arith, List, [], ◌∷◌, ◌++◌, length, set, take, drop, append_assoc, append-nil, Bool, true, false, Some}
use Rattle.bus_semantics.specs.Common.{slice_get, Plan, plan_of}
use Rattle.bus_semantics.specs.declared.entries.Stamped.{Stamped}
use Rattle.bus_semantics.specs.declared.plan.BusPlan.{BusPlan}
use Rattle.port_objects.specs.declared.object.Object.{Object}
use Rattle.task_machine.specs.declared.instr.TaskSet.{TaskSet}
use Rattle.core_turn.specs.Cores.{CoreState}
use Rattle.core_runtime.specs.Rounds.{RoundState, IsLater, IsTurn}
use Rattle.core_runtime.specs.Turns.{TakesOne, EachTakesOne}
use Rattle.history_laws.proofs.Lists.{there_is}
use Rattle.object_kinds.proofs.Lists.{set_same}

-- ---- one more of a list

take_set : {X : Type 0} (xs : List X) (i : ℕ) (n c : X) → slice_get xs i ≡ Some c → take (suc i) (set xs i n) ≡ take i xs ++ n ∷ []
take_set [] i n c e = absurd (cc e)
take_set (x ∷ xs) zero n c e = refl
take_set (x ∷ xs) (suc i) n c e = ap (λ ys. x ∷ ys) (take_set xs i n c e)

take_next : {X : Type 0} (xs : List X) (i : ℕ) (c : X) → slice_get xs i ≡ Some c → take (suc i) xs ≡ take i xs ++ c ∷ []
take_next [] i c e = absurd (cc e)
take_next (x ∷ xs) zero c e = let same : x ≡ c = cc e in ap (λ y. y ∷ []) same
take_next (x ∷ xs) (suc i) c e = ap (λ ys. x ∷ ys) (take_next xs i c e)

drop_set : {X : Type 0} (xs : List X) (i : ℕ) (n : X) → drop (suc i) (set xs i n) ≡ drop (suc i) xs
drop_set [] i n = refl
drop_set (x ∷ xs) zero n = refl
drop_set (x ∷ xs) (suc i) n = drop_set xs i n

drop_one : {X : Type 0} (xs : List X) (i : ℕ) → drop (suc i) xs ≡ drop 1 (drop i xs)
drop_one [] zero = refl
drop_one [] (suc i) = refl
drop_one (x ∷ xs) zero = refl
drop_one (x ∷ xs) (suc i) = drop_one xs i

get_drop : {X : Type 0} (xs : List X) (i : ℕ) → slice_get xs i ≡ slice_get (drop i xs) 0
get_drop [] zero = refl
get_drop [] (suc i) = refl
get_drop (x ∷ xs) zero = refl
get_drop (x ∷ xs) (suc i) = get_drop xs i

take_all : {X : Type 0} (xs : List X) (n : ℕ) → n ≡ length xs → take n xs ≡ xs
take_all [] zero e = refl
take_all [] (suc n) e = refl
take_all (x ∷ xs) zero e = absurd (omega (arith, e))
take_all (x ∷ xs) (suc n) e = ap (λ ys. x ∷ ys) (take_all xs n (omega (arith, e)))

-- ---- one core more

each_more : (p : Plan) (t : TaskSet) (cores now : List CoreState) (c n : CoreState) (objects mid later : List Object) (entries made : List Stamped)
    → EachTakesOne p t cores now objects mid entries → TakesOne p t c n mid later made → EachTakesOne p t (cores ++ c ∷ []) (now ++ n ∷ []) objects later (entries ++ made)
each_more p t [] [] c n objects mid later entries made e one =
    (later, made, [], ap (λ (xs : List Stamped). xs ++ made) e.1 ∙ sym (append-nil made), subst (λ (xs : List Object). TakesOne p t c n xs later made) e.0 one, (refl, refl))
each_more p t [] (y ∷ now) c n objects mid later entries made e one = absurd e
each_more p t (x ∷ cores) [] c n objects mid later entries made e one = absurd e
each_more p t (x ∷ cores) (y ∷ now) c n objects mid later entries made (after, first, more, same, takes, rest) one = (
  after,
  first,
  more ++ made,
  ap (λ (xs : List Stamped). xs ++ made) same ∙ append_assoc first more made,
  takes,
  each_more p t cores now c n after mid later more made rest one,
)

-- ---- the cores below a number have taken their turns, and the others have not

pub record InOrder (start now : RoundState) (number : ℕ) : Type 0 where
  pub order : EachTakesOne (plan_of start.plan) start.bodies (take number start.cores) (take number now.cores) start.objects now.objects now.entries
  pub rest : drop number now.cores ≡ drop number start.cores

pub none_taken : (r : RoundState) → r.entries ≡ [] → InOrder r r 0
none_taken r none = record { order = (refl, none); rest = refl }

-- what a turn of the core of a number made
record OneTurn (old new : RoundState) (number : ℕ) : Type 0 where
  core : CoreState
  stepped : CoreState
  made : List Stamped
  there : slice_get old.cores number ≡ Some core
  cores : new.cores ≡ set old.cores number stepped
  entries : new.entries ≡ old.entries ++ made
  takes : TakesOne (plan_of old.plan) old.bodies core stepped old.objects new.objects made

one_turn : (old new : RoundState) (number : ℕ) (b : Bool) → number < length old.cores → IsTurn old new number b → OneTurn old new number
one_turn old new number true below turn = record {
  core = turn.core;
  stepped = turn.stepped;
  made = turn.made ∷ [];
  there = turn.there;
  cores = turn.cores;
  entries = turn.added;
  takes = turn.order;
}
one_turn old new number false below turn =
    let c = there_is old.cores number below in
    record {
      core = c.0;
      stepped = c.0;
      made = [];
      there = c.1;
      cores = turn.cores ∙ sym (set_same old.cores number c.0 c.1);
      entries = turn.entries ∙ sym (append-nil old.entries);
      takes = (turn.none c.0 c.1, refl, turn.objects);
    }

module _ (start old new : RoundState) (number : ℕ) (later : IsLater start old) (so : InOrder start old number) where
  pub turn_in_order : (b : Bool) → number < length old.cores → IsTurn old new number b → InOrder start new (number + 1)
  turn_in_order b below turn =
      let one = one_turn old new number b below turn in
      let first : slice_get start.cores number ≡ Some one.core =
      get_drop start.cores number ∙ ap (λ xs. slice_get xs 0) (sym so.rest) ∙ sym (get_drop old.cores number) ∙ one.there in
      let taken : take (suc number) new.cores ≡ take number old.cores ++ one.stepped ∷ [] = ap (take (suc number)) one.cores ∙ take_set old.cores number one.stepped one.core one.there in
      let begun : take (suc number) start.cores ≡ take number start.cores ++ one.core ∷ [] = take_next start.cores number one.core first in
      let takes : TakesOne (plan_of start.plan) start.bodies one.core one.stepped old.objects new.objects one.made =
      subst (λ (q : BusPlan). TakesOne (plan_of q) start.bodies one.core one.stepped old.objects new.objects one.made) later.plan
      (subst (λ (u : TaskSet). TakesOne (plan_of old.plan) u one.core one.stepped old.objects new.objects one.made) later.bodies one.takes) in
      let all = each_more (plan_of start.plan) start.bodies (take number start.cores) (take number old.cores) one.core one.stepped start.objects old.objects new.objects old.entries one.made so.order takes in
      let next : suc number ≡ number + 1 = omega arith in
      subst (InOrder start new) next (record {
        order = subst (λ xs. EachTakesOne (plan_of start.plan) start.bodies xs (take (suc number) new.cores) start.objects new.objects new.entries) (sym begun)
            (subst (λ xs. EachTakesOne (plan_of start.plan) start.bodies (take number start.cores ++ one.core ∷ []) xs start.objects new.objects new.entries) (sym taken)
            (subst (λ xs. EachTakesOne (plan_of start.plan) start.bodies (take number start.cores ++ one.core ∷ []) (take number old.cores ++ one.stepped ∷ []) start.objects new.objects xs) (sym one.entries) all));
        rest = ap (drop (suc number)) one.cores ∙ drop_set old.cores number one.stepped ∙ drop_one old.cores number ∙ ap (drop 1) so.rest ∙ sym (drop_one start.cores number);
      })

  pub all_in_order : number ≡ length start.cores → EachTakesOne (plan_of start.plan) start.bodies start.cores old.cores start.objects old.objects old.entries
  all_in_order all =
      let same : number ≡ length old.cores = omega (arith, all, later.count) in
      subst (λ xs. EachTakesOne (plan_of start.plan) start.bodies xs old.cores start.objects old.objects old.entries) (take_all start.cores number all)
      (subst (λ xs. EachTakesOne (plan_of start.plan) start.bodies (take number start.cores) xs start.objects old.objects old.entries) (take_all old.cores number same) so.order)
