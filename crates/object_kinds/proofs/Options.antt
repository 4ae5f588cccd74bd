-- What a test, a step and a map of options gave, when they give something, and whether a number was given.
use Rattle.std.proofs.Common.{◌≡◌, ℕ, Bool, true, false, refl, sym, ◌∙◌, ap, Option, Some, None, is_some}
use Rattle.std.specs.Prelude.{option_map, option_and_then}
use Rattle.bus_semantics.specs.Common.{eq-eqb, eqb-true, false≢true, same_number}
use Rattle.object_kinds.specs.Flags.{given}

-- no test gives both
pub clash : {X : Type 0} (b : Bool) → b ≡ true → b ≡ false → X
clash b t f = absurd (false≢true (sym f ∙ t))

-- ---- a number that is this one

pub number_is : (o : Option ℕ) (n : ℕ) → same_number o (Some n) ≡ true → o ≡ Some n
number_is None n e = absurd (false≢true e)
number_is (Some k) n e = ap (λ i. Some i) (eqb-true k n e)

pub is_number : (o : Option ℕ) (n : ℕ) → o ≡ Some n → same_number o (Some n) ≡ true
is_number o n is = ap (λ (q : Option ℕ). same_number q (Some n)) is ∙ eq-eqb n n refl

-- ---- what was given

pub record Given (X : Type 0) (b : Bool) (x y : X) : Type 0 where
  pub holds : b ≡ true
  pub same : x ≡ y

pub given_some : {X : Type 0} (b : Bool) (x y : X) → given b x ≡ Some y → Given X b x y
given_some true x y e = record { holds = refl; same = cc }
given_some false x y e = absurd (cc e)

pub record Then (X Y : Type 0) (f : X → Option Y) (o : Option X) (y : Y) : Type 0 where
  pub item : X
  pub is : o ≡ Some item
  pub gives : f item ≡ Some y

pub then_some : {X Y : Type 0} (f : X → Option Y) (o : Option X) (y : Y) → option_and_then f o ≡ Some y → Then X Y f o y
then_some f None y e = absurd (cc e)
then_some f (Some x) y e = record { item = x; is = refl; gives = e }

pub record Mapped (X Y : Type 0) (f : X → Y) (o : Option X) (y : Y) : Type 0 where
  pub item : X
  pub is : o ≡ Some item
  pub gives : f item ≡ y

pub mapped_some : {X Y : Type 0} (f : X → Y) (o : Option X) (y : Y) → option_map f o ≡ Some y → Mapped X Y f o y
mapped_some f None y e = absurd (cc e)
mapped_some f (Some x) y e = record { item = x; is = refl; gives = cc }

-- ---- when something is given

pub given_where : {X : Type 0} (b : Bool) (x : X) → b ≡ true → is_some (given b x) ≡ true
given_where b x on = rw on refl

pub then_where : {X Y : Type 0} (f : X → Option Y) (o : Option X) (x : X) → o ≡ Some x → is_some (f x) ≡ true → is_some (option_and_then f o) ≡ true
then_where f o x there some = rw there some

pub mapped_where : {X Y : Type 0} (f : X → Y) (o : Option X) → is_some o ≡ true → is_some (option_map f o) ≡ true
mapped_where f None e = e
mapped_where f (Some x) e = refl

-- ---- when nothing is given

pub given_none : {X : Type 0} (b : Bool) (x : X) → b ≡ false → given b x ≡ None
given_none true x e = absurd (false≢true (sym e))
given_none false x e = refl

pub none_given : {X : Type 0} (b : Bool) (x : X) → given b x ≡ None → b ≡ false
none_given true x e = absurd (cc e)
none_given false x e = refl
