-- Targets and names that are the same.
use Rattle.std.proofs.Common.{◌≡◌, List, [], ◌∷◌, ◌++◌, Bool, true, false, ◌&&◌, ◌||◌, map, bytes_eq, refl, sym, ap, ◌∙◌, subst, true≢false}
use Rattle.std.specs.Cmp.Lexicographic.{pointwise_decides, bytes_decides, nat_list_eq_equiv}
use Rattle.std.proofs.lemmas.Bool.{and_parts, or_parts}
use Rattle.std.proofs.lemmas.Map.Keys.{IsDistinct-push}
use Rattle.std.specs.List.{list_any, IsDistinct}
use Rattle.plan_text.specs.Clashes.{HaveNamesOfTheirOwn}
use Rattle.plan_text.specs.Listing.{has_name}
use Rattle.plan_text.specs.Noting.{is_among}
use Rattle.plan_text.specs.Targets.{Letters, Target, name_of, same_target}

pub same_is : (a b : Target) → same_target a b ≡ true → a ≡ b
same_is a b h =
    let both = and_parts _ _ h in
    let words : a.word ≡ b.word = (bytes_decides a.word b.word).0 both.0 in
    let parts : a.parts ≡ b.parts = (pointwise_decides bytes_decides a.parts b.parts).0 both.1 in
    (λ j. record { word = words j; parts = parts j })

pub same_refl : (a : Target) → same_target a a ≡ true
same_refl a =
    let words : bytes_eq a.word a.word ≡ true = (bytes_decides a.word a.word).1 refl in
    let parts = (pointwise_decides bytes_decides a.parts a.parts).1 refl in
    (λ j. words j && parts j)

pub name_refl : (name : Letters) → bytes_eq name name ≡ true
name_refl name = (bytes_decides name name).1 refl

-- what has another name is another
pub name_apart : (a b : Target) → bytes_eq (name_of a) (name_of b) ≡ false → same_target a b ≡ false
name_apart a b h = by (same_target a b) refl
  where
    by : (same : Bool) → same_target a b ≡ same → same ≡ false
    by false is = refl
    by true is = absurd (true≢false (sym (name_refl (name_of a)) ∙ ap (λ c. bytes_eq (name_of a) (name_of c)) (same_is a b is) ∙ h))

pub new_is_not_among : (ts : List Target) (t : Target) → has_name ts (name_of t) ≡ false → is_among ts t ≡ false
new_is_not_among [] t h = refl
new_is_not_among (u ∷ ts) t h =
    let parts = or_parts (bytes_eq (name_of t) (name_of u)) (has_name ts (name_of t)) h in
    (λ j. name_apart t u parts.0 j || new_is_not_among ts t parts.1 j)

-- a name among these is one of their names
pub names_any : (ts : List Target) (name : Letters) → list_any (bytes_eq name) (map name_of ts) ≡ has_name ts name
names_any [] name = refl
names_any (t ∷ ts) name = ap (λ rest. bytes_eq name (name_of t) || rest) (names_any ts name)

names_append : (ts : List Target) (t : Target) → map name_of (ts ++ t ∷ []) ≡ map name_of ts ++ name_of t ∷ []
names_append [] t = refl
names_append (u ∷ ts) t = ap (λ names. name_of u ∷ names) (names_append ts t)

pub none_own : HaveNamesOfTheirOwn []
unfolding IsDistinct
none_own = tt

-- one more, of a new name
pub own_names_more : (ts : List Target) (t : Target) → HaveNamesOfTheirOwn ts → has_name ts (name_of t) ≡ false → HaveNamesOfTheirOwn (ts ++ t ∷ [])
own_names_more ts t own new = subst (λ names. IsDistinct bytes_eq names) (sym (names_append ts t)) (IsDistinct-push nat_list_eq_equiv (map name_of ts) (name_of t) own (names_any ts (name_of t) ∙ new))
