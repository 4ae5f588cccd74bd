-- What is in a value of few values, and how many names it declares.
use Rattle.std.proofs.Common.{◌≡◌, ℕ, zero, suc, ◌+◌, ◌^◌, ◌<◌, ◌≤◌, List, [], ◌∷◌, length, map, get_or, slice_get, slice_index_or, codes, bytes_eq, Bool, true, false, cond, Option, Some}
use Rattle.std.proofs.Common.{None, unwrap_or, option_and_then, Ordering, Less, Equal, Greater, Bor, refl, sym, ap, subst, ◌∙◌, arith}
use Rattle.std.proofs.lemmas.List.{length-map}
use Rattle.std.specs.Cmp.Lexicographic.{slice_cmp}
use Rattle.std.specs.Ordering.{nat_cmp, match_ordering}
use Rattle.serde_json.specs.Data.{Data, null, boolean, number, string, array, object, Items, no_items, item, Members, no_members, member}
use Rattle.serde_json.specs.Find.{get, get_member, as_array}
use Rattle.serde_json.specs.View.{view}
use Rattle.serde_json.specs.declared.value.Value.{Value}
use Rattle.declared_names.specs.Names.{Names, short_names, texts, text_of}
use Rattle.declared_names.specs.Scopes.{argument_names, interface_names, item_names, modes_in, operation_arguments}
use Rattle.declared_names.specs.Sizes.{size, items_size, members_size, sizes, IsSmall, AreSmall, HaveFewArguments}
use Rattle.declared_names.specs.Values.{items_at, items_of, listed, text_at, text_at_in, text_in}

pub some : (d : Data) → 1 ≤ size d
some null = omega arith
some (boolean b) = omega arith
some (number n) = omega arith
some (string s) = omega arith
some (array ds) = omega arith
some (object ms) = omega arith

pub length_sizes : (ds : List Data) → length ds ≤ sizes ds
length_sizes [] = omega arith
length_sizes (d ∷ ds) = omega (arith, some d, length_sizes ds)

listed_sizes : (ds : Items) → sizes (listed ds) ≡ items_size ds
listed_sizes no_items = refl
listed_sizes (item d ds) = ap (λ n. size d + n) (listed_sizes ds)

-- a value at a key
found : (o : Ordering) (rest : Option Data) (d e : Data) (n : ℕ) → ((x : Data) → rest ≡ Some x → size x ≤ n) → match_ordering o rest (Some d) rest ≡ Some e → size e ≤ size d + n
found Less rest d e n h is = omega (arith, h e is)
found Greater rest d e n h is = omega (arith, h e is)
found Equal rest d e n h is = let same : d ≡ e = cc in subst (λ x. size x ≤ size d + n) same (omega arith)

member_size : (k : List ℕ) (ms : Members) (e : Data) → get_member k ms ≡ Some e → size e ≤ members_size ms
member_size k no_members e is = cc
member_size k (member l d ms) e is = found (slice_cmp nat_cmp k l) (get_member k ms) d e (members_size ms) (member_size k ms) is

pub get_size : (k : List ℕ) (d e : Data) → get k d ≡ Some e → size e ≤ size d
get_size k null e is = cc
get_size k (boolean b) e is = cc
get_size k (number n) e is = cc
get_size k (string s) e is = cc
get_size k (array ds) e is = cc
get_size k (object ms) e is = omega (arith, member_size k ms e is)

-- the items of an array, and those of the array at a key
array_size : (d : Data) → sizes (items_of (as_array d)) < size d
array_size null = omega arith
array_size (boolean b) = omega arith
array_size (number n) = omega arith
array_size (string s) = omega arith
array_size (array ds) = omega (arith, listed_sizes ds)
array_size (object ms) = omega arith

of_size : (o : Option Data) (n : ℕ) → 1 ≤ n → ((e : Data) → o ≡ Some e → size e ≤ n) → sizes (items_of (option_and_then as_array o)) < n
of_size None n least h = omega (arith, least)
of_size (Some d) n least h = omega (arith, array_size d, h d refl)

pub at_size : (key : List ℕ) (d : Data) → sizes (items_at key d) < size d
at_size key d = of_size (get key d) (size d) (some d) (get_size key d)

pub at_small : (key : List ℕ) (d : Data) (ds : List Data) → ds ≡ items_at key d → IsSmall d → AreSmall ds
at_small key d ds is small = record { few = subst (λ l. sizes l ≤ 2 ^ 22) (sym is) (omega (arith, at_size key d, small.few)) }

-- the value at a key, or another
pub value_small : (key : List ℕ) (d other e : Data) → e ≡ unwrap_or (get key d) other → IsSmall d → IsSmall other → IsSmall e
value_small key d other e is small instead = by (get key d) refl
  where
    by : (o : Option Data) → get key d ≡ o → IsSmall e
    by None none = subst IsSmall (sym (is ∙ ap (λ o. unwrap_or o other) none)) instead
    by (Some x) some = subst IsSmall (sym (is ∙ ap (λ o. unwrap_or o other) some)) (record { few = omega (arith, get_size key d x some, small.few) })

-- an item of a list
each_size : (ds : List Data) (i : ℕ) (d : Data) → slice_get ds i ≡ Some d → size d ≤ sizes ds
each_size [] i d is = cc
each_size (x ∷ ds) zero d is = let same : x ≡ d = cc in subst (λ y. size y ≤ sizes (x ∷ ds)) same (omega arith)
each_size (x ∷ ds) (suc i) d is = omega (arith, each_size ds i d is)

pub item_small : (ds : List Data) (i : ℕ) (d : Data) → slice_get ds i ≡ Some d → AreSmall ds → IsSmall d
item_small ds i d is small = record { few = omega (arith, each_size ds i d is, small.few) }

get_seen : (vs : List Value) (i : ℕ) (v : Value) → i < length vs → v ≡ get_or vs i v → slice_get (map view vs) i ≡ Some (view v)
get_seen [] i v h is = absurd (omega arith)
get_seen (x ∷ vs) zero v h is = ap (λ w. Some (view w)) (sym is)
get_seen (x ∷ vs) (suc i) v h is = get_seen vs i v (omega arith) is

pub each_small : (vs : List Value) (i : ℕ) (v : Value) → i < length vs → v ≡ get_or vs i v → AreSmall (map view vs) → IsSmall (view v)
each_small vs i v h is small = item_small (map view vs) i (view v) (get_seen vs i v h is) small

-- 32 bits number the names that a list declares
pub few_names : (f : Data → List ℕ) (names : List (Bor (List ℕ))) (ds : List Data) → map text_of names ≡ map f ds → AreSmall ds → length names < 2 ^ 32
few_names f names ds are small =
    let same : length names ≡ length ds = sym (length-map names text_of) ∙ ap length are ∙ length-map ds f in
    omega (arith, length_sizes ds, small.few)

counted : (names : List (Bor (List ℕ))) (ns : Names) → map text_of names ≡ ns → length ns < 2 ^ 32 → length names < 2 ^ 32
counted names ns are few = let same : length names ≡ length ns = sym (length-map names text_of) ∙ ap length are in omega arith

-- 32 bits number what is declared at a key
pub few_at : (key : List ℕ) (d : Data) → IsSmall d → length (items_at key d) < 2 ^ 32
few_at key d small = omega (arith, length_sizes (items_at key d), at_size key d, small.few)

short_few : (key : List ℕ) (d : Data) → IsSmall d → length (short_names (items_at key d)) < 2 ^ 32
short_few key d small = omega (arith, length-map (items_at key d) (text_at (codes "shortName")), few_at key d small)

texts_few : (key : List ℕ) (d : Data) → IsSmall d → length (texts (items_at key d)) < 2 ^ 32
texts_few key d small = omega (arith, length-map (items_at key d) text_in, few_at key d small)

one_of : (a b : Bool) (xs ys zs : Names) → length xs < 2 ^ 32 → length ys < 2 ^ 32 → length zs < 2 ^ 32 → length (cond a xs (cond b ys zs)) < 2 ^ 32
one_of true b xs ys zs x y z = x
one_of false true xs ys zs x y z = y
one_of false false xs ys zs x y z = z

-- those of an interface
pub few_items : (d : Data) (names : List (Bor (List ℕ))) → map text_of names ≡ item_names d → IsSmall d → length names < 2 ^ 32
few_items d names are small = counted names (item_names d) are
    (one_of (bytes_eq (text_at (codes "kind") d) (codes "ClientServerInterface")) (bytes_eq (text_at (codes "kind") d) (codes "ModeSwitchInterface"))
    (short_names (items_at (codes "operations") d)) (text_at_in (codes "modeGroup") (codes "shortName") d ∷ []) (short_names (items_at (codes "dataElements") d))
    (short_few (codes "operations") d small) (omega arith) (short_few (codes "dataElements") d small))

-- and the modes of a group
pub few_modes : (groups : List Data) (i : ℕ) (o : Option Data) (names : List (Bor (List ℕ))) → o ≡ slice_get groups i → map text_of names ≡ modes_in o → AreSmall groups → length names < 2 ^ 32
few_modes groups i None names at are small = counted names [] are (omega arith)
few_modes groups i (Some g) names at are small = counted names (modes_in (Some g)) are (texts_few (codes "modes") g (item_small groups i g (sym at) small))

-- and the arguments of an operation
arguments_size : (o : Data) → length (operation_arguments o) ≤ size o
arguments_size o = omega (arith, length-map (items_at (codes "arguments") o) (text_at (codes "shortName")), length_sizes (items_at (codes "arguments") o), at_size (codes "arguments") o)

one_arguments : (os : List Data) (o : ℕ) → length (slice_index_or (map operation_arguments os) o []) ≤ sizes os
one_arguments [] o = omega arith
one_arguments (x ∷ os) zero = omega (arith, arguments_size x)
one_arguments (x ∷ os) (suc o) = omega (arith, one_arguments os o)

operation_size : (i : Data) (o : ℕ) → length (slice_index_or (argument_names i) o []) ≤ size i
operation_size i o = omega (arith, one_arguments (items_at (codes "operations") i) o, at_size (codes "operations") i)

any_arguments : (is : List Data) (i o : ℕ) → length (slice_index_or (slice_index_or (map argument_names is) i []) o []) ≤ sizes is
any_arguments [] i o = omega arith
any_arguments (x ∷ is) zero o = omega (arith, operation_size x o)
any_arguments (x ∷ is) (suc i) o = omega (arith, any_arguments is i o)

pub few_arguments : (groups : Names) (d : Data) → IsSmall d → HaveFewArguments (interface_names groups d)
few_arguments groups d small = record {
  few = λ i o. omega (arith, any_arguments (items_at (codes "interfaces") d) i o, at_size (codes "interfaces") d, small.few);
}
