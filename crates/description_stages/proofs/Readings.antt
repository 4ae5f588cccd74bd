-- What is read of a value that has its shape.
use Rattle.std.proofs.Common.{◌≡◌, ℕ, suc, ◌≤◌, ◌<◌, length, true, leb, ltb, Option, Some, None, is_some, refl, sym, ap, subst, arith}
use Rattle.std.proofs.lemmas.Bool.{and_parts, false≢true, leb-true, lt-ltb, cond-true}
use Rattle.serde_json.specs.Data.{Data, null, boolean, number, string, array, object, Items, no_items, item}
use Rattle.serde_json.specs.Events.{items_len}
use Rattle.serde_json.specs.Find.{as_array}
use Rattle.declared_names.specs.Values.{below, listed}
use Rattle.description_shapes.specs.Shape.{holds, is_within, part_count}
use Rattle.bus_semantics.specs.SoundPlan.{is_in}

pub below_is : (limit other n : ℕ) → n < limit → below limit other (Some n) ≡ n
below_is limit other n h = cond-true (ltb n limit) n other (lt-ltb n limit h)

pub number_fits : (limit other least most : ℕ) (o : Option ℕ) → holds (is_within least most) o ≡ true → most < limit → is_in least most (below limit other o) ≡ true
number_fits limit other least most None h low = absurd (false≢true h)
number_fits limit other least most (Some n) h low =
    let small : n ≤ most = leb-true n most (and_parts (leb least n) (leb n most) h).1 in
    let under : n < limit = le_lt n most limit small low in
    subst (λ m. is_in least most m ≡ true) (sym (below_is limit other n under)) h
  where
    le_lt : (a b c : ℕ) → a ≤ b → b < c → a < c
    le_lt a b c h k = omega arith

pub items_counted : (ps : Items) → length (listed ps) ≡ items_len ps
items_counted no_items = refl
items_counted (item d ps) = ap suc (items_counted ps)

pub counted_array : (least most : ℕ) (x : Data) → holds (is_within least most) (part_count x) ≡ true → is_some (as_array x) ≡ true
counted_array least most null h = absurd (false≢true h)
counted_array least most (boolean b) h = absurd (false≢true h)
counted_array least most (number n) h = absurd (false≢true h)
counted_array least most (string t) h = absurd (false≢true h)
counted_array least most (array ps) h = refl
counted_array least most (object ms) h = absurd (false≢true h)
