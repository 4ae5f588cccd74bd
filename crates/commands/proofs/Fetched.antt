-- Fetching one file after the other.
use Rattle.std.proofs.Common.{◌≡◌, ℕ, ◌+◌, ◌<◌, ◌≤◌, List, [], ◌∷◌, ◌++◌, length, map, take, get_or, slice_get, option_map, Some, None, refl, sym, ap, ◌∙◌, subst, arith}
use Rattle.std.proofs.lemmas.List.{length-map, length-take-le, map-append, take_all, take_more}
use Rattle.std.proofs.lemmas.Option.{slice_get-get_or, slice_get-map}
use Rattle.rte_text.specs.Shelves.{ToldFiles, HeldWhereTold, ShelfCounts}
use Rattle.commands.specs.declared.stop.Stop.{Stop}
use Rattle.commands.specs.declared.stop.Stop.TheVariants as stop
use Rattle.commands.specs.Commands.{Bytes}
use Rattle.commands.specs.Fetching.{AreFetched, AreFetchedSo, AreHeldWhereTold, AreWithin, IsFetched, IsOneUnfetched, IsUnfetched, IsUnread}

held_more : (told : ToldFiles) (names files : List Bytes) (name file : Bytes) → AreHeldWhereTold told names files → HeldWhereTold told name file
    → AreHeldWhereTold told (names ++ name ∷ []) (files ++ file ∷ [])
held_more told [] [] name file all one = (one, tt)
held_more told (n ∷ names) (f ∷ files) name file all one = (all.0, held_more told names files name file all.1 one)
held_more told [] (f ∷ files) name file all one = absurd all
held_more told (n ∷ names) [] name file all one = absurd all

within_more : (files : List Bytes) (file : Bytes) → AreWithin files → length file ≤ 8388608 → AreWithin (files ++ file ∷ [])
within_more [] file all one = (one, tt)
within_more (f ∷ files) file all one = (all.0, within_more files file all.1 one)

fetched_more : (told : ToldFiles) (m n after k : ℕ) → k < 256 → AreFetched told m n k → IsFetched told n after → AreFetched told m after (k + 1)
fetched_more None m n after k few so one = tt
fetched_more (Some held) m n after k few so one = λ below.
    let now : n ≡ m + k = so below in
    let next : after ≡ n + 1 = one (omega (arith, below, now, few)) in
    omega (arith, now, next)

pub none_yet : (told : ToldFiles) (b : ShelfCounts) (m : ℕ) → AreFetchedSo told [] [] b b m m
none_yet told b m = record { held = tt; within = tt; counts = refl; fetched = by told }
  where
    by : (t : ToldFiles) → AreFetched t m m 0
    by None = tt
    by (Some held) = λ below. omega arith

pub one_more : (told : ToldFiles) (names files : List Bytes) (b a c : ShelfCounts) (m n k : ℕ) (name file : Bytes) → length names < 255
    → AreFetchedSo told names files b a m n → HeldWhereTold told name file → length file ≤ 8388608 → c ≡ a → IsFetched told n k
    → AreFetchedSo told (names ++ name ∷ []) (files ++ file ∷ []) b c m k
one_more told names files b a c m n k name file few so held within same one = record {
  held = held_more told names files name file so.held held;
  within = within_more files file so.within within;
  counts = same ∙ so.counts;
  fetched = subst (AreFetched told m k) (sym (counted names)) (fetched_more told m n k (length names) (omega (arith, few)) so.fetched one);
}
  where
    counted : (ns : List Bytes) → length (ns ++ name ∷ []) ≡ length ns + 1
    counted [] = refl
    counted (x ∷ ns) = omega (arith, counted ns)

pub not_one : (told : ToldFiles) (names files before : List Bytes) (b a c : ShelfCounts) (m n k place : ℕ) (name : Bytes) → length before < 255 → slice_get names (length before) ≡ Some name → place ≡ length before + 1
    → AreFetchedSo told before files b a m n → IsFetched told n k → (why : Stop) → IsOneUnfetched told name place a c why → IsUnfetched told names b c m k why
not_one told names files before b a c m n k place name few is at so one (stop.NotRead p) unread = (
  record { index = length before; place_is = unread.0 ∙ at; name = name; name_is = is; unread = subst (λ (x : ShelfCounts). IsUnread told name x c) so.counts unread.1 },
  subst (AreFetched told m k) (sym (unread.0 ∙ at)) (fetched_more told m n k (length before) (omega (arith, few)) so.fetched one),
)
not_one told names files before b a c m n k place name few is at so one stop.Memory same = same ∙ so.counts
not_one told names files before b a c m n k place name few is at so one stop.Words unread = absurd unread
not_one told names files before b a c m n k place name few is at so one (stop.Found finding) unread = absurd unread

-- ---- over a list of names and the files so far

module _ {X Y : Type 0} (seen : X → Bytes) (held : Y → Bytes) (told here : ToldFiles) (same : here ≡ told) (b a c : ShelfCounts) (m n k : ℕ) (xs : List X) (i : ℕ) (d : X) (files : List Y) (within : i < length xs) (few : length xs < 256)
    (so : AreFetchedSo told (map seen (take i xs)) (map held files) b a m n) (one : IsFetched here n k) where
  counted : length (map seen (take i xs)) ≡ i
  counted = length-map (take i xs) seen ∙ length-take-le i xs (omega (arith, within))

  pub next : (file : Y) → HeldWhereTold here (seen (get_or xs i d)) (held file) → length (held file) ≤ 8388608 → c ≡ a → AreFetchedSo told (map seen (take (i + 1) xs)) (map held (files ++ file ∷ [])) b c m k
  next file is fits quiet =
      let names : map seen (take (i + 1) xs) ≡ map seen (take i xs) ++ seen (get_or xs i d) ∷ [] = ap (map seen) (take_more xs i d within) ∙ map-append seen (take i xs) (get_or xs i d ∷ []) in
      let grown : map held (files ++ file ∷ []) ≡ map held files ++ held file ∷ [] = map-append held files (file ∷ []) in
      rw (names, grown) (one_more told (map seen (take i xs)) (map held files) b a c m n k (seen (get_or xs i d)) (held file) (omega (arith, counted, within, few)) so
      (subst (λ t. HeldWhereTold t (seen (get_or xs i d)) (held file)) same is) fits quiet (subst (λ t. IsFetched t n k) same one))

  pub none : (place : ℕ) → place ≡ i + 1 → (why : Stop) → IsOneUnfetched here (seen (get_or xs i d)) place a c why → IsUnfetched told (map seen xs) b c m k why
  none place at why unread =
      let is : slice_get (map seen xs) (length (map seen (take i xs))) ≡ Some (seen (get_or xs i d)) = ap (slice_get (map seen xs)) counted ∙ slice_get-map seen xs i ∙ ap (option_map seen) (slice_get-get_or xs i d within) in
      not_one told (map seen xs) (map held files) (map seen (take i xs)) b a c m n k place (seen (get_or xs i d)) (omega (arith, counted, within, few)) is (omega (arith, at, counted)) so (subst (λ t. IsFetched t n k) same one) why
      (subst (λ t. IsOneUnfetched t (seen (get_or xs i d)) place a c why) same unread)

-- behind the last one
pub all : {X Y : Type 0} → (seen : X → Bytes) (held : Y → Bytes) (told : ToldFiles) (xs : List X) (i : ℕ) (files : List Y) → length xs ≤ i → AreHeldWhereTold told (map seen (take i xs)) (map held files) → AreHeldWhereTold told (map seen xs) (map held files)
all seen held told xs i files past so = subst (λ ys. AreHeldWhereTold told (map seen ys) (map held files)) (take_all i xs past) so
