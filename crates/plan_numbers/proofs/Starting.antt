-- Elements stand where the sums of those before them say.
use Rattle.std.proofs.Common.{◌≡◌, ℕ, zero, suc, ◌+◌, ◌<◌, ◌≤◌, ◌^◌, List, [], ◌∷◌, ◌++◌, map, length, drop, get_or, Bool, true, false, cond, ◌&&◌, nat_eq, nat_lt, slice_get, Option, Some}
use Rattle.std.proofs.Common.{None, option_map, option_and_then, refl, sym, ap, subst, ◌∙◌, arith, add-one}
use Rattle.std.proofs.lemmas.Bool.{eq-eqb, ne_eqb, ltb-true, ltb-false}
use Rattle.std.proofs.lemmas.List.{length-append, length-map, map-append, at_drop_more, at_drop_all, append_assoc}
use Rattle.std.proofs.lemmas.List.Elements.{filter-append}
use Rattle.std.specs.Prelude.{filter}
use Rattle.std.specs.List.{position_from}
use Rattle.std.specs.Option.{option_eq, option_map_or, option_or, unwrap_or}
use Rattle.plan_definitions.specs.Common.{Component, Port, Description, Flat, Instance, Interface, InterfaceKind, SenderReceiver, ClientServer, ModeSwitch, TypeTable, Key, is_element}
use Rattle.plan_definitions.specs.Common.{key_of, keys_of, same_key, from, positions, count_at, kind_at, provides_at, root_ports, site, sites_at, sites_of_component, sites_of_instance}
use Rattle.plan_definitions.specs.Common.{sites_of_ports, sites_with, variables_of, elements_of}
use Rattle.plan_definitions.specs.declared.site.Site.{Site}
use Rattle.plan_definitions.specs.declared.site.SiteKind.{SiteKind}
use Rattle.plan_definitions.specs.declared.site.SiteKind.TheVariants.{Element, Variable, Server, Machine, ModePort}
use Rattle.plan_numbers.proofs.Finding.{position_next, slice_get_map}
use Rattle.plan_numbers.proofs.Numbering.{position_within}
use Rattle.plan_numbers.specs.Starts.{AreStarts, between, capped, capped_sums, elements_at, elements_in, elements_of_instance, elements_within, low_within, place_outside, place_within, sums, total}
use Rattle.plan_numbers.specs.declared.starts.Starts.{Starts}
use Rattle.plan_definitions.proofs.Lists.{many_positions}
use Rattle.plan_definitions.proofs.Keys.{same_number_refl}

-- ---- sums

module _ {X : Type 0} (size : X → ℕ) where
  abbrev before : List X → ℕ → ℕ
  before xs zero = 0
  before [] (suc i) = 0
  before (x ∷ xs) (suc i) = size x + before xs i

  first_sum : (n : ℕ) (xs : List X) → slice_get (sums size n xs) 0 ≡ Some n
  first_sum n [] = refl
  first_sum n (x ∷ xs) = refl

  sum_at : (n : ℕ) (xs : List X) (i : ℕ) (x : X) → slice_get xs i ≡ Some x → slice_get (sums size n xs) i ≡ Some (n + before xs i)
  sum_at n [] i x is = absurd cc
  sum_at n (y ∷ xs) zero x is = ap (λ k. Some k) (omega arith)
  sum_at n (y ∷ xs) (suc i) x is = sum_at (n + size y) xs i x is ∙ ap (λ k. Some k) (omega arith)

  last_at : (n : ℕ) (xs : List X) → slice_get (sums size n xs) (length xs) ≡ Some (n + total size xs)
  last_at n [] = ap (λ k. Some k) (omega arith)
  last_at n (x ∷ xs) = last_at (n + size x) xs ∙ ap (λ k. Some k) (omega arith)

  -- a sum and the next, where there is an item between them
  between_is : (m n : ℕ) (xs : List X) (k : ℕ)
      → between (sums size n xs) k m ≡ option_and_then (λ x. cond (nat_lt ((n + before xs k) + m) ((n + before xs k) + size x)) (Some (n + before xs k)) None) (slice_get xs k)
  between_is m n [] zero = refl
  between_is m n [] (suc k) = refl
  between_is m n (x ∷ xs) zero = ap (λ o. option_and_then (λ high. cond (nat_lt (n + m) high) (Some n) None) o) (first_sum (n + size x) xs)
      ∙ ap (λ low. cond (nat_lt (low + m) (low + size x)) (Some low) None) none
    where
      none : n ≡ n + 0
      none = omega arith
  between_is m n (x ∷ xs) (suc k) = ap (λ i. at (slice_get (n ∷ sums size (n + size x) xs) i)) (add-one (suc k)) ∙ ap (λ i. at (slice_get (sums size (n + size x) xs) i)) (sym (add-one k))
      ∙ between_is m (n + size x) xs k ∙ ap (λ low. option_and_then (λ y. cond (nat_lt (low + m) (low + size y)) (Some low) None) (slice_get xs k)) one
    where
      at : Option ℕ → Option ℕ
      at o = option_and_then (λ low. option_and_then (λ high. cond (nat_lt (low + m) high) (Some low) None) o) (slice_get (sums size (n + size x) xs) k)

      one : (n + size x) + before xs k ≡ n + (size x + before xs k)
      one = omega arith

  -- the loop that sums
  pub sums_more : (xs : List X) (whole old : List ℕ) (sum next i : ℕ) (x : X) → i < length xs → x ≡ get_or xs i x → next ≡ sum + size x → whole ≡ old ++ sums size sum (drop i xs)
      → whole ≡ (old ++ sum ∷ []) ++ sums size next (drop (i + 1) xs)
  sums_more xs whole old sum next i x within is then so_far = so_far ∙ ap (λ l. old ++ l) (at_drop_more (sums size sum) xs i x within)
      ∙ (λ j. old ++ sum ∷ sums size (sum + size (sym is j)) (drop (i + 1) xs)) ∙ (λ j. old ++ sum ∷ sums size (sym then j) (drop (i + 1) xs))
      ∙ sym (append_assoc old (sum ∷ []) (sums size next (drop (i + 1) xs)))

  pub sums_all : (xs : List X) (whole old : List ℕ) (sum i : ℕ) → length xs ≤ i → whole ≡ old ++ sums size sum (drop i xs) → whole ≡ old ++ sum ∷ []
  sums_all xs whole old sum i past so_far = so_far ∙ ap (λ l. old ++ l) (at_drop_all (sums size sum) xs i past)

  -- and the one that caps them
  pub capped_more : (xs : List X) (whole old : List ℕ) (sum next i : ℕ) (x : X) → i < length xs → x ≡ get_or xs i x → next ≡ capped (sum + size x) → whole ≡ old ++ capped_sums size sum (drop i xs)
      → whole ≡ (old ++ sum ∷ []) ++ capped_sums size next (drop (i + 1) xs)
  capped_more xs whole old sum next i x within is then so_far = so_far ∙ ap (λ l. old ++ l) (at_drop_more (capped_sums size sum) xs i x within)
      ∙ (λ j. old ++ sum ∷ capped_sums size (capped (sum + size (sym is j))) (drop (i + 1) xs)) ∙ (λ j. old ++ sum ∷ capped_sums size (sym then j) (drop (i + 1) xs))
      ∙ sym (append_assoc old (sum ∷ []) (capped_sums size next (drop (i + 1) xs)))

  pub capped_all : (xs : List X) (whole old : List ℕ) (sum i : ℕ) → length xs ≤ i → whole ≡ old ++ capped_sums size sum (drop i xs) → whole ≡ old ++ sum ∷ []
  capped_all xs whole old sum i past so_far = so_far ∙ ap (λ l. old ++ l) (at_drop_all (capped_sums size sum) xs i past)

  -- sums that 32 bits hold are the same capped
  uncapped : (n : ℕ) (xs : List X) → n + total size xs < 2 ^ 32 → capped_sums size n xs ≡ sums size n xs
  uncapped n [] fits = refl
  uncapped n (x ∷ xs) fits =
      let here : capped (n + size x) ≡ n + size x = omega (arith, fits) in
      ap (λ k. n ∷ capped_sums size k xs) here ∙ ap (λ l. n ∷ l) (uncapped (n + size x) xs (omega (arith, fits)))

  capped_last : (n : ℕ) (xs : List X) → n ≤ 4294967295 → slice_get (capped_sums size n xs) (length xs) ≡ Some (capped (n + total size xs))
  capped_last n [] least = ap (λ k. Some k) (omega (arith, least))
  capped_last n (x ∷ xs) least = capped_last (capped (n + size x)) xs (omega arith) ∙ ap (λ k. Some k) (omega arith)

  one_of_all : (xs : List X) (i : ℕ) (x : X) → slice_get xs i ≡ Some x → size x ≤ total size xs
  one_of_all [] i x is = absurd cc
  one_of_all (y ∷ xs) zero x is = let same : y ≡ x = cc in subst (λ z. size z ≤ size y + total size xs) same (omega arith)
  one_of_all (y ∷ xs) (suc i) x is = omega (arith, one_of_all xs i x is)

-- ---- positions in lists that are put together

map_zero : (o : Option ℕ) → option_map (λ p. 0 + p) o ≡ o
map_zero None = refl
map_zero (Some p) = ap (λ k. Some k) (omega arith)

or_none : (o : Option ℕ) → option_or o None ≡ o
or_none None = refl
or_none (Some p) = refl

module _ {K : Type 0} (test : K → Bool) where
  position_of_both : (xs ys : List K) → position_from test 0 (xs ++ ys) ≡ option_or (position_from test 0 xs) (option_map (λ p. length xs + p) (position_from test 0 ys))
  position_of_both [] ys = sym (map_zero (position_from test 0 ys))
  position_of_both (x ∷ xs) ys = by (position_of_both xs ys) (test x)
    where
      shift : (a b : Option ℕ) → option_map (λ p. p + 1) (option_or a (option_map (λ p. length xs + p) b)) ≡ option_or (option_map (λ p. p + 1) a) (option_map (λ p. suc (length xs) + p) b)
      shift (Some p) b = refl
      shift None None = refl
      shift None (Some q) = ap (λ k. Some k) (omega arith)

      by : position_from test 0 (xs ++ ys) ≡ option_or (position_from test 0 xs) (option_map (λ p. length xs + p) (position_from test 0 ys))
          → (b : Bool) → cond b (Some 0) (position_from test (0 + 1) (xs ++ ys)) ≡ option_or (cond b (Some 0) (position_from test (0 + 1) xs)) (option_map (λ p. suc (length xs) + p) (position_from test 0 ys))
      by rest true = refl
      by rest false = position_next test 0 (xs ++ ys) ∙ ap (option_map (λ p. p + 1)) rest ∙ shift (position_from test 0 xs) (position_from test 0 ys)
          ∙ ap (λ o. option_or o (option_map (λ p. suc (length xs) + p) (position_from test 0 ys))) (sym (position_next test 0 xs))

  -- nothing stands in the first, or in the second
  in_first : (xs ys : List K) → position_from test 0 ys ≡ None → position_from test 0 (xs ++ ys) ≡ position_from test 0 xs
  in_first xs ys none = position_of_both xs ys ∙ ap (λ o. option_or (position_from test 0 xs) (option_map (λ p. length xs + p) o)) none ∙ or_none (position_from test 0 xs)

  in_second : (xs ys : List K) → position_from test 0 xs ≡ None → position_from test 0 (xs ++ ys) ≡ option_map (λ p. length xs + p) (position_from test 0 ys)
  in_second xs ys none = position_of_both xs ys ∙ ap (λ o. option_or o (option_map (λ p. length xs + p) (position_from test 0 ys))) none

module _ {X K : Type 0} (test : K → Bool) (f : ℕ → X → List K) where
  none_in : ((j : ℕ) (x : X) → position_from test 0 (f j x) ≡ None) → (xs : List X) (n : ℕ) → position_from test 0 (from n f xs) ≡ None
  none_in none [] n = refl
  none_in none (x ∷ xs) n = in_second test (f n x) (from (n + 1) f xs) (none n x) ∙ ap (option_map (λ p. length (f n x) + p)) (none_in none xs (n + 1))

module _ {X K : Type 0} (f : ℕ → X → List K) (size : X → ℕ) (sizes : (j : ℕ) (x : X) → length (f j x) ≡ size x) where
  from_length : (xs : List X) (n : ℕ) → length (from n f xs) ≡ total size xs
  from_length [] n = refl
  from_length (x ∷ xs) n = length-append (f n x) (from (n + 1) f xs) ∙ (λ j. sizes n x j + from_length xs (n + 1) j)

  -- what stands at one place alone
  module _ (test : K → Bool) (k : ℕ) (others : (j : ℕ) (x : X) → nat_eq k j ≡ false → position_from test 0 (f j x) ≡ None) where
    later : (xs : List X) (n : ℕ) → k < n → position_from test 0 (from n f xs) ≡ None
    later [] n past = refl
    later (x ∷ xs) n past = in_second test (f n x) (from (n + 1) f xs) (others n x (ne_eqb k n (λ e. absurd (omega (arith, e, past))))) ∙ ap (option_map (λ p. length (f n x) + p)) (later xs (n + 1) (omega (arith, past)))

    block : (xs : List X) (n i : ℕ) → k ≡ n + i → position_from test 0 (from n f xs) ≡ option_and_then (λ x. option_map (λ p. before size xs i + p) (position_from test 0 (f k x))) (slice_get xs i)
    block [] n i is = refl
    block (x ∷ xs) n zero is = in_first test (f n x) (from (n + 1) f xs) (later xs (n + 1) (omega (arith, is))) ∙ ap (λ j. position_from test 0 (f j x)) here ∙ sym (map_zero (position_from test 0 (f k x)))
      where
        here : n ≡ k
        here = omega (arith, is)
    block (x ∷ xs) n (suc i) is = in_second test (f n x) (from (n + 1) f xs) (others n x (ne_eqb k n (λ e. absurd (omega (arith, e, is)))))
        ∙ (λ j. option_map (λ p. sizes n x j + p) (block xs (n + 1) i further j)) ∙ deeper (slice_get xs i)
      where
        further : k ≡ (n + 1) + i
        further = omega (arith, is)

        deepest : (o : Option ℕ) → option_map (λ p. size x + p) (option_map (λ p. before size xs i + p) o) ≡ option_map (λ p. (size x + before size xs i) + p) o
        deepest None = refl
        deepest (Some p) = ap (λ k. Some k) (omega arith)

        deeper : (o : Option X) → option_map (λ p. size x + p) (option_and_then (λ y. option_map (λ p. before size xs i + p) (position_from test 0 (f k y))) o)
            ≡ option_and_then (λ y. option_map (λ p. (size x + before size xs i) + p) (position_from test 0 (f k y))) o
        deeper None = refl
        deeper (Some y) = deepest (position_from test 0 (f k y))

-- ---- the items of a port

and_false : (b : Bool) → (b && false) ≡ false
and_false true = refl
and_false false = refl

abbrev items : (owner port : Option ℕ) → (i : ℕ) → (count : ℕ) → List Key
items owner port i count = map (λ m. (owner, port, m)) (positions i count)

items_length : (owner port : Option ℕ) (i count : ℕ) → length (items owner port i count) ≡ count
items_length owner port i count = length-map (positions i count) (λ m. (owner, port, m)) ∙ many_positions i count

no_item : (q : Key) (owner port : Option ℕ) (n i count : ℕ) → (option_eq nat_eq q.0 owner && option_eq nat_eq q.1 port) ≡ false → position_from (same_key q) n (items owner port i count) ≡ None
no_item q owner port n i zero differ = refl
no_item q owner port n i (suc count) differ = ap (λ b. cond (b && nat_eq q.2 i) (Some n) (position_from (same_key q) (n + 1) (items owner port (i + 1) count))) differ ∙ no_item q owner port (n + 1) (i + 1) count differ

module _ (owner port : Option ℕ) (m : ℕ) where
  here_is : (i : ℕ) → same_key (owner, port, m) (owner, port, i) ≡ nat_eq m i
  here_is i = λ j. (same_number_refl owner j && same_number_refl port j) && nat_eq m i

  item_in : (n i k count : ℕ) → m ≡ i + k → k < count → position_from (same_key (owner, port, m)) n (items owner port i count) ≡ Some (n + k)
  item_in n i k zero is within = absurd (omega (arith, within))
  item_in n i zero (suc count) is within = ap (λ b. cond b (Some n) (position_from (same_key (owner, port, m)) (n + 1) (items owner port (i + 1) count))) (here_is i ∙ eq-eqb m i (omega (arith, is))) ∙ ap (λ p. Some p) (omega arith)
  item_in n i (suc k) (suc count) is within = ap (λ b. cond b (Some n) (position_from (same_key (owner, port, m)) (n + 1) (items owner port (i + 1) count))) (here_is i ∙ ne_eqb m i (λ e. absurd (omega (arith, is, e))))
      ∙ item_in (n + 1) (i + 1) k count (omega (arith, is)) (omega (arith, within)) ∙ ap (λ p. Some p) (omega arith)

  item_past : (n i k count : ℕ) → m ≡ i + k → count ≤ k → position_from (same_key (owner, port, m)) n (items owner port i count) ≡ None
  item_past n i k zero is past = refl
  item_past n i zero (suc count) is past = absurd (omega (arith, past))
  item_past n i (suc k) (suc count) is past = ap (λ b. cond b (Some n) (position_from (same_key (owner, port, m)) (n + 1) (items owner port (i + 1) count))) (here_is i ∙ ne_eqb m i (λ e. absurd (omega (arith, is, e))))
      ∙ item_past (n + 1) (i + 1) k count (omega (arith, is)) (omega (arith, past))

  -- an item, where so many of its port stand behind others
  item_at : (low count : ℕ) (b : Bool) → (b ≡ true → m < count) → (b ≡ false → count ≤ m) → option_map (λ p. low + p) (position_from (same_key (owner, port, m)) 0 (items owner port 0 count)) ≡ option_map (λ l. l + m) (cond b (Some low) None)
  item_at low count true within past = ap (option_map (λ p. low + p)) (item_in 0 0 m count (omega arith) (within refl)) ∙ ap (λ p. Some p) (omega arith)
  item_at low count false within past = ap (option_map (λ p. low + p)) (item_past 0 0 m count (omega arith) (past refl))

-- ---- the keys of the elements

abbrev port_keys : TypeTable → (owner : Option ℕ) → (n : ℕ) → Port → List Key
port_keys types owner n port = items owner (Some n) 0 (elements_at types port)

abbrev ports_keys : TypeTable → (owner : Option ℕ) → List Port → List Key
ports_keys types owner ports = from 0 (port_keys types owner) ports

abbrev component_keys : TypeTable → (i : ℕ) → Component → List Key
component_keys types i c = ports_keys types (Some i) c.ports ++ items (Some i) None 0 (length c.behavior.variables)

abbrev instance_keys : Description → (i : ℕ) → Instance → List Key
instance_keys d i x = option_map_or (component_keys d.types i) (slice_get d.components x.component) []

abbrev kept : List Site → List Key
kept list = keys_of (filter (λ s. is_element s.kind) list)

kept_both : (xs ys : List Site) → kept (xs ++ ys) ≡ kept xs ++ kept ys
kept_both xs ys = ap keys_of (filter-append (λ s. is_element s.kind) xs ys) ∙ map-append key_of (filter (λ s. is_element s.kind) xs) (filter (λ s. is_element s.kind) ys)

kept_from : {X : Type 0} (f : ℕ → X → List Site) (g : ℕ → X → List Key) → ((n : ℕ) (x : X) → kept (f n x) ≡ g n x) → (xs : List X) (n : ℕ) → kept (from n f xs) ≡ from n g xs
kept_from f g same [] n = refl
kept_from f g same (x ∷ xs) n = kept_both (f n x) (from (n + 1) f xs) ∙ (λ j. same n x j ++ kept_from f g same xs (n + 1) j)

kept_all : (owner port : Option ℕ) (kind : SiteKind) → is_element kind ≡ true → (list : List ℕ) → kept (map (λ n. site owner port n kind) list) ≡ map (λ m. (owner, port, m)) list
kept_all owner port kind is [] = refl
kept_all owner port kind is (n ∷ list) = ap (λ b. keys_of (cond b (site owner port n kind ∷ filter (λ s. is_element s.kind) (map (λ n. site owner port n kind) list)) (filter (λ s. is_element s.kind) (map (λ n. site owner port n kind) list)))) is
    ∙ ap (λ rest. (owner, port, n) ∷ rest) (kept_all owner port kind is list)

kept_none : (owner port : Option ℕ) (kind : SiteKind) → is_element kind ≡ false → (list : List ℕ) → kept (map (λ n. site owner port n kind) list) ≡ []
kept_none owner port kind is [] = refl
kept_none owner port kind is (n ∷ list) = ap (λ b. keys_of (cond b (site owner port n kind ∷ filter (λ s. is_element s.kind) (map (λ n. site owner port n kind) list)) (filter (λ s. is_element s.kind) (map (λ n. site owner port n kind) list)))) is
    ∙ kept_none owner port kind is list

port_is : (types : TypeTable) (owner : Option ℕ) (n : ℕ) (port : Port) → kept (sites_at types owner n port) ≡ port_keys types owner n port
port_is types owner n port = by (slice_get types.interfaces port.interface)
  where
    mode_kind : (b : Bool) → is_element (cond b Machine ModePort) ≡ false
    mode_kind true = refl
    mode_kind false = refl

    of_kind : (kind : InterfaceKind) → kept (sites_with owner n (kind_at owner port.kind kind) (count_at owner port.kind kind)) ≡ items owner (Some n) 0 (elements_in kind)
    of_kind (SenderReceiver elements) = kept_all owner (Some n) (Element (provides_at owner port.kind)) refl (positions 0 (length elements))
    of_kind (ClientServer operations) = kept_none owner (Some n) Server refl (positions 0 (count_at owner port.kind (ClientServer operations)))
    of_kind (ModeSwitch element) = kept_none owner (Some n) (kind_at owner port.kind (ModeSwitch element)) (mode_kind (provides_at owner port.kind)) (positions 0 1)

    by : (o : Option Interface) → kept (option_map_or (λ (x : SiteKind × ℕ). sites_with owner n x.0 x.1) (option_map (λ i. (kind_at owner port.kind i.kind, count_at owner port.kind i.kind)) o) []) ≡ items owner (Some n) 0 (option_map_or (λ i. elements_in i.kind) o 0)
    by None = refl
    by (Some i) = of_kind i.kind

ports_are : (types : TypeTable) (owner : Option ℕ) (ports : List Port) → kept (sites_of_ports types owner ports) ≡ ports_keys types owner ports
ports_are types owner ports = kept_from (sites_at types owner) (port_keys types owner) (port_is types owner) ports 0

instance_is : (d : Description) (i : ℕ) (x : Instance) → kept (sites_of_instance d i x) ≡ instance_keys d i x
instance_is d i x = by (slice_get d.components x.component)
  where
    by : (o : Option Component) → kept (option_map_or (sites_of_component d.types i) o []) ≡ option_map_or (component_keys d.types i) o []
    by None = refl
    by (Some c) = kept_both (sites_of_ports d.types (Some i) c.ports) (variables_of i (length c.behavior.variables))
        ∙ (λ j. ports_are d.types (Some i) c.ports j ++ kept_all (Some i) None Variable refl (positions 0 (length c.behavior.variables)) j)

keys_are : (d : Description) (f : Flat) → keys_of (elements_of d f) ≡ from 0 (instance_keys d) f.instances ++ ports_keys d.types None (root_ports d)
keys_are d f = kept_both (from 0 (sites_of_instance d) f.instances) (sites_of_ports d.types None (root_ports d))
    ∙ (λ j. kept_from (sites_of_instance d) (instance_keys d) (instance_is d) f.instances 0 j ++ ports_are d.types None (root_ports d) j)

-- ---- where a key stands

module _ (types : TypeTable) (owner : Option ℕ) where
  port_size : (n : ℕ) (port : Port) → length (port_keys types owner n port) ≡ elements_at types port
  port_size n port = items_length owner (Some n) 0 (elements_at types port)

  ports_length : (ports : List Port) → length (ports_keys types owner ports) ≡ total (elements_at types) ports
  ports_length ports = from_length (port_keys types owner) (elements_at types) port_size ports 0

  -- of another owner, or of no port
  no_owner : (q : Key) → option_eq nat_eq q.0 owner ≡ false → (ports : List Port) → position_from (same_key q) 0 (ports_keys types owner ports) ≡ None
  no_owner q differ ports = none_in (same_key q) (port_keys types owner) (λ j port. no_item q owner (Some j) 0 0 (elements_at types port) (ap (λ b. b && option_eq nat_eq q.1 (Some j)) differ)) ports 0

  no_port : (other : Option ℕ) (m : ℕ) (ports : List Port) → position_from (same_key (other, None, m)) 0 (ports_keys types owner ports) ≡ None
  no_port other m ports = none_in (same_key (other, None, m)) (port_keys types owner) (λ j port. no_item (other, None, m) owner (Some j) 0 0 (elements_at types port) (and_false (option_eq nat_eq other owner))) ports 0

  at_port : (k m : ℕ) (ports : List Port) → position_from (same_key (owner, Some k, m)) 0 (ports_keys types owner ports) ≡ option_map (λ low. low + m) (between (sums (elements_at types) 0 ports) k m)
  at_port k m ports = block (port_keys types owner) (elements_at types) port_size (same_key (owner, Some k, m)) k other ports 0 k (omega arith)
      ∙ by (slice_get ports k) ∙ ap (option_map (λ low. low + m)) (sym (between_is (elements_at types) m 0 ports k))
    where
      other : (j : ℕ) (port : Port) → nat_eq k j ≡ false → position_from (same_key (owner, Some k, m)) 0 (port_keys types owner j port) ≡ None
      other j port differ = no_item (owner, Some k, m) owner (Some j) 0 0 (elements_at types port) (ap (λ b. option_eq nat_eq owner owner && b) differ ∙ and_false (option_eq nat_eq owner owner))

      low : ℕ
      low = before (elements_at types) ports k

      same : low ≡ 0 + low
      same = omega arith

      by : (o : Option Port) → option_and_then (λ port. option_map (λ p. low + p) (position_from (same_key (owner, Some k, m)) 0 (port_keys types owner k port))) o
          ≡ option_map (λ l. l + m) (option_and_then (λ port. cond (nat_lt ((0 + low) + m) ((0 + low) + elements_at types port)) (Some (0 + low)) None) o)
      by None = refl
      by (Some port) = item_at owner (Some k) m low (elements_at types port) (nat_lt ((0 + low) + m) ((0 + low) + elements_at types port))
          (λ yes. omega (arith, ltb-true ((0 + low) + m) ((0 + low) + elements_at types port) yes)) (λ no. omega (arith, ltb-false ((0 + low) + m) ((0 + low) + elements_at types port) no))
          ∙ ap (λ l. option_map (λ l. l + m) (cond (nat_lt ((0 + low) + m) ((0 + low) + elements_at types port)) (Some l) None)) same

module _ (types : TypeTable) (i : ℕ) (c : Component) where
  component_length : length (component_keys types i c) ≡ elements_within types c
  component_length = length-append (ports_keys types (Some i) c.ports) (items (Some i) None 0 (length c.behavior.variables))
      ∙ (λ j. ports_length types (Some i) c.ports j + items_length (Some i) None 0 (length c.behavior.variables) j)

  no_instance : (q : Key) → option_eq nat_eq q.0 (Some i) ≡ false → position_from (same_key q) 0 (component_keys types i c) ≡ None
  no_instance q differ = in_first (same_key q) (ports_keys types (Some i) c.ports) (items (Some i) None 0 (length c.behavior.variables)) (no_item q (Some i) None 0 0 (length c.behavior.variables) (ap (λ b. b && option_eq nat_eq q.1 None) differ))
      ∙ no_owner types (Some i) q differ c.ports

  in_component : (port : Option ℕ) (m : ℕ) → position_from (same_key (Some i, port, m)) 0 (component_keys types i c) ≡ option_map (λ low. low + m) (low_within (sums (elements_at types) 0 c.ports) c port m)
  in_component (Some k) m = in_first (same_key (Some i, Some k, m)) (ports_keys types (Some i) c.ports) (items (Some i) None 0 (length c.behavior.variables))
      (no_item (Some i, Some k, m) (Some i) None 0 0 (length c.behavior.variables) (and_false (option_eq nat_eq (Some i) (Some i)))) ∙ at_port types (Some i) k m c.ports
  in_component None m = in_second (same_key (Some i, None, m)) (ports_keys types (Some i) c.ports) (items (Some i) None 0 (length c.behavior.variables)) (no_port types (Some i) (Some i) m c.ports)
      ∙ ap (λ n. option_map (λ p. n + p) (position_from (same_key (Some i, None, m)) 0 (items (Some i) None 0 count))) (ports_length types (Some i) c.ports)
      ∙ item_at (Some i) None m (total (elements_at types) c.ports) count (nat_lt m count) (λ yes. ltb-true m count yes) (λ no. ltb-false m count no)
      ∙ ap (λ o. option_map (λ low. low + m) (option_and_then (λ low. cond (nat_lt m count) (Some low) None) o)) (ap (λ n. Some n) (omega arith) ∙ sym (last_at (elements_at types) 0 c.ports))
    where
      count : ℕ
      count = length c.behavior.variables

module _ (d : Description) (f : Flat) where
  instance_size : (j : ℕ) (x : Instance) → length (instance_keys d j x) ≡ elements_of_instance d x
  instance_size j x = by (slice_get d.components x.component)
    where
      by : (o : Option Component) → length (option_map_or (component_keys d.types j) o []) ≡ option_map_or (elements_within d.types) o 0
      by None = refl
      by (Some c) = component_length d.types j c

  no_such : (q : Key) (j : ℕ) (x : Instance) → option_eq nat_eq q.0 (Some j) ≡ false → position_from (same_key q) 0 (instance_keys d j x) ≡ None
  no_such q j x differ = by (slice_get d.components x.component)
    where
      by : (o : Option Component) → position_from (same_key q) 0 (option_map_or (component_keys d.types j) o []) ≡ None
      by None = refl
      by (Some c) = no_instance d.types j c q differ

  all_elements : total (elements_of_instance d) f.instances + total (elements_at d.types) (root_ports d) ≡ length (elements_of d f)
  all_elements = sym (length-append (from 0 (instance_keys d) f.instances) (ports_keys d.types None (root_ports d))
      ∙ (λ j. from_length (instance_keys d) (elements_of_instance d) instance_size f.instances 0 j + ports_length d.types None (root_ports d) j))
      ∙ ap length (sym (keys_are d f)) ∙ length-map (elements_of d f) key_of

  module _ (s : Starts) (are : AreStarts d f s) where
    -- 32 bits hold the sums of the components that instances have, and those of the root
    ports_fit : (i : ℕ) (x : Instance) → slice_get f.instances i ≡ Some x → (c : Component) → slice_get d.components x.component ≡ Some c → 0 + total (elements_at d.types) c.ports < 2 ^ 32
    ports_fit i x is c of =
        let own : elements_of_instance d x ≡ elements_within d.types c = ap (λ o. option_map_or (elements_within d.types) o 0) of in
        omega (arith, own, one_of_all (elements_of_instance d) f.instances i x is, all_elements, are.of_all, are.few)

    root_is : s.root ≡ sums (elements_at d.types) 0 (root_ports d)
    root_is = are.of_root ∙ uncapped (elements_at d.types) 0 (root_ports d) (omega (arith, all_elements, are.of_all, are.few))

    within : (i : ℕ) (port : Option ℕ) (m : ℕ) → position_from (same_key (Some i, port, m)) 0 (from 0 (instance_keys d) f.instances) ≡ place_within d f s i port m
    within i port m = block (instance_keys d) (elements_of_instance d) instance_size (same_key (Some i, port, m)) i (λ j x differ. no_such (Some i, port, m) j x differ) f.instances 0 i (omega arith)
        ∙ by (slice_get f.instances i) refl
      where
        low : ℕ
        low = before (elements_of_instance d) f.instances i

        shifted : (o : Option ℕ) → option_map (λ p. low + p) (option_map (λ l. l + m) o) ≡ option_map (λ l. ((0 + low) + l) + m) o
        shifted None = refl
        shifted (Some l) = ap (λ k. Some k) (omega arith)

        found : (c : Component) (start : Option ℕ) (list : Option (List ℕ)) → start ≡ Some (0 + low) → list ≡ Some (sums (elements_at d.types) 0 c.ports)
            → option_map (λ p. low + p) (position_from (same_key (Some i, port, m)) 0 (component_keys d.types i c))
            ≡ option_and_then (λ l. option_and_then (λ start. option_map (λ low. (start + low) + m) (low_within l c port m)) start) list
        found c start list starts lists = ap (option_map (λ p. low + p)) (in_component d.types i c port m) ∙ shifted (low_within (sums (elements_at d.types) 0 c.ports) c port m)
            ∙ (λ j. option_and_then (λ l. option_and_then (λ start. option_map (λ low. (start + low) + m) (low_within l c port m)) (sym starts j)) (sym lists j))

        in_instance : (x : Instance) → slice_get f.instances i ≡ Some x → (o : Option Component) → slice_get d.components x.component ≡ o
            → option_map (λ p. low + p) (position_from (same_key (Some i, port, m)) 0 (option_map_or (component_keys d.types i) o []))
            ≡ option_and_then (λ c. option_and_then (λ list. option_and_then (λ start. option_map (λ low. (start + low) + m) (low_within list c port m)) (slice_get s.instances i)) (slice_get s.components x.component)) o
        in_instance x is None of = refl
        in_instance x is (Some c) of = found c (slice_get s.instances i) (slice_get s.components x.component)
            (ap (λ l. slice_get l i) are.of_instances ∙ sum_at (elements_of_instance d) 0 f.instances i x is)
            (ap (λ l. slice_get l x.component) are.of_components ∙ slice_get_map (λ c. capped_sums (elements_at d.types) 0 c.ports) d.components x.component
            ∙ ap (option_map (λ c. capped_sums (elements_at d.types) 0 c.ports)) of ∙ ap (λ l. Some l) (uncapped (elements_at d.types) 0 c.ports (ports_fit i x is c of)))

        by : (o : Option Instance) → slice_get f.instances i ≡ o → option_and_then (λ x. option_map (λ p. low + p) (position_from (same_key (Some i, port, m)) 0 (instance_keys d i x))) o
            ≡ option_and_then (λ x. option_and_then (λ c. option_and_then (λ list. option_and_then (λ start. option_map (λ low. (start + low) + m) (low_within list c port m)) (slice_get s.instances i)) (slice_get s.components x.component)) (slice_get d.components x.component)) o
        by None is = refl
        by (Some x) is = in_instance x is (slice_get d.components x.component) refl

    found_within : (i : ℕ) (port : Option ℕ) (m : ℕ) (place : Option ℕ) → place ≡ place_within d f s i port m → place ≡ position_from (same_key (Some i, port, m)) 0 (keys_of (elements_of d f))
    found_within i port m place is = is ∙ sym (within i port m)
        ∙ sym (in_first (same_key (Some i, port, m)) (from 0 (instance_keys d) f.instances) (ports_keys d.types None (root_ports d)) (no_owner d.types None (Some i, port, m) refl (root_ports d)))
        ∙ ap (position_from (same_key (Some i, port, m)) 0) (sym (keys_are d f))

    pub key_within : (key : Key) (i : ℕ) (place : Option ℕ) → key.0 ≡ Some i → place ≡ place_within d f s i key.1 key.2 → place ≡ position_from (same_key key) 0 (keys_of (elements_of d f))
    key_within key i place is found = found_within i key.1 key.2 place found ∙ ap (λ o. position_from (same_key (o, key.1, key.2)) 0 (keys_of (elements_of d f))) (sym is)

    outside : (port : Option ℕ) (m : ℕ) → option_map (λ p. total (elements_of_instance d) f.instances + p) (position_from (same_key (None, port, m)) 0 (ports_keys d.types None (root_ports d))) ≡ place_outside f s port m
    outside None m = ap (option_map (λ p. total (elements_of_instance d) f.instances + p)) (no_port d.types None None m (root_ports d))
    outside (Some k) m = ap (option_map (λ p. low + p)) (at_port d.types None k m (root_ports d)) ∙ shifted (between (sums (elements_at d.types) 0 (root_ports d)) k m)
        ∙ (λ j. option_and_then (λ start. option_map (λ low. (start + low) + m) (between (sym root_is j) k m)) (sym starts j))
      where
        low : ℕ
        low = total (elements_of_instance d) f.instances

        shifted : (o : Option ℕ) → option_map (λ p. low + p) (option_map (λ l. l + m) o) ≡ option_map (λ l. ((0 + low) + l) + m) o
        shifted None = refl
        shifted (Some l) = ap (λ k. Some k) (omega arith)

        starts : slice_get s.instances (length f.instances) ≡ Some (0 + low)
        starts = ap (λ l. slice_get l (length f.instances)) are.of_instances ∙ last_at (elements_of_instance d) 0 f.instances

    found_outside : (port : Option ℕ) (m : ℕ) (place : Option ℕ) → place ≡ place_outside f s port m → place ≡ position_from (same_key (None, port, m)) 0 (keys_of (elements_of d f))
    found_outside port m place is = is ∙ sym (outside port m)
        ∙ ap (λ n. option_map (λ p. n + p) (position_from (same_key (None, port, m)) 0 (ports_keys d.types None (root_ports d)))) (sym (from_length (instance_keys d) (elements_of_instance d) instance_size f.instances 0))
        ∙ sym (in_second (same_key (None, port, m)) (from 0 (instance_keys d) f.instances) (ports_keys d.types None (root_ports d)) (none_in (same_key (None, port, m)) (instance_keys d) (λ j x. no_such (None, port, m) j x refl) f.instances 0))
        ∙ ap (position_from (same_key (None, port, m)) 0) (sym (keys_are d f))

    pub key_outside : (key : Key) (place : Option ℕ) → key.0 ≡ None → place ≡ place_outside f s key.1 key.2 → place ≡ position_from (same_key key) 0 (keys_of (elements_of d f))
    key_outside key place is found = found_outside key.1 key.2 place found ∙ ap (λ o. position_from (same_key (o, key.1, key.2)) 0 (keys_of (elements_of d f))) (sym is)

-- a place is a number of 32 bits where there are not more elements
pub place_fits : (d : Description) (f : Flat) (key : Key) (p count : ℕ) → count ≡ length (elements_of d f) → count < 2 ^ 32 → position_from (same_key key) 0 (keys_of (elements_of d f)) ≡ Some p → p < 2 ^ 32
place_fits d f key p count is fits found =
    let within : p < 0 + length (keys_of (elements_of d f)) = position_within (same_key key) 0 (keys_of (elements_of d f)) p found in
    let keys : length (keys_of (elements_of d f)) ≡ length (elements_of d f) = length-map (elements_of d f) key_of in
    omega (arith, within, keys, is, fits)

-- the last sum is how many there are, where 32 bits hold it
pub last_sum : (types : TypeTable) (ports : List Port) (list : List ℕ) → list ≡ capped_sums (elements_at types) 0 ports → total (elements_at types) ports < 2 ^ 32 → unwrap_or (slice_get list (length ports)) 0 ≡ total (elements_at types) ports
last_sum types ports list are fits = ap (λ l. unwrap_or (slice_get l (length ports)) 0) are ∙ ap (λ o. unwrap_or o 0) (capped_last (elements_at types) 0 ports (omega arith)) ∙ uncapped_sum
  where
    uncapped_sum : capped (0 + total (elements_at types) ports) ≡ total (elements_at types) ports
    uncapped_sum = omega (arith, fits)

-- 32 bits hold what the instances have, where they hold all
pub instances_fit : (d : Description) (f : Flat) (instances : List Instance) (count : ℕ) → instances ≡ f.instances → count ≡ length (elements_of d f) → count < 2 ^ 32 → total (elements_of_instance d) instances < 2 ^ 32
instances_fit d f instances count same is fits = subst (λ xs. total (elements_of_instance d) xs < 2 ^ 32) (sym same) (omega (arith, all_elements d f, is, fits))
