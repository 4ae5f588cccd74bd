-- A value that was read has at most half as many values in it as its text has bytes, and one: each but the first costs a byte and
-- stands behind a comma, a colon, or an open bracket, which has to be closed.
use Rattle.std.proofs.Common.{◌≡◌, ℕ, zero, suc, ◌+◌, ◌*◌, ◌^◌, ◌≤◌, Bool, true, false, List, [], ◌∷◌, length, Option, Some, None, option_map, option_and_then, Ordering, Less, Equal}
use Rattle.std.proofs.Common.{Greater, refl, subst, arith}
use Rattle.std.specs.Prelude.{⊤}
use Rattle.std.specs.Ordering.{match_ordering}
use Rattle.json.specs.Token.{Token}
use Rattle.json.specs.Lex.{Mode, between, in_word, in_string, in_escape, Class, quote, backslash, operator, space, other, class, lex_byte, lex, Lexeme, token, comma, colon, Place, fresh}
use Rattle.json.specs.Lex.{after_value, after_comma, after_key, if_allowed, may_begin, place_token, begins_colon, punctuate, tokens}
use Rattle.json.specs.Json as json
use Rattle.serde_json.specs.Data.{Data, number, array, object, Items, item, Members, no_members, member, put}
use Rattle.serde_json.specs.Read.{number_of, of_json, of_items, of_members, max_depth, read}
use Rattle.declared_names.specs.Sizes.{size, items_size, members_size, AreFew}

-- ---- from bytes to tokens

lexed : (m : Mode) (c : Class) (x : ℕ) (xs : List ℕ) (k : Mode → List Lexeme) (n : ℕ) → ((next : Mode) → length (k next) ≤ n) → length (lex_byte m c x xs k) ≤ suc n
lexed between quote x xs k n h = omega (arith, h in_string)
lexed between backslash x xs k n h = omega (arith, h in_word)
lexed between operator x xs k n h = omega (arith, h between)
lexed between space x xs k n h = omega (arith, h between)
lexed between other x xs k n h = omega (arith, h in_word)
lexed in_word quote x xs k n h = omega (arith, h in_word)
lexed in_word backslash x xs k n h = omega (arith, h in_word)
lexed in_word operator x xs k n h = omega (arith, h between)
lexed in_word space x xs k n h = omega (arith, h between)
lexed in_word other x xs k n h = omega (arith, h in_word)
lexed in_string quote x xs k n h = omega (arith, h between)
lexed in_string backslash x xs k n h = omega (arith, h in_escape)
lexed in_string operator x xs k n h = omega (arith, h in_string)
lexed in_string space x xs k n h = omega (arith, h in_string)
lexed in_string other x xs k n h = omega (arith, h in_string)
lexed in_escape c x xs k n h = omega (arith, h in_string)

lex_short : (m : Mode) (xs : List ℕ) → length (lex m xs) ≤ length xs
unfolding lex
lex_short m [] = omega arith
lex_short m (x ∷ xs) = lexed m (class x) x xs (λ next. lex next xs) (length xs) (λ next. lex_short next xs)

-- what a token costs at least: of a bracket and its match each costs one byte, and another value one more than its own
abbrev cost : Token → ℕ
cost Token.begin_object = 1
cost Token.end_object = 1
cost Token.begin_array = 1
cost Token.end_array = 1
cost (Token.key s) = 0
cost (Token.string s) = 2
cost (Token.number s) = 2
cost (Token.boolean b) = 2
cost Token.null = 2
cost Token.bad = 0

abbrev costs : List Token → ℕ
costs [] = 0
costs (t ∷ ts) = cost t + costs ts

-- where a value may begin, the byte before it has been passed
abbrev room : Place → ℕ
room fresh = 1
room after_value = 0
room after_comma = 1
room after_key = 0

room_for : (p : Place) → may_begin p ≡ true → room p ≡ 1
room_for fresh may = refl
room_for after_value may = cc
room_for after_comma may = refl
room_for after_key may = cc

allowed : (b : Bool) (t : Token) (k : Place → List Token) (next : Place) (n : ℕ) → (b ≡ true → cost t + costs (k next) ≤ n) → costs (if_allowed b t k next) ≤ n
allowed true t k next n h = h refl
allowed false t k next n h = omega arith

placed : (p : Place) (t : Token) (b : Bool) (k : Place → List Token) (n : ℕ) → ((next : Place) → costs (k next) ≤ room next + n) → costs (place_token p t b k) ≤ room p + suc n
placed p Token.begin_object b k n h = allowed _ _ k fresh _ (λ may. omega (arith, h fresh, room_for p may))
placed p Token.end_object b k n h = allowed _ _ k after_value _ (λ may. omega (arith, h after_value))
placed p Token.begin_array b k n h = allowed _ _ k fresh _ (λ may. omega (arith, h fresh, room_for p may))
placed p Token.end_array b k n h = allowed _ _ k after_value _ (λ may. omega (arith, h after_value))
placed p (Token.key s) b k n h = omega arith
placed p (Token.string s) true k n h = allowed _ _ k after_key _ (λ may. omega (arith, h after_key, room_for p may))
placed p (Token.string s) false k n h = allowed _ _ k after_value _ (λ may. omega (arith, h after_value, room_for p may))
placed p (Token.number s) b k n h = allowed _ _ k after_value _ (λ may. omega (arith, h after_value, room_for p may))
placed p (Token.boolean t) b k n h = allowed _ _ k after_value _ (λ may. omega (arith, h after_value, room_for p may))
placed p Token.null b k n h = allowed _ _ k after_value _ (λ may. omega (arith, h after_value, room_for p may))
placed p Token.bad b k n h = omega arith

punctuated : (p : Place) (ls : List Lexeme) → costs (punctuate p ls) ≤ room p + length ls
unfolding punctuate
punctuated fresh [] = omega arith
punctuated after_value [] = omega arith
punctuated after_comma [] = omega arith
punctuated after_key [] = omega arith
punctuated fresh (token t ∷ ls) = placed fresh t (begins_colon ls) (λ next. punctuate next ls) (length ls) (λ next. punctuated next ls)
punctuated after_value (token t ∷ ls) = placed after_value t (begins_colon ls) (λ next. punctuate next ls) (length ls) (λ next. punctuated next ls)
punctuated after_comma (token t ∷ ls) = placed after_comma t (begins_colon ls) (λ next. punctuate next ls) (length ls) (λ next. punctuated next ls)
punctuated after_key (token t ∷ ls) = placed after_key t (begins_colon ls) (λ next. punctuate next ls) (length ls) (λ next. punctuated next ls)
punctuated fresh (comma ∷ ls) = omega arith
punctuated after_value (comma ∷ ls) = omega (arith, punctuated after_comma ls)
punctuated after_comma (comma ∷ ls) = omega arith
punctuated after_key (comma ∷ ls) = omega arith
punctuated fresh (colon ∷ ls) = omega arith
punctuated after_value (colon ∷ ls) = omega arith
punctuated after_comma (colon ∷ ls) = omega arith
punctuated after_key (colon ∷ ls) = omega (arith, punctuated fresh ls)

tokens_cost : (text : List ℕ) → costs (tokens text) ≤ 1 + length text
tokens_cost text = omega (arith, punctuated fresh (lex between text), lex_short between text)

-- ---- from tokens to a value

-- two for each value
abbrev mutual
  weight : json.Json → ℕ
  weight json.null = 2
  weight (json.boolean b) = 2
  weight (json.number s) = 2
  weight (json.string s) = 2
  weight (json.array js) = 2 + items_weight js
  weight (json.object ms) = 2 + members_weight ms

  items_weight : json.Items → ℕ
  items_weight json.no_items = 0
  items_weight (json.item j js) = weight j + items_weight js

  members_weight : json.Members → ℕ
  members_weight json.no_members = 0
  members_weight (json.member k j ms) = weight j + members_weight ms

-- what was read, and what is left, are no more than there was
abbrev Fits : {A : Type 0} → (A → ℕ) → ℕ → Option (A × List Token) → Type 0
Fits f n None = ⊤
Fits f n (Some p) = f p.0 + costs p.1 ≤ n

-- as a parser
abbrev Parses : {A : Type 0} → (A → ℕ) → json.Parse A → Type 0
Parses f parse = (ts : List Token) → Fits f (costs ts) (parse ts)

mapped : {A B : Type 0} (f : A → ℕ) (g : B → ℕ) (m n : ℕ) (h : A → B) → ((a : A) (l : ℕ) → f a + l ≤ m → g (h a) + l ≤ n) → (o : Option (A × List Token)) → Fits f m o → Fits g n (json.parse_map h o)
mapped f g m n h k None x = tt
mapped f g m n h k (Some p) x = k p.0 (costs p.1) x

chained : {A B : Type 0} (f : A → ℕ) (g : B → ℕ) (m n : ℕ) (h : A × List Token → Option (B × List Token)) → ((p : A × List Token) → f p.0 + costs p.1 ≤ m → Fits g n (h p)) → (o : Option (A × List Token)) → Fits f m o → Fits g n (option_and_then h o)
chained f g m n h k None x = tt
chained f g m n h k (Some p) x = k p x

-- a list ends with its bracket
abbrev items_cost : json.Items → ℕ
items_cost js = 1 + items_weight js

abbrev members_cost : json.Members → ℕ
members_cost ms = 1 + members_weight ms

abbrev key_cost : Option (List ℕ) → ℕ
key_cost None = 1
key_cost (Some k) = 0

-- what follows a bracket costs less
abbrev Shorter : ℕ → Option (List Token) → Type 0
Shorter n None = ⊤
Shorter n (Some ts) = 1 + costs ts ≤ n

after_array : (ts : List Token) → Shorter (costs ts) (json.after_end_array ts)
after_array [] = tt
after_array (Token.begin_object ∷ ts) = tt
after_array (Token.end_object ∷ ts) = tt
after_array (Token.begin_array ∷ ts) = tt
after_array (Token.end_array ∷ ts) = omega arith
after_array (Token.key s ∷ ts) = tt
after_array (Token.string s ∷ ts) = tt
after_array (Token.number s ∷ ts) = tt
after_array (Token.boolean b ∷ ts) = tt
after_array (Token.null ∷ ts) = tt
after_array (Token.bad ∷ ts) = tt

key_fits : Parses key_cost json.read_key
key_fits [] = tt
key_fits (Token.begin_object ∷ ts) = tt
key_fits (Token.end_object ∷ ts) = omega arith
key_fits (Token.begin_array ∷ ts) = tt
key_fits (Token.end_array ∷ ts) = tt
key_fits (Token.key s ∷ ts) = omega arith
key_fits (Token.string s ∷ ts) = tt
key_fits (Token.number s ∷ ts) = tt
key_fits (Token.boolean b ∷ ts) = tt
key_fits (Token.null ∷ ts) = tt
key_fits (Token.bad ∷ ts) = tt

items_stepped : (parse : json.Parse json.Json) (more : json.Parse json.Items) → Parses weight parse → Parses items_cost more → (ts : List Token) (o : Option (List Token)) → Shorter (costs ts) o → Fits items_cost (costs ts) (json.items_step parse more ts o)
items_stepped parse more v m ts (Some rest) h = omega (arith, h)
items_stepped parse more v m ts None h =
    chained weight items_cost (costs ts) (costs ts) _ (λ p x. mapped items_cost items_cost (costs p.1) (costs ts) (json.item p.0) (λ js l y. omega (arith, x, y)) (more p.1) (m p.1)) (parse ts) (v ts)

items_fit : (parse : json.Parse json.Json) (n : ℕ) → Parses weight parse → Parses items_cost (json.items parse n)
unfolding json.items
items_fit parse zero v ts = tt
items_fit parse (suc n) v ts = items_stepped parse (json.items parse n) v (items_fit parse n v) ts (json.after_end_array ts) (after_array ts)

members_stepped : (parse : json.Parse json.Json) (more : json.Parse json.Members) (k : Option (List ℕ)) (ts : List Token) (n : ℕ) → Parses weight parse → Parses members_cost more → key_cost k + costs ts ≤ n → Fits members_cost n (json.members_step parse more k ts)
members_stepped parse more None ts n v m h = omega (arith, h)
members_stepped parse more (Some k) ts n v m h =
    chained weight members_cost (costs ts) n _ (λ p x. mapped members_cost members_cost (costs p.1) n (json.member k p.0) (λ js l y. omega (arith, x, y, h)) (more p.1) (m p.1)) (parse ts) (v ts)

members_fit : (parse : json.Parse json.Json) (n : ℕ) → Parses weight parse → Parses members_cost (json.members parse n)
unfolding json.members
members_fit parse zero v ts = tt
members_fit parse (suc n) v ts =
    chained key_cost members_cost (costs ts) (costs ts) _ (λ p x. members_stepped parse (json.members parse n) p.0 p.1 (costs ts) v (members_fit parse n v) x) (json.read_key ts) (key_fits ts)

with_fits : (a : json.Parse json.Items) (o : json.Parse json.Members) → Parses items_cost a → Parses members_cost o → Parses weight (json.value_with a o)
with_fits a o i m [] = tt
with_fits a o i m (Token.begin_object ∷ ts) = mapped members_cost weight (costs ts) (1 + costs ts) json.object (λ x l y. omega (arith, y)) (o ts) (m ts)
with_fits a o i m (Token.end_object ∷ ts) = tt
with_fits a o i m (Token.begin_array ∷ ts) = mapped items_cost weight (costs ts) (1 + costs ts) json.array (λ x l y. omega (arith, y)) (a ts) (i ts)
with_fits a o i m (Token.end_array ∷ ts) = tt
with_fits a o i m (Token.key s ∷ ts) = tt
with_fits a o i m (Token.string s ∷ ts) = omega arith
with_fits a o i m (Token.number s ∷ ts) = omega arith
with_fits a o i m (Token.boolean b ∷ ts) = omega arith
with_fits a o i m (Token.null ∷ ts) = omega arith
with_fits a o i m (Token.bad ∷ ts) = tt

value_fits : (depth : ℕ) → Parses weight (json.value depth)
unfolding json.value
value_fits zero = with_fits (λ ts. None) (λ ts. None) (λ ts. tt) (λ ts. tt)
value_fits (suc depth) = with_fits _ _ (λ ts. items_fit (json.value depth) (length ts) (value_fits depth) ts) (λ ts. members_fit (json.value depth) (length ts) (value_fits depth) ts)

widened : {A : Type 0} (f : A → ℕ) (m n : ℕ) (o : Option (A × List Token)) → m ≤ n → Fits f m o → Fits f n o
widened f m n None h x = tt
widened f m n (Some p) h x = omega (arith, h, x)

-- ---- what the value stands for

abbrev AtMost : {A : Type 0} → (A → ℕ) → ℕ → Option A → Type 0
AtMost f n None = ⊤
AtMost f n (Some a) = f a ≤ n

at_most_map : {A B : Type 0} (f : A → ℕ) (g : B → ℕ) (m n : ℕ) (h : A → B) → ((a : A) → f a ≤ m → g (h a) ≤ n) → (o : Option A) → AtMost f m o → AtMost g n (option_map h o)
at_most_map f g m n h k None x = tt
at_most_map f g m n h k (Some a) x = k a x

at_most_then : {A B : Type 0} (f : A → ℕ) (g : B → ℕ) (m n : ℕ) (h : A → Option B) → ((a : A) → f a ≤ m → AtMost g n (h a)) → (o : Option A) → AtMost f m o → AtMost g n (option_and_then h o)
at_most_then f g m n h k None x = tt
at_most_then f g m n h k (Some a) x = k a x

abbrev twice : Data → ℕ
twice d = size d + size d

abbrev items_twice : Items → ℕ
items_twice ds = items_size ds + items_size ds

abbrev members_twice : Members → ℕ
members_twice ms = members_size ms + members_size ms

number_small : (o : Option _) → AtMost twice 2 (option_map number o)
number_small None = tt
number_small (Some n) = omega arith

ordered : (o : Ordering) (a b c : Members) (n : ℕ) → members_size a ≤ n → members_size b ≤ n → members_size c ≤ n → members_size (match_ordering o a b c) ≤ n
ordered Less a b c n p q r = p
ordered Equal a b c n p q r = q
ordered Greater a b c n p q r = r

pub put_small : (k : List ℕ) (d : Data) (ms : Members) → members_size (put k d ms) ≤ size d + members_size ms
put_small k d no_members = omega arith
put_small k d (member l e ms) =
    ordered _ (member k d (member l e ms)) (member l d ms) (member l e (put k d ms)) (size d + members_size (member l e ms)) (omega arith) (omega arith) (omega (arith, put_small k d ms))

mutual
  of_json_small : (j : json.Json) → AtMost twice (weight j) (of_json j)
  of_json_small json.null = omega arith
  of_json_small (json.boolean b) = omega arith
  of_json_small (json.number s) = number_small (number_of s)
  of_json_small (json.string s) = omega arith
  of_json_small (json.array js) = at_most_map items_twice twice (items_weight js) (2 + items_weight js) array (λ a x. omega (arith, x)) (of_items js) (of_items_small js)
  of_json_small (json.object ms) = at_most_map members_twice twice (members_weight ms) (2 + members_weight ms) object (λ a x. omega (arith, x)) (of_members ms no_members) (of_members_small ms no_members (members_weight ms) (omega arith))

  of_items_small : (js : json.Items) → AtMost items_twice (items_weight js) (of_items js)
  of_items_small json.no_items = omega arith
  of_items_small (json.item j js) =
      at_most_then twice items_twice (weight j) (weight j + items_weight js) _ (λ d x. at_most_map items_twice items_twice (items_weight js) (weight j + items_weight js) (item d) (λ ds y. omega (arith, x, y)) (of_items js) (of_items_small js)) (of_json j) (of_json_small j)

  of_members_small : (ms : json.Members) (found : Members) (n : ℕ) → members_weight ms + members_twice found ≤ n → AtMost members_twice n (of_members ms found)
  of_members_small json.no_members found n h = omega (arith, h)
  of_members_small (json.member name j ms) found n h =
      at_most_then twice members_twice (weight j) n _ (λ d x. of_members_small ms (put name d found) n (omega (arith, h, x, put_small name d found))) (of_json j) (of_json_small j)

last_small : (n : ℕ) (o : Option (json.Json × List Token)) → Fits weight n o → AtMost weight n (option_and_then (λ p. json.if_last p.0 p.1) o)
last_small n None h = tt
last_small n (Some (j, [])) h = omega (arith, h)
last_small n (Some (j, t ∷ r)) h = tt

more_small : (m n : ℕ) (o : Option Data) → m ≤ n → AtMost twice m o → AtMost twice n o
more_small m n None h x = tt
more_small m n (Some d) h x = omega (arith, h, x)

-- a value that was read
pub size_read : (text : List ℕ) (d : Data) → read text ≡ Some d → 2 * size d ≤ 1 + length text
size_read text d e =
    let n = 1 + length text in
    let read_tokens = widened weight (costs (tokens text)) n (json.value max_depth (tokens text)) (tokens_cost text) (value_fits max_depth (tokens text)) in
    let whole : twice d ≤ n = subst (AtMost twice n) e (at_most_then weight twice n n of_json (λ j x. more_small (weight j) n (of_json j) x (of_json_small j)) _ (last_small n (json.value max_depth (tokens text)) read_tokens)) in
    omega (arith, whole)

-- a file is read as few values
pub short_few : (bytes : List ℕ) → length bytes ≤ 2 ^ 23 → AreFew bytes
short_few bytes short = record { small = λ d is. record { few = omega (arith, size_read bytes d is, short) } }
