-- What a small value is read as has short lists.
use Rattle.std.proofs.Common.{◌≡◌, ℕ, zero, suc, ◌+◌, ◌^◌, ◌≤◌, List, [], ◌∷◌, map, length, slice_get, option_and_then, refl, ap, arith}
use Rattle.std.proofs.lemmas.List.{length-map}
use Rattle.serde_json.specs.Data.{Data, null, boolean, number, string, array, object, Items, no_items, item}
use Rattle.serde_json.specs.Find.{as_array, get_item}
use Rattle.runnable_lang.specs.Trees.{in_order}
use Rattle.declared_names.specs.Sizes.{size, items_size, IsSmall}
use Rattle.declared_names.specs.Values.{items_of, items_of_part, listed, text_of_part}
use Rattle.declared_names.proofs.Sizes.{some}
use Rattle.declared_names.specs.declared.in_component.ComponentNames.{ComponentNames}
use Rattle.declared_names.specs.declared.scopes.InterfaceNames.{InterfaceNames}
use Rattle.declared_names.specs.Names.{Names, position_in}
use Rattle.declared_names.specs.Values as values
use Rattle.program_reading.specs.declared.keywords.Keyword.{Keyword}
use Rattle.program_reading.specs.declared.keywords.Keyword.TheVariants as keyword
use Rattle.program_reading.specs.Expressions.{expr_reading}
use Rattle.program_reading.specs.Keywords.{keyword_of}
use Rattle.program_reading.specs.Programs.{program_reading}
use Rattle.program_reading.specs.Statements.{Block, Context, block, blocks, body_part, exprs_part, no_block, simple, statement, vars_part}
use Rattle.program_reading.specs.Variables.{variables_of}
use Rattle.outcome_laws.proofs.Programs.{AreShort, IsShort, IsShortBody, body_length}
use Rattle.outcome_laws.proofs.Values.{IsFew}

-- ---- the items of a part

listed_length : (ds : Items) → length (listed ds) ≤ items_size ds
listed_length no_items = omega arith
listed_length (item d ds) = omega (arith, some d, listed_length ds)

array_length : (d : Data) → length (items_of (as_array d)) ≤ size d
array_length null = omega arith
array_length (boolean b) = omega arith
array_length (number n) = omega arith
array_length (string s) = omega arith
array_length (array ds) = omega (arith, listed_length ds)
array_length (object ms) = omega arith

item_length : (i : ℕ) (ds : Items) → length (items_of (option_and_then as_array (get_item i ds))) ≤ items_size ds
item_length i no_items = omega arith
item_length zero (item d ds) = omega (arith, array_length d)
item_length (suc i) (item d ds) = omega (arith, item_length i ds)

part_length : (i : ℕ) (d : Data) → length (items_of_part i d) ≤ size d
part_length i null = omega arith
part_length i (boolean b) = omega arith
part_length i (number n) = omega arith
part_length i (string s) = omega arith
part_length i (array ds) = omega (arith, item_length i ds)
part_length i (object ms) = omega arith

module _ (c : Context) (d : Data) (small : size d ≤ 2 ^ 22) where
  few_exprs : (part : ℕ) → IsFew (exprs_part c part d)
  few_exprs part = omega (arith, length-map (items_of_part part d) (λ e. expr_reading e c.vars), part_length part d, small)

  few_vars : (part : ℕ) → IsFew (vars_part c part d)
  few_vars part = omega (arith, length-map (items_of_part part d) (λ v. position_in c.vars (values.text_in v)), part_length part d, small)

  -- ---- statements

  simple_short : (k : Keyword) → IsShort (simple k c d)
  simple_short keyword.Write = few_exprs 3
  simple_short keyword.Read = few_vars 3
  simple_short keyword.Invalidate = tt
  simple_short keyword.IsUpdated = tt
  simple_short keyword.Send = few_exprs 3
  simple_short keyword.Receive = few_vars 3
  simple_short keyword.IWrite = few_exprs 3
  simple_short keyword.IRead = few_vars 3
  simple_short keyword.IrvWrite = few_exprs 2
  simple_short keyword.IrvRead = few_vars 2
  simple_short keyword.IrvIWrite = few_exprs 2
  simple_short keyword.IrvIRead = few_vars 2
  simple_short keyword.Call = (few_exprs 3, few_vars 4)
  simple_short keyword.ACall = few_exprs 3
  simple_short keyword.TakeResult = few_vars 3
  simple_short keyword.Switch = tt
  simple_short keyword.Mode = tt
  simple_short _ = tt

module _ (c : Context) where
  -- a block, as a statement and as a body
  abbrev Shortened : Block → Type 0
  Shortened b = IsShort (b.stmt c) × IsShortBody (b.body c)

  abbrev AllShort : List Block → Type 0
  AllShort [] = Unit {0}
  AllShort (b ∷ bs) = Shortened b × AllShort bs

  part_short : (bs : List Block) → AllShort bs → (n : ℕ) → IsShortBody (body_part c (slice_get bs n))
  part_short [] all n = (omega arith, tt)
  part_short (b ∷ bs) all zero = all.0.1
  part_short (b ∷ bs) all (suc n) = part_short bs all.1 n

  statement_short : (d : Data) → size d ≤ 2 ^ 22 → (k : Keyword) (parts : List Block) → AllShort parts → IsShort (statement k c d parts)
  statement_short d small keyword.If parts all = (part_short parts all 2, part_short parts all 3)
  statement_short d small keyword.Repeat parts all = part_short parts all 2
  statement_short d small keyword.Area parts all = part_short parts all 2
  statement_short d small k parts all = simple_short c d small k

  -- statements one after the other
  each_short : (bs : List Block) → AllShort bs → AreShort (in_order (map (λ b. b.stmt c) bs))
  each_short [] all = tt
  each_short (b ∷ bs) all = (all.0.0, each_short bs all.1)

  body_long : (bs : List Block) → body_length (in_order (map (λ b. b.stmt c) bs)) ≡ length bs
  body_long [] = refl
  body_long (b ∷ bs) = ap suc (body_long bs)

  nothing : Shortened no_block
  nothing = (tt, (omega arith, tt))

  whole : (ds : Items) → 1 + items_size ds ≤ 2 ^ 22 → length (blocks ds) ≤ items_size ds → AllShort (blocks ds) → Shortened (block (array ds))
  whole ds small long all = (statement_short (array ds) small (keyword_of (text_of_part 0 (array ds))) (blocks ds) all, (omega (arith, body_long (blocks ds), long, small), each_short (blocks ds) all))

  blocks_length : (ds : Items) → length (blocks ds) ≤ items_size ds
  blocks_length no_items = omega arith
  blocks_length (item d ds) = omega (arith, some d, blocks_length ds)

  mutual
    block_short : (d : Data) → size d ≤ 2 ^ 22 → Shortened (block d)
    block_short null small = nothing
    block_short (boolean b) small = nothing
    block_short (number n) small = nothing
    block_short (string s) small = nothing
    block_short (array ds) small = whole ds small (blocks_length ds) (blocks_short ds (omega (arith, small)))
    block_short (object ms) small = nothing

    blocks_short : (ds : Items) → items_size ds ≤ 2 ^ 22 → AllShort (blocks ds)
    blocks_short no_items small = tt
    blocks_short (item d ds) small = (block_short d (omega (arith, small)), blocks_short ds (omega (arith, small)))

-- the program that a small value is read as
pub program_short : (interfaces : InterfaceNames) (names : ComponentNames) (first : Names) (d : Data) → IsSmall d → IsShortBody (program_reading interfaces names first d).body
program_short interfaces names first d small = (block_short (record { interfaces = interfaces; names = names; vars = variables_of first d }) d small.few).1
