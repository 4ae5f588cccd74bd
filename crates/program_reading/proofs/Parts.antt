-- The parts of an array, as what they are read as.
use Rattle.std.proofs.Common.{◌≡◌, ℕ, ◌<◌, ◌≤◌, pos, List, [], ◌∷◌, map, length, get_or, slice_get, Option, option_map, refl, sym, ap, ◌∙◌}
use Rattle.std.proofs.lemmas.Option.{slice_get-get_or, slice_get-map, slice_get_past}
use Rattle.runnable_lang.specs.Trees.{constant, done}
use Rattle.serde_json.specs.View.{view, items_view}
use Rattle.serde_json.specs.declared.value.Value.{Value}
use Rattle.program_reading.specs.Expressions.{expr_of, expr_reading, expr_readings}
use Rattle.declared_names.specs.Names.{Names}
use Rattle.program_reading.specs.Statements.{Context, block, blocks, body_part}

exprs_are : (vs : List Value) → expr_readings (items_view vs) ≡ map (λ v. expr_reading (view v)) vs
exprs_are [] = refl
exprs_are (v ∷ vs) = ap (λ rs. expr_reading (view v) ∷ rs) (exprs_are vs)

pub expr_there : (vars : Names) (vs : List Value) (i : ℕ) (v : Value) → i < length vs → v ≡ get_or vs i v → expr_of vars (slice_get (expr_readings (items_view vs)) i) ≡ expr_reading (view v) vars
expr_there vars vs i v h is =
    ap (λ rs. expr_of vars (slice_get rs i)) (exprs_are vs)
    ∙ ap (expr_of vars) (slice_get-map (λ x. expr_reading (view x)) vs i ∙ ap (λ (o : Option Value). option_map (λ x. expr_reading (view x)) o) (slice_get-get_or vs i v h))
    ∙ ap (λ x. expr_reading (view x) vars) (sym is)

pub expr_past : (vars : Names) (vs : List Value) (i : ℕ) → length vs ≤ i → expr_of vars (slice_get (expr_readings (items_view vs)) i) ≡ constant (pos 0)
expr_past vars vs i h =
    ap (λ rs. expr_of vars (slice_get rs i)) (exprs_are vs)
    ∙ ap (expr_of vars) (slice_get-map (λ x. expr_reading (view x)) vs i ∙ ap (λ (o : Option Value). option_map (λ x. expr_reading (view x)) o) (slice_get_past vs i h))

-- the same of statements
blocks_are : (vs : List Value) → blocks (items_view vs) ≡ map (λ v. block (view v)) vs
blocks_are [] = refl
blocks_are (v ∷ vs) = ap (λ bs. block (view v) ∷ bs) (blocks_are vs)

pub body_there : (c : Context) (vs : List Value) (i : ℕ) (v : Value) → i < length vs → v ≡ get_or vs i v → body_part c (slice_get (blocks (items_view vs)) i) ≡ (block (view v)).body c
body_there c vs i v h is =
    ap (λ bs. body_part c (slice_get bs i)) (blocks_are vs)
    ∙ ap (body_part c) (slice_get-map (λ x. block (view x)) vs i ∙ ap (λ (o : Option Value). option_map (λ x. block (view x)) o) (slice_get-get_or vs i v h))
    ∙ ap (λ x. (block (view x)).body c) (sym is)

pub body_past : (c : Context) (vs : List Value) (i : ℕ) → length vs ≤ i → body_part c (slice_get (blocks (items_view vs)) i) ≡ done
body_past c vs i h =
    ap (λ bs. body_part c (slice_get bs i)) (blocks_are vs)
    ∙ ap (body_part c) (slice_get-map (λ x. block (view x)) vs i ∙ ap (λ (o : Option Value). option_map (λ x. block (view x)) o) (slice_get_past vs i h))

pub stmts_are : (c : Context) (vs : List Value) → map (λ b. b.stmt c) (blocks (items_view vs)) ≡ map (λ v. (block (view v)).stmt c) vs
stmts_are c [] = refl
stmts_are c (v ∷ vs) = ap (λ ss. (block (view v)).stmt c ∷ ss) (stmts_are c vs)
