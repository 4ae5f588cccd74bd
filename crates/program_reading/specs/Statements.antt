-- What the statements of a program are read as.
use Rattle.std.specs.Prelude.{ℕ, ◌^◌, pos, List, [], ◌∷◌, map, slice_get, Option, Some, None}
use Rattle.serde_json.specs.Data.{Data, null, boolean, number, string, array, object, Items, no_items, item}
use Rattle.serde_json.specs.Find.{at}
use Rattle.runnable_lang.specs.Trees.{ExprTree, constant, StmtTree, sets, chooses, repeats, in_area, writes, reads, invalidates, asks_updated, sends, receives, writes_late, reads_early}
use Rattle.runnable_lang.specs.Trees.{writes_variable, reads_variable, writes_variable_late, reads_variable_early, calls, calls_and_goes_on, takes_result, switches, asks_mode, BodyTree}
use Rattle.runnable_lang.specs.Trees.{done, in_order}
use Rattle.declared_names.specs.declared.in_component.ComponentNames.{ComponentNames}
use Rattle.program_reading.specs.declared.in_program.InProgram.{InProgram}
use Rattle.program_reading.specs.declared.keywords.Keyword.{Keyword}
use Rattle.program_reading.specs.declared.keywords.Keyword.TheVariants as keyword
use Rattle.declared_names.specs.declared.scopes.InterfaceNames.{InterfaceNames}
use Rattle.declared_names.specs.Components.{item_in, mode_in}
use Rattle.program_reading.specs.Expressions.{expr_reading}
use Rattle.program_reading.specs.Keywords.{keyword_of}
use Rattle.declared_names.specs.Names.{Names, position_in}
use Rattle.declared_names.specs.Values.{items_of_part, number_of_part, text_in, text_of_part}

-- what the names of a program refer to
pub record Context : Type 0 where
  pub interfaces : InterfaceNames
  pub names : ComponentNames
  pub vars : Names

abbrev pub context_of : InProgram → Context
context_of p = record { interfaces = p.component.interfaces.now; names = p.component.names.now; vars = p.vars.now }

-- the parts of a statement: a port, an item, a mode, an area or a variable of the component by its name, a variable of the program, and lists of expressions and of variables
abbrev pub port_part : Context → Data → ℕ
port_part c d = position_in c.names.ports (text_of_part 1 d)

abbrev pub item_part : Context → Data → ℕ
item_part c d = item_in c.interfaces c.names (port_part c d) (text_of_part 2 d)

abbrev pub mode_part : Context → Data → ℕ
mode_part c d = mode_in c.interfaces c.names (port_part c d) (text_of_part 2 d)

abbrev pub area_part : Context → Data → ℕ
area_part c d = position_in c.names.areas (text_of_part 1 d)

abbrev pub variable_part : Context → Data → ℕ
variable_part c d = position_in c.names.variables (text_of_part 1 d)

abbrev pub var_part : Context → (part : ℕ) → Data → ℕ
var_part c part d = position_in c.vars (text_of_part part d)

abbrev pub vars_part : Context → (part : ℕ) → Data → List ℕ
vars_part c part d = map (λ v. position_in c.vars (text_in v)) (items_of_part part d)

abbrev pub expr_seen : Names → Option Data → ExprTree
expr_seen vars None = constant (pos 0)
expr_seen vars (Some d) = expr_reading d vars

abbrev pub expr_part : Context → (part : ℕ) → Data → ExprTree
expr_part c part d = expr_seen c.vars (at part d)

abbrev pub exprs_part : Context → (part : ℕ) → Data → List ExprTree
exprs_part c part d = map (λ e. expr_reading e c.vars) (items_of_part part d)

abbrev pub times_part : Data → ℕ
times_part d = number_of_part (2 ^ 32) 0 1 d

-- the statement of a keyword that holds no others
abbrev pub simple : Keyword → Context → Data → StmtTree
simple keyword.Write c d = writes (port_part c d) (item_part c d) (exprs_part c 3 d) (var_part c 4 d)
simple keyword.Read c d = reads (port_part c d) (item_part c d) (vars_part c 3 d) (var_part c 4 d)
simple keyword.Invalidate c d = invalidates (port_part c d) (item_part c d) (var_part c 3 d)
simple keyword.IsUpdated c d = asks_updated (port_part c d) (item_part c d) (var_part c 3 d)
simple keyword.Send c d = sends (port_part c d) (item_part c d) (exprs_part c 3 d) (var_part c 4 d)
simple keyword.Receive c d = receives (port_part c d) (item_part c d) (vars_part c 3 d) (var_part c 4 d)
simple keyword.IWrite c d = writes_late (port_part c d) (item_part c d) (exprs_part c 3 d)
simple keyword.IRead c d = reads_early (port_part c d) (item_part c d) (vars_part c 3 d)
simple keyword.IrvWrite c d = writes_variable (variable_part c d) (exprs_part c 2 d)
simple keyword.IrvRead c d = reads_variable (variable_part c d) (vars_part c 2 d)
simple keyword.IrvIWrite c d = writes_variable_late (variable_part c d) (exprs_part c 2 d)
simple keyword.IrvIRead c d = reads_variable_early (variable_part c d) (vars_part c 2 d)
simple keyword.Call c d = calls (port_part c d) (item_part c d) (exprs_part c 3 d) (vars_part c 4 d) (var_part c 5 d)
simple keyword.ACall c d = calls_and_goes_on (port_part c d) (item_part c d) (exprs_part c 3 d) (var_part c 4 d)
simple keyword.TakeResult c d = takes_result (port_part c d) (item_part c d) (vars_part c 3 d) (var_part c 4 d)
simple keyword.Switch c d = switches (port_part c d) (mode_part c d) (var_part c 3 d)
simple keyword.Mode c d = asks_mode (port_part c d) (var_part c 2 d)
simple _ c d = sets (var_part c 1 d) (expr_part c 2 d)

-- what a value is as a statement, and as a list of them
pub record Block : Type 0 where
  pub stmt : Context → StmtTree
  pub body : Context → BodyTree

-- the body that a part is
abbrev pub body_part : Context → Option Block → BodyTree
body_part c None = done
body_part c (Some b) = b.body c

-- the statement of a keyword, from what its parts are
abbrev pub statement : Keyword → Context → Data → List Block → StmtTree
statement keyword.If c d parts = chooses (expr_part c 1 d) (body_part c (slice_get parts 2)) (body_part c (slice_get parts 3))
statement keyword.Repeat c d parts = repeats (times_part d) (body_part c (slice_get parts 2))
statement keyword.Area c d parts = in_area (area_part c d) (body_part c (slice_get parts 2))
statement k c d parts = simple k c d

abbrev pub no_block : Block
no_block = record { stmt = λ c. sets 0 (constant (pos 0)); body = λ c. done }

abbrev mutual
  pub block : Data → Block
  block null = no_block
  block (boolean b) = no_block
  block (number n) = no_block
  block (string t) = no_block
  block (array ds) = record {
    stmt = λ c. statement (keyword_of (text_of_part 0 (array ds))) c (array ds) (blocks ds);
    body = λ c. in_order (map (λ b. b.stmt c) (blocks ds));
  }
  block (object ms) = no_block

  pub blocks : Items → List Block
  blocks no_items = []
  blocks (item d ds) = block d ∷ blocks ds
