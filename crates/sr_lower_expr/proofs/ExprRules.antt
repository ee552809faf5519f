-- What is made of what exists exists: a rule for each construct of the core.
use Rattle.std.proofs.Common.{◌≡◌, ℕ, ◌<◌, Bool, ◌&&◌, List, [], ◌∷◌, ◌++◌, Option, map, length, IsTrue, refl, sym, ap, ◌∙◌}
use Rattle.std.proofs.lemmas.Bool.{and_from, and_parts, lt-ltb}
use Rattle.std.proofs.lemmas.List.Folds.{list_all-append, list_all-map}
use Rattle.std.specs.List.{list_all}
use Rattle.sr_value.specs.declared.shape.Shape.{Shape}
use Rattle.sr_value.specs.declared.operator.Operator.{Operator}
use Rattle.sr_core.specs.declared.expression.Argument.TheFolds.{fold-Step, fold-Part, fold-Reading, fold-roll-Argument, fold-roll-Expr, fold-roll-Part, fold-roll-PlaceExpr, fold-roll-Reading, fold-roll-Step, fold_out-PlaceExpr, map-Argument, map-Expr, map-Part, map-Step}
use Rattle.sr_core.specs.declared.expression.Argument.TheOpen.{Argument-F, Expr-F, Part-F, Step-F}
use Rattle.sr_core.specs.declared.expression.Argument.{Argument, roll-Argument}
use Rattle.sr_core.specs.declared.expression.Argument.TheVariants as argument
use Rattle.sr_core.specs.declared.expression.Expr.{Expr, roll-Expr}
use Rattle.sr_core.specs.declared.expression.Expr.TheVariants as core
use Rattle.sr_core.specs.declared.expression.Function.{Function}
use Rattle.sr_core.specs.declared.expression.Leaf.{Leaf}
use Rattle.sr_core.specs.declared.expression.Part.{Part, roll-Part}
use Rattle.sr_core.specs.declared.expression.Part.TheVariants as part
use Rattle.sr_core.specs.declared.expression.PlaceExpr.{PlaceExpr, out-PlaceExpr, roll-PlaceExpr}
use Rattle.sr_core.specs.declared.expression.Readable.{Readable}
use Rattle.sr_core.specs.declared.expression.Reading.{Reading, roll-Reading}
use Rattle.sr_core.specs.declared.expression.Step.{Step, roll-Step}
use Rattle.sr_core.specs.declared.expression.Step.TheVariants as step
use Rattle.sr_core.specs.declared.owner.Root.{Root}
use Rattle.sr_core.specs.Numbers.{Test, Where, argument_exists, argument_ok, expr_ok, leaf_exists, node_exists, part_exists, place_exists, place_ok, reading_exists, root_exists, step_exists}

abbrev pub step_ok : Step → Test
step_ok = fold-Step Test Test Test Test Test Test argument_exists node_exists part_exists step_exists place_exists reading_exists

abbrev pub part_ok : Part → Test
part_ok = fold-Part Test Test Test Test Test Test argument_exists node_exists part_exists step_exists place_exists reading_exists

abbrev pub reading_ok : Reading → Test
reading_ok = fold-Reading Test Test Test Test Test Test argument_exists node_exists part_exists step_exists place_exists reading_exists

module _ (at : Where) where
  -- ---- lists: each passes its test

  passes : {A : Type 0} (test : A → Test) (things : List A) → IsTrue (list_all (λ thing. test thing at) things) → IsTrue (list_all (λ (one : Test). one at) (map test things))
  passes test things all = list_all-map (λ (one : Test). one at) test things ∙ all

  -- ---- expressions

  abbrev node_of : Expr-F Argument Expr Part Step PlaceExpr Reading → Bool
  node_of node = node_exists (map-Expr Argument Expr Part Step PlaceExpr Reading Test Test Test Test Test Test argument_ok expr_ok part_ok step_ok place_ok reading_ok node) at

  rolled : (node : Expr-F Argument Expr Part Step PlaceExpr Reading) (expr : Expr) → roll-Expr node ≡ expr → IsTrue (node_of node) → IsTrue (expr_ok expr at)
  rolled node expr is ok =
      ap (λ (one : Expr). expr_ok one at) (sym is)
      ∙ ap (λ (test : Test). test at) (fold-roll-Expr Test Test Test Test Test Test argument_exists node_exists part_exists step_exists place_exists reading_exists node)
      ∙ ok

  pub leaf_rule : (leaf : Leaf) → IsTrue (leaf_exists leaf at) → IsTrue (expr_ok (core.Leaf leaf) at)
  leaf_rule leaf ok = rolled (Expr-F.Leaf leaf) (core.Leaf leaf) (core.rolls-Leaf leaf) ok

  pub load_rule : (place : PlaceExpr) → IsTrue (place_ok place at) → IsTrue (expr_ok (core.Load place) at)
  load_rule place ok = rolled (Expr-F.Load place) (core.Load place) (core.rolls-Load place) ok

  pub unary_rule : (op : Operator) (operand : Expr) → IsTrue (expr_ok operand at) → IsTrue (expr_ok (core.Unary op operand) at)
  unary_rule op operand ok = rolled (Expr-F.Unary op operand) (core.Unary op operand) (core.rolls-Unary op operand) ok

  pub binary_rule : (op : Operator) (left right : Expr) → IsTrue (expr_ok left at) → IsTrue (expr_ok right at) → IsTrue (expr_ok (core.Binary op left right) at)
  binary_rule op left right ok_left ok_right =
      rolled (Expr-F.Binary op left right) (core.Binary op left right) (core.rolls-Binary op left right) (and_from _ _ ok_left ok_right)

  pub and_rule : (left right : Expr) → IsTrue (expr_ok left at) → IsTrue (expr_ok right at) → IsTrue (expr_ok (core.And left right) at)
  and_rule left right ok_left ok_right = rolled (Expr-F.And left right) (core.And left right) (core.rolls-And left right) (and_from _ _ ok_left ok_right)

  pub or_rule : (left right : Expr) → IsTrue (expr_ok left at) → IsTrue (expr_ok right at) → IsTrue (expr_ok (core.Or left right) at)
  or_rule left right ok_left ok_right = rolled (Expr-F.Or left right) (core.Or left right) (core.rolls-Or left right) (and_from _ _ ok_left ok_right)

  pub apply_rule : (function : Function) (args : List Expr) → IsTrue (list_all (λ arg. expr_ok arg at) args) → IsTrue (expr_ok (core.Apply function args) at)
  apply_rule function args all = rolled (Expr-F.Apply function args) (core.Apply function args) (core.rolls-Apply function args) (passes expr_ok args all)

  pub array_rule : (parts : List Part) → IsTrue (list_all (λ part. part_ok part at) parts) → IsTrue (expr_ok (core.Array parts) at)
  array_rule parts all = rolled (Expr-F.Array parts) (core.Array parts) (core.rolls-Array parts) (passes part_ok parts all)

  pub of_rule : (whole : Expr) (step : Step) → IsTrue (expr_ok whole at) → IsTrue (step_ok step at) → IsTrue (expr_ok (core.Of whole step) at)
  of_rule whole step ok_whole ok_step = rolled (Expr-F.Of whole step) (core.Of whole step) (core.rolls-Of whole step) (and_from _ _ ok_whole ok_step)

  pub member_rule : (of : Expr) (op : ℕ) → IsTrue (expr_ok of at) → op < length at.core.operations → IsTrue (expr_ok (core.Member of op) at)
  member_rule of op ok_of below =
      rolled (Expr-F.Member of op) (core.Member of op) (core.rolls-Member of op) (and_from _ _ ok_of (lt-ltb op (length at.core.operations) below))

  pub call_rule : (target : Expr) (args : List Argument) (returns : Option Shape)
      → IsTrue (expr_ok target at) → IsTrue (list_all (λ arg. argument_ok arg at) args) → IsTrue (expr_ok (core.Call target args returns) at)
  call_rule target args returns ok_target all =
      rolled (Expr-F.Call target args returns) (core.Call target args returns) (core.rolls-Call target args returns)
      (and_from _ _ ok_target (passes argument_ok args all))

  pub create_rule : (resource : ℕ) (args : List Expr) (machine : Expr)
      → resource < length at.core.components → IsTrue (list_all (λ arg. expr_ok arg at) args) → IsTrue (expr_ok machine at) → IsTrue (expr_ok (core.Create resource args machine) at)
  create_rule resource args machine below all ok_machine =
      rolled (Expr-F.Create resource args machine) (core.Create resource args machine) (core.rolls-Create resource args machine)
      (and_from _ _ (lt-ltb resource (length at.core.components) below) (and_from _ _ (passes expr_ok args all) ok_machine))

  pub read_rule : (readings : List Reading) → IsTrue (list_all (λ reading. reading_ok reading at) readings) → IsTrue (expr_ok (core.Read readings) at)
  read_rule readings all = rolled (Expr-F.Read readings) (core.Read readings) (core.rolls-Read readings) (passes reading_ok readings all)

  -- ---- steps

  rolled_step : (node : Step-F Argument Expr Part Step PlaceExpr Reading) (step : Step) → roll-Step node ≡ step
      → IsTrue (step_exists (map-Step Argument Expr Part Step PlaceExpr Reading Test Test Test Test Test Test argument_ok expr_ok part_ok step_ok place_ok reading_ok node) at) → IsTrue (step_ok step at)
  rolled_step node step is ok =
      ap (λ (one : Step). step_ok one at) (sym is)
      ∙ ap (λ (test : Test). test at) (fold-roll-Step Test Test Test Test Test Test argument_exists node_exists part_exists step_exists place_exists reading_exists node)
      ∙ ok

  pub at_rule : (index : Expr) → IsTrue (expr_ok index at) → IsTrue (step_ok (step.At index) at)
  at_rule index ok = rolled_step (Step-F.At index) (step.At index) (step.rolls-At index) ok

  pub at2_rule : (row column : Expr) → IsTrue (expr_ok row at) → IsTrue (expr_ok column at) → IsTrue (step_ok (step.At2 row column) at)
  at2_rule row column ok_row ok_column = rolled_step (Step-F.At2 row column) (step.At2 row column) (step.rolls-At2 row column) (and_from _ _ ok_row ok_column)

  pub field_rule : (field : ℕ) → IsTrue (step_ok (step.Field field) at)
  field_rule field = rolled_step (Step-F.Field field) (step.Field field) (step.rolls-Field field) refl

  -- ---- parts of arrays

  rolled_part : (node : Part-F Argument Expr Part Step PlaceExpr Reading) (part : Part) → roll-Part node ≡ part
      → IsTrue (part_exists (map-Part Argument Expr Part Step PlaceExpr Reading Test Test Test Test Test Test argument_ok expr_ok part_ok step_ok place_ok reading_ok node) at) → IsTrue (part_ok part at)
  rolled_part node part is ok =
      ap (λ (one : Part). part_ok one at) (sym is)
      ∙ ap (λ (test : Test). test at) (fold-roll-Part Test Test Test Test Test Test argument_exists node_exists part_exists step_exists place_exists reading_exists node)
      ∙ ok

  pub one_rule : (value : Expr) → IsTrue (expr_ok value at) → IsTrue (part_ok (part.One value) at)
  one_rule value ok = rolled_part (Part-F.One value) (part.One value) (part.rolls-One value) ok

  pub repeated_rule : (count value : Expr) → IsTrue (expr_ok count at) → IsTrue (expr_ok value at) → IsTrue (part_ok (part.Repeated count value) at)
  repeated_rule count value ok_count ok_value =
      rolled_part (Part-F.Repeated count value) (part.Repeated count value) (part.rolls-Repeated count value) (and_from _ _ ok_count ok_value)

  -- ---- arguments

  rolled_argument : (node : Argument-F Argument Expr Part Step PlaceExpr Reading) (argument : Argument) → roll-Argument node ≡ argument
      → IsTrue (argument_exists (map-Argument Argument Expr Part Step PlaceExpr Reading Test Test Test Test Test Test argument_ok expr_ok part_ok step_ok place_ok reading_ok node) at)
      → IsTrue (argument_ok argument at)
  rolled_argument node argument is ok =
      ap (λ (one : Argument). argument_ok one at) (sym is)
      ∙ ap (λ (test : Test). test at) (fold-roll-Argument Test Test Test Test Test Test argument_exists node_exists part_exists step_exists place_exists reading_exists node)
      ∙ ok

  pub val_rule : (value : Expr) → IsTrue (expr_ok value at) → IsTrue (argument_ok (argument.Val value) at)
  val_rule value ok = rolled_argument (Argument-F.Val value) (argument.Val value) (argument.rolls-Val value) ok

  pub var_rule : (place : PlaceExpr) → IsTrue (place_ok place at) → IsTrue (argument_ok (argument.Var place) at)
  var_rule place ok = rolled_argument (Argument-F.Var place) (argument.Var place) (argument.rolls-Var place) ok

  pub res_rule : (place : PlaceExpr) → IsTrue (place_ok place at) → IsTrue (argument_ok (argument.Res place) at)
  res_rule place ok = rolled_argument (Argument-F.Res place) (argument.Res place) (argument.rolls-Res place) ok

  -- ---- places

  pub place_rule : (root : Root) (path : List Step) → IsTrue (root_exists root at) → IsTrue (list_all (λ step. step_ok step at) path)
      → IsTrue (place_ok (roll-PlaceExpr (record { root = root; path = path })) at)
  place_rule root path ok_root all =
      ap (λ (test : Test). test at)
      (fold-roll-PlaceExpr Test Test Test Test Test Test argument_exists node_exists part_exists step_exists place_exists reading_exists (record { root = root; path = path }))
      ∙ and_from _ _ ok_root (passes step_ok path all)

  -- what is known of a place is known of its root and of its steps
  opened : (place : PlaceExpr) → place_ok place at ≡ (root_exists (out-PlaceExpr place).root at && list_all (λ step. step_ok step at) (out-PlaceExpr place).path)
  opened place =
      ap (λ (test : Test). test at) (fold_out-PlaceExpr Test Test Test Test Test Test argument_exists node_exists part_exists step_exists place_exists reading_exists place)
      ∙ ap (λ b. root_exists (out-PlaceExpr place).root at && b) (list_all-map (λ (one : Test). one at) step_ok (out-PlaceExpr place).path)

  pub further_rule : (place : PlaceExpr) (step : Step) → IsTrue (place_ok place at) → IsTrue (step_ok step at)
      → IsTrue (place_ok (roll-PlaceExpr (record { root = (out-PlaceExpr place).root; path = (out-PlaceExpr place).path ++ step ∷ [] })) at)
  further_rule place step ok_place ok_step =
      let parts = and_parts (root_exists (out-PlaceExpr place).root at) (list_all (λ one. step_ok one at) (out-PlaceExpr place).path) (sym (opened place) ∙ ok_place) in
      place_rule (out-PlaceExpr place).root ((out-PlaceExpr place).path ++ step ∷ []) parts.0
      (list_all-append (λ one. step_ok one at) (out-PlaceExpr place).path (step ∷ []) ∙ and_from _ _ parts.1 (and_from _ _ ok_step refl))

  pub reading_rule : (kind : Readable) (place : PlaceExpr) → IsTrue (place_ok place at) → IsTrue (reading_ok (roll-Reading (record { kind = kind; place = place })) at)
  reading_rule kind place ok =
      ap (λ (test : Test). test at)
      (fold-roll-Reading Test Test Test Test Test Test argument_exists node_exists part_exists step_exists place_exists reading_exists (record { kind = kind; place = place }))
      ∙ ok
