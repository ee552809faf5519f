-- What is made of parts mentions what they mention: a rule for each construct of the core.
use Rattle.std.proofs.Common.{◌≡◌, ℕ, Bool, List, [], ◌∷◌, ◌++◌, Option, map, IsTrue, refl, sym, ap, ◌∙◌}
use Rattle.std.proofs.lemmas.Bool.{and_from, and_parts}
use Rattle.std.proofs.lemmas.List.Folds.{list_all-append}
use Rattle.std.specs.List.{list_all}
use Rattle.sr_value.specs.declared.shape.Shape.{Shape}
use Rattle.sr_value.specs.declared.operator.Operator.{Operator}
use Rattle.sr_core.specs.declared.expression.Argument.TheFolds.{fold-roll-Argument, fold-roll-Expr, fold-roll-Part, fold-roll-PlaceExpr, fold-roll-Reading, fold-roll-Step, fold_out-PlaceExpr, map-Argument, map-Expr, map-Part, map-Step}
use Rattle.sr_core.specs.declared.expression.Argument.TheOpen.{Argument-F, Expr-F, Part-F, Step-F}
use Rattle.sr_core.specs.declared.expression.Argument.{Argument, roll-Argument}
use Rattle.sr_core.specs.declared.expression.Argument.TheVariants as argument
use Rattle.sr_core.specs.declared.expression.Expr.{Expr, roll-Expr}
use Rattle.sr_core.specs.declared.expression.Expr.TheVariants as core
use Rattle.sr_core.specs.declared.expression.Function.{Function}
use Rattle.sr_core.specs.declared.expression.Leaf.{Leaf}
use Rattle.sr_core.specs.declared.expression.Part.{Part, roll-Part}
use Rattle.sr_core.specs.declared.expression.Part.TheVariants as part
use Rattle.sr_core.specs.declared.expression.PlaceExpr.{PlaceExpr, out-PlaceExpr, roll-PlaceExpr}
use Rattle.sr_core.specs.declared.expression.Readable.{Readable}
use Rattle.sr_core.specs.declared.expression.Reading.{Reading, roll-Reading}
use Rattle.sr_core.specs.declared.expression.Step.{Step, roll-Step}
use Rattle.sr_core.specs.declared.expression.Step.TheVariants as step
use Rattle.sr_core.specs.declared.owner.Root.{Root}
use Rattle.sr_tables.specs.declared.sites.Mention.{Mention}
use Rattle.sr_tables.specs.declared.sites.Mention.TheVariants as mention
use Rattle.sr_tables.specs.Lists.{lists}
use Rattle.sr_tables.specs.Sites.{argument_mentions, leaf_mentions, mentions_at, mentions_in, mentions_in_argument, mentions_in_part, mentions_in_reading, mentions_in_step, node_mentions, part_mentions, place_mentions, step_mentions}
use Rattle.sr_lower_expr.proofs.Each.{both_pass}

module _ (test : Mention → Bool) where
  -- each of these passes
  abbrev pub all_pass : List Mention → Bool
  all_pass = list_all test

  abbrev pub expr_passes : Expr → Bool
  expr_passes expr = all_pass (mentions_in expr)

  abbrev pub place_passes : PlaceExpr → Bool
  place_passes place = all_pass (mentions_at place)

  abbrev pub argument_passes : Argument → Bool
  argument_passes argument = all_pass (mentions_in_argument argument)

  abbrev pub part_passes : Part → Bool
  part_passes part = all_pass (mentions_in_part part)

  abbrev pub step_passes : Step → Bool
  step_passes step = all_pass (mentions_in_step step)

  abbrev pub reading_passes : Reading → Bool
  reading_passes reading = all_pass (mentions_in_reading reading)

  -- ---- lists

  pub rows : {A : Type 0} (mentions : A → List Mention) (things : List A) → IsTrue (list_all (λ thing. all_pass (mentions thing)) things) → IsTrue (all_pass (lists (map mentions things)))
  rows mentions [] all = refl
  rows mentions (thing ∷ things) all =
      let parts = and_parts (all_pass (mentions thing)) _ all in
      both_pass test (mentions thing) (lists (map mentions things)) parts.0 (rows mentions things parts.1)

  both : (xs ys : List Mention) → IsTrue (all_pass xs) → IsTrue (all_pass ys) → IsTrue (all_pass (xs ++ ys))
  both = both_pass test

  -- ---- expressions

  abbrev node_of : Expr-F Argument Expr Part Step PlaceExpr Reading → List Mention
  node_of node =
      node_mentions
      (map-Expr Argument Expr Part Step PlaceExpr Reading (List Mention) (List Mention) (List Mention) (List Mention) (List Mention) (List Mention)
      mentions_in_argument mentions_in mentions_in_part mentions_in_step mentions_at mentions_in_reading node)

  rolled : (node : Expr-F Argument Expr Part Step PlaceExpr Reading) (expr : Expr) → roll-Expr node ≡ expr → IsTrue (all_pass (node_of node)) → IsTrue (expr_passes expr)
  rolled node expr is ok =
      ap (λ (one : Expr). expr_passes one) (sym is)
      ∙ ap (list_all test)
      (fold-roll-Expr (List Mention) (List Mention) (List Mention) (List Mention) (List Mention) (List Mention)
      argument_mentions node_mentions part_mentions step_mentions place_mentions (λ reading. reading.place) node)
      ∙ ok

  pub leaf_rule : (leaf : Leaf) → IsTrue (all_pass (leaf_mentions leaf)) → IsTrue (expr_passes (core.Leaf leaf))
  leaf_rule leaf ok = rolled (Expr-F.Leaf leaf) (core.Leaf leaf) (core.rolls-Leaf leaf) ok

  pub load_rule : (place : PlaceExpr) → IsTrue (place_passes place) → IsTrue (expr_passes (core.Load place))
  load_rule place ok = rolled (Expr-F.Load place) (core.Load place) (core.rolls-Load place) ok

  pub unary_rule : (op : Operator) (operand : Expr) → IsTrue (expr_passes operand) → IsTrue (expr_passes (core.Unary op operand))
  unary_rule op operand ok = rolled (Expr-F.Unary op operand) (core.Unary op operand) (core.rolls-Unary op operand) ok

  pub binary_rule : (op : Operator) (left right : Expr) → IsTrue (expr_passes left) → IsTrue (expr_passes right) → IsTrue (expr_passes (core.Binary op left right))
  binary_rule op left right first second =
      rolled (Expr-F.Binary op left right) (core.Binary op left right) (core.rolls-Binary op left right) (both (mentions_in left) (mentions_in right) first second)

  pub and_rule : (left right : Expr) → IsTrue (expr_passes left) → IsTrue (expr_passes right) → IsTrue (expr_passes (core.And left right))
  and_rule left right first second =
      rolled (Expr-F.And left right) (core.And left right) (core.rolls-And left right) (both (mentions_in left) (mentions_in right) first second)

  pub or_rule : (left right : Expr) → IsTrue (expr_passes left) → IsTrue (expr_passes right) → IsTrue (expr_passes (core.Or left right))
  or_rule left right first second =
      rolled (Expr-F.Or left right) (core.Or left right) (core.rolls-Or left right) (both (mentions_in left) (mentions_in right) first second)

  pub apply_rule : (function : Function) (args : List Expr) → IsTrue (list_all expr_passes args) → IsTrue (expr_passes (core.Apply function args))
  apply_rule function args all = rolled (Expr-F.Apply function args) (core.Apply function args) (core.rolls-Apply function args) (rows mentions_in args all)

  pub array_rule : (parts : List Part) → IsTrue (list_all part_passes parts) → IsTrue (expr_passes (core.Array parts))
  array_rule parts all = rolled (Expr-F.Array parts) (core.Array parts) (core.rolls-Array parts) (rows mentions_in_part parts all)

  pub of_rule : (whole : Expr) (step : Step) → IsTrue (expr_passes whole) → IsTrue (step_passes step) → IsTrue (expr_passes (core.Of whole step))
  of_rule whole step first second =
      rolled (Expr-F.Of whole step) (core.Of whole step) (core.rolls-Of whole step) (both (mentions_in whole) (mentions_in_step step) first second)

  pub member_rule : (of : Expr) (op : ℕ) → IsTrue (expr_passes of) → IsTrue (expr_passes (core.Member of op))
  member_rule of op ok = rolled (Expr-F.Member of op) (core.Member of op) (core.rolls-Member of op) ok

  pub call_rule : (target : Expr) (args : List Argument) (returns : Option Shape)
      → IsTrue (expr_passes target) → IsTrue (list_all argument_passes args) → IsTrue (expr_passes (core.Call target args returns))
  call_rule target args returns first all =
      rolled (Expr-F.Call target args returns) (core.Call target args returns) (core.rolls-Call target args returns)
      (both (mentions_in target) (lists (map mentions_in_argument args)) first (rows mentions_in_argument args all))

  pub create_rule : (resource : ℕ) (args : List Expr) (machine : Expr)
      → IsTrue (list_all expr_passes args) → IsTrue (expr_passes machine) → IsTrue (expr_passes (core.Create resource args machine))
  create_rule resource args machine all last =
      rolled (Expr-F.Create resource args machine) (core.Create resource args machine) (core.rolls-Create resource args machine)
      (both (lists (map mentions_in args)) (mentions_in machine) (rows mentions_in args all) last)

  pub read_rule : (readings : List Reading) → IsTrue (list_all reading_passes readings) → IsTrue (expr_passes (core.Read readings))
  read_rule readings all = rolled (Expr-F.Read readings) (core.Read readings) (core.rolls-Read readings) (rows mentions_in_reading readings all)

  -- ---- steps

  rolled_step : (node : Step-F Argument Expr Part Step PlaceExpr Reading) (step : Step) → roll-Step node ≡ step
      → IsTrue (all_pass (step_mentions (map-Step Argument Expr Part Step PlaceExpr Reading (List Mention) (List Mention) (List Mention) (List Mention) (List Mention) (List Mention)
      mentions_in_argument mentions_in mentions_in_part mentions_in_step mentions_at mentions_in_reading node)))
      → IsTrue (step_passes step)
  rolled_step node step is ok =
      ap (λ (one : Step). step_passes one) (sym is)
      ∙ ap (list_all test)
      (fold-roll-Step (List Mention) (List Mention) (List Mention) (List Mention) (List Mention) (List Mention)
      argument_mentions node_mentions part_mentions step_mentions place_mentions (λ reading. reading.place) node)
      ∙ ok

  pub at_rule : (index : Expr) → IsTrue (expr_passes index) → IsTrue (step_passes (step.At index))
  at_rule index ok = rolled_step (Step-F.At index) (step.At index) (step.rolls-At index) ok

  pub at2_rule : (row column : Expr) → IsTrue (expr_passes row) → IsTrue (expr_passes column) → IsTrue (step_passes (step.At2 row column))
  at2_rule row column first second =
      rolled_step (Step-F.At2 row column) (step.At2 row column) (step.rolls-At2 row column) (both (mentions_in row) (mentions_in column) first second)

  pub field_rule : (field : ℕ) → IsTrue (step_passes (step.Field field))
  field_rule field = rolled_step (Step-F.Field field) (step.Field field) (step.rolls-Field field) refl

  -- ---- parts of arrays

  rolled_part : (node : Part-F Argument Expr Part Step PlaceExpr Reading) (part : Part) → roll-Part node ≡ part
      → IsTrue (all_pass (part_mentions (map-Part Argument Expr Part Step PlaceExpr Reading (List Mention) (List Mention) (List Mention) (List Mention) (List Mention) (List Mention)
      mentions_in_argument mentions_in mentions_in_part mentions_in_step mentions_at mentions_in_reading node)))
      → IsTrue (part_passes part)
  rolled_part node part is ok =
      ap (λ (one : Part). part_passes one) (sym is)
      ∙ ap (list_all test)
      (fold-roll-Part (List Mention) (List Mention) (List Mention) (List Mention) (List Mention) (List Mention)
      argument_mentions node_mentions part_mentions step_mentions place_mentions (λ reading. reading.place) node)
      ∙ ok

  pub one_rule : (value : Expr) → IsTrue (expr_passes value) → IsTrue (part_passes (part.One value))
  one_rule value ok = rolled_part (Part-F.One value) (part.One value) (part.rolls-One value) ok

  pub repeated_rule : (count value : Expr) → IsTrue (expr_passes count) → IsTrue (expr_passes value) → IsTrue (part_passes (part.Repeated count value))
  repeated_rule count value first second =
      rolled_part (Part-F.Repeated count value) (part.Repeated count value) (part.rolls-Repeated count value) (both (mentions_in count) (mentions_in value) first second)

  -- ---- arguments

  rolled_argument : (node : Argument-F Argument Expr Part Step PlaceExpr Reading) (argument : Argument) → roll-Argument node ≡ argument
      → IsTrue (all_pass (argument_mentions (map-Argument Argument Expr Part Step PlaceExpr Reading (List Mention) (List Mention) (List Mention) (List Mention) (List Mention) (List Mention)
      mentions_in_argument mentions_in mentions_in_part mentions_in_step mentions_at mentions_in_reading node)))
      → IsTrue (argument_passes argument)
  rolled_argument node argument is ok =
      ap (λ (one : Argument). argument_passes one) (sym is)
      ∙ ap (list_all test)
      (fold-roll-Argument (List Mention) (List Mention) (List Mention) (List Mention) (List Mention) (List Mention)
      argument_mentions node_mentions part_mentions step_mentions place_mentions (λ reading. reading.place) node)
      ∙ ok

  pub val_rule : (value : Expr) → IsTrue (expr_passes value) → IsTrue (argument_passes (argument.Val value))
  val_rule value ok = rolled_argument (Argument-F.Val value) (argument.Val value) (argument.rolls-Val value) ok

  pub var_rule : (place : PlaceExpr) → IsTrue (place_passes place) → IsTrue (argument_passes (argument.Var place))
  var_rule place ok = rolled_argument (Argument-F.Var place) (argument.Var place) (argument.rolls-Var place) ok

  pub res_rule : (place : PlaceExpr) → IsTrue (place_passes place) → IsTrue (argument_passes (argument.Res place))
  res_rule place ok = rolled_argument (Argument-F.Res place) (argument.Res place) (argument.rolls-Res place) ok

  -- ---- places

  pub place_rule : (root : Root) (path : List Step) → IsTrue (test (mention.Variable root)) → IsTrue (list_all step_passes path)
      → IsTrue (place_passes (roll-PlaceExpr (record { root = root; path = path })))
  place_rule root path ok_root all =
      ap (list_all test)
      (fold-roll-PlaceExpr (List Mention) (List Mention) (List Mention) (List Mention) (List Mention) (List Mention)
      argument_mentions node_mentions part_mentions step_mentions place_mentions (λ reading. reading.place) (record { root = root; path = path }))
      ∙ and_from _ _ ok_root (rows mentions_in_step path all)

  -- the steps of a place pass one by one
  apart : {A : Type 0} (mentions : A → List Mention) (things : List A) → IsTrue (all_pass (lists (map mentions things))) → IsTrue (list_all (λ thing. all_pass (mentions thing)) things)
  apart mentions [] all = refl
  apart mentions (thing ∷ things) all =
      let parts = and_parts (all_pass (mentions thing)) (all_pass (lists (map mentions things))) (sym (list_all-append test (mentions thing) (lists (map mentions things))) ∙ all) in
      and_from _ _ parts.0 (apart mentions things parts.1)

  opened : (place : PlaceExpr) → place_passes place ≡ all_pass (mention.Variable (out-PlaceExpr place).root ∷ lists (map mentions_in_step (out-PlaceExpr place).path))
  opened place =
      ap (list_all test)
      (fold_out-PlaceExpr (List Mention) (List Mention) (List Mention) (List Mention) (List Mention) (List Mention)
      argument_mentions node_mentions part_mentions step_mentions place_mentions (λ reading. reading.place) place)

  pub further_rule : (place : PlaceExpr) (step : Step) → IsTrue (place_passes place) → IsTrue (step_passes step)
      → IsTrue (place_passes (roll-PlaceExpr (record { root = (out-PlaceExpr place).root; path = (out-PlaceExpr place).path ++ step ∷ [] })))
  further_rule place step ok_place ok_step =
      let parts = and_parts (test (mention.Variable (out-PlaceExpr place).root)) (all_pass (lists (map mentions_in_step (out-PlaceExpr place).path))) (sym (opened place) ∙ ok_place) in
      place_rule (out-PlaceExpr place).root ((out-PlaceExpr place).path ++ step ∷ []) parts.0
      (both_pass step_passes (out-PlaceExpr place).path (step ∷ []) (apart mentions_in_step (out-PlaceExpr place).path parts.1) (and_from _ _ ok_step refl))

  pub reading_rule : (kind : Readable) (place : PlaceExpr) → IsTrue (place_passes place) → IsTrue (reading_passes (roll-Reading (record { kind = kind; place = place })))
  reading_rule kind place ok =
      ap (list_all test)
      (fold-roll-Reading (List Mention) (List Mention) (List Mention) (List Mention) (List Mention) (List Mention)
      argument_mentions node_mentions part_mentions step_mentions place_mentions (λ reading. reading.place) (record { kind = kind; place = place }))
      ∙ ok
