-- Where what its parts invoke passes, so does what a construct of the core invokes: a rule for each.
use Rattle.std.proofs.Common.{◌≡◌, ℕ, Bool, List, [], ◌∷◌, ◌++◌, Option, Some, None, map, length, IsTrue, refl, sym, ap, ◌∙◌}
use Rattle.std.proofs.lemmas.Bool.{and_from, and_parts}
use Rattle.std.proofs.lemmas.List.Folds.{list_all-append, list_all-map}
use Rattle.std.proofs.lemmas.List.{length-map}
use Rattle.std.specs.List.{list_all}
use Rattle.sr_value.specs.declared.operator.Operator.{Operator}
use Rattle.sr_value.specs.declared.place.Place.{Place}
use Rattle.sr_value.specs.declared.shape.Shape.{Shape}
use Rattle.sr_core.specs.declared.component.Operation.{Operation}
use Rattle.sr_core.specs.declared.expression.Argument.{Argument, roll-Argument}
use Rattle.sr_core.specs.declared.expression.Argument.TheFolds.{fold-Part, fold-Reading, fold-Step, fold-roll-Argument, fold-roll-Expr, fold-roll-Part, fold-roll-PlaceExpr, fold-roll-Reading, fold-roll-Step, fold_out-PlaceExpr, map-Argument, map-Expr, map-Part, map-Step}
use Rattle.sr_core.specs.declared.expression.Argument.TheOpen.{Argument-F, Expr-F, Part-F, Step-F}
use Rattle.sr_core.specs.declared.expression.Argument.TheVariants as argument
use Rattle.sr_core.specs.declared.expression.Expr.{Expr, roll-Expr}
use Rattle.sr_core.specs.declared.expression.Expr.TheVariants as core
use Rattle.sr_core.specs.declared.expression.Function.{Function}
use Rattle.sr_core.specs.declared.expression.Leaf.{Leaf}
use Rattle.sr_core.specs.declared.expression.Leaf.TheVariants as leaf
use Rattle.sr_core.specs.declared.expression.Part.{Part, roll-Part}
use Rattle.sr_core.specs.declared.expression.Part.TheVariants as part
use Rattle.sr_core.specs.declared.expression.PlaceExpr.{PlaceExpr, out-PlaceExpr, roll-PlaceExpr}
use Rattle.sr_core.specs.declared.expression.Reading.{Reading, roll-Reading}
use Rattle.sr_core.specs.declared.expression.Readable.{Readable}
use Rattle.sr_core.specs.declared.expression.Step.{Step, roll-Step}
use Rattle.sr_core.specs.declared.expression.Step.TheVariants as step
use Rattle.sr_core.specs.declared.owner.Root.{Root}
use Rattle.sr_core.specs.declared.statement.Action.{Action}
use Rattle.sr_core.specs.declared.statement.CoArm.{CoArm, roll-CoArm}
use Rattle.sr_core.specs.declared.statement.CoCall.{CoCall}
use Rattle.sr_core.specs.declared.statement.Declaration.{Declaration}
use Rattle.sr_core.specs.declared.statement.Guarded.{Guarded, roll-Guarded}
use Rattle.sr_core.specs.declared.statement.Quantifier.{Quantifier}
use Rattle.sr_core.specs.declared.statement.Statement.{Statement, roll-Statement}
use Rattle.sr_core.specs.declared.statement.Statement.TheFolds.{fold-CoArm, fold-Guarded, fold-Statement, fold-roll-CoArm, fold-roll-Guarded, fold-roll-Statement, map-Statement}
use Rattle.sr_core.specs.declared.statement.Statement.TheOpen.{Statement-F}
use Rattle.sr_core.specs.declared.statement.Statement.TheVariants as written
use Rattle.sr_core.specs.Tests.{all_true}
use Rattle.sr_lower_expr.specs.declared.scene.Lowered.{Lowered}
use Rattle.sr_lower_expr.specs.declared.scene.Lowered.TheVariants as lowered
use Rattle.sr_lower_expr.specs.declared.scene.Scene.{Scene}
use Rattle.sr_lower_expr.specs.Places.{further, naming, nothing, nowhere, operation_at, operation_number, part_of, place_at, place_of, value_of}
use Rattle.sr_names.specs.declared.spot.Spot.{Spot}
use Rattle.sr_front.specs.Invocations.{InvocationTest, Seen, all_pass, expr_seen, node_seen, target_passes, action_invokes, argument_layer, argument_invokes, block_invokes, co_arm_invokes, co_invokes, expr_invokes, guarded_invokes, node_invokes, part_layer, place_layer, place_invokes, quantifier_invokes, reading_layer, setup_invokes, statement_invokes, step_layer}

module _ (test : InvocationTest) where
  -- ---- the parts of an expression

  abbrev pub part_invokes : Part → Bool
  part_invokes = fold-Part Bool Seen Bool Bool Bool Bool argument_layer (node_seen test) part_layer step_layer place_layer reading_layer

  abbrev pub step_invokes : Step → Bool
  step_invokes = fold-Step Bool Seen Bool Bool Bool Bool argument_layer (node_seen test) part_layer step_layer place_layer reading_layer

  abbrev pub reading_invokes : Reading → Bool
  reading_invokes = fold-Reading Bool Seen Bool Bool Bool Bool argument_layer (node_seen test) part_layer step_layer place_layer reading_layer

  abbrev pub lowered_invokes : Lowered → Bool
  lowered_invokes (lowered.Place place) = place_invokes test place
  lowered_invokes (lowered.Value value) = expr_invokes test value

  -- ---- expressions

  rolled : (node : Expr-F Argument Expr Part Step PlaceExpr Reading) (expr : Expr) → roll-Expr node ≡ expr
      → IsTrue (node_invokes test (map-Expr Argument Expr Part Step PlaceExpr Reading Bool Seen Bool Bool Bool Bool (argument_invokes test) (expr_seen test) part_invokes step_invokes (place_invokes test) reading_invokes node))
      → IsTrue (expr_invokes test expr)
  rolled node expr is passes =
      ap (expr_invokes test) (sym is)
      ∙ ap (λ (seen : Seen). seen.passes) (fold-roll-Expr Bool Seen Bool Bool Bool Bool argument_layer (node_seen test) part_layer step_layer place_layer reading_layer node)
      ∙ passes

  -- what an expression is seen as
  pub seen_of : (node : Expr-F Argument Expr Part Step PlaceExpr Reading) (expr : Expr) → roll-Expr node ≡ expr
      → expr_seen test expr ≡ node_seen test (map-Expr Argument Expr Part Step PlaceExpr Reading Bool Seen Bool Bool Bool Bool (argument_invokes test) (expr_seen test) part_invokes step_invokes (place_invokes test) reading_invokes node)
  seen_of node expr is =
      ap (expr_seen test) (sym is) ∙ fold-roll-Expr Bool Seen Bool Bool Bool Bool argument_layer (node_seen test) part_layer step_layer place_layer reading_layer node

  all_seen : (all : List Expr) → IsTrue (list_all (expr_invokes test) all) → IsTrue (all_pass (map (expr_seen test) all))
  all_seen [] all = refl
  all_seen (one ∷ all) passes =
      let parts = and_parts (expr_invokes test one) (list_all (expr_invokes test) all) passes in
      and_from _ _ parts.0 (all_seen all parts.1)

  each_invokes : {A : Type 0} (passes : A → Bool) (things : List A) → IsTrue (list_all passes things) → IsTrue (all_true (map passes things))
  each_invokes passes things all = list_all-map (λ one. one) passes things ∙ all

  pub leaf_rule : (leaf : Leaf) → IsTrue (expr_invokes test (core.Leaf leaf))
  leaf_rule leaf = rolled (Expr-F.Leaf leaf) (core.Leaf leaf) (core.rolls-Leaf leaf) refl

  pub load_rule : (place : PlaceExpr) → IsTrue (place_invokes test place) → IsTrue (expr_invokes test (core.Load place))
  load_rule place passes = rolled (Expr-F.Load place) (core.Load place) (core.rolls-Load place) passes

  pub unary_rule : (op : Operator) (operand : Expr) → IsTrue (expr_invokes test operand) → IsTrue (expr_invokes test (core.Unary op operand))
  unary_rule op operand passes = rolled (Expr-F.Unary op operand) (core.Unary op operand) (core.rolls-Unary op operand) passes

  pub binary_rule : (op : Operator) (left right : Expr) → IsTrue (expr_invokes test left) → IsTrue (expr_invokes test right) → IsTrue (expr_invokes test (core.Binary op left right))
  binary_rule op left right first second = rolled (Expr-F.Binary op left right) (core.Binary op left right) (core.rolls-Binary op left right) (and_from _ _ first second)

  pub and_rule : (left right : Expr) → IsTrue (expr_invokes test left) → IsTrue (expr_invokes test right) → IsTrue (expr_invokes test (core.And left right))
  and_rule left right first second = rolled (Expr-F.And left right) (core.And left right) (core.rolls-And left right) (and_from _ _ first second)

  pub or_rule : (left right : Expr) → IsTrue (expr_invokes test left) → IsTrue (expr_invokes test right) → IsTrue (expr_invokes test (core.Or left right))
  or_rule left right first second = rolled (Expr-F.Or left right) (core.Or left right) (core.rolls-Or left right) (and_from _ _ first second)

  pub apply_rule : (function : Function) (args : List Expr) → IsTrue (list_all (expr_invokes test) args) → IsTrue (expr_invokes test (core.Apply function args))
  apply_rule function args all = rolled (Expr-F.Apply function args) (core.Apply function args) (core.rolls-Apply function args) (all_seen args all)

  pub array_rule : (parts : List Part) → IsTrue (list_all part_invokes parts) → IsTrue (expr_invokes test (core.Array parts))
  array_rule parts all = rolled (Expr-F.Array parts) (core.Array parts) (core.rolls-Array parts) (each_invokes part_invokes parts all)

  pub of_rule : (whole : Expr) (step : Step) → IsTrue (expr_invokes test whole) → IsTrue (step_invokes step) → IsTrue (expr_invokes test (core.Of whole step))
  of_rule whole step first second = rolled (Expr-F.Of whole step) (core.Of whole step) (core.rolls-Of whole step) (and_from _ _ first second)

  pub member_rule : (of : Expr) (op : ℕ) → IsTrue (expr_invokes test of) → IsTrue (expr_invokes test (core.Member of op))
  member_rule of op passes = rolled (Expr-F.Member of op) (core.Member of op) (core.rolls-Member of op) passes

  pub call_rule : (target : Expr) (args : List Argument) (returns : Option Shape) → IsTrue (target_passes test.calls (expr_seen test target) (length args)) → IsTrue (list_all (argument_invokes test) args)
      → IsTrue (expr_invokes test (core.Call target args returns))
  call_rule target args returns first all =
      rolled (Expr-F.Call target args returns) (core.Call target args returns) (core.rolls-Call target args returns)
      (and_from _ _ (ap (target_passes test.calls (expr_seen test target)) (length-map args (argument_invokes test)) ∙ first) (each_invokes (argument_invokes test) args all))

  pub create_rule : (component : ℕ) (args : List Expr) (machine : Expr) → IsTrue (test.makes component (length args)) → IsTrue (list_all (expr_invokes test) args) → IsTrue (expr_invokes test machine)
      → IsTrue (expr_invokes test (core.Create component args machine))
  create_rule component args machine may all passes =
      rolled (Expr-F.Create component args machine) (core.Create component args machine) (core.rolls-Create component args machine)
      (and_from _ _ (ap (test.makes component) (length-map args (expr_seen test)) ∙ may) (and_from _ _ (all_seen args all) passes))

  pub read_rule : (readings : List Reading) → IsTrue (list_all reading_invokes readings) → IsTrue (expr_invokes test (core.Read readings))
  read_rule readings all = rolled (Expr-F.Read readings) (core.Read readings) (core.rolls-Read readings) (each_invokes reading_invokes readings all)

  pub reading_rule : (kind : Readable) (place : PlaceExpr) → IsTrue (place_invokes test place) → IsTrue (reading_invokes (roll-Reading (record { kind = kind; place = place })))
  reading_rule kind place passes = fold-roll-Reading Bool Seen Bool Bool Bool Bool argument_layer (node_seen test) part_layer step_layer place_layer reading_layer (record { kind = kind; place = place }) ∙ passes

  -- ---- arguments

  rolled_argument : (node : Argument-F Argument Expr Part Step PlaceExpr Reading) (one : Argument) → roll-Argument node ≡ one
      → IsTrue (argument_layer (map-Argument Argument Expr Part Step PlaceExpr Reading Bool Seen Bool Bool Bool Bool (argument_invokes test) (expr_seen test) part_invokes step_invokes (place_invokes test) reading_invokes node))
      → IsTrue (argument_invokes test one)
  rolled_argument node one is passes =
      ap (argument_invokes test) (sym is)
      ∙ fold-roll-Argument Bool Seen Bool Bool Bool Bool argument_layer (node_seen test) part_layer step_layer place_layer reading_layer node
      ∙ passes

  pub val_rule : (value : Expr) → IsTrue (expr_invokes test value) → IsTrue (argument_invokes test (argument.Val value))
  val_rule value passes = rolled_argument (Argument-F.Val value) (argument.Val value) (argument.rolls-Val value) passes

  pub var_rule : (place : PlaceExpr) → IsTrue (place_invokes test place) → IsTrue (argument_invokes test (argument.Var place))
  var_rule place passes = rolled_argument (Argument-F.Var place) (argument.Var place) (argument.rolls-Var place) passes

  pub res_rule : (place : PlaceExpr) → IsTrue (place_invokes test place) → IsTrue (argument_invokes test (argument.Res place))
  res_rule place passes = rolled_argument (Argument-F.Res place) (argument.Res place) (argument.rolls-Res place) passes

  -- ---- steps

  rolled_step : (node : Step-F Argument Expr Part Step PlaceExpr Reading) (one : Step) → roll-Step node ≡ one
      → IsTrue (step_layer (map-Step Argument Expr Part Step PlaceExpr Reading Bool Seen Bool Bool Bool Bool (argument_invokes test) (expr_seen test) part_invokes step_invokes (place_invokes test) reading_invokes node))
      → IsTrue (step_invokes one)
  rolled_step node one is passes =
      ap step_invokes (sym is)
      ∙ fold-roll-Step Bool Seen Bool Bool Bool Bool argument_layer (node_seen test) part_layer step_layer place_layer reading_layer node
      ∙ passes

  pub at_rule : (index : Expr) → IsTrue (expr_invokes test index) → IsTrue (step_invokes (step.At index))
  at_rule index passes = rolled_step (Step-F.At index) (step.At index) (step.rolls-At index) passes

  pub at2_rule : (row column : Expr) → IsTrue (expr_invokes test row) → IsTrue (expr_invokes test column) → IsTrue (step_invokes (step.At2 row column))
  at2_rule row column first second = rolled_step (Step-F.At2 row column) (step.At2 row column) (step.rolls-At2 row column) (and_from _ _ first second)

  pub field_rule : (field : ℕ) → IsTrue (step_invokes (step.Field field))
  field_rule field = rolled_step (Step-F.Field field) (step.Field field) (step.rolls-Field field) refl

  -- ---- parts of arrays

  rolled_part : (node : Part-F Argument Expr Part Step PlaceExpr Reading) (one : Part) → roll-Part node ≡ one
      → IsTrue (part_layer (map-Part Argument Expr Part Step PlaceExpr Reading Bool Seen Bool Bool Bool Bool (argument_invokes test) (expr_seen test) part_invokes step_invokes (place_invokes test) reading_invokes node))
      → IsTrue (part_invokes one)
  rolled_part node one is passes =
      ap part_invokes (sym is)
      ∙ fold-roll-Part Bool Seen Bool Bool Bool Bool argument_layer (node_seen test) part_layer step_layer place_layer reading_layer node
      ∙ passes

  pub one_rule : (value : Expr) → IsTrue (expr_invokes test value) → IsTrue (part_invokes (part.One value))
  one_rule value passes = rolled_part (Part-F.One value) (part.One value) (part.rolls-One value) passes

  pub repeated_rule : (count value : Expr) → IsTrue (expr_invokes test count) → IsTrue (expr_invokes test value) → IsTrue (part_invokes (part.Repeated count value))
  repeated_rule count value first second = rolled_part (Part-F.Repeated count value) (part.Repeated count value) (part.rolls-Repeated count value) (and_from _ _ first second)

  -- ---- places

  place_rule : (root : Root) (path : List Step) → IsTrue (list_all step_invokes path) → IsTrue (place_invokes test (roll-PlaceExpr (record { root = root; path = path })))
  place_rule root path all =
      fold-roll-PlaceExpr Bool Seen Bool Bool Bool Bool argument_layer (node_seen test) part_layer step_layer place_layer reading_layer (record { root = root; path = path })
      ∙ each_invokes step_invokes path all

  path_invokes : (place : PlaceExpr) → IsTrue (place_invokes test place) → IsTrue (list_all step_invokes (out-PlaceExpr place).path)
  path_invokes place passes =
      sym (list_all-map (λ one. one) step_invokes (out-PlaceExpr place).path)
      ∙ sym (fold_out-PlaceExpr Bool Seen Bool Bool Bool Bool argument_layer (node_seen test) part_layer step_layer place_layer reading_layer place)
      ∙ passes

  further_invokes : (place : PlaceExpr) (step : Step) → IsTrue (place_invokes test place) → IsTrue (step_invokes step) → IsTrue (place_invokes test (further place step))
  further_invokes place step passes step_passes =
      place_rule (out-PlaceExpr place).root ((out-PlaceExpr place).path ++ step ∷ [])
      (list_all-append step_invokes (out-PlaceExpr place).path (step ∷ []) ∙ and_from _ _ (path_invokes place passes) (and_from _ _ step_passes refl))

  pub place_at_invokes : (root : Root) → IsTrue (place_invokes test (place_at root))
  place_at_invokes root = place_rule root [] refl

  pub value_of_invokes : (one : Lowered) → IsTrue (lowered_invokes one) → IsTrue (expr_invokes test (value_of one))
  value_of_invokes (lowered.Place place) passes = load_rule place passes
  value_of_invokes (lowered.Value value) passes = passes

  pub place_of_invokes : (one : Lowered) → IsTrue (lowered_invokes one) → IsTrue (place_invokes test (place_of one))
  place_of_invokes (lowered.Place place) passes = passes
  place_of_invokes (lowered.Value value) passes = place_at_invokes nowhere

  pub part_of_invokes : (one : Lowered) (step : Step) → IsTrue (lowered_invokes one) → IsTrue (step_invokes step) → IsTrue (lowered_invokes (part_of one step))
  part_of_invokes (lowered.Place place) step passes step_passes = further_invokes place step passes step_passes
  part_of_invokes (lowered.Value value) step passes step_passes = of_rule value step passes step_passes

  -- ---- operations

  pub nothing_invokes : IsTrue (expr_invokes test nothing)
  nothing_invokes = leaf_rule (leaf.Constant _)

  abbrev operation_found : Scene → Spot → (Operation → ℕ → Expr) → Option Operation → Expr
  operation_found scene spot made None = nothing
  operation_found scene spot made (Some operation) = made operation (operation_number scene spot)

  pub naming_invokes : (scene : Scene) (spot : Spot) (made : Operation → ℕ → Expr) → ((operation : Operation) (number : ℕ) → IsTrue (expr_invokes test (made operation number)))
      → IsTrue (expr_invokes test (naming scene spot made))
  naming_invokes scene spot made passes = by (operation_at scene spot)
    where
      by : (found : Option Operation) → IsTrue (expr_invokes test (operation_found scene spot made found))
      by None = nothing_invokes
      by (Some operation) = passes operation (operation_number scene spot)

  -- ---- statements

  abbrev pub one_invokes : Statement → Bool
  one_invokes = fold-Statement Bool Bool Bool (statement_invokes test) (co_arm_invokes test) (guarded_invokes test)

  abbrev pub branch_invokes : Guarded → Bool
  branch_invokes = fold-Guarded Bool Bool Bool (statement_invokes test) (co_arm_invokes test) (guarded_invokes test)

  abbrev pub arm_invokes : CoArm → Bool
  arm_invokes = fold-CoArm Bool Bool Bool (statement_invokes test) (co_arm_invokes test) (guarded_invokes test)

  abbrev pub AllInvoke : List Statement → Type 0
  AllInvoke block = IsTrue (list_all one_invokes block)

  pub block_rule : (block : List Statement) → AllInvoke block → IsTrue (block_invokes test block)
  block_rule block all = each_invokes one_invokes block all

  pub blocks_both : (block more : List Statement) → AllInvoke block → AllInvoke more → AllInvoke (block ++ more)
  blocks_both block more first second = list_all-append one_invokes block more ∙ and_from _ _ first second

  rolled_statement : (node : Statement-F Statement CoArm Guarded) (statement : Statement) → roll-Statement node ≡ statement
      → IsTrue (statement_invokes test (map-Statement Statement CoArm Guarded Bool Bool Bool one_invokes arm_invokes branch_invokes node)) → IsTrue (one_invokes statement)
  rolled_statement node statement is passes = ap one_invokes (sym is) ∙ fold-roll-Statement Bool Bool Bool (statement_invokes test) (co_arm_invokes test) (guarded_invokes test) node ∙ passes

  pub declare_rule : (place : Place) (declaration : Declaration) → IsTrue (setup_invokes test declaration.setup) → IsTrue (one_invokes (written.Declare place declaration))
  declare_rule place declaration passes = rolled_statement (Statement-F.Declare place declaration) (written.Declare place declaration) (written.rolls-Declare place declaration) passes

  pub act_rule : (place : Place) (action : Action) → IsTrue (action_invokes test action) → IsTrue (one_invokes (written.Act place action))
  act_rule place action passes = rolled_statement (Statement-F.Act place action) (written.Act place action) (written.rolls-Act place action) passes

  pub if_rule : (place : Place) (guards : List Guarded) (otherwise : List Statement) → IsTrue (list_all branch_invokes guards) → AllInvoke otherwise → IsTrue (one_invokes (written.If place guards otherwise))
  if_rule place guards otherwise first second =
      rolled_statement (Statement-F.If place guards otherwise) (written.If place guards otherwise) (written.rolls-If place guards otherwise)
      (and_from _ _ (each_invokes branch_invokes guards first) (block_rule otherwise second))

  pub do_rule : (place : Place) (guards : List Guarded) → IsTrue (list_all branch_invokes guards) → IsTrue (one_invokes (written.Do place guards None))
  do_rule place guards first =
      rolled_statement (Statement-F.Do place guards None) (written.Do place guards None) (written.rolls-Do place guards None) (and_from _ _ (each_invokes branch_invokes guards first) refl)

  pub do_else_rule : (place : Place) (guards : List Guarded) (otherwise : List Statement) → IsTrue (list_all branch_invokes guards) → AllInvoke otherwise
      → IsTrue (one_invokes (written.Do place guards (Some otherwise)))
  do_else_rule place guards otherwise first second =
      rolled_statement (Statement-F.Do place guards (Some otherwise)) (written.Do place guards (Some otherwise)) (written.rolls-Do place guards (Some otherwise))
      (and_from _ _ (each_invokes branch_invokes guards first) (block_rule otherwise second))

  pub fa_rule : (place : Place) (quantifiers : List Quantifier) (body : List Statement) → IsTrue (list_all (quantifier_invokes test) quantifiers) → AllInvoke body
      → IsTrue (one_invokes (written.Fa place quantifiers body))
  fa_rule place quantifiers body first second =
      rolled_statement (Statement-F.Fa place quantifiers body) (written.Fa place quantifiers body) (written.rolls-Fa place quantifiers body) (and_from _ _ first (block_rule body second))

  pub in_rule : (place : Place) (site : ℕ) (arms : List (List Statement)) (otherwise : List Statement) → IsTrue (list_all (block_invokes test) arms) → AllInvoke otherwise
      → IsTrue (one_invokes (written.In place site arms otherwise))
  in_rule place site arms otherwise first second =
      rolled_statement (Statement-F.In place site arms otherwise) (written.In place site arms otherwise) (written.rolls-In place site arms otherwise)
      (and_from _ _ (list_all-map all_true (map one_invokes) arms ∙ first) (block_rule otherwise second))

  pub co_rule : (place : Place) (arms : List CoArm) → IsTrue (list_all arm_invokes arms) → IsTrue (one_invokes (written.Co place arms))
  co_rule place arms first = rolled_statement (Statement-F.Co place arms) (written.Co place arms) (written.rolls-Co place arms) (each_invokes arm_invokes arms first)

  pub sends_rule : (place : Place) (target count : Expr) → IsTrue (target_passes test.sends (expr_seen test target) 0) → IsTrue (expr_invokes test count) → IsTrue (one_invokes (written.Sends place target count))
  sends_rule place target count first second =
      rolled_statement (Statement-F.Sends place target count) (written.Sends place target count) (written.rolls-Sends place target count) (and_from _ _ first second)

  pub branch_rule : (condition : Expr) (body : List Statement) → IsTrue (expr_invokes test condition) → AllInvoke body → IsTrue (branch_invokes (roll-Guarded (record { condition = condition; body = body })))
  branch_rule condition body first second =
      fold-roll-Guarded Bool Bool Bool (statement_invokes test) (co_arm_invokes test) (guarded_invokes test) (record { condition = condition; body = body }) ∙ and_from _ _ first (block_rule body second)

  pub arm_rule : (quantifiers : List Quantifier) (call : CoCall) (body : List Statement) → IsTrue (list_all (quantifier_invokes test) quantifiers) → IsTrue (co_invokes test call) → AllInvoke body
      → IsTrue (arm_invokes (roll-CoArm (record { quantifiers = quantifiers; call = call; body = body })))
  arm_rule quantifiers call body first second third =
      fold-roll-CoArm Bool Bool Bool (statement_invokes test) (co_arm_invokes test) (guarded_invokes test) (record { quantifiers = quantifiers; call = call; body = body })
      ∙ and_from _ _ first (and_from _ _ second (block_rule body third))
