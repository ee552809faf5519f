-- What is made of what exists exists: a rule for each statement of the core.
use Rattle.std.proofs.Common.{◌≡◌, ℕ, List, Some, None, map, IsTrue, refl, sym, ap, ◌∙◌}
use Rattle.std.proofs.lemmas.Bool.{and_from}
use Rattle.std.proofs.lemmas.List.Folds.{list_all-map}
use Rattle.std.specs.List.{list_all}
use Rattle.sr_value.specs.declared.place.Place.{Place}
use Rattle.sr_core.specs.declared.expression.Expr.{Expr}
use Rattle.sr_core.specs.declared.statement.Action.{Action}
use Rattle.sr_core.specs.declared.statement.CoArm.{CoArm, roll-CoArm}
use Rattle.sr_core.specs.declared.statement.CoCall.{CoCall}
use Rattle.sr_core.specs.declared.statement.Declaration.{Declaration}
use Rattle.sr_core.specs.declared.statement.Guarded.{Guarded, roll-Guarded}
use Rattle.sr_core.specs.declared.statement.Quantifier.{Quantifier}
use Rattle.sr_core.specs.declared.statement.Statement.{Statement, roll-Statement}
use Rattle.sr_core.specs.declared.statement.Statement.TheFolds.{fold-CoArm, fold-Guarded, fold-Statement, fold-roll-CoArm, fold-roll-Guarded, fold-roll-Statement, map-Statement}
use Rattle.sr_core.specs.declared.statement.Statement.TheOpen.{Statement-F}
use Rattle.sr_core.specs.declared.statement.Statement.TheVariants as core
use Rattle.sr_core.specs.Numbers.{Test, Where, action_ok, all_pass, block_ok, co_arm_ok, co_ok, expr_ok, guarded_ok, quantifier_ok, setup_ok, statement_ok, var_ok}

-- a statement, and what stands in statements
abbrev pub one_ok : Statement → Test
one_ok = fold-Statement Test Test Test statement_ok co_arm_ok guarded_ok

abbrev pub branch_ok : Guarded → Test
branch_ok = fold-Guarded Test Test Test statement_ok co_arm_ok guarded_ok

abbrev pub arm_ok : CoArm → Test
arm_ok = fold-CoArm Test Test Test statement_ok co_arm_ok guarded_ok

module _ (at : Where) where
  passes : {A : Type 0} (test : A → Test) (things : List A) → IsTrue (list_all (λ thing. test thing at) things) → IsTrue (all_pass (map test things) at)
  passes test things all = list_all-map (λ (one : Test). one at) test things ∙ all

  -- ---- blocks

  pub block_rule : (block : List Statement) → IsTrue (list_all (λ one. one_ok one at) block) → IsTrue (block_ok block at)
  block_rule block all = passes one_ok block all

  pub block_parts : (block : List Statement) → IsTrue (block_ok block at) → IsTrue (list_all (λ one. one_ok one at) block)
  block_parts block ok = sym (list_all-map (λ (one : Test). one at) one_ok block) ∙ ok

  -- ---- statements

  rolled : (node : Statement-F Statement CoArm Guarded) (statement : Statement) → roll-Statement node ≡ statement
      → IsTrue (statement_ok (map-Statement Statement CoArm Guarded Test Test Test one_ok arm_ok branch_ok node) at) → IsTrue (one_ok statement at)
  rolled node statement is ok =
      ap (λ (one : Statement). one_ok one at) (sym is) ∙ ap (λ (test : Test). test at) (fold-roll-Statement Test Test Test statement_ok co_arm_ok guarded_ok node) ∙ ok

  pub declare_rule : (place : Place) (declaration : Declaration)
      → IsTrue (var_ok declaration.scope declaration.var at) → IsTrue (setup_ok declaration.setup at) → IsTrue (one_ok (core.Declare place declaration) at)
  declare_rule place declaration ok_var ok_setup =
      rolled (Statement-F.Declare place declaration) (core.Declare place declaration) (core.rolls-Declare place declaration) (and_from _ _ ok_var ok_setup)

  pub act_rule : (place : Place) (action : Action) → IsTrue (action_ok action at) → IsTrue (one_ok (core.Act place action) at)
  act_rule place action ok = rolled (Statement-F.Act place action) (core.Act place action) (core.rolls-Act place action) ok

  pub if_rule : (place : Place) (guards : List Guarded) (otherwise : List Statement)
      → IsTrue (list_all (λ one. branch_ok one at) guards) → IsTrue (block_ok otherwise at) → IsTrue (one_ok (core.If place guards otherwise) at)
  if_rule place guards otherwise ok_guards ok_otherwise =
      rolled (Statement-F.If place guards otherwise) (core.If place guards otherwise) (core.rolls-If place guards otherwise)
      (and_from _ _ (passes branch_ok guards ok_guards) ok_otherwise)

  pub do_rule : (place : Place) (guards : List Guarded)
      → IsTrue (list_all (λ one. branch_ok one at) guards) → IsTrue (one_ok (core.Do place guards None) at)
  do_rule place guards ok_guards =
      rolled (Statement-F.Do place guards None) (core.Do place guards None) (core.rolls-Do place guards None) (and_from _ _ (passes branch_ok guards ok_guards) refl)

  pub do_else_rule : (place : Place) (guards : List Guarded) (otherwise : List Statement)
      → IsTrue (list_all (λ one. branch_ok one at) guards) → IsTrue (block_ok otherwise at) → IsTrue (one_ok (core.Do place guards (Some otherwise)) at)
  do_else_rule place guards otherwise ok_guards ok_otherwise =
      rolled (Statement-F.Do place guards (Some otherwise)) (core.Do place guards (Some otherwise)) (core.rolls-Do place guards (Some otherwise))
      (and_from _ _ (passes branch_ok guards ok_guards) ok_otherwise)

  pub fa_rule : (place : Place) (quantifiers : List Quantifier) (body : List Statement)
      → IsTrue (list_all (λ q. quantifier_ok q at) quantifiers) → IsTrue (block_ok body at) → IsTrue (one_ok (core.Fa place quantifiers body) at)
  fa_rule place quantifiers body ok_quantifiers ok_body =
      rolled (Statement-F.Fa place quantifiers body) (core.Fa place quantifiers body) (core.rolls-Fa place quantifiers body) (and_from _ _ ok_quantifiers ok_body)

  pub in_rule : (place : Place) (site : ℕ) (arms : List (List Statement)) (otherwise : List Statement)
      → IsTrue (list_all (λ block. block_ok block at) arms) → IsTrue (block_ok otherwise at) → IsTrue (one_ok (core.In place site arms otherwise) at)
  in_rule place site arms otherwise ok_arms ok_otherwise =
      rolled (Statement-F.In place site arms otherwise) (core.In place site arms otherwise) (core.rolls-In place site arms otherwise)
      (and_from _ _ (list_all-map (λ (block : List Test). all_pass block at) (map one_ok) arms ∙ ok_arms) ok_otherwise)

  pub co_rule : (place : Place) (arms : List CoArm) → IsTrue (list_all (λ one. arm_ok one at) arms) → IsTrue (one_ok (core.Co place arms) at)
  co_rule place arms ok_arms = rolled (Statement-F.Co place arms) (core.Co place arms) (core.rolls-Co place arms) (passes arm_ok arms ok_arms)

  pub sends_rule : (place : Place) (target count : Expr) → IsTrue (expr_ok target at) → IsTrue (expr_ok count at) → IsTrue (one_ok (core.Sends place target count) at)
  sends_rule place target count ok_target ok_count =
      rolled (Statement-F.Sends place target count) (core.Sends place target count) (core.rolls-Sends place target count) (and_from _ _ ok_target ok_count)

  -- ---- parts of statements

  pub branch_rule : (condition : Expr) (body : List Statement)
      → IsTrue (expr_ok condition at) → IsTrue (block_ok body at) → IsTrue (branch_ok (roll-Guarded (record { condition = condition; body = body })) at)
  branch_rule condition body ok_condition ok_body =
      ap (λ (test : Test). test at) (fold-roll-Guarded Test Test Test statement_ok co_arm_ok guarded_ok (record { condition = condition; body = body }))
      ∙ and_from _ _ ok_condition ok_body

  pub arm_rule : (quantifiers : List Quantifier) (call : CoCall) (body : List Statement)
      → IsTrue (list_all (λ q. quantifier_ok q at) quantifiers) → IsTrue (co_ok call at) → IsTrue (block_ok body at)
      → IsTrue (arm_ok (roll-CoArm (record { quantifiers = quantifiers; call = call; body = body })) at)
  arm_rule quantifiers call body ok_quantifiers ok_call ok_body =
      ap (λ (test : Test). test at) (fold-roll-CoArm Test Test Test statement_ok co_arm_ok guarded_ok (record { quantifiers = quantifiers; call = call; body = body }))
      ∙ and_from _ _ ok_quantifiers (and_from _ _ ok_call ok_body)
