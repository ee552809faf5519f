-- What is made of parts mentions what they mention: a rule for each statement of the core.
use Rattle.std.proofs.Common.{◌≡◌, ℕ, Bool, List, [], ◌∷◌, ◌++◌, Some, None, map, IsTrue, refl, sym, ap, ◌∙◌}
use Rattle.std.proofs.lemmas.Bool.{and_parts}
use Rattle.std.specs.List.{list_all}
use Rattle.sr_value.specs.declared.place.Place.{Place}
use Rattle.sr_core.specs.declared.expression.Expr.{Expr}
use Rattle.sr_core.specs.declared.statement.Action.{Action}
use Rattle.sr_core.specs.declared.statement.CoArm.{CoArm, roll-CoArm}
use Rattle.sr_core.specs.declared.statement.CoCall.{CoCall}
use Rattle.sr_core.specs.declared.statement.Declaration.{Declaration}
use Rattle.sr_core.specs.declared.statement.Guarded.{Guarded, roll-Guarded}
use Rattle.sr_core.specs.declared.statement.Quantifier.{Quantifier}
use Rattle.sr_core.specs.declared.statement.Statement.{Statement, roll-Statement}
use Rattle.sr_core.specs.declared.statement.Statement.TheFolds.{fold-roll-CoArm, fold-roll-Guarded, fold-roll-Statement, map-Statement}
use Rattle.sr_core.specs.declared.statement.Statement.TheOpen.{Statement-F}
use Rattle.sr_core.specs.declared.statement.Statement.TheVariants as core
use Rattle.sr_tables.specs.declared.sites.Mention.{Mention}
use Rattle.sr_tables.specs.Lists.{lists}
use Rattle.sr_tables.specs.Sites.{mentions_in}
use Rattle.sr_lower_expr.proofs.Each.{both_pass}
use Rattle.sr_front.specs.Imports.{action_mentions, block_mentions, co_arm_mentions, co_call_mentions, guarded_mentions, mentions_of, mentions_of_arm, mentions_of_branch, quantifier_mentions, quantifiers_mentions, setup_mentions, statement_mentions}
use Rattle.sr_front.proofs.Mentioned.MentionRules.{all_pass, expr_passes, rows}

module _ (test : Mention → Bool) where
  abbrev pub one_passes : Statement → Bool
  one_passes one = all_pass test (mentions_of one)

  abbrev pub branch_passes : Guarded → Bool
  branch_passes one = all_pass test (mentions_of_branch one)

  abbrev pub arm_passes : CoArm → Bool
  arm_passes one = all_pass test (mentions_of_arm one)

  abbrev pub block_passes : List Statement → Bool
  block_passes block = all_pass test (block_mentions block)

  abbrev pub action_passes : Action → Bool
  action_passes one = all_pass test (action_mentions one)

  abbrev pub quantifier_passes : Quantifier → Bool
  quantifier_passes one = all_pass test (quantifier_mentions one)

  both : (xs ys : List Mention) → IsTrue (all_pass test xs) → IsTrue (all_pass test ys) → IsTrue (all_pass test (xs ++ ys))
  both = both_pass test

  -- ---- blocks

  pub block_rule : (block : List Statement) → IsTrue (list_all one_passes block) → IsTrue (block_passes block)
  block_rule block all = rows test mentions_of block all

  blocks_rule : (blocks : List (List Statement)) → IsTrue (list_all block_passes blocks) → IsTrue (all_pass test (lists (map lists (map (map mentions_of) blocks))))
  blocks_rule [] all = refl
  blocks_rule (block ∷ blocks) all =
      let parts = and_parts (block_passes block) _ all in
      both (block_mentions block) (lists (map lists (map (map mentions_of) blocks))) parts.0 (blocks_rule blocks parts.1)

  -- ---- statements

  rolled : (node : Statement-F Statement CoArm Guarded) (statement : Statement) → roll-Statement node ≡ statement
      → IsTrue (all_pass test (statement_mentions (map-Statement Statement CoArm Guarded (List Mention) (List Mention) (List Mention) mentions_of mentions_of_arm mentions_of_branch node)))
      → IsTrue (one_passes statement)
  rolled node statement is ok =
      ap (λ (one : Statement). one_passes one) (sym is)
      ∙ ap (list_all test) (fold-roll-Statement (List Mention) (List Mention) (List Mention) statement_mentions co_arm_mentions guarded_mentions node)
      ∙ ok

  pub declare_rule : (place : Place) (declaration : Declaration) → IsTrue (all_pass test (setup_mentions declaration.setup)) → IsTrue (one_passes (core.Declare place declaration))
  declare_rule place declaration ok = rolled (Statement-F.Declare place declaration) (core.Declare place declaration) (core.rolls-Declare place declaration) ok

  pub act_rule : (place : Place) (action : Action) → IsTrue (action_passes action) → IsTrue (one_passes (core.Act place action))
  act_rule place action ok = rolled (Statement-F.Act place action) (core.Act place action) (core.rolls-Act place action) ok

  pub if_rule : (place : Place) (guards : List Guarded) (otherwise : List Statement)
      → IsTrue (list_all branch_passes guards) → IsTrue (block_passes otherwise) → IsTrue (one_passes (core.If place guards otherwise))
  if_rule place guards otherwise ok_guards ok_otherwise =
      rolled (Statement-F.If place guards otherwise) (core.If place guards otherwise) (core.rolls-If place guards otherwise)
      (both (lists (map mentions_of_branch guards)) (block_mentions otherwise) (rows test mentions_of_branch guards ok_guards) ok_otherwise)

  pub do_rule : (place : Place) (guards : List Guarded) → IsTrue (list_all branch_passes guards) → IsTrue (one_passes (core.Do place guards None))
  do_rule place guards ok_guards =
      rolled (Statement-F.Do place guards None) (core.Do place guards None) (core.rolls-Do place guards None)
      (both (lists (map mentions_of_branch guards)) [] (rows test mentions_of_branch guards ok_guards) refl)

  pub do_else_rule : (place : Place) (guards : List Guarded) (otherwise : List Statement)
      → IsTrue (list_all branch_passes guards) → IsTrue (block_passes otherwise) → IsTrue (one_passes (core.Do place guards (Some otherwise)))
  do_else_rule place guards otherwise ok_guards ok_otherwise =
      rolled (Statement-F.Do place guards (Some otherwise)) (core.Do place guards (Some otherwise)) (core.rolls-Do place guards (Some otherwise))
      (both (lists (map mentions_of_branch guards)) (block_mentions otherwise) (rows test mentions_of_branch guards ok_guards) ok_otherwise)

  pub fa_rule : (place : Place) (quantifiers : List Quantifier) (body : List Statement)
      → IsTrue (list_all quantifier_passes quantifiers) → IsTrue (block_passes body) → IsTrue (one_passes (core.Fa place quantifiers body))
  fa_rule place quantifiers body ok_quantifiers ok_body =
      rolled (Statement-F.Fa place quantifiers body) (core.Fa place quantifiers body) (core.rolls-Fa place quantifiers body)
      (both (quantifiers_mentions quantifiers) (block_mentions body) (rows test quantifier_mentions quantifiers ok_quantifiers) ok_body)

  pub in_rule : (place : Place) (site : ℕ) (arms : List (List Statement)) (otherwise : List Statement)
      → IsTrue (list_all block_passes arms) → IsTrue (block_passes otherwise) → IsTrue (one_passes (core.In place site arms otherwise))
  in_rule place site arms otherwise ok_arms ok_otherwise =
      rolled (Statement-F.In place site arms otherwise) (core.In place site arms otherwise) (core.rolls-In place site arms otherwise)
      (both (lists (map lists (map (map mentions_of) arms))) (block_mentions otherwise) (blocks_rule arms ok_arms) ok_otherwise)

  pub co_rule : (place : Place) (arms : List CoArm) → IsTrue (list_all arm_passes arms) → IsTrue (one_passes (core.Co place arms))
  co_rule place arms ok_arms = rolled (Statement-F.Co place arms) (core.Co place arms) (core.rolls-Co place arms) (rows test mentions_of_arm arms ok_arms)

  pub sends_rule : (place : Place) (target count : Expr) → IsTrue (expr_passes test target) → IsTrue (expr_passes test count) → IsTrue (one_passes (core.Sends place target count))
  sends_rule place target count ok_target ok_count =
      rolled (Statement-F.Sends place target count) (core.Sends place target count) (core.rolls-Sends place target count) (both (mentions_in target) (mentions_in count) ok_target ok_count)

  -- ---- parts of statements

  pub branch_rule : (condition : Expr) (body : List Statement)
      → IsTrue (expr_passes test condition) → IsTrue (block_passes body) → IsTrue (branch_passes (roll-Guarded (record { condition = condition; body = body })))
  branch_rule condition body ok_condition ok_body =
      ap (list_all test) (fold-roll-Guarded (List Mention) (List Mention) (List Mention) statement_mentions co_arm_mentions guarded_mentions (record { condition = condition; body = body }))
      ∙ both (mentions_in condition) (block_mentions body) ok_condition ok_body

  pub arm_rule : (quantifiers : List Quantifier) (call : CoCall) (body : List Statement)
      → IsTrue (list_all quantifier_passes quantifiers) → IsTrue (all_pass test (co_call_mentions call)) → IsTrue (block_passes body)
      → IsTrue (arm_passes (roll-CoArm (record { quantifiers = quantifiers; call = call; body = body })))
  arm_rule quantifiers call body ok_quantifiers ok_call ok_body =
      ap (list_all test)
      (fold-roll-CoArm (List Mention) (List Mention) (List Mention) statement_mentions co_arm_mentions guarded_mentions (record { quantifiers = quantifiers; call = call; body = body }))
      ∙ both (quantifiers_mentions quantifiers) (co_call_mentions call ++ block_mentions body) (rows test quantifier_mentions quantifiers ok_quantifiers)
      (both (co_call_mentions call) (block_mentions body) ok_call ok_body)
