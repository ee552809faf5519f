-- Where no rule is broken the guards and orders of the arms of all sites are side-effect-free: statements.
use Rattle.std.proofs.Common.{refl, sym, subst, Bool, true, false, List, [], ◌∷◌, ◌++◌, Option, Some, None, map, flat_map, is_some}
use Rattle.std.specs.Prelude.{IsTrue, if◌then◌else◌}
use Rattle.std.specs.List.{list_all}
use Rattle.std.specs.Option.{option_map}
use Rattle.std.proofs.lemmas.Bool.{and_from}
use Rattle.std.proofs.lemmas.List.Folds.{list_all-append}
use Rattle.sr_core.specs.declared.site.Site.{Site}
use Rattle.sr_core.specs.declared.statement.Statement.{Statement as CoreStatement}
use Rattle.sr_core.specs.EffectFree.{is_effect_free}
use Rattle.sr_core.specs.Tests.{if_some}
use Rattle.sr_check.specs.Contexts.{Context, Step, Steps, in_order, looping, with_facts}
use Rattle.sr_check.specs.Invoking.{started_found}
use Rattle.sr_check.specs.Quantifying.{expr_with, maybe_with, quantifiers_found, quantifiers_known}
use Rattle.sr_check.specs.Services.{head_found, operation_named, type_of}
use Rattle.sr_check.specs.Uses.{choice_rule, condition_rule}
use Rattle.sr_check.specs.Statements.{arm_context, arm_read, arms_at, block_item_read, branch_read, co_arms_at, co_arm_read, condition_found, guarding, guards_found, mixture_found, statement_read}
use Rattle.sr_check_expr.specs.declared.facts.Facts.{Facts}
use Rattle.sr_check_expr.specs.Exprs.{infer_expr, infer_invocation}
use Rattle.sr_check_expr.specs.Typings.{value_found, valued}
use Rattle.sr_names.specs.declared.predefined.Predefined.{Predefined}
use Rattle.sr_names.specs.Spots.{spot_of}
use Rattle.sr_order.specs.Names.{arm_names, block_item_names, branch_names, co_arm_names, condition_names, expr_names, invocation_names, name_names, names_spans, quantifier_names, statement_names, where_some}
use Rattle.sr_order.specs.Spans.{joined}
use Rattle.sr_check_expr.specs.Meanings.{function_called}
use Rattle.sr_outline.specs.Numbers.{is_p}
use Rattle.sr_tree.specs.declared.expr.Expr.{Expr}
use Rattle.sr_tree.specs.declared.expr.Invocation.{Invocation}
use Rattle.sr_tree.specs.declared.statement.Arm.{Arm}
use Rattle.sr_tree.specs.declared.statement.ArmCondition.{ArmCondition}
use Rattle.sr_tree.specs.declared.statement.BlockItem.{BlockItem}
use Rattle.sr_tree.specs.declared.statement.BlockItem.TheOpen.{BlockItem-F, Statement-F}
use Rattle.sr_tree.specs.declared.statement.Branch.{Branch}
use Rattle.sr_tree.specs.declared.statement.CoArm.{CoArm}
use Rattle.sr_tree.specs.declared.statement.Statement.{Statement}
use Rattle.sr_value.specs.declared.place.Span.{Span}
use Rattle.sr_lower_expr.specs.declared.scene.Scene.{Scene}
use Rattle.sr_lower_expr.specs.Expressions.{core_value}
use Rattle.sr_desugar.specs.Statements.{LoweredArm, WithSites, all_sites, arms_of, block_made, call_made, condition_of, core_arm, core_block_item, core_branch, core_co_arm, core_statement}
use Rattle.sr_front.proofs.Served.Serviced.{arm_effect_free}
use Rattle.sr_check.proofs.Each.{each-left, each-right}
use Rattle.sr_desugar.proofs.CodeFold.{making}
use Rattle.sr_order.proofs.NameFolds.{naming}
use Rattle.sr_check.proofs.ReadFolds.{reading}
use Rattle.sr_front.proofs.EffectFree.EffectFreeExprs.{Stay, expr_is_effect_free}
use Rattle.sr_tree.proofs.StatementFolds.{ArmNode, BranchNode, ByParts, Claim, CoArmNode, ItemNode, Known, StatementNode, arm_folds, bare_arm, bare_branch, bare_co_arm, bare_item, bare_statement, branch_folds, co_arm_folds, each_statement, from_arm, from_branch, from_co_arm, from_item, from_statement, item_folds, statement_folds}
use Rattle.sr_front.proofs.Known.Staying.{AllFree, Free, Same, same_const, same_quantifiers, same_service, same_var, stay_through}
use Rattle.sr_check.specs.ErrorFree.{ErrorFree}
use Rattle.sr_check.proofs.ErrorFree.{error_free_first, error_free_second}

abbrev site_is_effect_free : Site → Bool
site_is_effect_free site = list_all arm_effect_free site.arms

-- the arms of all these sites are side-effect-free
abbrev pub all_effect_free : List Site → Bool
all_effect_free sites = list_all site_is_effect_free sites

pub effect_free_appended : (xs ys : List Site) → IsTrue (all_effect_free xs) → IsTrue (all_effect_free ys) → IsTrue (all_effect_free (xs ++ ys))
effect_free_appended xs ys first second = subst IsTrue (sym (list_all-append site_is_effect_free xs ys)) (and_from _ _ first second)

-- a construct is read: types and components are the same after it, and where no rule is broken its sites are side-effect-free
pub record Good (known : Facts) (step : Step) (sites : List Site) : Type 0 where
  pub same : Same known step.facts
  pub effect_free : ErrorFree step.found → IsTrue (all_effect_free sites)

-- `known` is what is declared before any statement is looked at; the scene has what is known in the end
module _ (known : Facts) (scene : Scene) (later : Stay known scene.facts) where
  -- ---- guards

  value_effect_free : (facts : Facts) → Same known facts → (expr : Expr) → ErrorFree (infer_expr expr (guarding facts)).found → IsTrue (is_effect_free (core_value scene expr))
  value_effect_free facts same expr whole =
      let stay = stay_through facts known scene.facts same.back later in
      expr_is_effect_free scene (guarding facts) refl (record { uses = stay.uses; infos = stay.infos }) expr whole

  condition_effect_free : (facts : Facts) → Same known facts → (condition : Option ArmCondition) → ErrorFree (condition_found (guarding facts) condition)
      → IsTrue (if_some is_effect_free (condition_of scene condition))
  condition_effect_free facts same None whole = refl
  condition_effect_free facts same (Some written) whole =
      let typing = infer_expr written.condition (guarding facts) in
      value_effect_free facts same written.condition (error_free_first typing.found (value_found typing.typed_expr) (error_free_first (valued typing) _ whole))

  order_effect_free : (facts : Facts) → Same known facts → (order : Option Expr) → ErrorFree (maybe_with choice_rule (guarding facts) order)
      → IsTrue (if_some is_effect_free (option_map (core_value scene) order))
  order_effect_free facts same None whole = refl
  order_effect_free facts same (Some expr) whole =
      let typing = infer_expr expr (guarding facts) in
      value_effect_free facts same expr (error_free_first typing.found (value_found typing.typed_expr) (error_free_first (valued typing) _ whole))

  -- ---- trees

  abbrev ItemGood : BlockItem → Type 0
  ItemGood item = AllFree known (block_item_names item) → (context : Context) → Same known context.facts → Good known (block_item_read item context) (core_block_item scene item).sites

  abbrev pub StatementGood : Statement → Type 0
  StatementGood tree = AllFree known (statement_names tree) → (context : Context) → Same known context.facts → Good known (statement_read tree context) (core_statement scene tree).sites

  -- an arm, with its own guards
  pub record ArmGoodIn (step : Step) (made : WithSites LoweredArm) : Type 0 where
    pub same : Same known step.facts
    pub guards : ErrorFree step.found → IsTrue (arm_effect_free made.made.arm)
    pub effect_free : ErrorFree step.found → IsTrue (all_effect_free made.sites)

  abbrev ArmGood : Arm → Type 0
  ArmGood arm = AllFree known (arm_names arm) → (span : Span) (context : Context) → Same known context.facts → ArmGoodIn ((arm_read arm).steps span context) (core_arm scene arm)

  abbrev BranchGood : Branch → Type 0
  BranchGood branch = AllFree known (branch_names branch) → (context : Context) → Same known context.facts → Good known (branch_read branch context) (core_branch scene branch).sites

  abbrev CoArmGood : CoArm → Type 0
  CoArmGood arm = AllFree known (co_arm_names arm) → (span : Span) (context : Context) → Same known context.facts → Good known (co_arm_read arm span context) (core_co_arm scene arm).sites

  abbrev good : Claim
  good = record { item = ItemGood; statement = StatementGood; arm = ArmGood; branch = BranchGood; co_arm = CoArmGood }

  -- one after another
  row_good : {X M : Type 0} (read : X → Steps) (names : X → List Span) (make : X → WithSites M)
      (xs : List ((x : X) × (AllFree known (names x) → (context : Context) → Same known context.facts → Good known (read x context) (make x).sites)))
      → AllFree known (joined (map names (map (λ x. x.0) xs))) → (context : Context) → Same known context.facts
      → Good known (in_order (map read (map (λ x. x.0) xs)) context) (all_sites (map make (map (λ x. x.0) xs)))
  row_good read names make [] free context same = record { same = same; effect_free = λ whole. refl }
  row_good read names make (x ∷ xs) free context same =
      let first = x.1 (each-left (Free known) (names x.0) _ free) context same in
      let rest = row_good read names make xs (each-right (Free known) (names x.0) _ free) (with_facts context (read x.0 context).facts) first.same in
      record {
        same = rest.same;
        effect_free = λ whole. effect_free_appended (make x.0).sites (all_sites (map make (map (λ x. x.0) xs)))
            (first.effect_free (error_free_first (read x.0 context).found _ whole)) (rest.effect_free (error_free_second (read x.0 context).found _ whole));
      }

  items_good : (items : List (Known ItemGood)) → AllFree known (joined (map block_item_names (map (λ e. e.0) items))) → (context : Context) → Same known context.facts
      → Good known (in_order (map block_item_read (map (λ e. e.0) items)) context) (block_made (map (core_block_item scene) (map (λ e. e.0) items))).sites
  items_good items = row_good block_item_read block_item_names (core_block_item scene) items

  branches_good : (branches : List (Known BranchGood)) → AllFree known (joined (map branch_names (map (λ e. e.0) branches))) → (context : Context) → Same known context.facts
      → Good known (in_order (map branch_read (map (λ e. e.0) branches)) context) (all_sites (map (core_branch scene) (map (λ e. e.0) branches)))
  branches_good branches = row_good branch_read branch_names (core_branch scene) branches

  co_arms_good : (span : Span) (arms : List (Known CoArmGood)) → AllFree known (joined (map co_arm_names (map (λ e. e.0) arms))) → (context : Context) → Same known context.facts
      → Good known (in_order (co_arms_at span (map co_arm_read (map (λ e. e.0) arms))) context) (all_sites (map (core_co_arm scene) (map (λ e. e.0) arms)))
  co_arms_good span [] free context same = record { same = same; effect_free = λ whole. refl }
  co_arms_good span (arm ∷ arms) free context same =
      let step = co_arm_read arm.0 span context in
      let first = arm.1 (each-left (Free known) (co_arm_names arm.0) _ free) span context same in
      let rest = co_arms_good span arms (each-right (Free known) (co_arm_names arm.0) _ free) (with_facts context step.facts) first.same in
      record {
        same = rest.same;
        effect_free = λ whole. effect_free_appended (core_co_arm scene arm.0).sites (all_sites (map (core_co_arm scene) (map (λ e. e.0) arms)))
            (first.effect_free (error_free_first step.found _ whole)) (rest.effect_free (error_free_second step.found _ whole));
      }

  -- the arms of an `in`
  pub record ArmsGoodIn (step : Step) (made : List (WithSites LoweredArm)) : Type 0 where
    pub same : Same known step.facts
    pub guards : ErrorFree step.found → IsTrue (list_all arm_effect_free (arms_of made))
    pub effect_free : ErrorFree step.found → IsTrue (all_effect_free (all_sites made))

  arms_good : (span : Span) (arms : List (Known ArmGood)) → AllFree known (joined (map arm_names (map (λ e. e.0) arms))) → (context : Context) → Same known context.facts
      → ArmsGoodIn (in_order (arms_at span (map arm_read (map (λ e. e.0) arms))) context) (map (core_arm scene) (map (λ e. e.0) arms))
  arms_good span [] free context same = record { same = same; guards = λ whole. refl; effect_free = λ whole. refl }
  arms_good span (arm ∷ arms) free context same =
      let step = (arm_read arm.0).steps span context in
      let first = arm.1 (each-left (Free known) (arm_names arm.0) _ free) span context same in
      let rest = arms_good span arms (each-right (Free known) (arm_names arm.0) _ free) (with_facts context step.facts) first.same in
      record {
        same = rest.same;
        guards = λ whole. and_from _ _ (first.guards (error_free_first step.found _ whole)) (rest.guards (error_free_second step.found _ whole));
        effect_free = λ whole. effect_free_appended (core_arm scene arm.0).sites (all_sites (map (core_arm scene) (map (λ e. e.0) arms)))
            (first.effect_free (error_free_first step.found _ whole)) (rest.effect_free (error_free_second step.found _ whole));
      }

  -- ---- the open trees

  either_effect_free : (test : Bool) (one other : WithSites CoreStatement) → IsTrue (all_effect_free one.sites) → IsTrue (all_effect_free other.sites) → IsTrue (all_effect_free (if test then one else other).sites)
  either_effect_free true one other first second = first
  either_effect_free false one other first second = second

  -- a call is of `P`, whose arm has no guard, or has no site
  call_effect_free : (span : Span) (invocation : Invocation) (function : Option Predefined) → IsTrue (all_effect_free (call_made scene span invocation function).sites)
  call_effect_free span invocation function = either_effect_free (is_p function) _ _ refl refl

  statement_good : (y : StatementNode good) → AllFree known (from_statement naming (bare_statement good y)) → (context : Context) → Same known context.facts
      → Good known (from_statement reading (bare_statement good y) context) (from_statement (making scene) (bare_statement good y)).sites
  statement_good (Statement-F.Call span with_call invocation) free context same =
      record { same = same; effect_free = λ whole. call_effect_free span invocation (function_called scene.facts invocation) }
  statement_good (Statement-F.Receive span operation places) free context same = record { same = same; effect_free = λ whole. refl }
  statement_good (Statement-F.If span branches None) free context same =
      let first = branches_good branches (each-left (Free known) (joined (map branch_names (map (λ e. e.0) branches))) _ free) context same in
      record { same = first.same; effect_free = λ whole. effect_free_appended (all_sites (map (core_branch scene) (map (λ e. e.0) branches))) [] (first.effect_free (error_free_first (in_order (map branch_read (map (λ e. e.0) branches)) context).found _ whole)) refl }
  statement_good (Statement-F.If span branches (Some otherwise)) free context same =
      let step = in_order (map branch_read (map (λ e. e.0) branches)) context in
      let first = branches_good branches (each-left (Free known) (joined (map branch_names (map (λ e. e.0) branches))) _ free) context same in
      let second = items_good otherwise (each-right (Free known) (joined (map branch_names (map (λ e. e.0) branches))) _ free) (with_facts context step.facts) first.same in
      record {
        same = second.same;
        effect_free = λ whole. effect_free_appended (all_sites (map (core_branch scene) (map (λ e. e.0) branches))) (block_made (map (core_block_item scene) (map (λ e. e.0) otherwise))).sites
            (first.effect_free (error_free_first step.found _ whole)) (second.effect_free (error_free_second step.found _ whole));
      }
  statement_good (Statement-F.Do span branches None) free context same =
      let first = branches_good branches (each-left (Free known) (joined (map branch_names (map (λ e. e.0) branches))) _ free) (looping context) same in
      record { same = first.same; effect_free = λ whole. effect_free_appended (all_sites (map (core_branch scene) (map (λ e. e.0) branches))) [] (first.effect_free (error_free_first (in_order (map branch_read (map (λ e. e.0) branches)) (looping context)).found _ whole)) refl }
  statement_good (Statement-F.Do span branches (Some otherwise)) free context same =
      let step = in_order (map branch_read (map (λ e. e.0) branches)) (looping context) in
      let first = branches_good branches (each-left (Free known) (joined (map branch_names (map (λ e. e.0) branches))) _ free) (looping context) same in
      let second = items_good otherwise (each-right (Free known) (joined (map branch_names (map (λ e. e.0) branches))) _ free) (with_facts (looping context) step.facts) first.same in
      record {
        same = second.same;
        effect_free = λ whole. effect_free_appended (all_sites (map (core_branch scene) (map (λ e. e.0) branches))) (block_made (map (core_block_item scene) (map (λ e. e.0) otherwise))).sites
            (first.effect_free (error_free_first step.found _ whole)) (second.effect_free (error_free_second step.found _ whole));
      }
  statement_good (Statement-F.ForAll span quantifiers block) free context same =
      let names = flat_map quantifier_names quantifiers in
      let inside = looping (with_facts context (quantifiers_known context.facts quantifiers)) in
      let inner = items_good block (each-right (Free known) names _ free) inside (same_quantifiers known quantifiers context.facts (each-left (Free known) names _ free) same) in
      record { same = inner.same; effect_free = λ whole. inner.effect_free (error_free_second (quantifiers_found context.facts quantifiers) _ whole) }
  statement_good (Statement-F.In span arms None) free context same =
      let mixture = mixture_found context.facts span (map arm_read (map (λ e. e.0) arms)) in
      let step = in_order (arms_at span (map arm_read (map (λ e. e.0) arms))) context in
      let first = arms_good span arms (each-left (Free known) (joined (map arm_names (map (λ e. e.0) arms))) _ free) context same in
      record {
        same = first.same;
        effect_free = λ whole.
            let after = error_free_first step.found _ (error_free_second mixture _ whole) in
            and_from _ _ (first.guards after) (effect_free_appended (all_sites (map (core_arm scene) (map (λ e. e.0) arms))) [] (first.effect_free after) refl);
      }
  statement_good (Statement-F.In span arms (Some otherwise)) free context same =
      let mixture = mixture_found context.facts span (map arm_read (map (λ e. e.0) arms)) in
      let step = in_order (arms_at span (map arm_read (map (λ e. e.0) arms))) context in
      let first = arms_good span arms (each-left (Free known) (joined (map arm_names (map (λ e. e.0) arms))) _ free) context same in
      let second = items_good otherwise (each-right (Free known) (joined (map arm_names (map (λ e. e.0) arms))) _ free) (with_facts context step.facts) first.same in
      record {
        same = second.same;
        effect_free = λ whole.
            let after = error_free_first step.found _ (error_free_second mixture _ whole) in
            and_from _ _ (first.guards after)
            (effect_free_appended (all_sites (map (core_arm scene) (map (λ e. e.0) arms))) (block_made (map (core_block_item scene) (map (λ e. e.0) otherwise))).sites
            (first.effect_free after) (second.effect_free (error_free_second step.found _ (error_free_second mixture _ whole))));
      }
  statement_good (Statement-F.Co span arms) free context same = co_arms_good span arms free context same
  statement_good _ free context same = record { same = same; effect_free = λ whole. refl }

  -- ---- arms, branches and items

  arm_good : (y : ArmNode good) → AllFree known (from_arm naming (bare_arm good y)) → (span : Span) (context : Context) → Same known context.facts
      → ArmGoodIn ((from_arm reading (bare_arm good y)).steps span context) (from_arm (making scene) (bare_arm good y))
  arm_good y free span context same =
      let operation = operation_named context.facts y.operation in
      let inside = arm_context context (spot_of y.operation.span) y.formals y.returned operation in
      let formals = each-left (Free known) (names_spans y.formals) _ free.1 in
      let after = each-right (Free known) (names_spans y.formals) _ free.1 in
      let returned = each-left (Free known) (where_some name_names y.returned) _ after in
      let block =
      each-right (Free known) (where_some expr_names y.order) _ (each-right (Free known) (where_some condition_names y.condition) _ (each-right (Free known) (where_some name_names y.returned) _ after)) in
      let within = same_service known y.formals y.returned (type_of operation) context.facts formals returned same in
      let inner = items_good y.block block inside within in
      let head = head_found context.facts context.procs span y.formals (is_some y.returned) operation in
      let guards = guards_found inside.facts y.condition y.order in
      record {
        same = inner.same;
        guards = λ whole.
            let both = error_free_first guards _ (error_free_second head _ whole) in
            and_from _ _ (condition_effect_free inside.facts within y.condition (error_free_first (condition_found (guarding inside.facts) y.condition) _ both))
            (order_effect_free inside.facts within y.order (error_free_second (condition_found (guarding inside.facts) y.condition) _ both));
        effect_free = λ whole. inner.effect_free (error_free_second guards _ (error_free_second head _ whole));
      }

  branch_good : (y : BranchNode good) → AllFree known (from_branch naming (bare_branch good y)) → (context : Context) → Same known context.facts
      → Good known (from_branch reading (bare_branch good y) context) (from_branch (making scene) (bare_branch good y)).sites
  branch_good y free context same =
      let inner = items_good y.block (each-right (Free known) (expr_names y.guard) _ free) context same in
      record { same = inner.same; effect_free = λ whole. inner.effect_free (error_free_second (expr_with condition_rule context.facts y.guard) _ whole) }

  co_arm_by : (y : CoArmNode good) (block : Option (List (Known ItemGood))) → AllFree known (from_co_arm naming (bare_co_arm good (record y { block = block }))) → (span : Span) (context : Context) → Same known context.facts
      → Good known (from_co_arm reading (bare_co_arm good (record y { block = block })) span context) (from_co_arm (making scene) (bare_co_arm good (record y { block = block }))).sites
  co_arm_by y None free span context same =
      record { same = same_quantifiers known y.quantifiers context.facts (each-left (Free known) (flat_map quantifier_names y.quantifiers) _ free) same; effect_free = λ whole. refl }
  co_arm_by y (Some items) free span context same =
      let names = flat_map quantifier_names y.quantifiers in
      let inside = quantifiers_known context.facts y.quantifiers in
      let after = each-right (Free known) (invocation_names y.invocation) _ (each-right (Free known) (where_some expr_names y.target) _ (each-right (Free known) names _ free)) in
      let inner = items_good items after (looping (with_facts context inside)) (same_quantifiers known y.quantifiers context.facts (each-left (Free known) names _ free) same) in
      record {
        same = inner.same;
        effect_free = λ whole.
            inner.effect_free
            (error_free_second (started_found inside span y.target (infer_invocation y.invocation inside)) _ (error_free_second (quantifiers_found context.facts y.quantifiers) _ whole));
      }

  co_arm_good : (y : CoArmNode good) → AllFree known (from_co_arm naming (bare_co_arm good y)) → (span : Span) (context : Context) → Same known context.facts
      → Good known (from_co_arm reading (bare_co_arm good y) span context) (from_co_arm (making scene) (bare_co_arm good y)).sites
  co_arm_good y = co_arm_by y y.block

  item_good : (y : ItemNode good) → AllFree known (from_item naming (bare_item good y)) → (context : Context) → Same known context.facts
      → Good known (from_item reading (bare_item good y) context) (from_item (making scene) (bare_item good y)).sites
  item_good (BlockItem-F.Const constant) free context same = record { same = same_const known constant context.facts free same; effect_free = λ whole. refl }
  item_good (BlockItem-F.Var variables) free context same = record { same = same_var known variables context.facts free same; effect_free = λ whole. refl }
  item_good (BlockItem-F.Statement statement) free context same = statement.1 free context same

  -- ---- all trees

  by_parts : ByParts good
  by_parts = record {
    item = λ y. subst (λ t. t) (λ i. AllFree known (item_folds naming (bare_item good y) i) → (context : Context) → Same known context.facts → Good known (item_folds reading (bare_item good y) i context) (item_folds (making scene) (bare_item good y) i).sites) (item_good y);
    statement = λ y. subst (λ t. t) (λ i. AllFree known (statement_folds naming (bare_statement good y) i) → (context : Context) → Same known context.facts → Good known (statement_folds reading (bare_statement good y) i context) (statement_folds (making scene) (bare_statement good y) i).sites) (statement_good y);
    arm = λ y. subst (λ t. t) (λ i. AllFree known (arm_folds naming (bare_arm good y) i) → (span : Span) (context : Context) → Same known context.facts → ArmGoodIn ((arm_folds reading (bare_arm good y) i).steps span context) (arm_folds (making scene) (bare_arm good y) i)) (arm_good y);
    branch = λ y. subst (λ t. t) (λ i. AllFree known (branch_folds naming (bare_branch good y) i) → (context : Context) → Same known context.facts → Good known (branch_folds reading (bare_branch good y) i context) (branch_folds (making scene) (bare_branch good y) i).sites) (branch_good y);
    co_arm = λ y. subst (λ t. t) (λ i. AllFree known (co_arm_folds naming (bare_co_arm good y) i) → (span : Span) (context : Context) → Same known context.facts → Good known (co_arm_folds reading (bare_co_arm good y) i span context) (co_arm_folds (making scene) (bare_co_arm good y) i).sites) (co_arm_good y);
  }

  pub statement_effect_free : (tree : Statement) → StatementGood tree
  statement_effect_free = each_statement good by_parts
