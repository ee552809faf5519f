-- What is kept where code without a broken rule is read, how the parts of statements pass, and so what is made of quantifiers.
use Rattle.std.proofs.Common.{Bool, List, [], ◌∷◌, Option, Some, None, is_some, flat_map, IsTrue, refl}
use Rattle.std.proofs.lemmas.Bool.{and_from}
use Rattle.std.specs.List.{list_all}
use Rattle.std.specs.Option.{option_map}
use Rattle.sr_value.specs.declared.place.Span.{Span}
use Rattle.sr_check.proofs.Each.{Each, each-append, each-left, each-right}
use Rattle.sr_check.proofs.Entered.{keeps_written}
use Rattle.sr_check.proofs.ErrorFree.{error_free_first, error_free_second}
use Rattle.sr_check.specs.Contexts.{Context, Steps}
use Rattle.sr_check.specs.ErrorFree.{ErrorFree}
use Rattle.sr_check.specs.Invoking.{call_found, forward_found, send_found, started_found}
use Rattle.sr_check.specs.Procs.{Procs}
use Rattle.sr_check.specs.Quantifying.{bounds_found, expr_with, maybe_with, quantified, quantifier_found, quantifiers_found, quantifiers_known}
use Rattle.sr_check.specs.Receiving.{receive_found}
use Rattle.sr_check.specs.Services.{decl_named, head_found, operation_named, service_bound, type_of}
use Rattle.sr_check.specs.Statements.{arm_read, block_item_read, branch_read, co_arm_read, const_read, guards_found, var_read}
use Rattle.sr_check.specs.Uses.{condition_rule, number_rule}
use Rattle.sr_check_decl.specs.Constants.{const_found}
use Rattle.sr_check_decl.specs.Entering.{written_entered}
use Rattle.sr_check_decl.specs.Variables.{var_found}
use Rattle.sr_check_expr.specs.declared.facts.Facts.{Facts}
use Rattle.sr_check_expr.specs.Exprs.{infer_create, infer_expr, infer_invocation}
use Rattle.sr_check_expr.specs.Meanings.{function_called, meant_by}
use Rattle.sr_check_expr.specs.Typings.{valued}
use Rattle.sr_core.specs.declared.statement.Scope.{Scope}
use Rattle.sr_core.specs.Tests.{if_some}
use Rattle.sr_desugar.specs.Declarations.{const_core, int_constant, var_core}
use Rattle.sr_desugar.specs.Statements.{arm_core, call_action, co_call, forward_of, quantifier_core, quantifiers_core, receive_made, send_of, step_core}
use Rattle.sr_lower_expr.specs.declared.scene.Scene.{Scene}
use Rattle.sr_lower_expr.specs.Expressions.{core_create, core_place, core_sending, core_value}
use Rattle.sr_names.specs.declared.spot.Spot.{Spot}
use Rattle.sr_names.specs.Spots.{spot_of}
use Rattle.sr_order.specs.Names.{arm_names, block_item_names, branch_names, co_arm_names, condition_names, const_names, create_names, expr_names, invocation_names, name_names, names_spans, quantifier_names, var_names, where_some}
use Rattle.sr_outline.specs.Numbers.{place_spots}
use Rattle.sr_tree.specs.declared.declaration.ConstDecl.{ConstDecl}
use Rattle.sr_tree.specs.declared.declaration.VarDecl.{VarDecl}
use Rattle.sr_tree.specs.declared.expr.Create.{Create}
use Rattle.sr_tree.specs.declared.expr.Expr.{Expr}
use Rattle.sr_tree.specs.declared.expr.Invocation.{Invocation}
use Rattle.sr_tree.specs.declared.name.Name.{Name}
use Rattle.sr_tree.specs.declared.statement.Arm.{Arm}
use Rattle.sr_tree.specs.declared.statement.ArmCondition.{ArmCondition}
use Rattle.sr_tree.specs.declared.statement.BlockItem.{BlockItem}
use Rattle.sr_tree.specs.declared.statement.Branch.{Branch}
use Rattle.sr_tree.specs.declared.statement.CoArm.{CoArm}
use Rattle.sr_tree.specs.declared.statement.Quantifier.{Quantifier}
use Rattle.sr_types.specs.declared.typed.Typed.{Typed}
use Rattle.sr_front.proofs.Known.KeptBy.{KeptBy, Names}
use Rattle.sr_front.proofs.Made.MadeTests.{AllOne, MadeRules, MadeTests, StatementFits}
use Rattle.sr_front.proofs.Lists.Placed.{Ending, Placed, placed_both, reads_quantifier}
use Rattle.sr_front.proofs.Mentioned.ReadsCode.{reads_quantifiers}
use Rattle.sr_front.proofs.Typed.TypedCode.{Good, block_item_good, head_good, operation_signed, quantifiers_good}
use Rattle.sr_front.proofs.Typed.TypedSteps.{arm_good, branch_good, co_arm_good, const_entered, var_entered}

-- ---- what is kept

abbrev Keeps : (Facts → Type 0) → Steps → Type 0
Keeps H steps = (context : Context) → H context.facts → ErrorFree (steps context).found → H (steps context).facts

pub record KeptWhole (H : Facts → Type 0) (Free : Spot → Type 0) : Type 0 where
  pub const_type : (constant : ConstDecl) (facts : Facts) → H facts → ErrorFree (const_read constant facts).found → H (written_entered constant.ty facts)
  pub var_type : (variables : VarDecl) (facts : Facts) → H facts → ErrorFree (var_read variables facts).found → H (written_entered variables.ty facts)
  pub service : (operation : Name) (formals : List Name) (returned : Option Name) (procs : Procs) (span : Span) (facts : Facts) → Names Free (names_spans formals) → Names Free (where_some name_names returned) → H facts
      → ErrorFree (head_found facts procs span formals (is_some returned) (operation_named facts operation)) → H (service_bound formals returned (type_of (operation_named facts operation)) facts)
  pub quantifiers : (quantifiers : List Quantifier) (facts : Facts) → Names Free (flat_map quantifier_names quantifiers) → H facts → H (quantifiers_known facts quantifiers)
  pub block_item : (tree : BlockItem) → Names Free (block_item_names tree) → Keeps H (block_item_read tree)
  pub branch : (tree : Branch) → Names Free (branch_names tree) → Keeps H (branch_read tree)
  pub arm : (tree : Arm) → Names Free (arm_names tree) → (span : Span) → Keeps H ((arm_read tree).steps span)
  pub co_arm : (tree : CoArm) → Names Free (co_arm_names tree) → (span : Span) → Keeps H (co_arm_read tree span)

-- what is kept, and that all has a type where that is asked for
abbrev pub AndTyped : Type 0 → (Facts → Type 0) → Facts → Type 0
AndTyped Asked Q facts = Q facts × (Asked → Good facts)

-- this is kept in any code
pub kept_typed : (Asked : Type 0) (Q : Facts → Type 0) (Free : Spot → Type 0) → KeptBy Q Free → KeptWhole (AndTyped Asked Q) Free
kept_typed Asked Q Free kept = record {
  const_type = λ constant facts h whole. (keeps_written Q kept.entered constant.ty facts h.0, λ asked. const_entered constant facts (h.1 asked) whole);
  var_type = λ variables facts h whole. (keeps_written Q kept.entered variables.ty facts h.0, λ asked. var_entered variables facts (h.1 asked) whole);
  service = λ operation formals returned procs span facts free result h whole. (
    kept.service formals returned (type_of (operation_named facts operation)) facts free result h.0,
    λ asked. head_good facts procs span formals returned (operation_named facts operation) (operation_signed facts (h.1 asked).signed (decl_named facts operation)) whole (h.1 asked),
  );
  quantifiers = λ quantifiers facts free h. (kept.quantifiers quantifiers facts free h.0, λ asked. quantifiers_good quantifiers facts (h.1 asked));
  block_item = λ tree free context h whole. (kept.block_item tree free context h.0, λ asked. block_item_good tree context (h.1 asked) whole);
  branch = λ tree free context h whole. (kept.branch tree free context h.0, λ asked. branch_good tree context (h.1 asked) whole);
  arm = λ tree free span context h whole. (kept.arm tree free span context h.0, λ asked. arm_good tree span context (h.1 asked) whole);
  co_arm = λ tree free span context h whole. (kept.co_arm tree free span context h.0, λ asked. co_arm_good tree span context (h.1 asked) whole);
}

-- ---- the parts of statements

-- what is known where expressions are read
abbrev pub HeldIn : Scene → (Facts → Type 0) → Facts → Type 0
HeldIn scene H facts = H facts × Ending scene.facts facts

-- What is made of the parts of statements passes. Own names are those of variables that are declared here.
pub record MadeParts (scene : Scene) (tests : MadeTests) (H : Facts → Type 0) (Free Own : Spot → Type 0) : Type 0 where
  pub int : IsTrue (tests.expr (int_constant 1))
  pub value : (facts : Facts) → HeldIn scene H facts → (tree : Expr) → Names Free (expr_names tree) → ErrorFree (valued (infer_expr tree facts)) → IsTrue (tests.expr (core_value scene tree))
  pub place : (facts : Facts) → HeldIn scene H facts → (tree : Expr) → Names Free (expr_names tree) → ErrorFree (valued (infer_expr tree facts)) → IsTrue (infer_expr tree facts).typed_expr.typed.is_place → IsTrue (tests.place (core_place scene tree))
  pub create : (facts : Facts) → HeldIn scene H facts → (create : Create) → Names Free (create_names create) → ErrorFree (infer_create create facts).found → IsTrue (tests.expr (core_create scene create))
  pub const : (facts : Facts) → HeldIn scene H facts → (in_spec : Bool) (scope : Scope) (constant : ConstDecl) → Names Free (const_names constant) → ErrorFree (const_found in_spec facts constant) → AllOne tests (const_core scene scope constant)
  pub var : (facts : Facts) → HeldIn scene H facts → (scope : Scope) (variables : VarDecl) → Names Free (var_names variables) → ErrorFree (var_found facts variables) → AllOne tests (var_core scene scope variables)
  pub call : (context : Context) → HeldIn scene H context.facts → (span : Span) (invocation : Invocation) → Names Free (invocation_names invocation) → ErrorFree (call_found context span (infer_invocation invocation context.facts))
      → IsTrue (tests.action (call_action scene invocation (function_called scene.facts invocation)))
  pub send : (facts : Facts) → HeldIn scene H facts → (span : Span) (invocation : Invocation) → Names Free (invocation_names invocation) → ErrorFree (send_found facts span (infer_invocation invocation facts))
      → IsTrue (tests.action (send_of scene (core_sending scene invocation)))
  pub forward : (context : Context) → HeldIn scene H context.facts → (span : Span) (invocation : Invocation) → Names Free (invocation_names invocation) → ErrorFree (forward_found context span (infer_invocation invocation context.facts))
      → IsTrue (tests.action (forward_of scene (core_sending scene invocation)))
  pub started : (facts : Facts) → HeldIn scene H facts → (span : Span) (target : Option Expr) (invocation : Invocation) → Names Free (where_some expr_names target) → Names Free (invocation_names invocation)
      → ErrorFree (started_found facts span target (infer_invocation invocation facts)) → IsTrue (tests.call (co_call scene target (core_sending scene invocation)))
  pub guards : (facts : Facts) → HeldIn scene H facts → (condition : Option ArmCondition) (order : Option Expr) → Names Free (where_some condition_names condition) → Names Free (where_some expr_names order)
      → ErrorFree (guards_found facts condition order) → (span : Span) (operation : Spot) (formals : List Name) (returned : Option Name) → IsTrue (tests.arm (arm_core scene span operation formals returned condition order))
  pub receive : (context : Context) → HeldIn scene H context.facts → (span : Span) (operation : Name) (places : List Expr) → Names Free (flat_map expr_names places) → Each Own (place_spots places)
      → ErrorFree (receive_found context span operation places) → StatementFits tests (receive_made scene span (meant_by scene.facts operation) places)
  -- a wait for an operation without formals
  pub wait : (span : Span) (operation : Spot) → StatementFits tests (receive_made scene span operation [])

-- ---- quantifiers

module _ (scene : Scene) (tests : MadeTests) (rules : MadeRules tests) (H : Facts → Type 0) (Free Own : Spot → Type 0) (kept : KeptWhole H Free) (parts : MadeParts scene tests H Free Own) where
  abbrev FreeName : Span → Type 0
  FreeName span = Free (spot_of span)

  -- names are read here
  abbrev Here : List Span → Facts → Facts → Type 0
  Here = Placed Free scene.facts

  pub with_rule : (rule : Typed → Bool) (facts : Facts) → HeldIn scene H facts → (tree : Expr) → Names Free (expr_names tree) → ErrorFree (expr_with rule facts tree) → IsTrue (tests.expr (core_value scene tree))
  with_rule rule facts held tree free whole = parts.value facts held tree free (error_free_first (valued (infer_expr tree facts)) _ whole)

  maybe_rule : (rule : Typed → Bool) (facts : Facts) → HeldIn scene H facts → (tree : Option Expr) → Names Free (where_some expr_names tree) → ErrorFree (maybe_with rule facts tree) → IsTrue (if_some tests.expr (option_map (core_value scene) tree))
  maybe_rule rule facts held None free whole = refl
  maybe_rule rule facts held (Some tree) free whole = with_rule rule facts held tree free whole

  step_rule : (facts : Facts) → HeldIn scene H facts → (tree : Option Expr) → Names Free (where_some expr_names tree) → ErrorFree (maybe_with number_rule facts tree) → IsTrue (tests.expr (step_core scene tree))
  step_rule facts held None free whole = parts.int
  step_rule facts held (Some tree) free whole = with_rule number_rule facts held tree free whole

  quantifier_keeps : (facts : Facts) (quantifier : Quantifier) → Names Free (quantifier_names quantifier) → H facts → H (quantified facts quantifier.name)
  quantifier_keeps facts quantifier free h = kept.quantifiers (quantifier ∷ []) facts (each-append FreeName (quantifier_names quantifier) [] free tt) h

  quantifier_good : (facts : Facts) (quantifier : Quantifier) → Here (quantifier_names quantifier) facts (quantified facts quantifier.name) → H facts → ErrorFree (quantifier_found facts quantifier) → IsTrue (tests.quantifier (quantifier_core scene quantifier))
  quantifier_good facts quantifier here h whole =
      let bounds = error_free_first (bounds_found facts quantifier) _ whole in
      let after = error_free_second (expr_with number_rule facts quantifier.first) _ bounds in
      let held : HeldIn scene H facts = (h, here.start) in
      let names = each-right FreeName (expr_names quantifier.first) _ here.free.1 in
      let rest = each-right FreeName (expr_names quantifier.last) _ names in
      rules.quantifier_rule (quantifier_core scene quantifier)
      (with_rule number_rule facts held quantifier.first (each-left FreeName (expr_names quantifier.first) _ here.free.1) (error_free_first (expr_with number_rule facts quantifier.first) _ bounds))
      (with_rule number_rule facts held quantifier.last (each-left FreeName (expr_names quantifier.last) _ names) (error_free_first (expr_with number_rule facts quantifier.last) _ after))
      (step_rule facts held quantifier.step (each-left FreeName (where_some expr_names quantifier.step) _ rest) (error_free_second (expr_with number_rule facts quantifier.last) _ after))
      (maybe_rule condition_rule (quantified facts quantifier.name) (quantifier_keeps facts quantifier here.free h, here.end) quantifier.such_that (each-right FreeName (where_some expr_names quantifier.step) _ rest)
      (error_free_second (bounds_found facts quantifier) _ whole))

  pub quantifiers_pass : (facts : Facts) (quantifiers : List Quantifier) → Here (flat_map quantifier_names quantifiers) facts (quantifiers_known facts quantifiers) → H facts → ErrorFree (quantifiers_found facts quantifiers)
      → IsTrue (list_all tests.quantifier (quantifiers_core scene quantifiers))
  quantifiers_pass facts [] here h whole = refl
  quantifiers_pass facts (quantifier ∷ more) here h whole =
      let next = quantified facts quantifier.name in
      let end = quantifiers_known next more in
      let both = placed_both Free scene.facts (quantifier_names quantifier) (flat_map quantifier_names more) facts next end (reads_quantifier quantifier facts) (reads_quantifiers more next) here in
      and_from _ _ (quantifier_good facts quantifier both.0 h (error_free_first (quantifier_found facts quantifier) _ whole))
      (quantifiers_pass next more both.1 (quantifier_keeps facts quantifier both.0.free h) (error_free_second (quantifier_found facts quantifier) _ whole))
