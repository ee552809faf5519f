-- What an expression that names an operation is known by: the walk over expressions.
use Rattle.std.proofs.Common.{ℕ, [], ◌∷◌, Option, Some, None, refl, sym, ap, subst}
use Rattle.sr_check_expr.specs.declared.facts.Facts.{Facts}
use Rattle.sr_check_expr.specs.declared.typed_expr.TypedExpr.{TypedExpr}
use Rattle.sr_check_expr.specs.declared.typed_expr.Named.{Named}
use Rattle.sr_check_expr.specs.declared.typed_expr.Named.TheVariants as named
use Rattle.sr_check_expr.specs.Calls.{Called, call_typing, called_by}
use Rattle.sr_check_expr.specs.Exprs.{Inferrer, field_typing, infer_create, infer_expr, infer_invocation}
use Rattle.sr_check_expr.specs.LiteralTypes.{literal_named, literal_typed}
use Rattle.sr_check_expr.specs.Meanings.{known as known_value, meant_by, typed_expr}
use Rattle.sr_check_expr.specs.Typings.{Typing, typed_exprs_of}
use Rattle.sr_check.specs.ErrorFree.{ErrorFree}
use Rattle.sr_check.proofs.ErrorFree.{error_free_first, error_free_second}
use Rattle.sr_core.specs.declared.expression.Expr.{Expr}
use Rattle.sr_core.specs.declared.expression.Expr.TheVariants as core
use Rattle.sr_core.specs.declared.expression.Leaf.TheVariants as leaf
use Rattle.sr_core.specs.declared.expression.Step.TheVariants as step
use Rattle.sr_lower_expr.specs.declared.scene.Scene.{Scene}
use Rattle.sr_lower_expr.specs.Expressions.{LoweredTree, core_expr, core_value, field_core}
use Rattle.sr_lower_expr.specs.Operators.{conversion_function}
use Rattle.sr_lower_expr.specs.Places.{value_of}
use Rattle.sr_lower_expr.proofs.Trees.{of_create, of_invocation, told_is}
use Rattle.sr_tables.specs.Parts.{deciding}
use Rattle.sr_tree.specs.declared.expr.Create.{Create}
use Rattle.sr_tree.specs.declared.expr.Create.TheOpen.{Create-F, Expr-F}
use Rattle.sr_tree.specs.declared.expr.Expr.{Expr as Tree}
use Rattle.sr_types.specs.declared.ty.Ty.{Ty}
use Rattle.sr_front.specs.Invocations.{InvocationTest}
use Rattle.sr_front.proofs.Known.ExprsStay.{expr_stays}
use Rattle.sr_tree.proofs.ExprFolds.{ByParts, Claim, CreateNode, ExprNode, bare_create, bare_expr, create_folds, each_expr, expr_folds, from_create, from_expr}
use Rattle.sr_lower_expr.proofs.LowerFold.{lowering}
use Rattle.sr_front.proofs.Typed.TypingFolds.{inferring}
use Rattle.sr_front.proofs.EffectFree.EffectFreeExprs.{StaysNamed, field_stays, name_stays, stays_itself}
use Rattle.sr_front.proofs.Invoked.InvokesNames.{Nameless, apply_nameless, array_nameless, binary_nameless, call_nameless, constant_nameless, instance_nameless, leaf_names, naming_nameless, nothing_nameless, part_nameless, unary_nameless}
use Rattle.sr_front.proofs.Invoked.InvokesTargets.{AllAtEnd, Fits, Reads, field_fits, group_fits, name_fits, nameless_fits, operation_of}

module _ (test : InvocationTest) (scene : Scene) (ends : AllAtEnd scene) (known : Facts) (reads : Reads test scene known) where
  abbrev pub FitsHere : TypedExpr → Ty → Option ℕ → Type 0
  FitsHere = Fits test scene ends known reads

  abbrev pub number_of : Expr → Option ℕ
  number_of = operation_of test scene ends known reads

  -- a call names nothing
  call_stays : (called : Called) (later : Named) → StaysNamed (call_typing scene.facts called).typed_expr.named later
  call_stays called later = by called.callee.typed_expr.named
    where
      by : (callee : Named) → StaysNamed (called_by scene.facts called.span called.callee.typed_expr (typed_exprs_of called.arguments) callee).typed_expr.named later
      by (named.Predefined name) = tt
      by (named.«Type» ty) = tt
      by _ = tt

  -- ---- each tree, when its parts are so

  -- what an expression names in the end is what it names here, and where no rule is broken it fits
  abbrev Good : Typing → Typing → Expr → Type 0
  Good here end expr = StaysNamed end.typed_expr.named here.typed_expr.named × (ErrorFree here.found → FitsHere here.typed_expr end.typed_expr.typed.ty (number_of expr))

  abbrev CreateStays : Inferrer → Create × Expr → Type 0
  CreateStays infer made = StaysNamed (infer scene.facts).typed_expr.named (infer known).typed_expr.named × Nameless test made.1

  abbrev CreateGood : Create → Type 0
  CreateGood tree = CreateStays (infer_create tree) (of_create scene tree)

  abbrev TreeGood : Tree → Type 0
  TreeGood tree = Good (infer_expr tree known) (infer_expr tree scene.facts) (core_value scene tree)

  abbrev good : Claim
  good = record { create = CreateGood; expr = TreeGood; invocation = λ tree. Unit {0}; part = λ tree. Unit {0} }

  create_good : (y : CreateNode good) → CreateStays (from_create inferring (bare_create good y)) (from_create (lowering scene) (bare_create good y))
  create_good (Create-F.Resource span resource arguments None) = (tt, instance_nameless test scene (meant_by scene.facts (deciding resource)) _ _)
  create_good (Create-F.Resource span resource arguments (Some machine)) = (tt, instance_nameless test scene (meant_by scene.facts (deciding resource)) _ _)
  create_good (Create-F.Machine span) = (tt, leaf_names test leaf.MakeMachine)

  expr_good : (y : ExprNode good) → Good (from_expr inferring (bare_expr good y) known) (from_expr inferring (bare_expr good y) scene.facts) (value_of (from_expr (lowering scene) (bare_expr good y)).1)
  expr_good (Expr-F.Literal span literal) = ((stays_itself (literal_named literal)), λ whole. nameless_fits test scene ends known reads _ _ _ (constant_nameless test (known_value (literal_typed literal).value)))
  expr_good (Expr-F.Name name) = (name_stays scene.facts known reads.stay name.span name.span name.span, name_fits test scene ends known reads name.span name.span name.span)
  expr_good (Expr-F.BasicType span basic) = (refl, λ whole. nameless_fits test scene ends known reads _ _ _ (nothing_nameless test))
  expr_good (Expr-F.Conversion span conversion value) = (tt, λ whole. nameless_fits test scene ends known reads _ _ _ (apply_nameless test (conversion_function conversion) (core_value scene value.0 ∷ [])))
  expr_good (Expr-F.Group span inner) = (
    tt,
    λ whole. group_fits test scene ends known reads span (infer_expr inner.0 known).typed_expr (infer_expr inner.0 scene.facts).typed_expr.typed.ty (number_of (core_value scene inner.0))
        (inner.1.1 (error_free_first (infer_expr inner.0 known).found _ whole)),
  )
  expr_good (Expr-F.Parts span parts) = (tt, λ whole. nameless_fits test scene ends known reads _ _ _ (array_nameless test _))
  expr_good (Expr-F.Field span owner field) =
      let here = (infer_expr owner.0 known).typed_expr in
      let end = (infer_expr owner.0 scene.facts).typed_expr in (
        field_stays scene.facts known reads.stay span end here field end.named here.named owner.1.0,
        λ whole.
            let same = expr_stays known scene.facts reads.grows owner.0 (error_free_first (infer_expr owner.0 known).found _ whole) in
            subst (λ (one : LoweredTree). FitsHere (from_expr inferring (Expr-F.Field span owner.0 field) known).typed_expr (from_expr inferring (Expr-F.Field span owner.0 field) scene.facts).typed_expr.typed.ty
            (number_of (value_of (field_core scene one field (typed_expr scene.facts one.0).named)))) (sym (told_is scene owner.0))
            (subst (λ (what : Named). ErrorFree (field_typing known span here field what).found
            → FitsHere (field_typing known span here field what).typed_expr (field_typing scene.facts span end field end.named).typed_expr.typed.ty (number_of (value_of (field_core scene (owner.0, core_expr scene owner.0) field end.named))))
            (sym (ap (λ (one : TypedExpr). one.named) same))
            (field_fits test scene ends known reads span here (owner.0, core_expr scene owner.0) field end.named (ap (λ (one : TypedExpr). one.typed.ty) same))
            (error_free_second (infer_expr owner.0 known).found _ whole)),
      )
  expr_good (Expr-F.Index span array first None) = (tt, λ whole. nameless_fits test scene ends known reads _ _ _ (part_nameless test (core_expr scene array.0) (step.At (core_value scene first.0))))
  expr_good (Expr-F.Index span array first (Some second)) = (tt, λ whole. nameless_fits test scene ends known reads _ _ _ (part_nameless test (core_expr scene array.0) (step.At2 (core_value scene first.0) (core_value scene second.0))))
  expr_good (Expr-F.Call invocation) =
      let sending = of_invocation scene invocation.0 in
      ((call_stays (infer_invocation invocation.0 scene.facts) (call_typing known (infer_invocation invocation.0 known)).typed_expr.named), λ whole. nameless_fits test scene ends known reads _ _ _ (call_nameless test scene sending (typed_expr scene.facts sending.callee.0).named))
  expr_good (Expr-F.Create create) = (create.1.0, λ whole. nameless_fits test scene ends known reads _ _ _ create.1.1)
  expr_good (Expr-F.Unary span operator operand) = (tt, λ whole. nameless_fits test scene ends known reads _ _ _ (unary_nameless test _ (core_value scene operand.0)))
  expr_good (Expr-F.Pending span operation) =
      (tt, λ whole. nameless_fits test scene ends known reads _ _ _ (naming_nameless test scene (meant_by scene.facts operation) (λ operation number. core.Leaf (leaf.Count number)) (λ operation number. leaf_names test (leaf.Count number))))
  expr_good (Expr-F.Binary span left operator right) = (tt, λ whole. nameless_fits test scene ends known reads _ _ _ (binary_nameless test operator (core_value scene left.0) (core_value scene right.0)))

  -- ---- all trees

  by_parts : ByParts good
  by_parts = record {
    create = λ y. subst (λ t. t) (λ i. CreateStays (create_folds inferring (bare_create good y) i) (create_folds (lowering scene) (bare_create good y) i)) (create_good y);
    expr = λ y. subst (λ t. t)
        (λ i. Good (expr_folds inferring (bare_expr good y) i known) (expr_folds inferring (bare_expr good y) i scene.facts) (value_of (expr_folds (lowering scene) (bare_expr good y) i).1)) (expr_good y);
    invocation = λ y. tt;
    part = λ y. tt;
  }

  -- where no rule is broken in an expression it fits
  pub tree_fits : (tree : Tree) → ErrorFree (infer_expr tree known).found → FitsHere (infer_expr tree known).typed_expr (infer_expr tree scene.facts).typed_expr.typed.ty (number_of (core_value scene tree))
  tree_fits tree = (each_expr good by_parts tree).1
