-- What is told of a tree is told with the tree itself.
use Rattle.std.proofs.Common.{◌≡◌, refl, sym, ap, ◌∙◌, List, [], ◌∷◌, Option, Some, None, map}
use Rattle.std.specs.Option.{option_map}
use Rattle.sr_core.specs.declared.expression.Expr.{Expr}
use Rattle.sr_core.specs.declared.expression.Expr.TheVariants as core
use Rattle.sr_core.specs.declared.expression.Part.{Part}
use Rattle.sr_tree.specs.declared.expr.Create.{Create}
use Rattle.sr_tree.specs.declared.expr.Create.TheFolds.{fold_out-Invocation}
use Rattle.sr_tree.specs.declared.expr.Create.TheOpen.{Create-F, Expr-F}
use Rattle.sr_tree.specs.declared.expr.Expr.{Expr as Tree, roll-Expr}
use Rattle.sr_tree.specs.declared.expr.Expr.TheVariants as variant
use Rattle.sr_tree.specs.declared.expr.Create.TheVariants as creation
use Rattle.sr_tree.specs.declared.name.Name.{Name}
use Rattle.sr_tree.specs.declared.name.QualifiedName.{QualifiedName}
use Rattle.sr_names.specs.declared.spot.Spot.{Spot}
use Rattle.sr_value.specs.declared.place.Span.{Span}
use Rattle.sr_check_expr.specs.Meanings.{typed_expr, meant_by}
use Rattle.sr_tables.specs.Parts.{deciding}
use Rattle.sr_tree.proofs.ExprFolds as folds
use Rattle.sr_tree.proofs.ExprFolds.{ByParts, Claim, CreateNode, ExprNode, InvocationNode, Known, PartNode, bare_create, bare_expr, bare_invocation, bare_part, create_folds, each_expr, each_invocation, expr_folds, from_create, from_expr, from_invocation, from_part, invocation_folds, part_folds}
use Rattle.sr_lower_expr.proofs.LowerFold.{lowering}
use Rattle.sr_lower_expr.proofs.Values.{values_of_told}
use Rattle.sr_lower_expr.specs.declared.scene.Lowered.TheVariants as lowered
use Rattle.sr_tree.specs.declared.expr.Invocation.{Invocation, out-Invocation, roll-Invocation}
use Rattle.sr_tree.specs.declared.expr.Part.{Part as PartTree, roll-Part}
use Rattle.sr_tree.specs.declared.expr.Create.{roll-Create}
use Rattle.sr_lower_expr.specs.declared.scene.Scene.{Scene}
use Rattle.sr_lower_expr.specs.Places.{value_of}
use Rattle.sr_lower_expr.specs.Expressions.{LoweredTree, LoweredInvocation, told, call_of, core_create, core_expr, core_part, core_sending, core_value, with_core, create_lowered, expr_lowered, field_core, instance_core, invocation_lowered, machine_core, part_lowered, pending_core}

module _ (scene : Scene) where
  abbrev pub of_create : Create → Create × Expr
  of_create = folds.of_create (lowering scene)

  abbrev pub of_invocation : Invocation → LoweredInvocation
  of_invocation = folds.of_invocation (lowering scene)

  abbrev pub of_part : PartTree → PartTree × Part
  of_part = folds.of_part (lowering scene)

  abbrev same : Claim
  same = record {
    create = λ tree. (of_create tree).0 ≡ tree;
    expr = λ tree. (told scene tree).0 ≡ tree;
    invocation = λ tree. (of_invocation tree).tree ≡ tree;
    part = λ tree. (of_part tree).0 ≡ tree;
  }

  all-stay : (trees : List (Known same.expr)) → map (λ told. told.0) (map (told scene) (map (λ tree. tree.0) trees)) ≡ map (λ tree. tree.0) trees
  all-stay [] = refl
  all-stay (tree ∷ trees) = λ i. tree.1 i ∷ all-stay trees i

  parts-stay : (trees : List (Known same.part)) → map (λ told. told.0) (map of_part (map (λ tree. tree.0) trees)) ≡ map (λ tree. tree.0) trees
  parts-stay [] = refl
  parts-stay (tree ∷ trees) = λ i. tree.1 i ∷ parts-stay trees i

  create-again : (y : CreateNode same) → (from_create (lowering scene) (bare_create same y)).0 ≡ roll-Create (bare_create same y)
  create-again (Create-F.Resource span resource arguments None) = λ i. roll-Create (Create-F.Resource span resource (all-stay arguments i) None)
  create-again (Create-F.Resource span resource arguments (Some machine)) = λ i. roll-Create (Create-F.Resource span resource (all-stay arguments i) (Some (machine.1 i)))
  create-again (Create-F.Machine span) = refl

  expr-again : (y : ExprNode same) → (from_expr (lowering scene) (bare_expr same y)).0 ≡ roll-Expr (bare_expr same y)
  expr-again (Expr-F.Literal span literal) = refl
  expr-again (Expr-F.Name name) = refl
  expr-again (Expr-F.BasicType span basic) = refl
  expr-again (Expr-F.Conversion span conversion value) = λ i. roll-Expr (Expr-F.Conversion span conversion (value.1 i))
  expr-again (Expr-F.Group span inner) = λ i. roll-Expr (Expr-F.Group span (inner.1 i))
  expr-again (Expr-F.Parts span parts) = λ i. roll-Expr (Expr-F.Parts span (parts-stay parts i))
  expr-again (Expr-F.Field span owner field) = λ i. roll-Expr (Expr-F.Field span (owner.1 i) field)
  expr-again (Expr-F.Index span array first None) = λ i. roll-Expr (Expr-F.Index span (array.1 i) (first.1 i) None)
  expr-again (Expr-F.Index span array first (Some second)) = λ i. roll-Expr (Expr-F.Index span (array.1 i) (first.1 i) (Some (second.1 i)))
  expr-again (Expr-F.Call invocation) = λ i. roll-Expr (Expr-F.Call (invocation.1 i))
  expr-again (Expr-F.Create create) = λ i. roll-Expr (Expr-F.Create (create.1 i))
  expr-again (Expr-F.Unary span operator operand) = λ i. roll-Expr (Expr-F.Unary span operator (operand.1 i))
  expr-again (Expr-F.Pending span operation) = refl
  expr-again (Expr-F.Binary span left operator right) = λ i. roll-Expr (Expr-F.Binary span (left.1 i) operator (right.1 i))

  invocation-again : (y : InvocationNode same) → (from_invocation (lowering scene) (bare_invocation same y)).tree ≡ roll-Invocation (bare_invocation same y)
  invocation-again y = λ i. roll-Invocation (record { span = y.span; callee = y.callee.1 i; arguments = all-stay y.arguments i })

  part-again : (y : PartNode same) → (from_part (lowering scene) (bare_part same y)).0 ≡ roll-Part (bare_part same y)
  part-again y = by y.count
    where
      by : (count : Option (Known same.expr)) → (from_part (lowering scene) (bare_part same (record y { count = count }))).0 ≡ roll-Part (bare_part same (record y { count = count }))
      by None = λ i. roll-Part (record { span = y.span; count = None; value = y.value.1 i })
      by (Some count) = λ i. roll-Part (record { span = y.span; count = Some (count.1 i); value = y.value.1 i })

  by_parts : ByParts same
  by_parts = record {
    create = λ y. ap (λ told. told.0) (sym (create_folds (lowering scene) (bare_create same y))) ∙ create-again y;
    expr = λ y. ap (λ told. told.0) (sym (expr_folds (lowering scene) (bare_expr same y))) ∙ expr-again y;
    invocation = λ y. ap (λ told. told.tree) (sym (invocation_folds (lowering scene) (bare_invocation same y))) ∙ invocation-again y;
    part = λ y. ap (λ told. told.0) (sym (part_folds (lowering scene) (bare_part same y))) ∙ part-again y;
  }

-- what is told of a tree is the tree, and what it is in the core
pub told_is : (scene : Scene) (tree : Tree) → told scene tree ≡ with_core scene tree
told_is scene tree = λ i. (each_expr (same scene) (by_parts scene) tree i, core_expr scene tree)

all_told : (scene : Scene) (trees : List Tree) → map (told scene) trees ≡ map (with_core scene) trees
all_told scene [] = refl
all_told scene (tree ∷ trees) = λ i. told_is scene tree i ∷ all_told scene trees i

-- and so for an invocation
pub sending_is : (scene : Scene) (tree : Invocation) → of_invocation scene tree ≡ core_sending scene tree
sending_is scene tree =
    let opened = fold_out-Invocation (Create × Expr) LoweredTree LoweredInvocation (PartTree × Part) (create_lowered scene) (expr_lowered scene) invocation_lowered part_lowered tree in
    let stays = sym (ap (λ sending. sending.tree) opened) ∙ each_invocation (same scene) (by_parts scene) tree in
    opened ∙ (λ i. record { tree = stays i; callee = told_is scene (out-Invocation tree).callee i; arguments = all_told scene (out-Invocation tree).arguments i })

-- ---- lists of what is told

pub trees_told : (scene : Scene) (trees : List Tree) → map (λ told. told.0) (map (with_core scene) trees) ≡ trees
trees_told scene [] = refl
trees_told scene (tree ∷ trees) = ap (λ rest. tree ∷ rest) (trees_told scene trees)

pub lowered_of_tree : (scene : Scene) (trees : List Tree) → map (λ told. told.1) (map (with_core scene) trees) ≡ map (core_expr scene) trees
lowered_of_tree scene [] = refl
lowered_of_tree scene (tree ∷ trees) = ap (λ rest. core_expr scene tree ∷ rest) (lowered_of_tree scene trees)

pub parts_told : (scene : Scene) (parts : List PartTree) → map (λ told. told.1) (map (of_part scene) parts) ≡ map (core_part scene) parts
parts_told scene [] = refl
parts_told scene (part ∷ parts) = ap (λ rest. core_part scene part ∷ rest) (parts_told scene parts)

-- ---- what looks at the trees of its parts

pub call_is : (scene : Scene) (called : Invocation) → core_expr scene (variant.Call called) ≡ lowered.Value (call_of scene (core_sending scene called))
call_is scene called =
    ap (λ tree. core_expr scene tree) (sym (variant.rolls-Call called))
    ∙ ap (λ told. told.1) (sym (expr_folds (lowering scene) (Expr-F.Call called)))
    ∙ ap (λ sending. lowered.Value (call_of scene sending)) (sending_is scene called)

pub field_is : (scene : Scene) (span : Span) (owner : Tree) (field : Name)
    → core_expr scene (variant.Field span owner field) ≡ field_core scene (with_core scene owner) field (typed_expr scene.facts owner).named
field_is scene span owner field =
    ap (λ tree. core_expr scene tree) (sym (variant.rolls-Field span owner field))
    ∙ ap (λ told. told.1) (sym (expr_folds (lowering scene) (Expr-F.Field span owner field)))
    ∙ ap (λ told. field_core scene told field (typed_expr scene.facts told.0).named) (told_is scene owner)

-- ---- what code makes of the parts of a tree

pub parts_made : (scene : Scene) (span : Span) (parts : List PartTree) (tree : Tree) (made : List Part)
    → tree ≡ variant.Parts span parts → made ≡ map (core_part scene) parts → lowered.Value (core.Array made) ≡ core_expr scene tree
parts_made scene span parts tree made is by =
    ap (λ (all : List Part). lowered.Value (core.Array all)) (by ∙ sym (parts_told scene parts))
    ∙ ap (λ told. told.1) (expr_folds (lowering scene) (Expr-F.Parts span parts))
    ∙ ap (core_expr scene) (variant.rolls-Parts span parts ∙ sym is)

pub pending_made : (scene : Scene) (span : Span) (operation : Name) (tree : Tree) (made : Expr)
    → tree ≡ variant.Pending span operation → made ≡ pending_core scene (meant_by scene.facts operation)
    → lowered.Value made ≡ core_expr scene tree
pending_made scene span operation tree made is by =
    ap (λ (one : Expr). lowered.Value one) by
    ∙ ap (λ told. told.1) (expr_folds (lowering scene) (Expr-F.Pending span operation))
    ∙ ap (core_expr scene) (variant.rolls-Pending span operation ∙ sym is)

create_is : (scene : Scene) (span : Span) (resource : QualifiedName) (arguments : List Tree) (machine : Option Tree)
    → core_create scene (creation.Resource span resource arguments machine)
    ≡ instance_core scene (meant_by scene.facts (deciding resource)) (map value_of (map (λ told. told.1) (map (told scene) arguments))) (machine_core (option_map (told scene) machine))
create_is scene span resource arguments None =
    ap (core_create scene) (sym (creation.rolls-Resource span resource arguments None))
    ∙ ap (λ told. told.1) (sym (create_folds (lowering scene) (Create-F.Resource span resource arguments None)))
create_is scene span resource arguments (Some machine) =
    ap (core_create scene) (sym (creation.rolls-Resource span resource arguments (Some machine)))
    ∙ ap (λ told. told.1) (sym (create_folds (lowering scene) (Create-F.Resource span resource arguments (Some machine))))

pub create_made : (scene : Scene) (span : Span) (resource : QualifiedName) (arguments : List Tree) (machine : Option Tree) (tree : Create) (spot : Spot) (args : List Expr) (on : Expr)
    → tree ≡ creation.Resource span resource arguments machine
    → spot ≡ meant_by scene.facts (deciding resource)
    → args ≡ map (core_value scene) arguments
    → on ≡ machine_core (option_map (told scene) machine)
    → instance_core scene spot args on ≡ core_create scene tree
create_made scene span resource arguments machine tree spot args on is by_name by_arguments by_machine =
    ap (λ (s : Spot). instance_core scene s args on) by_name
    ∙ ap (λ (all : List Expr). instance_core scene (meant_by scene.facts (deciding resource)) all on) (by_arguments ∙ sym (values_of_told scene arguments))
    ∙ ap (λ (m : Expr). instance_core scene (meant_by scene.facts (deciding resource)) (map value_of (map (λ told. told.1) (map (told scene) arguments))) m) by_machine
    ∙ sym (create_is scene span resource arguments machine)
    ∙ ap (core_create scene) (sym is)
