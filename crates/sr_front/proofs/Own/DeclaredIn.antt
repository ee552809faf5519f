-- The names that code declares as variables: each is an own variable of the code, and stands in it.
use Rattle.std.proofs.Common.{◌≡◌, ◌⊎◌, Bool, true, false, List, [], ◌∷◌, ◌++◌, Option, Some, None, map, flat_map, sym, subst, inl, inr, if◌then◌else◌}
use Rattle.sr_check_expr.specs.declared.facts.Facts.{Facts}
use Rattle.sr_check_expr.specs.Meanings.{is_constant}
use Rattle.sr_names.specs.declared.spot.Spot.{Spot}
use Rattle.sr_names.specs.Spots.{spot_of}
use Rattle.sr_order.proofs.Picked.{joined-map}
use Rattle.sr_order.specs.Names as order
use Rattle.sr_order.specs.Spans.{joined}
use Rattle.sr_outline.specs.Numbers.{arm_in, arm_names, block_item_names, branch_in, co_arm_in, co_arm_names, const_names, formal_names, formal_spots, inner_names, item_in, names_in, quantifier_names, returned_names, signature_returned, var_names}
use Rattle.sr_scope.specs.Declares.{op_name}
use Rattle.sr_scope.specs.Procs.{semaphore_names}
use Rattle.sr_scope.specs.Uses.{IsIn}
use Rattle.sr_scope.proofs.Findings.{in_either, in_left, in_right}
use Rattle.sr_tables.specs.Lists.{lists, maybe, maybe_lists}
use Rattle.sr_tables.specs.Parts.{spot_named}
use Rattle.sr_tree.specs.declared.component.Item.{Item}
use Rattle.sr_tree.specs.declared.component.Item.TheVariants as item
use Rattle.sr_tree.specs.declared.component.ProcItem.{ProcItem}
use Rattle.sr_tree.specs.declared.component.ProcItem.TheVariants as inner
use Rattle.sr_tree.specs.declared.declaration.ConstDecl.{ConstDecl}
use Rattle.sr_tree.specs.declared.declaration.VarDecl.{VarDecl}
use Rattle.sr_tree.specs.declared.name.Name.{Name}
use Rattle.sr_tree.specs.declared.statement.Arm.{Arm, fold-Arm}
use Rattle.sr_tree.specs.declared.statement.BlockItem.{BlockItem, fold-BlockItem}
use Rattle.sr_tree.specs.declared.statement.BlockItem.TheOpen.{BlockItem-F, Statement-F}
use Rattle.sr_tree.specs.declared.statement.Branch.{Branch, fold-Branch}
use Rattle.sr_tree.specs.declared.statement.CoArm.{CoArm, fold-CoArm}
use Rattle.sr_tree.specs.declared.statement.Quantifier.{Quantifier}
use Rattle.sr_tree.specs.declared.statement.Statement.{Statement, fold-Statement}
use Rattle.sr_tree.specs.declared.types.Decl.{Decl as DeclTree}
use Rattle.sr_tree.specs.declared.types.Formal.{Formal, out-Formal}
use Rattle.sr_tree.specs.declared.types.Returned.{Returned, out-Returned}
use Rattle.sr_tree.specs.declared.types.Signature.{Signature, out-Signature}
use Rattle.sr_tree.specs.declared.types.TypeTree.{TypeTree}
use Rattle.sr_tree.specs.declared.types.TypeTree.TheFolds.{fold_out-Formal, fold_out-Returned, fold_out-Signature, map-Signature}
use Rattle.sr_tree.specs.declared.types.TypeTree.TheOpen.{Signature-F}
use Rattle.sr_value.specs.declared.place.Span.{Span}
use Rattle.sr_outline.proofs.NumberFolds.{owned}
use Rattle.sr_order.proofs.NameFolds.{naming}
use Rattle.sr_tree.proofs.StatementFolds.{ArmNode, BranchNode, ByParts, Claim, CoArmNode, Fold, ItemNode, Known, StatementNode, arm_folds, bare_arm, bare_branch, bare_co_arm, bare_item, bare_statement, branch_folds, co_arm_folds, each_statement, from_arm, from_branch, from_co_arm, from_item, from_statement, item_folds, statement_folds}

-- ---- the names that are declared as variables: the own variables but for those that a `receive` or `P` needs

abbrev pub statement_declared : Statement-F (List Spot) (List Spot) (List Spot) (List Spot) (List Spot) → List Spot
statement_declared (Statement-F.If span branches otherwise) = lists branches ++ maybe_lists otherwise
statement_declared (Statement-F.Do span branches otherwise) = lists branches ++ maybe_lists otherwise
statement_declared (Statement-F.ForAll span quantifiers block) = quantifier_names quantifiers ++ lists block
statement_declared (Statement-F.In span arms otherwise) = lists arms ++ maybe_lists otherwise
statement_declared (Statement-F.Co span arms) = lists arms
statement_declared _ = []

abbrev pub declared_in : Facts → Statement → List Spot
declared_in facts = fold-Statement (List Spot) (List Spot) (List Spot) (List Spot) (List Spot)
    (block_item_names facts) statement_declared arm_names (λ branch. lists branch.block) co_arm_names

abbrev pub item_declared : Facts → BlockItem → List Spot
item_declared facts = fold-BlockItem (List Spot) (List Spot) (List Spot) (List Spot) (List Spot)
    (block_item_names facts) statement_declared arm_names (λ branch. lists branch.block) co_arm_names

abbrev pub branch_declared : Facts → Branch → List Spot
branch_declared facts = fold-Branch (List Spot) (List Spot) (List Spot) (List Spot) (List Spot)
    (block_item_names facts) statement_declared arm_names (λ branch. lists branch.block) co_arm_names

abbrev pub arm_declared : Facts → Arm → List Spot
arm_declared facts = fold-Arm (List Spot) (List Spot) (List Spot) (List Spot) (List Spot)
    (block_item_names facts) statement_declared arm_names (λ branch. lists branch.block) co_arm_names

abbrev pub co_arm_declared : Facts → CoArm → List Spot
co_arm_declared facts = fold-CoArm (List Spot) (List Spot) (List Spot) (List Spot) (List Spot)
    (block_item_names facts) statement_declared arm_names (λ branch. lists branch.block) co_arm_names

abbrev pub inner_declared : Facts → ProcItem → List Spot
inner_declared facts (inner.Const constant) = const_names facts constant
inner_declared facts (inner.Var variables) = var_names variables
inner_declared facts (inner.Op operations) = []
inner_declared facts (inner.Sem semaphores) = []
inner_declared facts (inner.Statement statement) = declared_in facts statement

-- the names that a block declares as operations
abbrev pub inner_operations : ProcItem → List Spot
inner_operations (inner.Op operations) = map spot_named (map op_name operations.items)
inner_operations (inner.Sem declared) = map spot_named (semaphore_names declared.semaphores)
inner_operations _ = []

abbrev pub item_operations : Item → List Spot
item_operations (item.Proc proc) = flat_map inner_operations proc.block
item_operations (item.Procedure procedure) = flat_map inner_operations procedure.block
item_operations (item.Process process) = flat_map inner_operations process.block
item_operations (item.Final final) = flat_map inner_operations final.block
item_operations _ = []

-- ---- where names stand

abbrev pub Stands : Spot → List Span → Type 0
Stands spot spans = IsIn spot (map spot_of spans)

pub stands_left : (spot : Spot) (xs ys : List Span) → Stands spot xs → Stands spot (xs ++ ys)
stands_left spot [] ys k = absurd k
stands_left spot (x ∷ xs) ys (inl e) = inl e
stands_left spot (x ∷ xs) ys (inr k) = inr (stands_left spot xs ys k)

pub stands_right : (spot : Spot) (xs ys : List Span) → Stands spot ys → Stands spot (xs ++ ys)
stands_right spot [] ys k = k
stands_right spot (x ∷ xs) ys k = inr (stands_right spot xs ys k)

-- each of these is an own variable, and stands in these parts of the code
abbrev pub AreBoth : List Spot → List Spot → List Span → Type 0
AreBoth declared owns spans = (spot : Spot) → IsIn spot declared → IsIn spot owns × Stands spot spans

none_both : (owns : List Spot) (spans : List Span) → AreBoth [] owns spans
none_both owns spans spot k = absurd k

both : (xs owns : List Spot) (spans : List Span) (ys more : List Spot) (others : List Span) → AreBoth xs owns spans → AreBoth ys more others → AreBoth (xs ++ ys) (owns ++ more) (spans ++ others)
both xs owns spans ys more others a b spot k = by (in_either spot xs ys k)
  where
    by : IsIn spot xs ⊎ IsIn spot ys → IsIn spot (owns ++ more) × Stands spot (spans ++ others)
    by (inl h) = let one = a spot h in (in_left spot owns more one.0, stands_left spot spans others one.1)
    by (inr h) = let one = b spot h in (in_right spot owns more one.0, stands_right spot spans others one.1)

after : (xs owns : List Spot) (before spans : List Span) → AreBoth xs owns spans → AreBoth xs owns (before ++ spans)
after xs owns before spans a spot k = let one = a spot k in (one.0, stands_right spot before spans one.1)

same_both : (xs : List Spot) (spans : List Span) → ((spot : Spot) → IsIn spot xs → Stands spot spans) → AreBoth xs xs spans
same_both xs spans stands spot k = (k, stands spot k)

lists_both : {X : Type 0} (declared owns : X → List Spot) (spans : X → List Span) (trees : List ((tree : X) × AreBoth (declared tree) (owns tree) (spans tree)))
    → AreBoth (lists (map declared (map (λ e. e.0) trees))) (lists (map owns (map (λ e. e.0) trees))) (joined (map spans (map (λ e. e.0) trees)))
lists_both declared owns spans [] = none_both [] []
lists_both declared owns spans (tree ∷ trees) = both (declared tree.0) (owns tree.0) (spans tree.0) _ _ _ tree.1 (lists_both declared owns spans trees)

-- ---- declarations

name_stands : (names : List Name) (spot : Spot) → IsIn spot (map spot_named names) → Stands spot (order.names_spans names)
name_stands [] spot k = absurd k
name_stands (name ∷ names) spot (inl e) = inl e
name_stands (name ∷ names) spot (inr k) = inr (name_stands names spot k)

returned_stands : (returned : Option Name) (spot : Spot) → IsIn spot (returned_names returned) → Stands spot (order.where_some order.name_names returned)
returned_stands None spot k = absurd k
returned_stands (Some name) spot k = k

pub quantifier_stands : (quantifiers : List Quantifier) (spot : Spot) → IsIn spot (quantifier_names quantifiers) → Stands spot (flat_map order.quantifier_names quantifiers)
quantifier_stands [] spot k = absurd k
quantifier_stands (quantifier ∷ more) spot (inl e) = inl e
quantifier_stands (quantifier ∷ more) spot (inr k) = stands_right spot (order.quantifier_names quantifier) (flat_map order.quantifier_names more) (quantifier_stands more spot k)

pub decl_stands : (decls : List DeclTree) (spot : Spot) → IsIn spot (map (λ (decl : DeclTree). spot_named decl.name) decls) → Stands spot (flat_map order.decl_names decls)
decl_stands [] spot k = absurd k
decl_stands (decl ∷ decls) spot (inl e) = inl e
decl_stands (decl ∷ decls) spot (inr k) = stands_right spot (order.decl_names decl) (flat_map order.decl_names decls) (decl_stands decls spot k)

pub var_stands : (variables : VarDecl) (spot : Spot) → IsIn spot (var_names variables) → Stands spot (order.var_names variables)
unfolding var_names
var_stands variables spot k = stands_left spot (flat_map order.decl_names variables.decls) _ (decl_stands variables.decls spot k)

pub const_stands : (facts : Facts) (constant : ConstDecl) (spot : Spot) → IsIn spot (const_names facts constant) → Stands spot (order.const_names constant)
unfolding const_names
const_stands facts constant spot = by (is_constant facts (spot_named constant.name))
  where
    by : (b : Bool) → IsIn spot (if b then [] else spot_named constant.name ∷ []) → Stands spot (order.const_names constant)
    by true k = absurd k
    by false (inl e) = inl e
    by false (inr k) = absurd k

pub formal_stands : (formal : Formal) (spot : Spot) → IsIn spot (formal_spots formal) → Stands spot (order.formal_names formal)
formal_stands formal spot k =
    subst (Stands spot) (sym (fold_out-Formal (List Span) (List Span) (List Span) (List Span) order.type_names_step order.formal_names_step order.returned_names_step order.signature_names_step formal))
    (stands_left spot (flat_map order.decl_names (out-Formal formal).decls) _ (decl_stands (out-Formal formal).decls spot k))

pub formals_stand : (formals : List Formal) (spot : Spot) → IsIn spot (formal_names formals) → Stands spot (flat_map order.formal_names formals)
formals_stand [] spot k = absurd k
formals_stand (formal ∷ formals) spot k = by (in_either spot (formal_spots formal) (formal_names formals) k) (formals_stand formals spot)
  where
    by : IsIn spot (formal_spots formal) ⊎ IsIn spot (formal_names formals) → (IsIn spot (formal_names formals) → Stands spot (flat_map order.formal_names formals))
        → Stands spot (order.formal_names formal ++ flat_map order.formal_names formals)
    by (inl h) more = stands_left spot (order.formal_names formal) _ (formal_stands formal spot h)
    by (inr h) more = stands_right spot (order.formal_names formal) _ (more h)

joined_stand : (formals : List Formal) (spot : Spot) → IsIn spot (formal_names formals) → Stands spot (joined (map order.formal_names formals))
joined_stand formals spot k = subst (Stands spot) (sym (joined-map order.formal_names formals)) (formals_stand formals spot k)

abbrev told_signature : Signature-F TypeTree Formal Returned Signature → Signature-F (List Span) (List Span) (List Span) (List Span)
told_signature x = map-Signature TypeTree Formal Returned Signature (List Span) (List Span) (List Span) (List Span) order.type_names order.formal_names order.returned_names order.signature_names x

signature_is : (signature : Signature) → order.signature_names signature ≡ order.signature_names_step (told_signature (out-Signature signature))
signature_is = fold_out-Signature (List Span) (List Span) (List Span) (List Span) order.type_names_step order.formal_names_step order.returned_names_step order.signature_names_step

signature_formals_stand : (signature : Signature) (spot : Spot) → IsIn spot (formal_names (out-Signature signature).formals) → Stands spot (order.signature_names signature)
signature_formals_stand signature spot k =
    subst (Stands spot) (sym (signature_is signature)) (stands_left spot (joined (map order.formal_names (out-Signature signature).formals)) _ (joined_stand (out-Signature signature).formals spot k))

returned_by : (x : Signature-F TypeTree Formal Returned Signature) (returned : Option Returned) (spot : Spot)
    → IsIn spot (maybe (λ (one : Returned). spot_named (out-Returned one).decl.name ∷ []) returned) → Stands spot (order.told_where (told_signature (record x { returned = returned })).returned)
returned_by x None spot k = absurd k
returned_by x (Some returned) spot (inl e) =
    subst (Stands spot) (sym (fold_out-Returned (List Span) (List Span) (List Span) (List Span) order.type_names_step order.formal_names_step order.returned_names_step order.signature_names_step returned)) (inl e)
returned_by x (Some returned) spot (inr k) = absurd k

signature_returned_stands : (signature : Signature) (spot : Spot) → IsIn spot (signature_returned signature) → Stands spot (order.signature_names signature)
signature_returned_stands signature spot k =
    subst (Stands spot) (sym (signature_is signature))
    (stands_right spot (joined (map order.formal_names (out-Signature signature).formals)) _ (returned_by (out-Signature signature) (out-Signature signature).returned spot k))

-- ---- statements

module _ (facts : Facts) where
  abbrev L : Type 0
  L = List Spot

  abbrev W : Type 0
  W = List Span

  -- the variables that trees declare
  abbrev pub declared : Fold L L L L L
  declared = record { item = block_item_names facts; statement = statement_declared; arm = arm_names; branch = λ branch. lists branch.block; co_arm = co_arm_names }

  abbrev are_both : Claim
  are_both = record {
    item = λ tree. AreBoth (item_declared facts tree) (item_in facts tree) (order.block_item_names tree);
    statement = λ tree. AreBoth (declared_in facts tree) (names_in facts tree) (order.statement_names tree);
    arm = λ tree. AreBoth (arm_declared facts tree) (arm_in facts tree) (order.arm_names tree);
    branch = λ tree. AreBoth (branch_declared facts tree) (branch_in facts tree) (order.branch_names tree);
    co_arm = λ tree. AreBoth (co_arm_declared facts tree) (co_arm_in facts tree) (order.co_arm_names tree);
  }

  abbrev I : Type 0
  I = Known are_both.item

  abbrev A : Type 0
  A = Known are_both.arm

  abbrev B : Type 0
  B = Known are_both.branch

  -- ---- each kind of statement from its parts

  items_both : (items : List I) → AreBoth (lists (map (item_declared facts) (map (λ (e : I). e.0) items))) (lists (map (item_in facts) (map (λ (e : I). e.0) items))) (joined (map order.block_item_names (map (λ (e : I). e.0) items)))
  items_both = lists_both (item_declared facts) (item_in facts) order.block_item_names

  branches_both : (branches : List B) → AreBoth (lists (map (branch_declared facts) (map (λ (e : B). e.0) branches))) (lists (map (branch_in facts) (map (λ (e : B). e.0) branches))) (joined (map order.branch_names (map (λ (e : B). e.0) branches)))
  branches_both = lists_both (branch_declared facts) (branch_in facts) order.branch_names

  arms_both : (arms : List A) → AreBoth (lists (map (arm_declared facts) (map (λ (e : A). e.0) arms))) (lists (map (arm_in facts) (map (λ (e : A). e.0) arms))) (joined (map order.arm_names (map (λ (e : A). e.0) arms)))
  arms_both = lists_both (arm_declared facts) (arm_in facts) order.arm_names

  item_good : (y : ItemNode are_both) → AreBoth (from_item declared (bare_item are_both y)) (from_item (owned facts) (bare_item are_both y)) (from_item naming (bare_item are_both y))
  item_good (BlockItem-F.Const constant) = same_both (const_names facts constant) (order.const_names constant) (const_stands facts constant)
  item_good (BlockItem-F.Var variables) = same_both (var_names variables) (order.var_names variables) (var_stands variables)
  item_good (BlockItem-F.Statement statement) = statement.1

  branched : (branches : List B) (items : List I)
      → AreBoth (lists (map (branch_declared facts) (map (λ (e : B). e.0) branches)) ++ lists (map (item_declared facts) (map (λ (e : I). e.0) items)))
      (lists (map (branch_in facts) (map (λ (e : B). e.0) branches)) ++ lists (map (item_in facts) (map (λ (e : I). e.0) items)))
      (joined (map order.branch_names (map (λ (e : B). e.0) branches)) ++ joined (map order.block_item_names (map (λ (e : I). e.0) items)))
  branched branches items = both _ _ (joined (map order.branch_names (map (λ (e : B). e.0) branches))) _ _ _ (branches_both branches) (items_both items)

  quantified : (quantifiers : List Quantifier) (ys more : L) (others : W) → AreBoth ys more others
      → AreBoth (quantifier_names quantifiers ++ ys) (quantifier_names quantifiers ++ more) (flat_map order.quantifier_names quantifiers ++ others)
  quantified quantifiers ys more others =
      both (quantifier_names quantifiers) (quantifier_names quantifiers) (flat_map order.quantifier_names quantifiers) ys more others
      (same_both (quantifier_names quantifiers) (flat_map order.quantifier_names quantifiers) (quantifier_stands quantifiers))

  statement_good : (y : StatementNode are_both) → AreBoth (from_statement declared (bare_statement are_both y)) (from_statement (owned facts) (bare_statement are_both y)) (from_statement naming (bare_statement are_both y))
  statement_good (Statement-F.If span branches None) = both _ _ (joined (map order.branch_names (map (λ (e : B). e.0) branches))) [] [] [] (branches_both branches) (none_both [] [])
  statement_good (Statement-F.If span branches (Some items)) = branched branches items
  statement_good (Statement-F.Do span branches None) = both _ _ (joined (map order.branch_names (map (λ (e : B). e.0) branches))) [] [] [] (branches_both branches) (none_both [] [])
  statement_good (Statement-F.Do span branches (Some items)) = branched branches items
  statement_good (Statement-F.ForAll span quantifiers block) = quantified quantifiers _ _ _ (items_both block)
  statement_good (Statement-F.In span arms None) = both _ _ (joined (map order.arm_names (map (λ (e : A). e.0) arms))) [] [] [] (arms_both arms) (none_both [] [])
  statement_good (Statement-F.In span arms (Some items)) = both _ _ (joined (map order.arm_names (map (λ (e : A). e.0) arms))) _ _ _ (arms_both arms) (items_both items)
  statement_good (Statement-F.Co span arms) = lists_both (co_arm_declared facts) (co_arm_in facts) order.co_arm_names arms
  statement_good _ = λ spot k. absurd k

  arm_good : (y : ArmNode are_both) → AreBoth (from_arm declared (bare_arm are_both y)) (from_arm (owned facts) (bare_arm are_both y)) (from_arm naming (bare_arm are_both y))
  arm_good y =
      let spans = order.names_spans y.formals in
      let returned = order.where_some order.name_names y.returned in
      let condition = order.where_some order.condition_names y.condition in
      let by = order.where_some order.expr_names y.order in
      after _ _ (y.operation.span ∷ []) _
      (both (map spot_named y.formals) (map spot_named y.formals) spans _ _ _ (same_both (map spot_named y.formals) spans (name_stands y.formals))
      (both (returned_names y.returned) (returned_names y.returned) returned _ _ _ (same_both (returned_names y.returned) returned (returned_stands y.returned))
      (after _ _ condition _ (after _ _ by _ (items_both y.block)))))

  branch_good : (y : BranchNode are_both) → AreBoth (from_branch declared (bare_branch are_both y)) (from_branch (owned facts) (bare_branch are_both y)) (from_branch naming (bare_branch are_both y))
  branch_good y = after _ _ (order.expr_names y.guard) _ (items_both y.block)

  co_arm_by : (y : CoArmNode are_both) (block : Option (List I)) → AreBoth (from_co_arm declared (bare_co_arm are_both (record y { block = block }))) (from_co_arm (owned facts) (bare_co_arm are_both (record y { block = block }))) (from_co_arm naming (bare_co_arm are_both (record y { block = block })))
  co_arm_by y None = quantified y.quantifiers _ _ _ (λ spot k. absurd k)
  co_arm_by y (Some items) = quantified y.quantifiers _ _ _ (after _ _ (order.where_some order.expr_names y.target) _ (after _ _ (order.invocation_names y.invocation) _ (items_both items)))

  co_arm_good : (y : CoArmNode are_both) → AreBoth (from_co_arm declared (bare_co_arm are_both y)) (from_co_arm (owned facts) (bare_co_arm are_both y)) (from_co_arm naming (bare_co_arm are_both y))
  co_arm_good y = co_arm_by y y.block

  by_parts : ByParts are_both
  by_parts = record {
    item = λ y. subst (λ t. t) (λ i. AreBoth (item_folds declared (bare_item are_both y) i) (item_folds (owned facts) (bare_item are_both y) i) (item_folds naming (bare_item are_both y) i)) (item_good y);
    statement = λ y. subst (λ t. t) (λ i. AreBoth (statement_folds declared (bare_statement are_both y) i) (statement_folds (owned facts) (bare_statement are_both y) i) (statement_folds naming (bare_statement are_both y) i)) (statement_good y);
    arm = λ y. subst (λ t. t) (λ i. AreBoth (arm_folds declared (bare_arm are_both y) i) (arm_folds (owned facts) (bare_arm are_both y) i) (arm_folds naming (bare_arm are_both y) i)) (arm_good y);
    branch = λ y. subst (λ t. t) (λ i. AreBoth (branch_folds declared (bare_branch are_both y) i) (branch_folds (owned facts) (bare_branch are_both y) i) (branch_folds naming (bare_branch are_both y) i)) (branch_good y);
    co_arm = λ y. subst (λ t. t) (λ i. AreBoth (co_arm_folds declared (bare_co_arm are_both y) i) (co_arm_folds (owned facts) (bare_co_arm are_both y) i) (co_arm_folds naming (bare_co_arm are_both y) i)) (co_arm_good y);
  }

  statement_both : (tree : Statement) → AreBoth (declared_in facts tree) (names_in facts tree) (order.statement_names tree)
  statement_both = each_statement are_both by_parts

  -- ---- items of components

  inner_both : (one : ProcItem) → AreBoth (inner_declared facts one) (inner_names facts one) (order.proc_item_names one)
  inner_both (inner.Const constant) = same_both (const_names facts constant) (order.const_names constant) (const_stands facts constant)
  inner_both (inner.Var variables) = same_both (var_names variables) (order.var_names variables) (var_stands variables)
  inner_both (inner.Op operations) = λ spot k. absurd k
  inner_both (inner.Sem semaphores) = λ spot k. absurd k
  inner_both (inner.Statement statement) = statement_both statement

  block_both : (block : List ProcItem) → AreBoth (flat_map (inner_declared facts) block) (flat_map (inner_names facts) block) (order.block_names block)
  block_both [] = none_both [] []
  block_both (one ∷ block) = both (inner_declared facts one) (inner_names facts one) (order.proc_item_names one) _ _ _ (inner_both one) (block_both block)

  signature_both : (signature : Signature) (ys more : L) (others : W) → AreBoth ys more others
      → AreBoth (formal_names (out-Signature signature).formals ++ (signature_returned signature ++ ys)) (formal_names (out-Signature signature).formals ++ (signature_returned signature ++ more))
      (order.signature_names signature ++ others)
  signature_both signature ys more others rest spot k = by (in_either spot (formal_names (out-Signature signature).formals) _ k)
    where
      last : IsIn spot (signature_returned signature) ⊎ IsIn spot ys
          → IsIn spot (formal_names (out-Signature signature).formals ++ (signature_returned signature ++ more)) × Stands spot (order.signature_names signature ++ others)
      last (inl h) = (
        in_right spot (formal_names (out-Signature signature).formals) _ (in_left spot (signature_returned signature) more h),
        stands_left spot (order.signature_names signature) others (signature_returned_stands signature spot h),
      )
      last (inr h) =
          let one = rest spot h in
          (in_right spot (formal_names (out-Signature signature).formals) _ (in_right spot (signature_returned signature) more one.0), stands_right spot (order.signature_names signature) others one.1)

      by : IsIn spot (formal_names (out-Signature signature).formals) ⊎ IsIn spot (signature_returned signature ++ ys)
          → IsIn spot (formal_names (out-Signature signature).formals ++ (signature_returned signature ++ more)) × Stands spot (order.signature_names signature ++ others)
      by (inl h) = (in_left spot (formal_names (out-Signature signature).formals) _ h, stands_left spot (order.signature_names signature) others (signature_formals_stand signature spot h))
      by (inr h) = last (in_either spot (signature_returned signature) ys h)

  -- the variables of an item, by those of what stands in its block, and of a statement
  abbrev variables : (ProcItem → List Spot) → (Statement → List Spot) → Item → List Spot
  variables inner code (item.Spec _) = []
  variables inner code (item.Proc proc) = map spot_named proc.formals ++ (returned_names proc.returned ++ flat_map inner proc.block)
  variables inner code (item.Procedure procedure) = formal_names (out-Signature procedure.signature).formals ++ (signature_returned procedure.signature ++ flat_map inner procedure.block)
  variables inner code (item.Process process) = quantifier_names process.quantifiers ++ flat_map inner process.block
  variables inner code (item.Final final) = flat_map inner final.block
  variables inner code (item.Statement statement) = code statement

  -- those that its code declares
  abbrev pub item_variables : Item → List Spot
  item_variables = variables (inner_declared facts) (declared_in facts)

  -- all of its own variables
  abbrev pub all_variables : Item → List Spot
  all_variables = variables (inner_names facts) (names_in facts)

  pub variables_both : (one : Item) → AreBoth (item_variables one) (all_variables one) (order.item_names one)
  variables_both (item.Spec _) = λ spot k. absurd k
  variables_both (item.Proc proc) =
      let spans = order.names_spans proc.formals in
      let returned = order.where_some order.name_names proc.returned in
      after _ _ (proc.name.span ∷ []) _
      (both (map spot_named proc.formals) (map spot_named proc.formals) spans _ _ _ (same_both (map spot_named proc.formals) spans (name_stands proc.formals))
      (both (returned_names proc.returned) (returned_names proc.returned) returned _ _ _ (same_both (returned_names proc.returned) returned (returned_stands proc.returned)) (block_both proc.block)))
  variables_both (item.Procedure procedure) = after _ _ (procedure.name.span ∷ []) _ (signature_both procedure.signature _ _ _ (block_both procedure.block))
  variables_both (item.Process process) = after _ _ (process.name.span ∷ []) _ (quantified process.quantifiers _ _ _ (block_both process.block))
  variables_both (item.Final final) = block_both final.block
  variables_both (item.Statement statement) = statement_both statement
