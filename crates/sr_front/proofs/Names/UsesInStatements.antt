-- A fact of each name that is used, by what it means: declarations, statements and procs.
use Rattle.std.proofs.Common.{◌≡◌, sym, subst, refl, Bool, true, false, List, [], ◌∷◌, ◌++◌, Option, Some, None, map, flat_map, if◌then◌else◌}
use Rattle.sr_value.specs.declared.place.Span.{Span}
use Rattle.sr_names.specs.declared.meaning.Decl.{Decl}
use Rattle.sr_names.specs.declared.meaning.Sort.{Sort}
use Rattle.sr_names.specs.declared.meaning.Sort.TheVariants.{Constant, Variable, Operation, Quantifier as quantifier_sort}
use Rattle.sr_names.specs.declared.place.Blocks.{Blocks}
use Rattle.sr_names.specs.declared.place.Place.{Place}
use Rattle.sr_names.specs.declared.spot.Spot.{Spot}
use Rattle.sr_names.specs.Entries.{Entries}
use Rattle.sr_names.specs.Readings.{declaration}
use Rattle.sr_names.specs.Scopes.{opened}
use Rattle.sr_tree.specs.declared.component.FinalCode.{FinalCode}
use Rattle.sr_tree.specs.declared.component.Proc.{Proc}
use Rattle.sr_tree.specs.declared.component.Procedure.{Procedure}
use Rattle.sr_tree.specs.declared.component.Process.{Process}
use Rattle.sr_tree.specs.declared.component.ProcItem.{ProcItem}
use Rattle.sr_tree.specs.declared.component.ProcItem.TheVariants as inner
use Rattle.sr_tree.specs.declared.declaration.ConstDecl.{ConstDecl}
use Rattle.sr_tree.specs.declared.declaration.OpItem.{OpItem}
use Rattle.sr_tree.specs.declared.declaration.OpItem.TheVariants as op
use Rattle.sr_tree.specs.declared.declaration.Semaphore.{Semaphore}
use Rattle.sr_tree.specs.declared.declaration.VarDecl.{VarDecl}
use Rattle.sr_tree.specs.declared.expr.Expr.{Expr}
use Rattle.sr_tree.specs.declared.expr.Invocation.{Invocation}
use Rattle.sr_tree.specs.declared.name.Name.{Name}
use Rattle.sr_tree.specs.declared.statement.ArmCondition.{ArmCondition}
use Rattle.sr_tree.specs.declared.statement.BlockItem.TheOpen.{BlockItem-F, Statement-F}
use Rattle.sr_tree.specs.declared.statement.Quantifier.{Quantifier}
use Rattle.sr_tree.specs.declared.statement.Statement.{Statement}
use Rattle.sr_scope.specs.Declarations.{bounds_found, const_found, op_item_found, op_items_found, quantifier_found, quantifiers_found, semaphores_found, var_found, var_names, with_inner, with_quantifier, with_quantifiers}
use Rattle.sr_scope.specs.Declares as declares
use Rattle.sr_scope.specs.Declares.{name_twice, names_declared, op_name}
use Rattle.sr_scope.specs.Exprs.{Finds, all_found, invocation_found}
use Rattle.sr_scope.specs.Names.{name_found}
use Rattle.sr_scope.specs.Procs.{final_found, proc_found, proc_item_read, proc_items_found, procedure_found, process_found, quantifier_names, semaphore_names}
use Rattle.sr_scope.specs.Statements.{Step, Steps, arm_found, arm_scope, arm_twice, block_found, branch_found, co_arm_found, condition_found, item_read, statement_found, steps_found}
use Rattle.sr_scope.specs.Types.{Formals, Signed, decls_found, expr_found, formal_read, formal_step, maybe_expr_found, maybe_type_found, returned_read, returned_step, signature_read, signature_step, signed_declared, signed_found, signed_twice, type_found, type_step}
use Rattle.sr_names.specs.declared.finding.Finding.{Finding}
use Rattle.sr_check.proofs.Each.{Each, each-left, each-right}
use Rattle.sr_check_expr.specs.declared.facts.Facts.{Facts}
use Rattle.sr_check_expr.specs.Meanings.{is_constant}
use Rattle.sr_names.specs.Spots.{spot_of}
use Rattle.sr_outline.specs.Numbers.{const_names, formal_names, formal_spots, quantifier_names as quantifier_spots, returned_names, signature_returned, var_names as var_spots}
use Rattle.sr_tables.specs.Lists.{lists, maybe}
use Rattle.sr_tables.specs.Parts.{spot_named}
use Rattle.sr_tree.specs.declared.types.Decl.{Decl as DeclTree}
use Rattle.sr_tree.specs.declared.types.Formal.{Formal, out-Formal}
use Rattle.sr_tree.specs.declared.types.Returned.{Returned, out-Returned}
use Rattle.sr_tree.specs.declared.types.Signature.{Signature, out-Signature}
use Rattle.sr_tree.specs.declared.types.TypeTree.TheFolds.{fold_out-Formal, fold_out-Returned, fold_out-Signature, map-Signature}
use Rattle.sr_tree.specs.declared.types.TypeTree.{TypeTree}
use Rattle.sr_tree.specs.declared.types.TypeTree.TheOpen.{Signature-F}
use Rattle.sr_front.proofs.Own.DeclaredIn.{arm_declared, branch_declared, co_arm_declared, declared, declared_in, inner_declared, inner_operations, item_declared}
use Rattle.sr_scope.proofs.FoundFolds.{finding}
use Rattle.sr_tree.proofs.StatementFolds.{ArmNode, BranchNode, ByParts, Claim, CoArmNode, ItemNode, Known, StatementNode, arm_folds, bare_arm, bare_branch, bare_co_arm, bare_item, bare_statement, branch_folds, co_arm_folds, each_statement, from_arm, from_branch, from_co_arm, from_item, from_statement, item_folds, statement_folds}
use Rattle.sr_front.proofs.Names.UsesInExprs as exprs
use Rattle.sr_front.proofs.Names.UsesInExprs.{AllFit, BlocksFit, MayMean, MayReturn, PlaceFits, TableFits}

-- what may be declared in a block
abbrev pub is_inner : Sort → Bool
is_inner Constant = true
is_inner Variable = true
is_inner quantifier_sort = true
is_inner _ = false

-- `Owned spot`: a variable of this spot is one of those of the code around it; `Operated spot`: so is an operation
module _ (P : Spot → Decl → Type 0) (facts : Facts) (Owned Operated : Spot → Type 0)
    (owned : (at : Spot) (sort : Sort) (span : Span) → is_inner sort ≡ true → Owned (spot_of span) → P at (declaration sort span))
    (static : (at : Spot) (span : Span) → is_constant facts (spot_of span) ≡ true → P at (declaration Constant span))
    (operation : (at : Spot) (span : Span) → Operated (spot_of span) → P at (declaration Operation span)) where
  abbrev Fit : Blocks → Type 0
  Fit = BlocksFit P

  abbrev All : List Finding → Type 0
  All = AllFit P

  abbrev Table : Entries → Type 0
  Table = TableFits P

  abbrev Own : List Spot → Type 0
  Own = Each Owned

  both : (f g : List Finding) → All f → All g → All (f ++ g)
  both = exprs.both P

  twice : (sort : Sort) (name : Name) (table : Entries) → All (name_twice sort name table)
  twice = exprs.twice_fits P

  names_twice : (sort : Sort) (names : List Name) (table : Entries) → All (declares.names_twice sort names table)
  names_twice = exprs.names_twice_fit P

  -- ---- what the names of declarations may mean

  names_may : (sort : Sort) → is_inner sort ≡ true → (names : List Name) → Own (map spot_named names) → Each (MayMean P sort) names
  names_may sort is [] own = tt
  names_may sort is (name ∷ names) own = ((λ at. owned at sort name.span is own.0), names_may sort is names own.1)

  returned_may : (returned : Option Name) → Own (returned_names returned) → MayReturn P returned
  returned_may None own = tt
  returned_may (Some name) own = λ at. owned at Variable name.span refl own.0

  quantifiers_may : (sort : Sort) → is_inner sort ≡ true → (quantifiers : List Quantifier) → Own (quantifier_spots quantifiers)
      → Each (MayMean P sort) (map (λ (quantifier : Quantifier). quantifier.name) quantifiers)
  quantifiers_may sort is [] own = tt
  quantifiers_may sort is (quantifier ∷ quantifiers) own = ((λ at. owned at sort quantifier.name.span is own.0), quantifiers_may sort is quantifiers own.1)

  decls_may : (decls : List DeclTree) → Own (map (λ (decl : DeclTree). spot_named decl.name) decls) → Each (MayMean P Variable) (map (λ (decl : DeclTree). decl.name) decls)
  decls_may [] own = tt
  decls_may (decl ∷ decls) own = ((λ at. owned at Variable decl.name.span refl own.0), decls_may decls own.1)

  vars_may : (variables : VarDecl) → Own (var_spots variables) → Each (MayMean P Variable) (var_names variables)
  unfolding var_spots
  vars_may variables own = decls_may variables.decls own

  const_may : (constant : ConstDecl) → Own (const_names facts constant) → MayMean P Constant constant.name
  unfolding const_names
  const_may constant own = by (is_constant facts (spot_named constant.name)) refl own
    where
      by : (b : Bool) → is_constant facts (spot_named constant.name) ≡ b → Own (if b then [] else spot_named constant.name ∷ []) → MayMean P Constant constant.name
      by true is none = λ at. static at constant.name.span is
      by false is one = λ at. owned at Constant constant.name.span refl one.0

  operations_may : (names : List Name) → Each Operated (map spot_named names) → Each (MayMean P Operation) names
  operations_may [] operated = tt
  operations_may (name ∷ names) operated = ((λ at. operation at name.span operated.0), operations_may names operated.1)

  formal_may : (formal : Formal) → Own (formal_spots formal) → exprs.FormalMay P (formal_read formal)
  formal_may formal own =
      subst (λ (read : Formals). exprs.FormalMay P read) (sym (fold_out-Formal Finds Formals Formals Signed type_step formal_step returned_step signature_step formal))
      (decls_may (out-Formal formal).decls own)

  formals_may : (formals : List Formal) → Own (formal_names formals) → Each (exprs.FormalMay P) (map formal_read formals)
  formals_may [] own = tt
  formals_may (formal ∷ formals) own = (formal_may formal (each-left Owned (formal_spots formal) _ own), formals_may formals (each-right Owned (formal_spots formal) _ own))

  abbrev SignedMay : Signed → Type 0
  SignedMay signed = Each (exprs.FormalMay P) signed.formals × exprs.MaybeMay P signed.returned

  abbrev signature_of : Signature-F TypeTree Formal Returned Signature → Signed
  signature_of x = signature_step (map-Signature TypeTree Formal Returned Signature Finds Formals Formals Signed type_found formal_read returned_read signature_read x)

  signed_may : (x : Signature-F TypeTree Formal Returned Signature) (returned : Option Returned) → Own (formal_names x.formals)
      → Own (maybe (λ (one : Returned). spot_named (out-Returned one).decl.name ∷ []) returned) → SignedMay (signature_of (record x { returned = returned }))
  signed_may x None formals own = (formals_may x.formals formals, tt)
  signed_may x (Some returned) formals own = (
    formals_may x.formals formals,
    subst (λ (read : Formals). exprs.FormalMay P read) (sym (fold_out-Returned Finds Formals Formals Signed type_step formal_step returned_step signature_step returned))
        ((λ at. owned at Variable (out-Returned returned).decl.name.span refl own.0), tt),
  )

  signature_may : (signature : Signature) → Own (formal_names (out-Signature signature).formals) → Own (signature_returned signature) → SignedMay (signature_read signature)
  signature_may signature formals returned =
      subst SignedMay (sym (fold_out-Signature Finds Formals Formals Signed type_step formal_step returned_step signature_step signature))
      (signed_may (out-Signature signature) (out-Signature signature).returned formals returned)

  -- ---- scopes

  arm_twice_fits : (formals : List Name) (returned : Option Name) → All (arm_twice formals returned)
  arm_twice_fits formals returned = both _ _ (names_twice Variable formals []) (exprs.returned_twice_fit P returned (names_declared Variable formals []))

  arm_scope_fits : (formals : List Name) (returned : Option Name) → Own (map spot_named formals) → Own (returned_names returned) → (blocks : Blocks) → Fit blocks
      → Fit (arm_scope formals returned blocks)
  arm_scope_fits formals returned own own_returned blocks fit =
      exprs.blocks_with P (opened blocks) _ (exprs.blocks_opened P blocks fit)
      (exprs.returned_table P returned (returned_may returned own_returned) (names_declared Variable formals [])
      (exprs.names_table P Variable formals (names_may Variable refl formals own) [] (exprs.none_fit P)))

  quantifier_scope : (quantifier : Quantifier) → Owned (spot_named quantifier.name) → (blocks : Blocks) → Fit blocks → Fit (with_quantifier quantifier blocks)
  quantifier_scope quantifier own blocks fit =
      exprs.blocks_with P blocks _ fit (exprs.name_table P quantifier_sort quantifier.name (λ at. owned at quantifier_sort quantifier.name.span refl own) blocks.inner fit.innermost)

  quantifiers_scope : (quantifiers : List Quantifier) → Own (quantifier_spots quantifiers) → (blocks : Blocks) → Fit blocks → Fit (with_quantifiers quantifiers blocks)
  quantifiers_scope quantifiers own blocks fit =
      exprs.blocks_with P blocks _ fit
      (exprs.names_table P quantifier_sort (map (λ (quantifier : Quantifier). quantifier.name) quantifiers) (quantifiers_may quantifier_sort refl quantifiers own) blocks.inner fit.innermost)

  module _ (place : Place) (outer : PlaceFits P place) where
    name : (blocks : Blocks) → Fit blocks → (name : Name) → All (name_found place blocks name)
    name = exprs.name_fits P place outer

    expr : (tree : Expr) (blocks : Blocks) → Fit blocks → All (expr_found tree place blocks)
    expr = exprs.expr_fits P place outer

    maybe_expr : (tree : Option Expr) (blocks : Blocks) → Fit blocks → All (maybe_expr_found tree place blocks)
    maybe_expr = exprs.maybe_expr_fits P place outer

    invocation : (tree : Invocation) (blocks : Blocks) → Fit blocks → All (invocation_found tree place blocks)
    invocation = exprs.invocation_fits P place outer

    -- ---- declarations

    pub const_fits : (constant : ConstDecl) (blocks : Blocks) → Fit blocks → All (const_found constant place blocks)
    const_fits constant blocks fit =
        both (maybe_type_found constant.ty place blocks) _ (exprs.maybe_type_fits P place outer constant.ty blocks fit) (expr constant.value blocks fit)

    pub var_fits : (variables : VarDecl) (blocks : Blocks) → Fit blocks → All (var_found variables place blocks)
    var_fits variables blocks fit =
        both (decls_found variables.decls place blocks) _ (exprs.decls_fit P place outer variables.decls blocks fit)
        (both (maybe_type_found variables.ty place blocks) _ (exprs.maybe_type_fits P place outer variables.ty blocks fit) (exprs.exprs_fit P place outer variables.values blocks fit))

    pub semaphores_fit : (semaphores : List Semaphore) (blocks : Blocks) → Fit blocks → All (semaphores_found semaphores place blocks)
    semaphores_fit [] blocks fit = tt
    semaphores_fit (semaphore ∷ semaphores) blocks fit =
        both (maybe_expr_found semaphore.value place blocks) _ (maybe_expr semaphore.value blocks fit) (semaphores_fit semaphores blocks fit)

    op_item_fits : (item : OpItem) (blocks : Blocks) → Fit blocks → All (op_item_found item place blocks)
    op_item_fits (op.Signed span name signature) blocks fit = exprs.signature_fits P place outer signature blocks fit
    op_item_fits (op.Typed span name optype) blocks fit = exprs.qualified_fits P place outer blocks fit optype

    pub op_items_fit : (items : List OpItem) (blocks : Blocks) → Fit blocks → All (op_items_found items place blocks)
    op_items_fit [] blocks fit = tt
    op_items_fit (item ∷ items) blocks fit = both (op_item_found item place blocks) _ (op_item_fits item blocks fit) (op_items_fit items blocks fit)

    bounds_fit : (quantifier : Quantifier) (blocks : Blocks) → Fit blocks → All (bounds_found quantifier place blocks)
    bounds_fit quantifier blocks fit =
        both (expr_found quantifier.first place blocks) _ (expr quantifier.first blocks fit)
        (both (expr_found quantifier.last place blocks) _ (expr quantifier.last blocks fit) (maybe_expr quantifier.step blocks fit))

    quantifier_fits : (quantifier : Quantifier) → Owned (spot_named quantifier.name) → (blocks : Blocks) → Fit blocks → All (quantifier_found quantifier place blocks)
    quantifier_fits quantifier own blocks fit =
        both (bounds_found quantifier place blocks) _ (bounds_fit quantifier blocks fit)
        (both (name_twice quantifier_sort quantifier.name blocks.inner) _ (twice quantifier_sort quantifier.name blocks.inner)
        (maybe_expr quantifier.such_that (with_quantifier quantifier blocks) (quantifier_scope quantifier own blocks fit)))

    pub quantifiers_fit : (quantifiers : List Quantifier) → Own (quantifier_spots quantifiers) → (blocks : Blocks) → Fit blocks → All (quantifiers_found quantifiers place blocks)
    quantifiers_fit [] own blocks fit = tt
    quantifiers_fit (quantifier ∷ more) own blocks fit =
        both (quantifier_found quantifier place blocks) _ (quantifier_fits quantifier own.0 blocks fit)
        (quantifiers_fit more own.1 (with_quantifier quantifier blocks) (quantifier_scope quantifier own.0 blocks fit))

    -- ---- statements with what is known of them

    -- what is found in an item of a block, and the scope after it
    pub record StepFits (step : Step) : Type 0 where
      pub found : All step.found
      pub inner : Table step.inner

    abbrev ItemFits : List Spot → Steps → Type 0
    ItemFits names steps = Own names → (blocks : Blocks) → Fit blocks → StepFits (steps place blocks)

    abbrev Fits : List Spot → Finds → Type 0
    Fits names finds = Own names → (blocks : Blocks) → Fit blocks → All (finds place blocks)

    abbrev fitting : Claim
    fitting = record {
      item = λ tree. ItemFits (item_declared facts tree) (item_read tree);
      statement = λ tree. Fits (declared_in facts tree) (statement_found tree);
      arm = λ tree. Fits (arm_declared facts tree) (arm_found tree);
      branch = λ tree. Fits (branch_declared facts tree) (branch_found tree);
      co_arm = λ tree. Fits (co_arm_declared facts tree) (co_arm_found tree);
    }

    abbrev I : Type 0
    I = Known fitting.item

    abbrev A : Type 0
    A = Known fitting.arm

    abbrev B : Type 0
    B = Known fitting.branch

    items_good : (items : List I) → Own (lists (map (item_declared facts) (map (λ (e : I). e.0) items))) → (blocks : Blocks) → Fit blocks
        → All (steps_found (map item_read (map (λ (e : I). e.0) items)) place blocks)
    items_good [] own blocks fit = tt
    items_good (item ∷ items) own blocks fit =
        let step = item.1 (each-left Owned (item_declared facts item.0) _ own) blocks fit in
        let after = (item_read item.0 place blocks).inner in
        both (item_read item.0 place blocks).found _ step.found
        (items_good items (each-right Owned (item_declared facts item.0) _ own) (with_inner blocks after) (exprs.blocks_with P blocks after fit step.inner))

    block_good : (items : List I) → Own (lists (map (item_declared facts) (map (λ (e : I). e.0) items))) → (blocks : Blocks) → Fit blocks
        → All (block_found (map item_read (map (λ (e : I). e.0) items)) place blocks)
    block_good items own blocks fit = items_good items own (opened blocks) (exprs.blocks_opened P blocks fit)

    all_good : {X : Type 0} (finds : X → Finds) (names : X → List Spot) (trees : List ((tree : X) × (Own (names tree) → (blocks : Blocks) → Fit blocks → All (finds tree place blocks))))
        → Own (lists (map names (map (λ e. e.0) trees))) → (blocks : Blocks) → Fit blocks → All (all_found (map finds (map (λ e. e.0) trees)) place blocks)
    all_good finds names [] own blocks fit = tt
    all_good finds names (tree ∷ trees) own blocks fit =
        both (finds tree.0 place blocks) _ (tree.1 (each-left Owned (names tree.0) _ own) blocks fit) (all_good finds names trees (each-right Owned (names tree.0) _ own) blocks fit)

    -- ---- each kind of statement from its parts

    item_good : (y : ItemNode fitting) → ItemFits (from_item (declared facts) (bare_item fitting y)) (from_item finding (bare_item fitting y))
    item_good (BlockItem-F.Const constant) own blocks fit = record {
      found = both (const_found constant place blocks) _ (const_fits constant blocks fit) (twice Constant constant.name blocks.inner);
      inner = exprs.name_table P Constant constant.name (const_may constant own) blocks.inner fit.innermost;
    }
    item_good (BlockItem-F.Var variables) own blocks fit = record {
      found = both (var_found variables place blocks) _ (var_fits variables blocks fit) (names_twice Variable (var_names variables) blocks.inner);
      inner = exprs.names_table P Variable (var_names variables) (vars_may variables own) blocks.inner fit.innermost;
    }
    item_good (BlockItem-F.Statement statement) own blocks fit = record { found = statement.1 own blocks fit; inner = fit.innermost }

    branches_good : (branches : List B) (items : List I)
        → Own (lists (map (branch_declared facts) (map (λ (e : B). e.0) branches)) ++ lists (map (item_declared facts) (map (λ (e : I). e.0) items))) → (blocks : Blocks) → Fit blocks
        → All (all_found (map branch_found (map (λ (e : B). e.0) branches)) place blocks ++ block_found (map item_read (map (λ (e : I). e.0) items)) place blocks)
    branches_good branches items own blocks fit =
        both (all_found (map branch_found (map (λ (e : B). e.0) branches)) place blocks) _
        (all_good branch_found (branch_declared facts) branches (each-left Owned (lists (map (branch_declared facts) (map (λ (e : B). e.0) branches))) _ own) blocks fit)
        (block_good items (each-right Owned (lists (map (branch_declared facts) (map (λ (e : B). e.0) branches))) _ own) blocks fit)

    statement_good : (y : StatementNode fitting) → Fits (from_statement (declared facts) (bare_statement fitting y)) (from_statement finding (bare_statement fitting y))
    statement_good (Statement-F.Stop span status) own blocks fit = maybe_expr status blocks fit
    statement_good (Statement-F.Call span with_call called) own blocks fit = invocation called blocks fit
    statement_good (Statement-F.Send span called) own blocks fit = invocation called blocks fit
    statement_good (Statement-F.Forward span called) own blocks fit = invocation called blocks fit
    statement_good (Statement-F.Receive span operation places) own blocks fit =
        both (name_found place blocks operation) _ (name blocks fit operation) (exprs.exprs_fit P place outer places blocks fit)
    statement_good (Statement-F.Assign span target value) own blocks fit = both (expr_found target place blocks) _ (expr target blocks fit) (expr value blocks fit)
    statement_good (Statement-F.Exchange span left right) own blocks fit = both (expr_found left place blocks) _ (expr left blocks fit) (expr right blocks fit)
    statement_good (Statement-F.Increment span target) own blocks fit = expr target blocks fit
    statement_good (Statement-F.Decrement span target) own blocks fit = expr target blocks fit
    statement_good (Statement-F.If span branches None) own blocks fit = both (all_found (map branch_found (map (λ (e : B). e.0) branches)) place blocks) [] (all_good branch_found (branch_declared facts) branches (each-left Owned (lists (map (branch_declared facts) (map (λ (e : B). e.0) branches))) [] own) blocks fit) tt
    statement_good (Statement-F.If span branches (Some items)) own blocks fit = branches_good branches items own blocks fit
    statement_good (Statement-F.Do span branches None) own blocks fit = both (all_found (map branch_found (map (λ (e : B). e.0) branches)) place blocks) [] (all_good branch_found (branch_declared facts) branches (each-left Owned (lists (map (branch_declared facts) (map (λ (e : B). e.0) branches))) [] own) blocks fit) tt
    statement_good (Statement-F.Do span branches (Some items)) own blocks fit = branches_good branches items own blocks fit
    statement_good (Statement-F.ForAll span quantifiers block) own blocks fit =
        let within = exprs.blocks_opened P blocks fit in
        both (quantifiers_found quantifiers place (opened blocks)) _ (quantifiers_fit quantifiers (each-left Owned (quantifier_spots quantifiers) _ own) (opened blocks) within)
        (block_good block (each-right Owned (quantifier_spots quantifiers) _ own) (with_quantifiers quantifiers (opened blocks)) (quantifiers_scope quantifiers (each-left Owned (quantifier_spots quantifiers) _ own) (opened blocks) within))
    statement_good (Statement-F.In span arms None) own blocks fit = both (all_found (map arm_found (map (λ (e : A). e.0) arms)) place blocks) [] (all_good arm_found (arm_declared facts) arms (each-left Owned (lists (map (arm_declared facts) (map (λ (e : A). e.0) arms))) [] own) blocks fit) tt
    statement_good (Statement-F.In span arms (Some items)) own blocks fit =
        both (all_found (map arm_found (map (λ (e : A). e.0) arms)) place blocks) _ (all_good arm_found (arm_declared facts) arms (each-left Owned (lists (map (arm_declared facts) (map (λ (e : A). e.0) arms))) _ own) blocks fit)
        (block_good items (each-right Owned (lists (map (arm_declared facts) (map (λ (e : A). e.0) arms))) _ own) blocks fit)
    statement_good (Statement-F.Co span arms) own blocks fit = all_good co_arm_found (co_arm_declared facts) arms own blocks fit
    statement_good (Statement-F.Destroy span target) own blocks fit = expr target blocks fit
    statement_good (Statement-F.Create span create) own blocks fit = exprs.create_fits P place outer create blocks fit
    statement_good _ own blocks fit = tt

    condition_fits : (condition : Option ArmCondition) (blocks : Blocks) → Fit blocks → All (condition_found condition place blocks)
    condition_fits None blocks fit = tt
    condition_fits (Some written) blocks fit = expr written.condition blocks fit

    arm_good : (y : ArmNode fitting) → Fits (from_arm (declared facts) (bare_arm fitting y)) (from_arm finding (bare_arm fitting y))
    arm_good y own blocks fit =
        let scope = arm_scope y.formals y.returned blocks in
        let after = each-right Owned (map spot_named y.formals) _ own in
        let within = arm_scope_fits y.formals y.returned (each-left Owned (map spot_named y.formals) _ own) (each-left Owned (returned_names y.returned) _ after) blocks fit in
        both (name_found place blocks y.operation) _ (name blocks fit y.operation)
        (both (arm_twice y.formals y.returned) _ (arm_twice_fits y.formals y.returned)
        (both (condition_found y.condition place scope) _ (condition_fits y.condition scope within)
        (both (maybe_expr_found y.order place scope) _ (maybe_expr y.order scope within)
        (block_good y.block (each-right Owned (returned_names y.returned) _ after) scope within))))

    branch_good : (y : BranchNode fitting) → Fits (from_branch (declared facts) (bare_branch fitting y)) (from_branch finding (bare_branch fitting y))
    branch_good y own blocks fit = both (expr_found y.guard place blocks) _ (expr y.guard blocks fit) (block_good y.block own blocks fit)

    co_arm_by : (y : CoArmNode fitting) (block : Option (List I)) → Fits (from_co_arm (declared facts) (bare_co_arm fitting (record y { block = block }))) (from_co_arm finding (bare_co_arm fitting (record y { block = block })))
    co_arm_by y None own blocks fit =
        let scope = with_quantifiers y.quantifiers (opened blocks) in
        let around = exprs.blocks_opened P blocks fit in
        let first = each-left Owned (quantifier_spots y.quantifiers) _ own in
        let within = quantifiers_scope y.quantifiers first (opened blocks) around in
        both (quantifiers_found y.quantifiers place (opened blocks)) _ (quantifiers_fit y.quantifiers first (opened blocks) around)
        (both (maybe_expr_found y.target place scope) _ (maybe_expr y.target scope within) (both (invocation_found y.invocation place scope) [] (invocation y.invocation scope within) tt))
    co_arm_by y (Some items) own blocks fit =
        let scope = with_quantifiers y.quantifiers (opened blocks) in
        let around = exprs.blocks_opened P blocks fit in
        let first = each-left Owned (quantifier_spots y.quantifiers) _ own in
        let within = quantifiers_scope y.quantifiers first (opened blocks) around in
        both (quantifiers_found y.quantifiers place (opened blocks)) _ (quantifiers_fit y.quantifiers first (opened blocks) around)
        (both (maybe_expr_found y.target place scope) _ (maybe_expr y.target scope within)
        (both (invocation_found y.invocation place scope) _ (invocation y.invocation scope within)
        (block_good items (each-right Owned (quantifier_spots y.quantifiers) _ own) scope within)))

    co_arm_good : (y : CoArmNode fitting) → Fits (from_co_arm (declared facts) (bare_co_arm fitting y)) (from_co_arm finding (bare_co_arm fitting y))
    co_arm_good y = co_arm_by y y.block

    by_parts : ByParts fitting
    by_parts = record {
      item = λ y. subst (λ t. t) (λ i. ItemFits (item_folds (declared facts) (bare_item fitting y) i) (item_folds finding (bare_item fitting y) i)) (item_good y);
      statement = λ y. subst (λ t. t) (λ i. Fits (statement_folds (declared facts) (bare_statement fitting y) i) (statement_folds finding (bare_statement fitting y) i)) (statement_good y);
      arm = λ y. subst (λ t. t) (λ i. Fits (arm_folds (declared facts) (bare_arm fitting y) i) (arm_folds finding (bare_arm fitting y) i)) (arm_good y);
      branch = λ y. subst (λ t. t) (λ i. Fits (branch_folds (declared facts) (bare_branch fitting y) i) (branch_folds finding (bare_branch fitting y) i)) (branch_good y);
      co_arm = λ y. subst (λ t. t) (λ i. Fits (co_arm_folds (declared facts) (bare_co_arm fitting y) i) (co_arm_folds finding (bare_co_arm fitting y) i)) (co_arm_good y);
    }

    pub statement_fits : (tree : Statement) → Own (declared_in facts tree) → (blocks : Blocks) → Fit blocks → All (statement_found tree place blocks)
    statement_fits = each_statement fitting by_parts

    -- ---- procs, procedures, processes and final code

    proc_item_fits : (item : ProcItem) → Own (inner_declared facts item) → Each Operated (inner_operations item) → (blocks : Blocks) → Fit blocks → StepFits (proc_item_read item place blocks)
    proc_item_fits (inner.Const constant) own operated blocks fit = record {
      found = both (const_found constant place blocks) _ (const_fits constant blocks fit) (twice Constant constant.name blocks.inner);
      inner = exprs.name_table P Constant constant.name (const_may constant own) blocks.inner fit.innermost;
    }
    proc_item_fits (inner.Var variables) own operated blocks fit = record {
      found = both (var_found variables place blocks) _ (var_fits variables blocks fit) (names_twice Variable (var_names variables) blocks.inner);
      inner = exprs.names_table P Variable (var_names variables) (vars_may variables own) blocks.inner fit.innermost;
    }
    proc_item_fits (inner.Op operations) own operated blocks fit = record {
      found = both (op_items_found operations.items place blocks) _ (op_items_fit operations.items blocks fit) (names_twice Operation (map op_name operations.items) blocks.inner);
      inner = exprs.names_table P Operation (map op_name operations.items) (operations_may (map op_name operations.items) operated) blocks.inner fit.innermost;
    }
    proc_item_fits (inner.Sem declared) own operated blocks fit = record {
      found = both (semaphores_found declared.semaphores place blocks) _ (semaphores_fit declared.semaphores blocks fit) (names_twice Operation (semaphore_names declared.semaphores) blocks.inner);
      inner = exprs.names_table P Operation (semaphore_names declared.semaphores) (operations_may (semaphore_names declared.semaphores) operated) blocks.inner fit.innermost;
    }
    proc_item_fits (inner.Statement statement) own operated blocks fit = record { found = statement_fits statement own blocks fit; inner = fit.innermost }

    block_fits : (items : List ProcItem) → Own (flat_map (inner_declared facts) items) → Each Operated (flat_map inner_operations items) → (blocks : Blocks) → Fit blocks → All (proc_items_found items place blocks)
    block_fits [] own operated blocks fit = tt
    block_fits (item ∷ items) own operated blocks fit =
        let step = proc_item_fits item (each-left Owned (inner_declared facts item) _ own) (each-left Operated (inner_operations item) _ operated) blocks fit in
        let after = (proc_item_read item place blocks).inner in
        both (proc_item_read item place blocks).found _ step.found
        (block_fits items (each-right Owned (inner_declared facts item) _ own) (each-right Operated (inner_operations item) _ operated) (with_inner blocks after) (exprs.blocks_with P blocks after fit step.inner))

    pub proc_fits : (proc : Proc) → Own (map spot_named proc.formals) → Own (returned_names proc.returned) → Own (flat_map (inner_declared facts) proc.block)
        → Each Operated (flat_map inner_operations proc.block) → (blocks : Blocks) → Fit blocks → All (proc_found proc place blocks)
    proc_fits proc formals returned own operated blocks fit =
        both (name_found place blocks proc.name) _ (name blocks fit proc.name)
        (both (arm_twice proc.formals proc.returned) _ (arm_twice_fits proc.formals proc.returned)
        (block_fits proc.block own operated (arm_scope proc.formals proc.returned blocks) (arm_scope_fits proc.formals proc.returned formals returned blocks fit)))

    pub procedure_fits : (procedure : Procedure) → Own (formal_names (out-Signature procedure.signature).formals) → Own (signature_returned procedure.signature)
        → Own (flat_map (inner_declared facts) procedure.block) → Each Operated (flat_map inner_operations procedure.block) → (blocks : Blocks) → Fit blocks → All (procedure_found procedure place blocks)
    procedure_fits procedure formals returned own operated blocks fit =
        let signed = signature_may procedure.signature formals returned in
        both (signed_found (signature_read procedure.signature) place blocks) _ (exprs.signature_fits P place outer procedure.signature blocks fit)
        (both (signed_twice (signature_read procedure.signature) []) _ (exprs.signed_twice_fit P (signature_read procedure.signature) [])
        (block_fits procedure.block own operated (with_inner (opened blocks) (signed_declared (signature_read procedure.signature) []))
        (exprs.blocks_with P (opened blocks) _ (exprs.blocks_opened P blocks fit) (exprs.signed_table P (signature_read procedure.signature) signed.0 signed.1 [] (exprs.none_fit P)))))

    pub process_fits : (process : Process) → Own (quantifier_spots process.quantifiers) → Own (flat_map (inner_declared facts) process.block)
        → Each Operated (flat_map inner_operations process.block) → (blocks : Blocks) → Fit blocks → All (process_found process place blocks)
    process_fits process quantified own operated blocks fit =
        both (quantifiers_found process.quantifiers place (opened blocks)) _ (quantifiers_fit process.quantifiers quantified (opened blocks) (exprs.blocks_opened P blocks fit))
        (both (declares.names_twice Variable (quantifier_names process.quantifiers) []) _ (names_twice Variable (quantifier_names process.quantifiers) [])
        (block_fits process.block own operated (with_inner (opened blocks) (names_declared Variable (quantifier_names process.quantifiers) []))
        (exprs.blocks_with P (opened blocks) _ (exprs.blocks_opened P blocks fit)
        (exprs.names_table P Variable (quantifier_names process.quantifiers) (quantifiers_may Variable refl process.quantifiers quantified) [] (exprs.none_fit P)))))

    pub final_fits : (final : FinalCode) → Own (flat_map (inner_declared facts) final.block) → Each Operated (flat_map inner_operations final.block) → (blocks : Blocks) → Fit blocks → All (final_found final place blocks)
    final_fits final own operated blocks fit = block_fits final.block own operated (opened blocks) (exprs.blocks_opened P blocks fit)
