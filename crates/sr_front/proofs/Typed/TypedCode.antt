-- Where statements are read without a broken rule, all that is known has a type if it had before.
use Rattle.std.proofs.Common.{◌≡◌, Bool, List, [], ◌∷◌, Option, Some, None, is_some, map, flat_map, refl, subst}
use Rattle.sr_value.specs.declared.place.Span.{Span}
use Rattle.sr_names.specs.declared.finding.Rule.TheVariants.{BadType}
use Rattle.sr_names.specs.declared.meaning.Decl.{Decl}
use Rattle.sr_names.specs.declared.spot.Spot.{Spot}
use Rattle.sr_names.specs.Spots.{spot_of}
use Rattle.sr_order.specs.Names.{const_names, name_names, names_spans, quantifier_names, var_names, where_some}
use Rattle.sr_tree.specs.declared.name.Name.{Name}
use Rattle.sr_tree.specs.declared.statement.BlockItem.{BlockItem}
use Rattle.sr_tree.specs.declared.statement.BlockItem.TheOpen.{BlockItem-F, Statement-F}
use Rattle.sr_tree.specs.declared.statement.Quantifier.{Quantifier}
use Rattle.sr_tree.specs.declared.statement.Statement.{Statement}
use Rattle.sr_types.specs.declared.signature.Signature.{Signature}
use Rattle.sr_types.specs.declared.ty.Ty.{Ty, out-Ty}
use Rattle.sr_types.specs.declared.typed.Typed.{Typed}
use Rattle.sr_types.specs.Equality.{equal_signatures}
use Rattle.sr_types.specs.Signatures.{signature_of}
use Rattle.sr_types.proofs.Places.{insert_key-keeps}
use Rattle.sr_check_expr.specs.declared.facts.Facts.{Facts}
use Rattle.sr_check_expr.specs.declared.info.Info.{Info}
use Rattle.sr_check_expr.specs.declared.info.Info.TheVariants as info
use Rattle.sr_check_expr.specs.Exprs.{infer_invocation}
use Rattle.sr_check_expr.specs.Infos.{info_at}
use Rattle.sr_check_expr.specs.Typings.{broken_unless}
use Rattle.sr_check_decl.specs.Entering.{entered}
use Rattle.sr_check_decl.specs.Variables.{declare}
use Rattle.sr_check.specs.declared.operation.Operation.{Operation}
use Rattle.sr_check.specs.Procs.{Procs}
use Rattle.sr_check.specs.Contexts.{Context, Steps, in_order, looping, with_facts}
use Rattle.sr_check.specs.ErrorFree.{ErrorFree}
use Rattle.sr_check.specs.Invoking.{started_found}
use Rattle.sr_check.specs.Quantifying.{expr_with, quantifiers_found, quantifiers_known}
use Rattle.sr_check.specs.Services.{decl_named, head_found, head_rule, operation_at, operation_by, operation_named, service_bound, type_of}
use Rattle.sr_check.specs.Statements.{arm_context, arm_read, arms_at, block_item_read, branch_read, co_arm_read, co_arms_at, guards_found, mixture_found, statement_read}
use Rattle.sr_check.specs.Uses.{condition_rule}
use Rattle.sr_check.proofs.ErrorFree.{error_free_first, error_free_second, rule_met}
use Rattle.sr_front.proofs.Known.KeptNames.{Anywhere, Closed, anywhere, keeps_const, keeps_quantifiers, keeps_service, keeps_var}
use Rattle.sr_front.proofs.Headed.Optypes.{layer_stays}
use Rattle.sr_front.proofs.Lists.Put.{put_holds}
use Rattle.sr_front.proofs.Typed.Typed.{AllTyped}
use Rattle.sr_front.proofs.Typed.TypedDecls.{const_typed, quantifiers_typed, service_typed, var_typed}
use Rattle.sr_check.proofs.ReadFolds.{reading}
use Rattle.sr_tree.proofs.StatementFolds.{ArmNode, BranchNode, ByParts, Claim, CoArmNode, ItemNode, Known, StatementNode, arm_folds, bare_arm, bare_branch, bare_co_arm, bare_item, bare_statement, branch_folds, co_arm_folds, each_item, each_statement, from_arm, from_branch, from_co_arm, from_item, from_statement, item_folds, statement_folds}

-- ---- operations have signatures

abbrev pub HasSignature : Facts → Ty → Type 0
HasSignature facts type = (signature : Signature) × (signature_of facts.signatures type ≡ Some signature)

-- the type of each operation that is known has a signature
abbrev pub AllSigned : Facts → Type 0
AllSigned facts = (spot : Spot) (type : Ty) (component : Spot) (is_local : Bool) → info_at facts.infos spot ≡ Some (info.Operation type component is_local) → HasSignature facts type

abbrev pub Never : Spot → Type 0
Never spot = ⊥

pub signed_put : (facts : Facts) (spot : Spot) (one : Info) → ((type : Ty) (component : Spot) (is_local : Bool) → Some one ≡ Some (info.Operation type component is_local) → HasSignature facts type) → AllSigned facts → AllSigned (declare facts spot one)
signed_put facts spot one new signed other type component is_local is =
    put_holds facts spot one (λ at found. found ≡ Some (info.Operation type component is_local) → HasSignature facts type) (new type component is_local) other (λ apart. signed other type component is_local) is

no_value : (typed : Typed) (type : Ty) (component : Spot) (is_local : Bool) → Some (info.Value typed) ≡ Some (info.Operation type component is_local) → ⊥
no_value typed type component is_local e = cc

pub signed_entered : (facts : Facts) (signature : Signature) → AllSigned facts → AllSigned (entered signature facts)
signed_entered facts signature signed spot type component is_local is =
    let here = signed spot type component is_local is in
    (here.0, layer_stays facts.signatures (entered signature facts).signatures (out-Ty type) here.0 (λ number kept at. insert_key-keeps equal_signatures facts.signatures signature number kept at) here.1)

pub signed_closed : Closed AllSigned Anywhere Never
signed_closed = record {
  entered = signed_entered;
  put = λ facts spot typed free signed. signed_put facts spot (info.Value typed) (λ type component is_local e. absurd (no_value typed type component is_local e)) signed;
  operation = λ facts spot type component is_local never signed. absurd never;
}

pub record Good (facts : Facts) : Type 0 where
  pub typed : AllTyped facts
  pub signed : AllSigned facts

-- ---- services

abbrev pub SignedBy : Facts → Option Operation → Type 0
SignedBy facts None = Unit {0}
SignedBy facts (Some operation) = HasSignature facts operation.ty

pub operation_signed : (facts : Facts) → AllSigned facts → (decl : Option Decl) → SignedBy facts (operation_at facts decl)
operation_signed facts signed None = tt
operation_signed facts signed (Some decl) = by (info_at facts.infos decl.spot) refl
  where
    by : (found : Option Info) → info_at facts.infos decl.spot ≡ found → SignedBy facts (operation_by decl.spot found)
    by (Some (info.Operation type component is_local)) is = signed decl.spot type component is_local is
    by _ is = tt

pub service_good : (facts : Facts) (span : Span) (formals : List Name) (returned : Option Name) (operation : Operation) → HasSignature facts operation.ty
    → ErrorFree (broken_unless (head_rule facts.signatures formals (is_some returned) operation.ty) BadType span) → Good facts → Good (service_bound formals returned operation.ty facts)
service_good facts span formals returned operation signature whole good = record {
  typed = service_typed formals returned operation.ty facts signature.0 signature.1 (rule_met (head_rule facts.signatures formals (is_some returned) operation.ty) BadType span whole) good.typed;
  signed = keeps_service AllSigned Anywhere Never signed_closed formals returned operation.ty facts (anywhere (names_spans formals)) (anywhere (where_some name_names returned)) good.signed;
}

pub head_good : (facts : Facts) (procs : Procs) (span : Span) (formals : List Name) (returned : Option Name) (found : Option Operation) → SignedBy facts found
    → ErrorFree (head_found facts procs span formals (is_some returned) found) → Good facts → Good (service_bound formals returned (type_of found) facts)
head_good facts procs span formals returned None signature whole good = absurd whole
head_good facts procs span formals returned (Some operation) signature whole good =
    service_good facts span formals returned operation signature (error_free_first (broken_unless (head_rule facts.signatures formals (is_some returned) operation.ty) BadType span) _ whole) good

-- ---- each construct, when its parts are so

abbrev pub Keeps : Steps → Type 0
Keeps steps = (context : Context) → Good context.facts → ErrorFree (steps context).found → Good (steps context).facts

abbrev pub kept : Claim
kept = record {
  item = λ tree. Keeps (block_item_read tree);
  statement = λ tree. Keeps (statement_read tree);
  arm = λ tree. (span : Span) → Keeps ((arm_read tree).steps span);
  branch = λ tree. Keeps (branch_read tree);
  co_arm = λ tree. (span : Span) → Keeps (co_arm_read tree span);
}

keeps_row : {X : Type 0} (read : X → Steps) (xs : List ((tree : X) × Keeps (read tree))) → Keeps (in_order (map read (map (λ x. x.0) xs)))
keeps_row read [] context good whole = good
keeps_row read (x ∷ xs) context good whole =
    keeps_row read xs (with_facts context (read x.0 context).facts) (x.1 context good (error_free_first (read x.0 context).found _ whole)) (error_free_second (read x.0 context).found _ whole)

keeps_arms : (span : Span) (xs : List (Known kept.arm)) → Keeps (in_order (arms_at span (map arm_read (map (λ x. x.0) xs))))
keeps_arms span [] context good whole = good
keeps_arms span (x ∷ xs) context good whole =
    let step = (arm_read x.0).steps span context in
    keeps_arms span xs (with_facts context step.facts) (x.1 span context good (error_free_first step.found _ whole)) (error_free_second step.found _ whole)

keeps_co_arms : (span : Span) (xs : List (Known kept.co_arm)) → Keeps (in_order (co_arms_at span (map co_arm_read (map (λ x. x.0) xs))))
keeps_co_arms span [] context good whole = good
keeps_co_arms span (x ∷ xs) context good whole =
    let step = co_arm_read x.0 span context in
    keeps_co_arms span xs (with_facts context step.facts) (x.1 span context good (error_free_first step.found _ whole)) (error_free_second step.found _ whole)

pub quantifiers_good : (quantifiers : List Quantifier) (facts : Facts) → Good facts → Good (quantifiers_known facts quantifiers)
quantifiers_good quantifiers facts good = record {
  typed = quantifiers_typed quantifiers facts good.typed;
  signed = keeps_quantifiers AllSigned Anywhere Never signed_closed quantifiers facts (anywhere (flat_map quantifier_names quantifiers)) good.signed;
}

item_node : (y : ItemNode kept) → Keeps (from_item reading (bare_item kept y))
item_node (BlockItem-F.Const constant) context good whole = record {
  typed = const_typed constant context.facts good.typed whole;
  signed = keeps_const AllSigned Anywhere Never signed_closed constant context.facts (anywhere (const_names constant)) good.signed;
}
item_node (BlockItem-F.Var variables) context good whole = record {
  typed = var_typed variables context.facts good.typed whole;
  signed = keeps_var AllSigned Anywhere Never signed_closed variables context.facts (anywhere (var_names variables)) good.signed;
}
item_node (BlockItem-F.Statement statement) context good whole = statement.1 context good whole

abbrev branches_of : List (Known kept.branch) → Steps
branches_of branches = in_order (map branch_read (map (λ (x : Known kept.branch). x.0) branches))

abbrev arms_of : Span → List (Known kept.arm) → Steps
arms_of span arms = in_order (arms_at span (map arm_read (map (λ (x : Known kept.arm). x.0) arms)))

statement_node : (y : StatementNode kept) → Keeps (from_statement reading (bare_statement kept y))
statement_node (Statement-F.If span branches None) context good whole = keeps_row branch_read branches context good (error_free_first (branches_of branches context).found _ whole)
statement_node (Statement-F.If span branches (Some items)) context good whole =
    keeps_row block_item_read items (with_facts context (branches_of branches context).facts)
    (keeps_row branch_read branches context good (error_free_first (branches_of branches context).found _ whole)) (error_free_second (branches_of branches context).found _ whole)
statement_node (Statement-F.Do span branches None) context good whole = keeps_row branch_read branches (looping context) good (error_free_first (branches_of branches (looping context)).found _ whole)
statement_node (Statement-F.Do span branches (Some items)) context good whole =
    keeps_row block_item_read items (with_facts (looping context) (branches_of branches (looping context)).facts)
    (keeps_row branch_read branches (looping context) good (error_free_first (branches_of branches (looping context)).found _ whole)) (error_free_second (branches_of branches (looping context)).found _ whole)
statement_node (Statement-F.ForAll span quantifiers block) context good whole =
    keeps_row block_item_read block (looping (with_facts context (quantifiers_known context.facts quantifiers))) (quantifiers_good quantifiers context.facts good) (error_free_second (quantifiers_found context.facts quantifiers) _ whole)
statement_node (Statement-F.In span arms None) context good whole =
    keeps_arms span arms context good (error_free_first (arms_of span arms context).found _ (error_free_second (mixture_found context.facts span (map arm_read (map (λ (x : Known kept.arm). x.0) arms))) _ whole))
statement_node (Statement-F.In span arms (Some items)) context good whole =
    let after = error_free_second (mixture_found context.facts span (map arm_read (map (λ (x : Known kept.arm). x.0) arms))) _ whole in
    keeps_row block_item_read items (with_facts context (arms_of span arms context).facts)
    (keeps_arms span arms context good (error_free_first (arms_of span arms context).found _ after)) (error_free_second (arms_of span arms context).found _ after)
statement_node (Statement-F.Co span arms) context good whole = keeps_co_arms span arms context good whole
statement_node _ context good whole = good

arm_node : (y : ArmNode kept) (span : Span) → Keeps ((from_arm reading (bare_arm kept y)).steps span)
arm_node y span context good whole =
    let found = operation_named context.facts y.operation in
    let head = head_found context.facts context.procs span y.formals (is_some y.returned) found in
    let inner = arm_context context (spot_of y.operation.span) y.formals y.returned found in
    keeps_row block_item_read y.block inner
    (head_good context.facts context.procs span y.formals y.returned found (operation_signed context.facts good.signed (decl_named context.facts y.operation)) (error_free_first head _ whole) good)
    (error_free_second (guards_found inner.facts y.condition y.order) _ (error_free_second head _ whole))

branch_node : (y : BranchNode kept) → Keeps (from_branch reading (bare_branch kept y))
branch_node y context good whole = keeps_row block_item_read y.block context good (error_free_second (expr_with condition_rule context.facts y.guard) _ whole)

co_arm_by : (y : CoArmNode kept) (block : Option (List (Known kept.item))) (span : Span) → Keeps (from_co_arm reading (bare_co_arm kept (record y { block = block })) span)
co_arm_by y None span context good whole = quantifiers_good y.quantifiers context.facts good
co_arm_by y (Some items) span context good whole =
    let known = quantifiers_known context.facts y.quantifiers in
    let after = error_free_second (quantifiers_found context.facts y.quantifiers) _ whole in
    keeps_row block_item_read items (looping (with_facts context known)) (quantifiers_good y.quantifiers context.facts good)
    (error_free_second (started_found known span y.target (infer_invocation y.invocation known)) _ after)

co_arm_node : (y : CoArmNode kept) (span : Span) → Keeps (from_co_arm reading (bare_co_arm kept y) span)
co_arm_node y = co_arm_by y y.block

-- ---- all trees

pub by_parts : ByParts kept
by_parts = record {
  item = λ y. subst (λ t. t) (λ i. Keeps (item_folds reading (bare_item kept y) i)) (item_node y);
  statement = λ y. subst (λ t. t) (λ i. Keeps (statement_folds reading (bare_statement kept y) i)) (statement_node y);
  arm = λ y. subst (λ t. t) (λ i. (span : Span) → Keeps ((arm_folds reading (bare_arm kept y) i).steps span)) (arm_node y);
  branch = λ y. subst (λ t. t) (λ i. Keeps (branch_folds reading (bare_branch kept y) i)) (branch_node y);
  co_arm = λ y. subst (λ t. t) (λ i. (span : Span) → Keeps (co_arm_folds reading (bare_co_arm kept y) i span)) (co_arm_node y);
}

-- where a statement is read without a broken rule, all that is known after it has a type
pub statement_good : (tree : Statement) → Keeps (statement_read tree)
statement_good = each_statement kept by_parts

pub block_item_good : (tree : BlockItem) → Keeps (block_item_read tree)
block_item_good = each_item kept by_parts
