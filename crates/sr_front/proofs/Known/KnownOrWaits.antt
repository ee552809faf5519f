-- What a component declares outside of code is known after the declarations of a program, or waits for its type.
use Rattle.std.proofs.Common.{◌≡◌, ◌⊎◌, inl, inr, ℕ, ◌+◌, Bool, true, false, ◌||◌, List, [], ◌∷◌, ◌++◌, flat_map, map, Option, Some, None, is_some, refl, sym, ap, subst, ◌∙◌}
use Rattle.sr_check_decl.specs.declared.kind.NamedParam.{NamedParam}
use Rattle.sr_check_decl.specs.declared.tally.Tally.{Tally}
use Rattle.sr_check_decl.specs.Constants.{const_of, is_static}
use Rattle.sr_check_decl.specs.Declaring.{at_facts, component_declared, component_formals, component_typed, components_declared, const_declared, declare_name, declared_if, enumeration_declared, files_declared, files_named, head_declared, item_declared, items_declared, layer_declared, literal_info, literals_declared, making, no_facts, op_item_name, ops_declared, params_declared, process_signature, program_declared, semaphore_signature, sems_declared, spec_item_declared, spec_items_declared, standing, type_declared, types_declared, untyped_vars_declared, var_declared, var_declared_by}
use Rattle.sr_check_decl.specs.Entering.{entered, formals_entered, ops_entered, signature_entered, signed_entered, type_entered, written_entered}
use Rattle.sr_check_decl.specs.Parts.{component_decl}
use Rattle.sr_check_decl.specs.TypeTrees.{Kinds, ReadsFormals, ReadsReturned, ReadsSignature, formal_read as formal_kinds, formal_step as kinds_of_formal, formals_of as decl_params, param_of, returned_step as kinds_of_returned, signature_step as kinds_of_signature, type_step as kinds_of_type}
use Rattle.sr_check_decl.specs.Variables.{declare, has_no_dims, untyped_var_rule, variable, vars_declared}
use Rattle.sr_check_decl.specs.Waiting.{Waiting, component_waiting, components_waiting, const_waiting, files_waiting, item_waiting, items_waiting, spec_item_waiting, spec_items_waiting, unless_typed, var_waiting, vars_waiting, waits_if}
use Rattle.sr_check_expr.specs.declared.facts.Facts.{Facts}
use Rattle.sr_check_expr.specs.declared.info.Info.{Info}
use Rattle.sr_names.proofs.Marking.{entry-same}
use Rattle.sr_names.specs.declared.meaning.Decl.{Decl}
use Rattle.sr_names.specs.declared.meaning.Sort.{Sort}
use Rattle.sr_names.specs.declared.meaning.Sort.TheVariants.{Variable}
use Rattle.sr_names.specs.declared.spot.Spot.{Spot}
use Rattle.sr_names.specs.Noted.{Meanings}
use Rattle.sr_names.specs.Specs.{Specs}
use Rattle.sr_names.specs.Spots.{spot_of}
use Rattle.sr_order.specs.Names.{names_spans}
use Rattle.sr_scope.proofs.Findings.{in_either, in_left, in_right}
use Rattle.sr_scope.proofs.OwnNames.{formal_own, item_own, own_names, spec_own}
use Rattle.sr_scope.proofs.Tables.{sorted}
use Rattle.sr_scope.specs.Declarations.{var_names}
use Rattle.sr_scope.specs.Declares.{op_name}
use Rattle.sr_scope.specs.Exprs.{Finds}
use Rattle.sr_scope.specs.Literals.{literals_of}
use Rattle.sr_scope.specs.Procs.{semaphore_names}
use Rattle.sr_scope.specs.Types.{Formals, Signed, formal_step, returned_step, signature_step, type_step}
use Rattle.sr_scope.specs.Uses.{IsIn}
use Rattle.sr_tables.specs.Parts.{components_in, spot_named}
use Rattle.sr_tree.specs.declared.component.Component.{Component}
use Rattle.sr_tree.specs.declared.component.File.{File}
use Rattle.sr_tree.specs.declared.component.Item.{Item}
use Rattle.sr_tree.specs.declared.component.Item.TheVariants as item
use Rattle.sr_tree.specs.declared.component.SpecItem.{SpecItem}
use Rattle.sr_tree.specs.declared.component.SpecItem.TheVariants as spec
use Rattle.sr_tree.specs.declared.declaration.ConstDecl.{ConstDecl}
use Rattle.sr_tree.specs.declared.declaration.OpItem.{OpItem}
use Rattle.sr_tree.specs.declared.declaration.OpItem.TheVariants.{Signed as OfSignature, Typed as OfType}
use Rattle.sr_tree.specs.declared.declaration.Semaphore.{Semaphore}
use Rattle.sr_tree.specs.declared.declaration.TypeDecl.{TypeDecl}
use Rattle.sr_tree.specs.declared.declaration.VarDecl.{VarDecl}
use Rattle.sr_tree.specs.declared.expr.Expr.{Expr}
use Rattle.sr_tree.specs.declared.name.Name.{Name}
use Rattle.sr_tree.specs.declared.types.Decl.{Decl as DeclTree}
use Rattle.sr_tree.specs.declared.types.Formal.{Formal, out-Formal}
use Rattle.sr_tree.specs.declared.types.Returned.{Returned}
use Rattle.sr_tree.specs.declared.types.Signature.{Signature as SignatureTree}
use Rattle.sr_tree.specs.declared.types.TypeTree.{TypeTree, out-TypeTree}
use Rattle.sr_tree.specs.declared.types.TypeTree.TheFolds.{fold_out-Formal}
use Rattle.sr_tree.specs.declared.types.TypeTree.TheOpen.{TypeTree-F}
use Rattle.sr_tree.specs.Nested.{types_within}
use Rattle.sr_tree.specs.Parts.{body_of, formals_of, name_of, spec_of}
use Rattle.sr_types.specs.declared.signature.Mode.{Mode}
use Rattle.sr_types.specs.declared.ty.Ty.{Ty}
use Rattle.sr_types.specs.declared.ty.Ty.TheVariants as ty
use Rattle.sr_value.specs.declared.place.Span.{Span}
use Rattle.sr_front.proofs.Known.ComponentsKnown.{IsKnown, all_free, files_free, known_declares, known_with}
use Rattle.sr_front.proofs.Known.KeptDeclared.{keeps_components, keeps_declared_ops, keeps_files, keeps_head, keeps_items, keeps_literals, keeps_sems, keeps_spec, keeps_types}
use Rattle.sr_front.proofs.Known.KeptNames.{Anywhere, anywhere}
use Rattle.sr_front.proofs.Names.LiteralsWithin.{literals_within}
use Rattle.sr_front.proofs.Names.WordShares.{layer_words, words_of}

-- one of these waits, and its name stands there
pub record Waits (spot : Spot) (all : List Waiting) : Type 0 where
  pub waiting : Waiting
  pub among : IsIn waiting all
  pub is : waiting.spot ≡ spot

abbrev pub KnownOrWaits : Facts → List Waiting → Spot → Type 0
KnownOrWaits facts all spot = IsKnown spot facts ⊎ Waits spot all

waits_left : (spot : Spot) (xs ys : List Waiting) → Waits spot xs → Waits spot (xs ++ ys)
waits_left spot xs ys one = record { waiting = one.waiting; among = in_left one.waiting xs ys one.among; is = one.is }

waits_right : (spot : Spot) (xs ys : List Waiting) → Waits spot ys → Waits spot (xs ++ ys)
waits_right spot xs ys one = record { waiting = one.waiting; among = in_right one.waiting xs ys one.among; is = one.is }

here_known : (facts : Facts) (spot : Spot) (one : Info) → IsKnown spot (declare facts spot one)
here_known facts spot one = ap is_some (entry-same facts.infos spot one)

at_name : (facts : Facts) (declared name : Name) (one : Info) → declared ≡ name → IsKnown (spot_of name.span) (declare_name facts declared one)
at_name facts declared name one is = subst (λ (it : Name). IsKnown (spot_of it.span) (declare_name facts declared one)) is (here_known facts (spot_of declared.span) one)

in_sorted : (sort : Sort) (names : List Name) (one : Sort × Name) → IsIn one (sorted sort names) → IsIn one.1 names
in_sorted sort [] one k = absurd k
in_sorted sort (name ∷ names) one (inl e) = inl (ap (λ (it : Sort × Name). it.1) e)
in_sorted sort (name ∷ names) one (inr k) = inr (in_sorted sort names one k)

-- ---- what declarations make known

vars_known : (type : Ty) (decls : List DeclTree) (facts : Facts) (name : Name) → IsIn name (map (λ (decl : DeclTree). decl.name) decls) → IsKnown (spot_of name.span) (vars_declared type decls facts)
vars_known type [] facts name k = absurd k
vars_known type (decl ∷ decls) facts name (inl e) =
    keep decls (declare facts (spot_of decl.name.span) _) (at_name facts decl.name name _ e)
  where
    keep : (decls : List DeclTree) (facts : Facts) → IsKnown (spot_of name.span) facts → IsKnown (spot_of name.span) (vars_declared type decls facts)
    keep [] facts h = h
    keep (decl ∷ decls) facts h = keep decls (declare facts (spot_of decl.name.span) _) (known_with (spot_of name.span) facts (spot_of decl.name.span) _ h)
vars_known type (decl ∷ decls) facts name (inr k) = vars_known type decls _ name k

literals_known : (at : Spot) (number index : ℕ) (names : List Name) (facts : Facts) (span : Span) → IsIn span (names_spans names) → IsKnown (spot_of span) (literals_declared at number index names facts)
literals_known at number index [] facts span k = absurd k
literals_known at number index (name ∷ names) facts span (inl e) =
    keeps_literals (IsKnown (spot_of span)) Anywhere (known_declares (spot_of span)) at number (index + 1) names _ (anywhere (names_spans names))
    (subst (λ (it : Span). IsKnown (spot_of it) (declare_name facts name (literal_info at number index))) e (here_known facts (spot_of name.span) (literal_info at number index)))
literals_known at number index (name ∷ names) facts span (inr k) = literals_known at number (index + 1) names _ span k

layer_known : (layer : TypeTree-F TypeTree Formal Returned SignatureTree) (tally : Tally) (span : Span) → IsIn span (layer_words layer) → IsKnown (spot_of span) (layer_declared layer tally).facts
layer_known (TypeTree-F.Enum word literals) tally span (inl e) =
    subst (λ (it : Span). IsKnown (spot_of it) (enumeration_declared word literals tally).facts) e
    (keeps_literals (IsKnown (spot_of word)) Anywhere (known_declares (spot_of word)) _ _ _ literals _ (anywhere (names_spans literals)) (here_known tally.facts (spot_of word) _))
layer_known (TypeTree-F.Enum word literals) tally span (inr k) = literals_known _ _ _ literals _ span k
layer_known (TypeTree-F.Rec word fields) tally span (inl e) = subst (λ (it : Span). IsKnown (spot_of it) (layer_declared {C = Returned} {D = SignatureTree} (TypeTree-F.Rec word fields) tally).facts) e (here_known tally.facts (spot_of word) _)
layer_known (TypeTree-F.Rec word fields) tally span (inr k) = absurd k
layer_known _ tally span k = absurd k

types_known : (trees : List TypeTree) (tally : Tally) (span : Span) → IsIn span (flat_map words_of trees) → IsKnown (spot_of span) (types_declared trees tally).facts
types_known [] tally span k = absurd k
types_known (tree ∷ trees) tally span k = by (in_either span (words_of tree) (flat_map words_of trees) k) (types_known trees (layer_declared (out-TypeTree tree) tally) span)
  where
    by : IsIn span (words_of tree) ⊎ IsIn span (flat_map words_of trees) → (IsIn span (flat_map words_of trees) → IsKnown (spot_of span) (types_declared trees (layer_declared (out-TypeTree tree) tally)).facts)
        → IsKnown (spot_of span) (types_declared trees (layer_declared (out-TypeTree tree) tally)).facts
    by (inl h) more =
        keeps_types (IsKnown (spot_of span)) Anywhere (known_declares (spot_of span)) trees (layer_declared (out-TypeTree tree) tally) (anywhere (flat_map words_of trees)) (layer_known (out-TypeTree tree) tally span h)
    by (inr h) more = more h

type_known : (named : TypeDecl) (tally : Tally) (name : Name) → (named.name ≡ name) ⊎ IsIn name (literals_of named.ty) → IsKnown (spot_of name.span) (type_declared named tally).facts
type_known named tally name (inl e) = at_name (types_declared (types_within named.ty) (at_facts tally (type_entered named.ty tally.facts))).facts named.name name _ e
type_known named tally name (inr k) =
    let written = types_declared (types_within named.ty) (at_facts tally (type_entered named.ty tally.facts)) in
    known_with (spot_of name.span) written.facts (spot_of named.name.span) _
    (types_known (types_within named.ty) (at_facts tally (type_entered named.ty tally.facts)) name.span (literals_within named.ty name k))

same_op_name : (op : OpItem) → op_item_name op ≡ op_name op
same_op_name (OfSignature span name signature) = refl
same_op_name (OfType span name optype) = refl

ops_known : (ops : List OpItem) (facts : Facts) (name : Name) → IsIn name (map op_name ops) → IsKnown (spot_of name.span) (ops_declared false ops facts)
ops_known [] facts name k = absurd k
ops_known (op ∷ ops) facts name (inl e) =
    keeps_declared_ops (IsKnown (spot_of name.span)) Anywhere (known_declares (spot_of name.span)) ops _ (at_name facts (op_item_name op) name _ (same_op_name op ∙ e))
ops_known (op ∷ ops) facts name (inr k) = ops_known ops _ name k

sems_known : (semaphores : List Semaphore) (facts : Facts) (name : Name) → IsIn name (semaphore_names semaphores) → IsKnown (spot_of name.span) (sems_declared false semaphores facts)
sems_known [] facts name k = absurd k
sems_known (semaphore ∷ more) facts name (inl e) =
    keeps_sems (IsKnown (spot_of name.span)) Anywhere (known_declares (spot_of name.span)) more _ (at_name (entered semaphore_signature facts) semaphore.name name _ e)
sems_known (semaphore ∷ more) facts name (inr k) = sems_known more _ name k

-- ---- constants and variables

const_known : (in_spec : Bool) (component : Decl) (constant : ConstDecl) (facts : Facts) → KnownOrWaits (const_declared in_spec constant facts) (unless_typed constant.ty (const_waiting in_spec component constant ∷ [])) (spot_of constant.name.span)
const_known in_spec component constant facts = by_type constant.ty refl
  where
    now : Facts
    now = written_entered constant.ty facts

    by_static : (b : Bool) → constant.ty ≡ None → KnownOrWaits (declared_if b constant.name (const_of in_spec now constant) now) (unless_typed constant.ty (const_waiting in_spec component constant ∷ [])) (spot_of constant.name.span)
    by_static true is = inl (here_known now (spot_of constant.name.span) _)
    by_static false is =
        inr (record { waiting = const_waiting in_spec component constant; among = subst (λ (found : Option TypeTree). IsIn (const_waiting in_spec component constant) (unless_typed found (const_waiting in_spec component constant ∷ []))) (sym is) (inl refl); is = refl })

    by_type : (found : Option TypeTree) → constant.ty ≡ found
        → KnownOrWaits (declared_if (is_some constant.ty || is_static (const_of in_spec now constant).value) constant.name (const_of in_spec now constant) now) (unless_typed constant.ty (const_waiting in_spec component constant ∷ [])) (spot_of constant.name.span)
    by_type None is = by_static (is_some constant.ty || is_static (const_of in_spec now constant).value) is
    by_type (Some tree) is =
        inl (subst (λ (found : Option TypeTree). IsKnown (spot_of constant.name.span) (declared_if (is_some found || is_static (const_of in_spec now constant).value) constant.name (const_of in_spec now constant) now)) (sym is)
        (here_known now (spot_of constant.name.span) _))

untyped_known : (component : Decl) (span : Span) (decls : List DeclTree) (values : List Expr) (facts : Facts) (name : Name) → IsIn name (map (λ (decl : DeclTree). decl.name) decls)
    → KnownOrWaits (untyped_vars_declared (untyped_var_rule decls values) decls facts) (vars_waiting component span decls values) (spot_of name.span)
untyped_known component span [] values facts name k = absurd k
untyped_known component span (decl ∷ []) [] facts name k = inl (vars_known ty.Untyped (decl ∷ []) facts name k)
untyped_known component span (decl ∷ []) (value ∷ []) facts name k = by (has_no_dims decl.dims) k
  where
    by : (b : Bool) → IsIn name (decl.name ∷ []) → KnownOrWaits (untyped_vars_declared b (decl ∷ []) facts) (waits_if b (var_waiting component span decl value)) (spot_of name.span)
    by true (inl e) = inr (record { waiting = var_waiting component span decl value; among = inl refl; is = ap (λ (it : Name). spot_of it.span) e })
    by true (inr h) = absurd h
    by false h = inl (vars_known ty.Untyped (decl ∷ []) facts name h)
untyped_known component span (decl ∷ []) (value ∷ other ∷ values) facts name k = inl (vars_known ty.Untyped (decl ∷ []) facts name k)
untyped_known component span (decl ∷ other ∷ decls) values facts name k = inl (vars_known ty.Untyped (decl ∷ other ∷ decls) facts name k)

var_known : (component : Decl) (variables : VarDecl) (facts : Facts) (name : Name) → IsIn name (var_names variables)
    → KnownOrWaits (var_declared variables facts) (unless_typed variables.ty (vars_waiting component variables.span variables.decls variables.values)) (spot_of name.span)
var_known component variables facts name k = by variables.ty (written_entered variables.ty facts)
  where
    by : (found : Option TypeTree) (now : Facts) → KnownOrWaits (var_declared_by found variables now) (unless_typed found (vars_waiting component variables.span variables.decls variables.values)) (spot_of name.span)
    by None now = untyped_known component variables.span variables.decls variables.values now name k
    by (Some tree) now = inl (vars_known _ variables.decls now name k)

-- ---- items

spec_item_known : (in_spec : Bool) (component : Decl) (one : SpecItem) (tally : Tally) (own : Sort × Name) → IsIn own (spec_own one)
    → KnownOrWaits (spec_item_declared in_spec one tally).facts (spec_item_waiting in_spec component one) (spot_named own.1)
spec_item_known in_spec component (spec.Import imports) tally own k = absurd k
spec_item_known in_spec component (spec.Const constant) tally own (inl e) =
    subst (λ (it : Sort × Name). KnownOrWaits (const_declared in_spec constant tally.facts) (unless_typed constant.ty (const_waiting in_spec component constant ∷ [])) (spot_named it.1)) e (const_known in_spec component constant tally.facts)
spec_item_known in_spec component (spec.Const constant) tally own (inr k) = absurd k
spec_item_known in_spec component (spec.«Type» named) tally own (inl e) = inl (type_known named tally own.1 (inl (ap (λ (it : Sort × Name). it.1) e)))
spec_item_known in_spec component (spec.«Type» named) tally own (inr k) = inl (type_known named tally own.1 (inr (in_sorted _ (literals_of named.ty) own k)))
spec_item_known in_spec component (spec.OpType named) tally own (inl e) = inl (at_name (signature_entered named.signature tally.facts) named.name own.1 _ (ap (λ (it : Sort × Name). it.1) e))
spec_item_known in_spec component (spec.OpType named) tally own (inr k) = absurd k
spec_item_known in_spec component (spec.Op operations) tally own k = inl (ops_known operations.items (ops_entered operations.items tally.facts) own.1 (in_sorted _ (map op_name operations.items) own k))
spec_item_known in_spec component (spec.Var variables) tally own k = var_known component variables tally.facts own.1 (in_sorted _ (var_names variables) own k)
spec_item_known in_spec component (spec.Sem declared) tally own k = inl (sems_known declared.semaphores tally.facts own.1 (in_sorted _ (semaphore_names declared.semaphores) own k))

item_known : (component : Decl) (one : Item) (tally : Tally) (own : Sort × Name) → IsIn own (item_own one) → KnownOrWaits (item_declared one tally).facts (item_waiting component one) (spot_named own.1)
item_known component (item.Spec inner) tally own k = spec_item_known false component inner tally own k
item_known component (item.Procedure procedure) tally own (inl e) = inl (at_name (signature_entered procedure.signature tally.facts) procedure.name own.1 _ (ap (λ (it : Sort × Name). it.1) e))
item_known component (item.Procedure procedure) tally own (inr k) = absurd k
item_known component (item.Process process) tally own (inl e) = inl (at_name (entered (process_signature process.quantifiers) tally.facts) process.name own.1 _ (ap (λ (it : Sort × Name). it.1) e))
item_known component (item.Process process) tally own (inr k) = absurd k
item_known component _ tally own k = absurd k

-- what is known is kept, and what waits is one of more
either_left : (spot : Spot) (facts later : Facts) (xs ys : List Waiting) → (IsKnown spot facts → IsKnown spot later) → KnownOrWaits facts xs spot → KnownOrWaits later (xs ++ ys) spot
either_left spot facts later xs ys keep (inl h) = inl (keep h)
either_left spot facts later xs ys keep (inr h) = inr (waits_left spot xs ys h)

either_right : (spot : Spot) (later : Facts) (xs ys : List Waiting) → KnownOrWaits later ys spot → KnownOrWaits later (xs ++ ys) spot
either_right spot later xs ys (inl h) = inl h
either_right spot later xs ys (inr h) = inr (waits_right spot xs ys h)

specs_known : (component : Decl) (items : List SpecItem) (tally : Tally) (own : Sort × Name) → IsIn own (flat_map spec_own items)
    → KnownOrWaits (spec_items_declared items tally).facts (spec_items_waiting component items) (spot_named own.1)
specs_known component [] tally own k = absurd k
specs_known component (one ∷ items) tally own k = by (in_either own (spec_own one) (flat_map spec_own items) k) (specs_known component items (spec_item_declared true one tally) own)
  where
    spot : Spot
    spot = spot_named own.1

    next : Tally
    next = spec_item_declared true one tally

    by : IsIn own (spec_own one) ⊎ IsIn own (flat_map spec_own items) → (IsIn own (flat_map spec_own items) → KnownOrWaits (spec_items_declared items next).facts (spec_items_waiting component items) spot)
        → KnownOrWaits (spec_items_declared items next).facts (spec_item_waiting true component one ++ spec_items_waiting component items) spot
    by (inl h) more =
        either_left spot next.facts (spec_items_declared items next).facts (spec_item_waiting true component one) (spec_items_waiting component items)
        (keeps_spec (IsKnown spot) Anywhere (known_declares spot) items next (anywhere _)) (spec_item_known true component one tally own h)
    by (inr h) more = either_right spot (spec_items_declared items next).facts (spec_item_waiting true component one) (spec_items_waiting component items) (more h)

items_known : (component : Decl) (items : List Item) (tally : Tally) (own : Sort × Name) → IsIn own (flat_map item_own items)
    → KnownOrWaits (items_declared items tally).facts (items_waiting component items) (spot_named own.1)
items_known component [] tally own k = absurd k
items_known component (one ∷ items) tally own k = by (in_either own (item_own one) (flat_map item_own items) k) (items_known component items (item_declared one tally) own)
  where
    spot : Spot
    spot = spot_named own.1

    next : Tally
    next = item_declared one tally

    by : IsIn own (item_own one) ⊎ IsIn own (flat_map item_own items) → (IsIn own (flat_map item_own items) → KnownOrWaits (items_declared items next).facts (items_waiting component items) spot)
        → KnownOrWaits (items_declared items next).facts (item_waiting component one ++ items_waiting component items) spot
    by (inl h) more =
        either_left spot next.facts (items_declared items next).facts (item_waiting component one) (items_waiting component items)
        (keeps_items (IsKnown spot) Anywhere (known_declares spot) items next (anywhere _)) (item_known component one tally own h)
    by (inr h) more = either_right spot (items_declared items next).facts (item_waiting component one) (items_waiting component items) (more h)

-- ---- formals

params_known : (params : List NamedParam) (facts : Facts) (param : NamedParam) → IsIn param params → IsKnown param.spot (params_declared params facts)
params_known [] facts param k = absurd k
params_known (first ∷ params) facts param (inl e) =
    subst (λ (it : NamedParam). IsKnown it.spot (params_declared params (declare facts first.spot (variable first.ty)))) e (keep params (declare facts first.spot _) (here_known facts first.spot _))
  where
    keep : (params : List NamedParam) (facts : Facts) → IsKnown first.spot facts → IsKnown first.spot (params_declared params facts)
    keep [] facts h = h
    keep (param ∷ params) facts h = keep params (declare facts param.spot _) (known_with first.spot facts param.spot _ h)
params_known (first ∷ params) facts param (inr k) = params_known params _ param k

-- a param stands at the name
abbrev HasParam : List NamedParam → Sort × Name → Type 0
HasParam params own = (param : NamedParam) × IsIn param params × (param.spot ≡ spot_named own.1)

decls_params : (mode : Mode) (type : Ty) (decls : List DeclTree) (own : Sort × Name) → IsIn own (sorted Variable (map (λ (decl : DeclTree). decl.name) decls)) → HasParam (decl_params mode type decls) own
decls_params mode type [] own k = absurd k
decls_params mode type (decl ∷ decls) own (inl e) = (param_of mode type decl, inl refl, ap (λ (it : Sort × Name). spot_named it.1) e)
decls_params mode type (decl ∷ decls) own (inr k) = let rest = decls_params mode type decls own k in (rest.0, inr rest.1, rest.2)

formal_params : (formal : Formal) (facts : Facts) (own : Sort × Name) → IsIn own (formal_own formal) → HasParam (formal_kinds formal facts false).params own
formal_params formal facts own k =
    subst (λ (reads : ReadsFormals). HasParam (reads facts false).params own) (sym (fold_out-Formal Kinds ReadsFormals ReadsReturned ReadsSignature kinds_of_type kinds_of_formal kinds_of_returned kinds_of_signature formal))
    (decls_params _ _ (out-Formal formal).decls own
    (subst (λ (read : Formals). IsIn own (sorted Variable read.names)) (fold_out-Formal Finds Formals Formals Signed type_step formal_step returned_step signature_step formal) k))

formals_params : (formals : List Formal) (facts : Facts) (own : Sort × Name) → IsIn own (flat_map formal_own formals) → HasParam (component_formals facts formals) own
formals_params [] facts own k = absurd k
formals_params (formal ∷ formals) facts own k = by (in_either own (formal_own formal) (flat_map formal_own formals) k) (formals_params formals facts own)
  where
    by : IsIn own (formal_own formal) ⊎ IsIn own (flat_map formal_own formals) → (IsIn own (flat_map formal_own formals) → HasParam (component_formals facts formals) own) → HasParam ((formal_kinds formal facts false).params ++ component_formals facts formals) own
    by (inl h) more = let found = formal_params formal facts own h in (found.0, in_left found.0 (formal_kinds formal facts false).params (component_formals facts formals) found.1, found.2)
    by (inr h) more = let found = more h in (found.0, in_right found.0 (formal_kinds formal facts false).params (component_formals facts formals) found.1, found.2)

head_known : (component : Component) (facts : Facts) (own : Sort × Name) → IsIn own (flat_map formal_own (formals_of component)) → IsKnown (spot_named own.1) (head_declared component facts)
head_known component facts own k =
    let entering = formals_entered (formals_of component) facts in
    let params = component_formals entering (formals_of component) in
    let found = formals_params (formals_of component) entering own k in
    subst (λ spot. IsKnown spot (head_declared component facts)) found.2
    (params_known params (component_typed (name_of component) (making params) (signed_entered (making params) entering)) found.0 found.1)

-- ---- components

component_known : (component : Component) (tally : Tally) (own : Sort × Name) → IsIn own (own_names component) → KnownOrWaits (component_declared component tally).facts (component_waiting component) (spot_named own.1)
component_known component tally own k = by (in_either own (flat_map spec_own (spec_of component)) _ k)
  where
    decl : Decl
    decl = component_decl component

    spot : Spot
    spot = spot_named own.1

    at_specs : Tally
    at_specs = spec_items_declared (spec_of component) (at_facts tally (standing tally.facts decl))

    at_head : Tally
    at_head = at_facts at_specs (head_declared component at_specs.facts)

    in_body : IsKnown spot at_head.facts → IsKnown spot (items_declared (body_of component) at_head).facts
    in_body = keeps_items (IsKnown spot) Anywhere (known_declares spot) (body_of component) at_head (anywhere _)

    in_head : IsKnown spot at_specs.facts → IsKnown spot at_head.facts
    in_head = keeps_head (IsKnown spot) Anywhere (known_declares spot) component at_specs.facts tt (anywhere _)

    after : IsIn own (flat_map formal_own (formals_of component)) ⊎ IsIn own (flat_map item_own (body_of component)) → KnownOrWaits (component_declared component tally).facts (component_waiting component) spot
    after (inl h) = inl (in_body (head_known component at_specs.facts own h))
    after (inr h) =
        either_right spot (items_declared (body_of component) at_head).facts (spec_items_waiting decl (spec_of component)) (items_waiting decl (body_of component)) (items_known decl (body_of component) at_head own h)

    by : IsIn own (flat_map spec_own (spec_of component)) ⊎ IsIn own (flat_map formal_own (formals_of component) ++ flat_map item_own (body_of component)) → KnownOrWaits (component_declared component tally).facts (component_waiting component) spot
    by (inl h) =
        either_left spot at_specs.facts (items_declared (body_of component) at_head).facts (spec_items_waiting decl (spec_of component)) (items_waiting decl (body_of component))
        (λ known. in_body (in_head known)) (specs_known decl (spec_of component) (at_facts tally (standing tally.facts decl)) own h)
    by (inr h) = after (in_either own (flat_map formal_own (formals_of component)) (flat_map item_own (body_of component)) h)

components_known : (all : List Component) (tally : Tally) (component : Component) → IsIn component all → (own : Sort × Name) → IsIn own (own_names component)
    → KnownOrWaits (components_declared all tally).facts (components_waiting all) (spot_named own.1)
components_known [] tally component k own h = absurd k
components_known (one ∷ all) tally component (inl e) own h =
    let next = component_declared one tally in
    let spot = spot_named own.1 in
    either_left spot next.facts (components_declared all next).facts (component_waiting one) (components_waiting all)
    (keeps_components (IsKnown spot) Anywhere (known_declares spot) all next (all_free spot all))
    (component_known one tally own (subst (λ (it : Component). IsIn own (own_names it)) (sym e) h))
components_known (one ∷ all) tally component (inr k) own h =
    let next = component_declared one tally in
    either_right (spot_named own.1) (components_declared all next).facts (component_waiting one) (components_waiting all) (components_known all next component k own h)

files_known : (files : List File) (tally : Tally) (component : Component) → IsIn component (components_in files) → (own : Sort × Name) → IsIn own (own_names component)
    → KnownOrWaits (files_declared files tally).facts (files_waiting files) (spot_named own.1)
files_known [] tally component k own h = absurd k
files_known (file ∷ files) tally component k own h = by (in_either component file.components (components_in files) k) (λ j. files_known files (components_declared file.components tally) component j own h)
  where
    spot : Spot
    spot = spot_named own.1

    next : Tally
    next = components_declared file.components tally

    by : IsIn component file.components ⊎ IsIn component (components_in files) → (IsIn component (components_in files) → KnownOrWaits (files_declared files next).facts (files_waiting files) spot)
        → KnownOrWaits (files_declared files next).facts (components_waiting file.components ++ files_waiting files) spot
    by (inl j) more =
        either_left spot next.facts (files_declared files next).facts (components_waiting file.components) (files_waiting files)
        (keeps_files (IsKnown spot) Anywhere (known_declares spot) files next (files_free spot files)) (components_known file.components tally component j own h)
    by (inr j) more = either_right spot (files_declared files next).facts (components_waiting file.components) (files_waiting files) (more j)

-- each name that a component of a program declares outside of code
pub known_or_waits : (uses : Meanings) (specs : Specs) (files : List File) (component : Component) → IsIn component (components_in files) → (own : Sort × Name) → IsIn own (own_names component)
    → KnownOrWaits (program_declared uses specs files) (files_waiting files) (spot_named own.1)
known_or_waits uses specs files component there own k = files_known files (record { facts = files_named files (no_facts uses specs); enumerations = 0 }) component there own k
