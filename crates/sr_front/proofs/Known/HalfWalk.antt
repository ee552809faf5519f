-- All that is declared outside of code has a type where it is declared: each declaration in turn, where no rule is broken
-- in it at its check, and the names in its types mean the same there.
use Rattle.std.proofs.Common.{◌≡◌, inl, inr, Bool, true, false, not, ◌&&◌, ◌||◌, List, [], ◌∷◌, map, Option, Some, None, refl, sym, ap, subst, ◌∙◌, if◌then◌else◌}
use Rattle.std.proofs.lemmas.Bool.{and_parts, false≢true}
use Rattle.sr_names.specs.declared.finding.Finding.{Finding}
use Rattle.sr_names.specs.declared.finding.Rule.TheVariants.{BadType}
use Rattle.sr_names.specs.declared.meaning.Decl.{Decl}
use Rattle.sr_names.specs.Noted.{Meanings}
use Rattle.sr_names.specs.Specs.{Specs}
use Rattle.sr_names.specs.Spots.{spot_of}
use Rattle.sr_scope.specs.Uses.{IsIn}
use Rattle.sr_scope.proofs.Findings.{in_left, in_right}
use Rattle.sr_tables.specs.Parts.{components_in}
use Rattle.sr_tree.specs.declared.component.Component.{Component}
use Rattle.sr_tree.specs.declared.component.File.{File}
use Rattle.sr_tree.specs.declared.component.Item.{Item}
use Rattle.sr_tree.specs.declared.component.Item.TheVariants as item
use Rattle.sr_tree.specs.declared.component.SpecItem.{SpecItem}
use Rattle.sr_tree.specs.declared.component.SpecItem.TheVariants as spec
use Rattle.sr_tree.specs.declared.declaration.ConstDecl.{ConstDecl}
use Rattle.sr_tree.specs.declared.declaration.OpItem.{OpItem}
use Rattle.sr_tree.specs.declared.declaration.OpItem.TheVariants.{Signed as OfSignature, Typed as OfType}
use Rattle.sr_tree.specs.declared.declaration.Semaphore.{Semaphore}
use Rattle.sr_tree.specs.declared.declaration.TypeDecl.{TypeDecl}
use Rattle.sr_tree.specs.declared.declaration.VarDecl.{VarDecl}
use Rattle.sr_tree.specs.declared.expr.Expr.{Expr}
use Rattle.sr_tree.specs.declared.statement.Quantifier.{Quantifier}
use Rattle.sr_tree.specs.declared.types.Decl.{Decl as DeclTree}
use Rattle.sr_tree.specs.declared.types.Formal.{Formal}
use Rattle.sr_tree.specs.declared.types.Returned.{Returned}
use Rattle.sr_tree.specs.declared.types.Signature.{Signature as SignatureTree}
use Rattle.sr_tree.specs.declared.types.TypeTree.{TypeTree, out-TypeTree}
use Rattle.sr_tree.specs.declared.types.TypeTree.TheOpen.{TypeTree-F}
use Rattle.sr_tree.specs.Nested.{types_within}
use Rattle.sr_tree.specs.Parts.{body_of, formals_of, name_of, spec_of}
use Rattle.sr_types.specs.declared.signature.Param.{Param}
use Rattle.sr_types.specs.declared.signature.Signature.{Signature}
use Rattle.sr_types.specs.declared.ty.Ty.{Ty}
use Rattle.sr_types.specs.declared.ty.Ty.TheVariants as ty
use Rattle.sr_types.specs.declared.typed.Static.{Static}
use Rattle.sr_types.specs.declared.typed.Typed.{Typed}
use Rattle.sr_types.specs.Types.{is_no_type, is_of_nulls}
use Rattle.sr_check_expr.specs.declared.facts.Facts.{Facts}
use Rattle.sr_check_expr.specs.declared.info.Info.TheVariants as info
use Rattle.sr_check_expr.specs.Arguments.{all_found, all_valued}
use Rattle.sr_check_expr.specs.Exprs.{infer_expr}
use Rattle.sr_check_expr.specs.Typings.{Typing, broken_unless, typed_exprs_of}
use Rattle.sr_check_decl.specs.declared.tally.Tally.{Tally}
use Rattle.sr_check_decl.specs.Constants.{const_found, const_of, const_rule, is_fault, is_static, known_if, type_of_value}
use Rattle.sr_check_decl.specs.Declarations.{spec_item_found}
use Rattle.sr_check_decl.specs.Declaring.{component_declared, components_declared, components_named, const_declared, declared_if, files_declared, files_named, item_declared, items_declared, layer_declared, no_facts, op_item_name, op_type, ops_declared, process_params, process_signature, program_declared, semaphore_signature, sems_declared, spec_item_declared, spec_items_declared, standing, type_declared, types_declared, untyped_vars_declared, var_declared}
use Rattle.sr_check_decl.specs.Entering.{entered, ops_entered, signature_entered}
use Rattle.sr_check_decl.specs.Parts.{component_decl}
use Rattle.sr_check_decl.specs.TypeTrees.{decls_found, fixed_bounds, formal_read, formals_at, formals_found, free_bounds}
use Rattle.sr_check_decl.specs.Variables.{no_kind, nulls_found, typings_of, untyped_var_rule, var_found}
use Rattle.sr_check.specs.ErrorFree.{ErrorFree}
use Rattle.sr_check.proofs.Each.{Each}
use Rattle.sr_check.proofs.Entered.{keeps_signature}
use Rattle.sr_check.proofs.ErrorFree.{error_free_first, error_free_second, rule_met}
use Rattle.sr_front.proofs.Known.DeclaredAgrees.{ComponentAgrees, ComponentsAgree, FilesAgree, ItemAgrees, ItemsAgree, LayerAgrees, NamedAgrees, SpecAgrees, SpecsAgree, TypesAgree, WrittenAgrees, at_body, at_head, at_spec, entering, naming}
use Rattle.sr_front.proofs.Typed.RecordsWithin.{LayerFree, TreeFree, within_free}
use Rattle.sr_front.proofs.Constants.StaticTyped.{static_typed}
use Rattle.sr_front.proofs.Typed.Typed.{IsTyped, SignatureTyped, not_untyped, typed_test}
use Rattle.sr_front.proofs.Typed.TypedHalf.{Half, half_const, half_enumeration, half_head, half_infos, half_named, half_operation, half_optype, half_put, half_record, half_type, half_types, half_var}
use Rattle.sr_front.proofs.Typed.TypedSignatures.{signature_known}
use Rattle.sr_front.proofs.Typed.TypedTypes.{entered_typed}
use Rattle.sr_front.proofs.Typed.PassingTypes.{int_passes}

-- ---- operations

half_entered : (signature : Signature) (facts : Facts) → SignatureTyped signature → Half facts → Half (entered signature facts)
half_entered signature facts typed half = record { infos = half.infos; signatures = entered_typed facts signature typed half.signatures }

-- a signature that is written: no rule matters
pub half_signed : (tree : SignatureTree) (facts : Facts) → Half facts → Half (signature_entered tree facts)
half_signed tree facts half = record {
  infos = keeps_signature half_infos (λ now signature h. h) tree facts half.infos;
  signatures = (signature_known tree facts (record { infos = half_types facts half; signatures = half.signatures })).signatures;
}

half_ops_entered : (ops : List OpItem) (facts : Facts) → Half facts → Half (ops_entered ops facts)
half_ops_entered [] facts half = half
half_ops_entered (OfSignature span name signature ∷ ops) facts half = half_ops_entered ops (signature_entered signature facts) (half_signed signature facts half)
half_ops_entered (OfType span name optype ∷ ops) facts half = half_ops_entered ops facts half

half_ops : (ops : List OpItem) (facts : Facts) → Half facts → Half (ops_declared false ops facts)
half_ops [] facts half = half
half_ops (op ∷ ops) facts half = half_ops ops _ (half_operation facts (spot_of (op_item_name op).span) (op_type facts op) facts.here.component.spot false half)

half_sems : (semaphores : List Semaphore) (facts : Facts) → Half facts → Half (sems_declared false semaphores facts)
half_sems [] facts half = half
half_sems (semaphore ∷ more) facts half =
    half_sems more _ (half_operation (entered semaphore_signature facts) (spot_of semaphore.name.span) _ _ false (half_entered semaphore_signature facts (record { params = tt; returns = tt }) half))

process_typed : (quantifiers : List Quantifier) → Each (λ (param : Param). IsTyped param.ty) (process_params quantifiers)
process_typed [] = tt
process_typed (quantifier ∷ more) = (int_passes typed_test, process_typed more)

-- ---- constants and variables without a written type

value_type : (rule : Bool) (type : Ty) (fit : Bool) → IsTyped type → (is_no_type type || (not (is_of_nulls type) && fit)) ≡ true → type_of_value type ≡ type
value_type rule type fit typed met = by (is_of_nulls type) refl
  where
    both : (not (is_of_nulls type) && fit) ≡ true
    both = ap (λ (b : Bool). b || (not (is_of_nulls type) && fit)) (sym (not_untyped type typed)) ∙ met

    by : (nulls : Bool) → is_of_nulls type ≡ nulls → type_of_value type ≡ type
    by true is = absurd (false≢true (ap not (sym is) ∙ (and_parts (not (is_of_nulls type)) fit both).0))
    by false is = ap (λ (b : Bool). if b then ty.Untyped else type) is

rule_known : (rule : Bool) (value : Static) → is_static (known_if rule value) ≡ true → (rule ≡ true) × (is_static value ≡ true)
rule_known true value static = (refl, static)
rule_known false value static = absurd (false≢true static)

-- a constant that is static where it is declared has the type of its value
half_value : (in_spec : Bool) (constant : ConstDecl) (facts : Facts) → Half facts → Half (const_declared in_spec (record constant { ty = None }) facts)
half_value in_spec constant facts half = by (is_static one.value) refl
  where
    one : Typed
    one = const_of in_spec facts (record constant { ty = None })

    value : Typed
    value = (infer_expr constant.value facts).typed_expr.typed

    typed : is_static one.value ≡ true → IsTyped one.ty
    typed static =
        let known = rule_known (const_rule in_spec None value) value.value static in
        let has = static_typed facts half constant.value known.1 in
        subst IsTyped (sym (value_type true value.ty (not (is_fault value.value) && (not in_spec || is_static value.value)) has known.0)) has

    by : (static : Bool) → is_static one.value ≡ static → Half (declared_if static constant.name one facts)
    by true is = half_put facts (spot_of constant.name.span) (info.Value one) (typed is, λ place. absurd (false≢true place)) half
    by false is = half

same_rule : (facts : Facts) (decls : List DeclTree) (values : List Expr) → untyped_var_rule decls (typed_exprs_of (typings_of facts values)) ≡ untyped_var_rule decls values
same_rule facts [] [] = refl
same_rule facts [] (value ∷ values) = refl
same_rule facts (decl ∷ []) [] = refl
same_rule facts (decl ∷ []) (value ∷ []) = refl
same_rule facts (decl ∷ []) (value ∷ other ∷ values) = refl
same_rule facts (decl ∷ other ∷ decls) [] = refl
same_rule facts (decl ∷ other ∷ decls) (value ∷ values) = refl

-- variables without a type wait
half_wait : (variables : VarDecl) (facts end : Facts) → Half facts → ErrorFree (var_found end (record variables { ty = None })) → Half (var_declared (record variables { ty = None }) facts)
half_wait variables facts end half whole = subst (λ met. Half (untyped_vars_declared met variables.decls facts)) (sym (sym (same_rule end variables.decls variables.values) ∙ rule)) half
  where
    values : List Typing
    values = typings_of end variables.values

    rules : ErrorFree (broken_unless (untyped_var_rule variables.decls (typed_exprs_of values)) BadType variables.span)
    rules =
        let found = error_free_second (all_valued (typed_exprs_of values)) _ (error_free_second (all_found values) _ whole) in
        error_free_first (broken_unless (untyped_var_rule variables.decls (typed_exprs_of values)) BadType variables.span) (nulls_found (typed_exprs_of values))
        (error_free_second (decls_found free_bounds end (no_kind variables.span) variables.decls) _ found)

    rule : untyped_var_rule variables.decls (typed_exprs_of values) ≡ true
    rule = rule_met (untyped_var_rule variables.decls (typed_exprs_of values)) BadType variables.span rules

module _ (Ending : Facts → Type 1) where
  -- what is found where a declaration is checked breaks no rule
  pub record Met (found : Facts → List Finding) : Type 1 where
    pub end : Facts
    pub ends : Ending end
    pub whole : ErrorFree (found end)

  abbrev pub SpecMet : Bool → SpecItem → Type 1
  SpecMet in_spec one = Met (λ end. spec_item_found in_spec end one)

  abbrev pub ItemMet : Item → Type 1
  ItemMet (item.Spec inner) = SpecMet false inner
  ItemMet _ = Unit {1}

  pub record ComponentMet (component : Component) : Type 1 where
    pub specs : (one : SpecItem) → IsIn one (spec_of component) → SpecMet true one
    pub head : Met (λ end. formals_found (formals_at (map formal_read (formals_of component)) end false))
    pub items : (one : Item) → IsIn one (body_of component) → ItemMet one

  -- ---- one declaration

  half_layer : (layer : TypeTree-F TypeTree Formal Returned SignatureTree) (tally : Tally) (end : Facts) → Half tally.facts → LayerAgrees Ending layer tally.facts → Ending end → LayerFree end layer → Half (layer_declared layer tally).facts
  half_layer (TypeTree-F.Enum span literals) tally end half agree ends free = half_enumeration span literals tally half
  half_layer (TypeTree-F.Rec span fields) tally end half agree ends free = let there = agree.0 end ends in half_record span fields tally end half there.0 there.1 agree.1 free
  half_layer _ tally end half agree ends free = half

  half_within : (trees : List TypeTree) (tally : Tally) (end : Facts) → Half tally.facts → TypesAgree Ending trees tally → Ending end → Each (TreeFree end) trees → Half (types_declared trees tally).facts
  half_within [] tally end half agree ends free = half
  half_within (tree ∷ trees) tally end half agree ends free =
      half_within trees (layer_declared (out-TypeTree tree) tally) end (half_layer (out-TypeTree tree) tally end half agree.0 ends free.0) agree.1 ends free.1

  half_type_declared : (named : TypeDecl) (tally : Tally) → Half tally.facts → NamedAgrees Ending named tally → SpecMet true (spec.«Type» named) → Half (type_declared named tally).facts
  half_type_declared named tally half agree met =
      let first = agree.entered met.end met.ends in
      let last = agree.name met.end met.ends in
      let entered = half_type named.ty tally.facts met.end fixed_bounds half first.0 first.1 met.whole in
      let within = half_within (types_within named.ty) (entering Ending named tally) met.end entered.0 agree.within met.ends (within_free met.end named.ty fixed_bounds met.whole) in
      half_named named (naming Ending named tally) met.end within last.0 last.1 agree.numbered met.whole

  half_constant : (in_spec : Bool) (constant : ConstDecl) (facts : Facts) (type : Option TypeTree) → Half facts → WrittenAgrees Ending type facts → Met (λ end. const_found in_spec end (record constant { ty = type }))
      → Half (const_declared in_spec (record constant { ty = type }) facts)
  half_constant in_spec constant facts None half agree met = half_value in_spec constant facts half
  half_constant in_spec constant facts (Some tree) half agree met = let there = agree met.end met.ends in half_const in_spec constant tree facts met.end half there.0 there.1 met.whole

  half_variables : (variables : VarDecl) (facts : Facts) (type : Option TypeTree) → Half facts → WrittenAgrees Ending type facts → Met (λ end. var_found end (record variables { ty = type }))
      → Half (var_declared (record variables { ty = type }) facts)
  half_variables variables facts None half agree met = half_wait variables facts met.end half met.whole
  half_variables variables facts (Some tree) half agree met = let there = agree met.end met.ends in half_var variables tree facts met.end half there.0 there.1 met.whole

  half_spec : (in_spec : Bool) (one : SpecItem) (tally : Tally) → Half tally.facts → SpecAgrees Ending one tally → SpecMet in_spec one → Half (spec_item_declared in_spec one tally).facts
  half_spec in_spec (spec.Import imports) tally half agree met = half
  half_spec in_spec (spec.Const constant) tally half agree met = half_constant in_spec constant tally.facts constant.ty half agree met
  half_spec in_spec (spec.«Type» named) tally half agree met = half_type_declared named tally half agree (record { end = met.end; ends = met.ends; whole = met.whole })
  half_spec in_spec (spec.OpType named) tally half agree met = let there = agree met.end met.ends in half_optype named tally.facts met.end half there.0 there.1 met.whole
  half_spec in_spec (spec.Op operations) tally half agree met = half_ops operations.items _ (half_ops_entered operations.items tally.facts half)
  half_spec in_spec (spec.Var variables) tally half agree met = half_variables variables tally.facts variables.ty half agree met
  half_spec in_spec (spec.Sem semaphores) tally half agree met = half_sems semaphores.semaphores tally.facts half

  half_item : (one : Item) (tally : Tally) → Half tally.facts → ItemAgrees Ending one tally → ItemMet one → Half (item_declared one tally).facts
  half_item (item.Spec inner) tally half agree met = half_spec false inner tally half agree met
  half_item (item.Procedure procedure) tally half agree met =
      half_operation (signature_entered procedure.signature tally.facts) (spot_of procedure.name.span) _ _ false (half_signed procedure.signature tally.facts half)
  half_item (item.Process process) tally half agree met =
      half_operation (entered (process_signature process.quantifiers) tally.facts) (spot_of process.name.span) _ _ false
      (half_entered (process_signature process.quantifiers) tally.facts (record { params = process_typed process.quantifiers; returns = tt }) half)
  half_item _ tally half agree met = half

  -- ---- all

  half_specs : (items : List SpecItem) (tally : Tally) → Half tally.facts → SpecsAgree Ending items tally → ((one : SpecItem) → IsIn one items → SpecMet true one) → Half (spec_items_declared items tally).facts
  half_specs [] tally half agree met = half
  half_specs (one ∷ items) tally half agree met = half_specs items (spec_item_declared true one tally) (half_spec true one tally half agree.0 (met one (inl refl))) agree.1 (λ other k. met other (inr k))

  half_items : (items : List Item) (tally : Tally) → Half tally.facts → ItemsAgree Ending items tally → ((one : Item) → IsIn one items → ItemMet one) → Half (items_declared items tally).facts
  half_items [] tally half agree met = half
  half_items (one ∷ items) tally half agree met = half_items items (item_declared one tally) (half_item one tally half agree.0 (met one (inl refl))) agree.1 (λ other k. met other (inr k))

  half_standing : (facts : Facts) (component : Decl) → Half facts → Half (standing facts component)
  half_standing facts component half = record { infos = half.infos; signatures = half.signatures }

  half_component : (component : Component) (tally : Tally) → Half tally.facts → ComponentAgrees Ending component tally → ComponentMet component → Half (component_declared component tally).facts
  half_component component tally half agree met =
      let specs = half_specs (spec_of component) (at_spec Ending component tally) (half_standing tally.facts (component_decl component) half) agree.specs met.specs in
      let there = agree.head met.head.end met.head.ends in
      let head = half_head component (at_head Ending component tally).facts met.head.end specs there.0 there.1 met.head.whole in
      half_items (body_of component) (at_body Ending component tally) head agree.items met.items

  half_components : (components : List Component) (tally : Tally) → Half tally.facts → ComponentsAgree Ending components tally → ((one : Component) → IsIn one components → ComponentMet one) → Half (components_declared components tally).facts
  half_components [] tally half agree met = half
  half_components (one ∷ components) tally half agree met =
      half_components components (component_declared one tally) (half_component one tally half agree.0 (met one (inl refl))) agree.1 (λ other k. met other (inr k))

  half_files : (files : List File) (tally : Tally) → Half tally.facts → FilesAgree Ending files tally → ((one : Component) → IsIn one (components_in files) → ComponentMet one) → Half (files_declared files tally).facts
  half_files [] tally half agree met = half
  half_files (file ∷ files) tally half agree met =
      half_files files (components_declared file.components tally)
      (half_components file.components tally half agree.0 (λ one k. met one (in_left one file.components (components_in files) k))) agree.1
      (λ one k. met one (in_right one file.components (components_in files) k))

  -- ---- from the names of components

  half_none : (uses : Meanings) (specs : Specs) → Half (no_facts uses specs)
  half_none uses specs = record { infos = λ spot. tt; signatures = λ number. tt }

  half_components_named : (components : List Component) (facts : Facts) → Half facts → Half (components_named components facts)
  half_components_named [] facts half = half
  half_components_named (one ∷ components) facts half = half_components_named components _ (half_put facts (spot_of (name_of one).span) (info.Component ty.Untyped) tt half)

  half_files_named : (files : List File) (facts : Facts) → Half facts → Half (files_named files facts)
  half_files_named [] facts half = half
  half_files_named (file ∷ files) facts half = half_files_named files (components_named file.components facts) (half_components_named file.components facts half)

  -- all that is declared outside of code
  pub half_program : (uses : Meanings) (specs : Specs) (files : List File) → FilesAgree Ending files (record { facts = files_named files (no_facts uses specs); enumerations = 0 })
      → ((one : Component) → IsIn one (components_in files) → ComponentMet one) → Half (program_declared uses specs files)
  half_program uses specs files agree met =
      half_files files (record { facts = files_named files (no_facts uses specs); enumerations = 0 }) (half_files_named files (no_facts uses specs) (half_none uses specs)) agree met
