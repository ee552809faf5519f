-- Before any statement is looked at, what is known at a spot fits it, where each declaration outside of code does, and no value that is known faults.
use Rattle.std.proofs.Common.{◌≡◌, ℕ, ◌+◌, Bool, true, false, List, [], ◌∷◌, flat_map, Option, Some, None, refl, ap, ◌∙◌}
use Rattle.sr_check.proofs.Each.{Each, each-left, each-right}
use Rattle.sr_check.proofs.Entered.{keeps_formals, keeps_ops, keeps_signature, keeps_signed, keeps_type, keeps_written}
use Rattle.sr_check_decl.specs.Constants.{const_of, const_rule, const_typed, is_fault, known_if, written_kind}
use Rattle.sr_check_decl.specs.declared.kind.Kind.{Kind}
use Rattle.sr_check_decl.specs.declared.kind.NamedParam.{NamedParam}
use Rattle.sr_check_decl.specs.declared.tally.Tally.{Tally}
use Rattle.sr_check_decl.specs.Declaring.{at_facts, component_formals, component_typed, const_declared, declared_if, head_declared, item_declared, layer_declared, literal_info, literals_declared, making, op_item_name, op_type, operation, ops_declared, params_declared, process_signature, semaphore_signature, sems_declared, spec_item_declared, type_declared, types_declared, untyped_vars_declared, var_declared, var_declared_by, written_type}
use Rattle.sr_check_decl.specs.Entering.{entered, formals_entered, signature_entered, signed_entered, type_entered, written_entered}
use Rattle.sr_check_decl.specs.TypeTrees.{decl_type, fixed_bounds, type_kinding}
use Rattle.sr_check_decl.specs.Variables.{declare, variable, vars_declared}
use Rattle.sr_check_expr.specs.declared.facts.Facts.{Facts}
use Rattle.sr_check_expr.specs.declared.info.FieldInfo.{FieldInfo}
use Rattle.sr_check_expr.specs.declared.info.Info.{Info}
use Rattle.sr_check_expr.specs.declared.info.Info.TheVariants as info
use Rattle.sr_check_expr.specs.Exprs.{infer_expr}
use Rattle.sr_check_expr.specs.Infos.{info_at}
use Rattle.sr_names.specs.declared.meaning.Decl.{Decl}
use Rattle.sr_names.specs.declared.meaning.Meaning.{Meaning}
use Rattle.sr_names.specs.declared.meaning.Meaning.TheVariants.{Declared, Predefined as MeansPredefined}
use Rattle.sr_names.specs.declared.spot.Spot.{Spot}
use Rattle.sr_names.specs.Spots.{spot_of}
use Rattle.sr_names.specs.Uses.{meaning_at}
use Rattle.sr_order.specs.Names.{expr_names, formal_names, names_spans, type_names}
use Rattle.sr_tree.specs.declared.component.Component.{Component}
use Rattle.sr_tree.specs.declared.component.Item.{Item}
use Rattle.sr_tree.specs.declared.component.Item.TheVariants as item
use Rattle.sr_tree.specs.declared.component.SpecItem.{SpecItem}
use Rattle.sr_tree.specs.declared.component.SpecItem.TheVariants as spec
use Rattle.sr_tree.specs.declared.declaration.ConstDecl.{ConstDecl}
use Rattle.sr_tree.specs.declared.declaration.OpItem.{OpItem}
use Rattle.sr_tree.specs.declared.declaration.OpTypeDecl.{OpTypeDecl}
use Rattle.sr_tree.specs.declared.declaration.Semaphore.{Semaphore}
use Rattle.sr_tree.specs.declared.declaration.TypeDecl.{TypeDecl}
use Rattle.sr_tree.specs.declared.declaration.VarDecl.{VarDecl}
use Rattle.sr_tree.specs.declared.name.Name.{Name}
use Rattle.sr_tree.specs.declared.types.Decl.{Decl as DeclTree}
use Rattle.sr_tree.specs.declared.types.Formal.{Formal}
use Rattle.sr_tree.specs.declared.types.Returned.{Returned}
use Rattle.sr_tree.specs.declared.types.Signature.{Signature as SignatureTree}
use Rattle.sr_tree.specs.declared.types.TypeTree.{TypeTree, out-TypeTree}
use Rattle.sr_tree.specs.declared.types.TypeTree.TheOpen.{TypeTree-F}
use Rattle.sr_tree.specs.Nested.{types_within}
use Rattle.sr_tree.specs.Parts.{formals_of, name_of}
use Rattle.sr_types.specs.declared.signature.Signature.{Signature}
use Rattle.sr_types.specs.declared.ty.Ty.{Ty}
use Rattle.sr_types.specs.declared.ty.Ty.TheVariants as ty
use Rattle.sr_types.specs.declared.typed.Static.{Static}
use Rattle.sr_types.specs.declared.typed.Static.TheVariants.{Faults, Known, Unknown}
use Rattle.sr_types.specs.declared.typed.Typed.{Typed}
use Rattle.sr_types.specs.Types.{is_no_type}
use Rattle.sr_value.specs.declared.place.Span.{Span}
use Rattle.sr_front.proofs.Constants.ConstantsThen.{fault_broken}
use Rattle.sr_front.proofs.Known.KeptFormals.{component_params_free}
use Rattle.sr_front.proofs.Lists.Put.{put_known}
use Rattle.sr_front.proofs.Lists.Sharing.{first_each}
use Rattle.sr_front.proofs.Constants.StaticExprs.{SameUses, expr_told}
use Rattle.sr_front.proofs.Constants.StaticNames.{IsSound, SameMeaning, SameTypes, name_told, same_known}
use Rattle.sr_front.proofs.Names.WordShares.{layer_words, words_of, words_share}

-- ---- constants

const_sound : (in_spec : Bool) (kind : Option Kind) (value : Typed) → (is_fault value.value ≡ true → is_no_type value.ty ≡ false) → is_fault (const_typed in_spec kind value).value ≡ false
const_sound in_spec kind value typed = by value.value refl
  where
    rule : Bool
    rule = const_rule in_spec kind value

    unknown : (b : Bool) → is_fault (known_if b Unknown) ≡ false
    unknown true = refl
    unknown false = refl

    known : (b : Bool) (one : Static) → is_fault one ≡ false → is_fault (known_if b one) ≡ false
    known true one sound = sound
    known false one sound = refl

    by : (one : Static) → value.value ≡ one → is_fault (known_if rule value.value) ≡ false
    by Unknown is = ap (λ one. is_fault (known_if rule one)) is ∙ unknown rule
    by (Known one) is = known rule value.value (ap is_fault is)
    by (Faults fault) is = ap (λ b. is_fault (known_if b value.value)) (fault_broken in_spec kind value (ap is_fault is) (typed (ap is_fault is)))

-- ---- what fits

module _ (Fits : Spot → Info → Type 0) where
  -- what is known fits, and no value faults
  abbrev pub AllFit : Facts → Type 0
  AllFit facts = (spot : Spot) (one : Info) → info_at facts.infos spot ≡ Some one → Fits spot one × IsSound (Some one)

  sound_at : (facts : Facts) → AllFit facts → (spot : Spot) → IsSound (info_at facts.infos spot)
  sound_at facts fit spot = by (info_at facts.infos spot) refl
    where
      by : (found : Option Info) → info_at facts.infos spot ≡ found → IsSound found
      by None is = tt
      by (Some one) is = (fit spot one is).1

  itself_types : (facts : Facts) (decl : Decl) (one : Option Info) → SameTypes facts facts decl one
  itself_types facts decl (Some (info.«Type» ty)) = refl
  itself_types facts decl (Some (info.Enumeration number literals)) = refl
  itself_types facts decl (Some (info.Record fields)) = refl
  itself_types facts decl _ = tt

  itself_meaning : (facts : Facts) → AllFit facts → (meaning : Option Meaning) → SameMeaning facts facts meaning
  itself_meaning facts fit None = tt
  itself_meaning facts fit (Some (MeansPredefined name)) = tt
  itself_meaning facts fit (Some (Declared decl)) = same_known refl (sound_at facts fit decl.spot) (itself_types facts decl (info_at facts.infos decl.spot))

  itself_uses : (facts : Facts) → AllFit facts → (names : List Span) → SameUses facts facts names
  itself_uses facts fit [] = tt
  itself_uses facts fit (name ∷ names) = (name_told facts facts refl name (itself_meaning facts fit (meaning_at facts.uses (spot_of name))), itself_uses facts fit names)

  -- so the value of a constant doesn't fault
  pub value_sound : (facts : Facts) → AllFit facts → (in_spec : Bool) (kind : Option Kind) (constant : ConstDecl) → is_fault (const_typed in_spec kind (infer_expr constant.value facts).typed_expr.typed).value ≡ false
  value_sound facts fit in_spec kind constant =
      const_sound in_spec kind (infer_expr constant.value facts).typed_expr.typed (expr_told facts facts constant.value (itself_uses facts fit (expr_names constant.value))).typed

  pub fits_with : (facts : Facts) (spot : Spot) (one : Info) → Fits spot one → IsSound (Some one) → AllFit facts → AllFit (declare facts spot one)
  fits_with facts spot one fits sound h other known is = put_known facts spot one (λ at it. Fits at it × IsSound (Some it)) (fits, sound) other known is (h other known)

  fits_signatures : (facts : Facts) (signature : Signature) → AllFit facts → AllFit (entered signature facts)
  fits_signatures facts signature h = h

  -- ---- what may stand where

  abbrev pub ConstAt : Spot → Type 0
  ConstAt spot = (typed : Typed) → Fits spot (info.Value typed)

  abbrev pub VarAt : Spot → Type 0
  VarAt spot = (type : Ty) → Fits spot (variable type)

  -- a word of an enumeration or a record, or a literal
  pub record WordAt (spot : Spot) : Type 0 where
    pub enumeration : (number literals : ℕ) → Fits spot (info.Enumeration number literals)
    pub fields : (fields : List FieldInfo) → Fits spot (info.Record fields)
    pub literal : (word : Spot) (number index : ℕ) → Fits spot (literal_info word number index)

  -- the type that a declaration names, where it is read
  abbrev pub TypeAt : TypeDecl → Type 0
  TypeAt named = (facts : Facts) → AllFit facts → Fits (spot_of named.name.span) (info.«Type» (type_kinding named.ty facts fixed_bounds).kind.ty)

  abbrev pub OptypeAt : OpTypeDecl → Type 0
  OptypeAt named = (facts : Facts) → AllFit facts → Fits (spot_of named.name.span) (info.OpType (written_type named.signature facts))

  abbrev pub OperationAt : Spot → Type 0
  OperationAt spot = (type : Ty) (component : Spot) (is_local : Bool) → Fits spot (info.Operation type component is_local)

  abbrev pub ComponentAt : Spot → Type 0
  ComponentAt spot = (type : Ty) → Fits spot (info.Component type)

  abbrev WordName : Span → Type 0
  WordName span = WordAt (spot_of span)

  abbrev VarName : Span → Type 0
  VarName span = VarAt (spot_of span)

  abbrev pub SpecFits : SpecItem → Type 0
  SpecFits (spec.Import declared) = Unit {0}
  SpecFits (spec.Const constant) = ConstAt (spot_of constant.name.span)
  SpecFits (spec.«Type» named) = TypeAt named × Each WordName (type_names named.ty)
  SpecFits (spec.OpType named) = OptypeAt named
  SpecFits (spec.Op operations) = Each (λ op. OperationAt (spot_of (op_item_name op).span)) operations.items
  SpecFits (spec.Var variables) = Each (λ (decl : DeclTree). VarAt (spot_of decl.name.span)) variables.decls
  SpecFits (spec.Sem declared) = Each (λ (semaphore : Semaphore). OperationAt (spot_of semaphore.name.span)) declared.semaphores

  abbrev pub ItemFits : Item → Type 0
  ItemFits (item.Spec declared) = SpecFits declared
  ItemFits (item.Procedure procedure) = OperationAt (spot_of procedure.name.span)
  ItemFits (item.Process process) = OperationAt (spot_of process.name.span)
  ItemFits _ = Unit {0}

  abbrev pub HeadFits : Component → Type 0
  HeadFits component = ComponentAt (spot_of (name_of component).span) × Each VarName (flat_map formal_names (formals_of component))

  -- ---- constants, variables and types

  fit_vars : (type : Ty) (decls : List DeclTree) (facts : Facts) → Each (λ (decl : DeclTree). VarAt (spot_of decl.name.span)) decls → AllFit facts → AllFit (vars_declared type decls facts)
  fit_vars type [] facts fits h = h
  fit_vars type (decl ∷ decls) facts fits h =
      fit_vars type decls _ fits.1 (fits_with facts (spot_of decl.name.span) (variable (decl_type decl.dims type)) (fits.0 (decl_type decl.dims type)) refl h)

  fit_if : (b : Bool) (name : Name) (typed : Typed) (facts : Facts) → Fits (spot_of name.span) (info.Value typed) → is_fault typed.value ≡ false → AllFit facts → AllFit (declared_if b name typed facts)
  fit_if true name typed facts fits sound h = fits_with facts (spot_of name.span) (info.Value typed) fits sound h
  fit_if false name typed facts fits sound h = h

  fit_const : (in_spec : Bool) (constant : ConstDecl) (facts : Facts) → ConstAt (spot_of constant.name.span) → AllFit facts → AllFit (const_declared in_spec constant facts)
  fit_const in_spec constant facts fits h =
      let reading = written_entered constant.ty facts in
      let before : AllFit reading = keeps_written AllFit fits_signatures constant.ty facts h in
      fit_if _ constant.name (const_of in_spec reading constant) reading (fits (const_of in_spec reading constant)) (value_sound reading before in_spec (written_kind reading constant.ty) constant) before

  fit_untyped : (b : Bool) (decls : List DeclTree) (facts : Facts) → Each (λ (decl : DeclTree). VarAt (spot_of decl.name.span)) decls → AllFit facts → AllFit (untyped_vars_declared b decls facts)
  fit_untyped true decls facts fits h = h
  fit_untyped false decls facts fits h = fit_vars ty.Untyped decls facts fits h

  fit_var_by : (tree : Option TypeTree) (variables : VarDecl) (facts : Facts) → Each (λ (decl : DeclTree). VarAt (spot_of decl.name.span)) variables.decls → AllFit facts → AllFit (var_declared_by tree variables facts)
  fit_var_by None variables facts fits h = fit_untyped _ variables.decls facts fits h
  fit_var_by (Some tree) variables facts fits h = fit_vars _ variables.decls facts fits h

  fit_var : (variables : VarDecl) (facts : Facts) → Each (λ (decl : DeclTree). VarAt (spot_of decl.name.span)) variables.decls → AllFit facts → AllFit (var_declared variables facts)
  fit_var variables facts fits h = fit_var_by variables.ty variables _ fits (keeps_written AllFit fits_signatures variables.ty facts h)

  fit_literals : (at : Spot) (number index : ℕ) (names : List Name) (facts : Facts) → Each WordName (names_spans names) → AllFit facts → AllFit (literals_declared at number index names facts)
  fit_literals at number index [] facts fits h = h
  fit_literals at number index (name ∷ names) facts fits h = fit_literals at number (index + 1) names _ fits.1 (fits_with facts (spot_of name.span) _ (fits.0.literal at number index) refl h)

  fit_layer : (layer : TypeTree-F TypeTree Formal Returned SignatureTree) (tally : Tally) → Each WordName (layer_words layer) → AllFit tally.facts → AllFit (layer_declared layer tally).facts
  fit_layer (TypeTree-F.Enum span literals) tally fits h = fit_literals _ _ _ literals _ fits.1 (fits_with tally.facts (spot_of span) _ (fits.0.enumeration _ _) tt h)
  fit_layer (TypeTree-F.Rec span fields) tally fits h = fits_with tally.facts (spot_of span) _ (fits.0.fields _) tt h
  fit_layer _ tally fits h = h

  fit_types : (trees : List TypeTree) (tally : Tally) → Each WordName (flat_map words_of trees) → AllFit tally.facts → AllFit (types_declared trees tally).facts
  fit_types [] tally fits h = h
  fit_types (tree ∷ trees) tally fits h =
      fit_types trees _ (each-right WordName (words_of tree) (flat_map words_of trees) fits) (fit_layer (out-TypeTree tree) tally (each-left WordName (words_of tree) (flat_map words_of trees) fits) h)

  fit_type : (named : TypeDecl) (tally : Tally) → TypeAt named → Each WordName (type_names named.ty) → AllFit tally.facts → AllFit (type_declared named tally).facts
  fit_type named tally fits words h =
      let entering = at_facts tally (type_entered named.ty tally.facts) in
      let written = types_declared (types_within named.ty) entering in
      let before : AllFit written.facts = fit_types (types_within named.ty) entering (first_each WordName (words_share named.ty) words) (keeps_type AllFit fits_signatures named.ty tally.facts h) in
      fits_with written.facts (spot_of named.name.span) _ (fits written.facts before) tt before

  -- ---- operations

  fit_ops : (ops : List OpItem) (facts : Facts) → Each (λ op. OperationAt (spot_of (op_item_name op).span)) ops → AllFit facts → AllFit (ops_declared false ops facts)
  fit_ops [] facts fits h = h
  fit_ops (op ∷ ops) facts fits h = fit_ops ops _ fits.1 (fits_with facts (spot_of (op_item_name op).span) (operation facts false (op_type facts op)) (fits.0 _ _ _) tt h)

  fit_sems : (semaphores : List Semaphore) (facts : Facts) → Each (λ (semaphore : Semaphore). OperationAt (spot_of semaphore.name.span)) semaphores → AllFit facts → AllFit (sems_declared false semaphores facts)
  fit_sems [] facts fits h = h
  fit_sems (semaphore ∷ more) facts fits h = fit_sems more _ fits.1 (fits_with (entered semaphore_signature facts) (spot_of semaphore.name.span) _ (fits.0 _ _ _) tt h)

  -- ---- items

  pub fit_spec_item : (in_spec : Bool) (inner : SpecItem) (tally : Tally) → SpecFits inner → AllFit tally.facts → AllFit (spec_item_declared in_spec inner tally).facts
  fit_spec_item in_spec (spec.Import imports) tally fits h = h
  fit_spec_item in_spec (spec.Const constant) tally fits h = fit_const in_spec constant tally.facts fits h
  fit_spec_item in_spec (spec.«Type» named) tally fits h = fit_type named tally fits.0 fits.1 h
  fit_spec_item in_spec (spec.OpType named) tally fits h =
      let before : AllFit (signature_entered named.signature tally.facts) = keeps_signature AllFit fits_signatures named.signature tally.facts h in
      fits_with (signature_entered named.signature tally.facts) (spot_of named.name.span) _ (fits (signature_entered named.signature tally.facts) before) tt before
  fit_spec_item in_spec (spec.Op operations) tally fits h = fit_ops operations.items _ fits (keeps_ops AllFit fits_signatures operations.items tally.facts h)
  fit_spec_item in_spec (spec.Var variables) tally fits h = fit_var variables tally.facts fits h
  fit_spec_item in_spec (spec.Sem semaphores) tally fits h = fit_sems semaphores.semaphores tally.facts fits h

  pub fit_item : (inner : Item) (tally : Tally) → ItemFits inner → AllFit tally.facts → AllFit (item_declared inner tally).facts
  fit_item (item.Spec inner) tally fits h = fit_spec_item false inner tally fits h
  fit_item (item.Procedure procedure) tally fits h =
      fits_with (signature_entered procedure.signature tally.facts) (spot_of procedure.name.span) _ (fits _ _ _) tt (keeps_signature AllFit fits_signatures procedure.signature tally.facts h)
  fit_item (item.Process process) tally fits h = fits_with (entered (process_signature process.quantifiers) tally.facts) (spot_of process.name.span) _ (fits _ _ _) tt h
  fit_item _ tally fits h = h

  fit_params : (params : List NamedParam) (facts : Facts) → Each (λ (param : NamedParam). VarAt param.spot) params → AllFit facts → AllFit (params_declared params facts)
  fit_params [] facts fits h = h
  fit_params (param ∷ params) facts fits h = fit_params params _ fits.1 (fits_with facts param.spot (variable param.ty) (fits.0 param.ty) refl h)

  pub fit_head : (tree : Component) (facts : Facts) → HeadFits tree → AllFit facts → AllFit (head_declared tree facts)
  fit_head tree facts fits h =
      let entering = formals_entered (formals_of tree) facts in
      let params = component_formals entering (formals_of tree) in
      let made = signed_entered (making params) entering in
      let after = keeps_signed AllFit fits_signatures (making params) entering (keeps_formals AllFit fits_signatures (formals_of tree) facts h) in
      fit_params params (component_typed (name_of tree) (making params) made) (component_params_free VarAt (formals_of tree) entering fits.1)
      (fits_with made (spot_of (name_of tree).span) _ (fits.0 _) tt after)
