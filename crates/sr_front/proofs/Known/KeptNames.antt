-- What is kept by all that enters signatures, and by the declaration of a value where its name may stand, is kept where
-- declarations, formals and quantifiers are read.
use Rattle.std.proofs.Common.{Bool, true, false, List, [], ◌∷◌, Option, Some, None, map, flat_map, sym, subst}
use Rattle.sr_value.specs.declared.place.Span.{Span}
use Rattle.sr_names.specs.declared.spot.Spot.{Spot}
use Rattle.sr_names.specs.Spots.{spot_of}
use Rattle.sr_order.specs.Names.{const_names, decl_names, formal_names, formal_names_step, name_names, names_spans, quantifier_names, returned_names, returned_names_step, signature_names, signature_names_step, type_names, type_names_step, var_names, where_some}
use Rattle.sr_order.specs.Spans.{joined}
use Rattle.sr_tree.specs.declared.declaration.ConstDecl.{ConstDecl}
use Rattle.sr_tree.specs.declared.declaration.OpItem.{OpItem}
use Rattle.sr_tree.specs.declared.declaration.Semaphore.{Semaphore}
use Rattle.sr_tree.specs.declared.declaration.VarDecl.{VarDecl}
use Rattle.sr_tree.specs.declared.name.Name.{Name}
use Rattle.sr_tree.specs.declared.statement.Quantifier.{Quantifier}
use Rattle.sr_tree.specs.declared.types.Decl.{Decl}
use Rattle.sr_tree.specs.declared.types.Formal.{Formal}
use Rattle.sr_tree.specs.declared.types.Returned.{Returned}
use Rattle.sr_tree.specs.declared.types.Signature.{Signature, out-Signature}
use Rattle.sr_tree.specs.declared.types.TypeTree.TheFolds.{fold_out-Signature, map-Signature}
use Rattle.sr_tree.specs.declared.types.TypeTree.TheOpen.{Signature-F}
use Rattle.sr_tree.specs.declared.types.TypeTree.{TypeTree}
use Rattle.sr_types.specs.declared.signature.Param.{Param}
use Rattle.sr_types.specs.declared.signature.Signature.{Signature as TypeSignature}
use Rattle.sr_types.specs.declared.ty.Ty.{Ty}
use Rattle.sr_types.specs.declared.ty.Ty.TheVariants as ty
use Rattle.sr_types.specs.declared.typed.Typed.{Typed}
use Rattle.sr_check_expr.specs.declared.facts.Facts.{Facts}
use Rattle.sr_check_expr.specs.declared.info.Info.TheVariants as info
use Rattle.sr_check_decl.specs.declared.kind.NamedParam.{NamedParam}
use Rattle.sr_check_decl.specs.Constants.{const_of}
use Rattle.sr_check_decl.specs.Declaring.{declare_name, op_item_name, op_type, ops_declared, params_declared, semaphore_signature, sems_declared}
use Rattle.sr_check_decl.specs.Entering.{entered, ops_entered, written_entered}
use Rattle.sr_check_decl.specs.TypeTrees.{Kinds, ReadsFormals, ReadsReturned, ReadsSignature, all_params, formal_read, formal_step, formals_at, returned_read, returned_step, signature_read, signature_step, type_kinding, type_step}
use Rattle.sr_check_decl.specs.Variables.{declare, variable, vars_declared, vars_type}
use Rattle.sr_check.specs.Components.{quantifiers_formal, signed_declared}
use Rattle.sr_check.specs.Quantifying.{quantified, quantifiers_known}
use Rattle.sr_check.specs.Services.{names_bound, params_of, returned_bound, returns_of, service_bound, type_or_none}
use Rattle.sr_check.specs.Statements.{const_read, var_read}
use Rattle.sr_check.proofs.Each.{Each, each-left, each-parts, each-right}
use Rattle.sr_check.proofs.Entered.{keeps_ops, keeps_written}
use Rattle.sr_front.proofs.Known.KeptFormals.{FreeParam, formals_free, returned_free}

-- a value may be declared at the spots that are free, and an operation at those that are fit for one
pub record Closed (Q : Facts → Type 0) (Free Fit : Spot → Type 0) : Type 0 where
  pub entered : (facts : Facts) (signature : TypeSignature) → Q facts → Q (entered signature facts)
  pub put : (facts : Facts) (spot : Spot) (typed : Typed) → Free spot → Q facts → Q (declare facts spot (info.Value typed))
  pub operation : (facts : Facts) (spot : Spot) (ty : Ty) (component : Spot) (is_local : Bool) → Fit spot → Q facts → Q (declare facts spot (info.Operation ty component is_local))

-- any name may be declared
abbrev pub Anywhere : Spot → Type 0
Anywhere spot = Unit {0}

pub all_fit : {A : Type 0} (spot : A → Spot) (all : List A) → Each (λ one. Anywhere (spot one)) all
all_fit spot [] = tt
all_fit spot (one ∷ all) = (tt, all_fit spot all)

pub anywhere : (names : List Span) → Each (λ span. Anywhere (spot_of span)) names
anywhere names = all_fit (λ span. spot_of span) names

module _ (Q : Facts → Type 0) (Free Fit : Spot → Type 0) (closed : Closed Q Free Fit) where
  abbrev pub FreeName : Span → Type 0
  FreeName span = Free (spot_of span)

  abbrev pub AllFree : List Span → Type 0
  AllFree = Each FreeName

  -- ---- declarations

  pub keeps_const : (constant : ConstDecl) (facts : Facts) → AllFree (const_names constant) → Q facts → Q (const_read constant facts).facts
  keeps_const constant facts free h =
      let after = written_entered constant.ty facts in
      closed.put after (spot_of constant.name.span) (const_of false after constant) free.0 (keeps_written Q closed.entered constant.ty facts h)

  pub keeps_vars : (type : Ty) (decls : List Decl) (facts : Facts) → Each (λ decl. AllFree (decl_names decl)) decls → Q facts → Q (vars_declared type decls facts)
  keeps_vars type [] facts free h = h
  keeps_vars type (decl ∷ decls) facts free h = keeps_vars type decls _ free.1 (closed.put facts (spot_of decl.name.span) _ free.0.0 h)

  pub keeps_var : (variables : VarDecl) (facts : Facts) → AllFree (var_names variables) → Q facts → Q (var_read variables facts).facts
  keeps_var variables facts free h =
      let after = written_entered variables.ty facts in
      keeps_vars (vars_type after variables.ty variables.values) variables.decls after
      (each-parts FreeName decl_names variables.decls (each-left FreeName (flat_map decl_names variables.decls) _ free)) (keeps_written Q closed.entered variables.ty facts h)

  -- ---- names that services and quantifiers declare

  keeps_names : (names : List Name) (params : List Param) (facts : Facts) → AllFree (names_spans names) → Q facts → Q (names_bound names params facts)
  keeps_names [] params facts free h = h
  keeps_names (name ∷ names) [] facts free h = keeps_names names [] (declare_name facts name (variable ty.Untyped)) free.1 (closed.put facts (spot_of name.span) _ free.0 h)
  keeps_names (name ∷ names) (param ∷ params) facts free h = keeps_names names params (declare_name facts name (variable param.ty)) free.1 (closed.put facts (spot_of name.span) _ free.0 h)

  keeps_returned : (returned : Option Name) (type : Ty) (facts : Facts) → AllFree (where_some name_names returned) → Q facts → Q (returned_bound returned type facts)
  keeps_returned None type facts free h = h
  keeps_returned (Some name) type facts free h = closed.put facts (spot_of name.span) _ free.0 h

  pub keeps_service : (formals : List Name) (returned : Option Name) (type : Ty) (facts : Facts) → AllFree (names_spans formals) → AllFree (where_some name_names returned) → Q facts
      → Q (service_bound formals returned type facts)
  keeps_service formals returned type facts free free_returned h =
      keeps_returned returned (type_or_none (returns_of facts.signatures type)) (names_bound formals (params_of facts.signatures type) facts) free_returned
      (keeps_names formals (params_of facts.signatures type) facts free h)

  keeps_quantified : (quantifiers : List Quantifier) (facts : Facts) → Each (λ quantifier. AllFree (quantifier_names quantifier)) quantifiers → Q facts → Q (quantifiers_known facts quantifiers)
  keeps_quantified [] facts free h = h
  keeps_quantified (quantifier ∷ more) facts free h = keeps_quantified more (quantified facts quantifier.name) free.1 (closed.put facts (spot_of quantifier.name.span) _ free.0.0 h)

  pub keeps_quantifiers : (quantifiers : List Quantifier) (facts : Facts) → AllFree (flat_map quantifier_names quantifiers) → Q facts → Q (quantifiers_known facts quantifiers)
  keeps_quantifiers quantifiers facts free h = keeps_quantified quantifiers facts (each-parts FreeName quantifier_names quantifiers free) h

  keeps_formals : (quantifiers : List Quantifier) (facts : Facts) → Each (λ quantifier. AllFree (quantifier_names quantifier)) quantifiers → Q facts → Q (quantifiers_formal quantifiers facts)
  keeps_formals [] facts free h = h
  keeps_formals (quantifier ∷ more) facts free h = keeps_formals more (declare_name facts quantifier.name (variable ty.Int)) free.1 (closed.put facts (spot_of quantifier.name.span) _ free.0.0 h)

  pub keeps_formal_quantifiers : (quantifiers : List Quantifier) (facts : Facts) → AllFree (flat_map quantifier_names quantifiers) → Q facts → Q (quantifiers_formal quantifiers facts)
  keeps_formal_quantifiers quantifiers facts free h = keeps_formals quantifiers facts (each-parts FreeName quantifier_names quantifiers free) h

  -- ---- formals of signatures

  pub keeps_params : (params : List NamedParam) (facts : Facts) → Each (FreeParam Free) params → Q facts → Q (params_declared params facts)
  keeps_params [] facts free h = h
  keeps_params (param ∷ params) facts free h = keeps_params params _ free.1 (closed.put facts param.spot _ free.0 h)

  abbrev named_signature : Signature-F TypeTree Formal Returned Signature → Signature-F (List Span) (List Span) (List Span) (List Span)
  named_signature = map-Signature TypeTree Formal Returned Signature (List Span) (List Span) (List Span) (List Span) type_names formal_names returned_names signature_names

  abbrev reads_signature : Signature-F TypeTree Formal Returned Signature → Signature-F Kinds ReadsFormals ReadsReturned ReadsSignature
  reads_signature = map-Signature TypeTree Formal Returned Signature Kinds ReadsFormals ReadsReturned ReadsSignature type_kinding formal_read returned_read signature_read

  signed_by : (y : Signature-F TypeTree Formal Returned Signature) (returned : Option Returned) (facts : Facts) → AllFree (signature_names_step (named_signature (record y { returned = returned }))) → Q facts
      → Q (signed_declared (signature_step (reads_signature (record y { returned = returned })) facts).signed facts)
  signed_by y None facts free h =
      keeps_params (all_params (formals_at (map formal_read y.formals) facts false)) facts (formals_free Free y.formals facts false (each-left FreeName (joined (map formal_names y.formals)) _ free)) h
  signed_by y (Some returned) facts free h =
      let params = all_params (formals_at (map formal_read y.formals) facts false) in
      let param = (returned_read returned facts).param in
      closed.put (params_declared params facts) param.spot _ (returned_free Free returned facts (each-right FreeName (joined (map formal_names y.formals)) _ free))
      (keeps_params params facts (formals_free Free y.formals facts false (each-left FreeName (joined (map formal_names y.formals)) _ free)) h)

  signed_in : (y : Signature-F TypeTree Formal Returned Signature) (facts : Facts) → AllFree (signature_names_step (named_signature y)) → Q facts
      → Q (signed_declared (signature_step (reads_signature y) facts).signed facts)
  signed_in y = signed_by y y.returned

  pub keeps_signed : (signature : Signature) (facts : Facts) → AllFree (signature_names signature) → Q facts → Q (signed_declared (signature_read signature facts).signed facts)
  keeps_signed signature facts free h =
      subst (λ (reads : ReadsSignature). Q (signed_declared (reads facts).signed facts))
      (sym (fold_out-Signature Kinds ReadsFormals ReadsReturned ReadsSignature type_step formal_step returned_step signature_step signature))
      (signed_in (out-Signature signature) facts
      (subst AllFree (fold_out-Signature (List Span) (List Span) (List Span) (List Span) type_names_step formal_names_step returned_names_step signature_names_step signature) free) h)

  -- ---- operations of blocks

  abbrev pub FitOps : List OpItem → Type 0
  FitOps = Each (λ op. Fit (spot_of (op_item_name op).span))

  abbrev pub FitSems : List Semaphore → Type 0
  FitSems = Each (λ semaphore. Fit (spot_of semaphore.name.span))

  keeps_ops_in : (operations : List OpItem) (facts : Facts) → FitOps operations → Q facts → Q (ops_declared true operations facts)
  keeps_ops_in [] facts fit h = h
  keeps_ops_in (op ∷ operations) facts fit h = keeps_ops_in operations _ fit.1 (closed.operation facts (spot_of (op_item_name op).span) (op_type facts op) facts.here.component.spot true fit.0 h)

  pub keeps_local_ops : (operations : List OpItem) (facts : Facts) → FitOps operations → Q facts → Q (ops_declared true operations (ops_entered operations facts))
  keeps_local_ops operations facts fit h = keeps_ops_in operations (ops_entered operations facts) fit (keeps_ops Q closed.entered operations facts h)

  pub keeps_local_sems : (semaphores : List Semaphore) (facts : Facts) → FitSems semaphores → Q facts → Q (sems_declared true semaphores facts)
  keeps_local_sems [] facts fit h = h
  keeps_local_sems (semaphore ∷ more) facts fit h =
      keeps_local_sems more _ fit.1 (closed.operation (entered semaphore_signature facts) (spot_of semaphore.name.span) _ _ true fit.0 (closed.entered facts semaphore_signature h))
