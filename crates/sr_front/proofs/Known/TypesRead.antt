-- A type that is written is by less that is known what it is by the end, or none, where no rule is broken in it by the end: the walk over types.
use Rattle.std.proofs.Common.{◌≡◌, inl, inr, ℕ, Bool, false, List, [], ◌∷◌, ◌++◌, flat_map, map, Option, Some, None, refl, sym, ap, ◌∙◌}
use Rattle.std.proofs.lemmas.Bool.{or_parts, true≢false}
use Rattle.sr_check.proofs.Each.{Each, each-left, each-right}
use Rattle.sr_check.proofs.ErrorFree.{error_free_first, error_free_second}
use Rattle.sr_check.specs.ErrorFree.{ErrorFree}
use Rattle.sr_check_decl.specs.declared.kind.BoundPolicy.{BoundPolicy}
use Rattle.sr_check_decl.specs.declared.kind.NamedParam.{NamedParam}
use Rattle.sr_check_decl.specs.TypeTrees.{Kinds, ReadsFormals, ReadsReturned, ReadsSignature, all_params, are_refused, decl_type, fixed_bounds, formal_bounds, formal_read, formal_step, formals_at, formals_found, forms_of, is_refused, mode_of, param_of, returned_read, returned_step, signature_read, signature_step, type_kinding, type_step}
use Rattle.sr_check_expr.specs.declared.facts.Facts.{Facts}
use Rattle.sr_names.specs.Spots.{spot_of}
use Rattle.sr_names.specs.Uses.{meaning_at}
use Rattle.sr_check_expr.specs.Naming.{deciding}
use Rattle.sr_order.specs.Names.{decl_names, dims_names, formal_names, qualified_names, type_names}
use Rattle.sr_order.specs.Spans.{joined}
use Rattle.sr_tree.specs.declared.name.Name.{Name}
use Rattle.sr_tree.specs.declared.name.QualifiedName.{QualifiedName}
use Rattle.sr_tree.specs.declared.types.TypeTree.{TypeTree}
use Rattle.sr_tree.specs.declared.types.TypeTree.TheOpen.{TypeTree-F}
use Rattle.sr_types.specs.declared.signature.Mode.TheVariants.{Res}
use Rattle.sr_types.specs.declared.signature.Signature.{Signature as TypeSignature}
use Rattle.sr_types.specs.Signatures.{number_of}
use Rattle.sr_types.specs.Types.{is_no_type}
use Rattle.sr_value.specs.declared.place.Span.{Span}
use Rattle.sr_front.proofs.Constants.StaticNames.{SameMeaning}
use Rattle.sr_tree.proofs.TypeFolds.{FormalFits, FormalNode, KnownFormal, KnownReturned, Related, ReturnedFits, ReturnedNode, SignatureFits, SignatureNode, TypeFits, TypeFold, TypeNode, type_related}
use Rattle.sr_order.proofs.NameFolds.{type_naming}
use Rattle.sr_front.proofs.Known.TypesThen.{SameOrNone, any_parts, array_same, capability_same, decl_none, formals_same, named_same, no_type, signature_same}

deciding_at : (P : Span → Type 0) (span : Span) (first : Name) (second : Option Name) → Each P (qualified_names (record { span = span; first = first; second = second })) → P (deciding (record { span = span; first = first; second = second })).span
deciding_at P span first None all = all.0
deciding_at P span first (Some name) all = all.1.0

deciding_in : (P : Span → Type 0) (name : QualifiedName) → Each P (qualified_names name) → P (deciding name).span
deciding_in P name all = deciding_at P name.span name.first name.second all

abbrev reads_fold : TypeFold
reads_fold = record {
  OfType = Kinds;
  OfFormal = ReadsFormals;
  OfReturned = ReadsReturned;
  OfSignature = ReadsSignature;
  type_step = type_step;
  formal_step = formal_step;
  returned_step = returned_step;
  signature_step = signature_step;
}

module _ (now end : Facts) (uses : now.uses ≡ end.uses) (numbers : (signature : TypeSignature) (number : ℕ) → number_of now.signatures signature ≡ Some number → number_of end.signatures signature ≡ Some number) where
  -- the same is known of what a name means
  abbrev pub SameName : Span → Type 0
  SameName span = SameMeaning now end (meaning_at end.uses (spot_of span))

  abbrev Same : List Span → Type 0
  Same = Each SameName

  abbrev TypeStep : List Span → Kinds → Type 0
  TypeStep names kinds = Same names → (policy : BoundPolicy) → ErrorFree (kinds end policy).found → SameOrNone (kinds now policy).kind.ty (kinds end policy).kind.ty

  abbrev FormalStep : List Span → ReadsFormals → Type 0
  FormalStep names reads = Same names → (is_field : Bool) → ErrorFree (reads end is_field).found → are_refused (reads now is_field).params ≡ false → (reads now is_field).params ≡ (reads end is_field).params

  abbrev ReturnedStep : List Span → ReadsReturned → Type 0
  ReturnedStep names reads = Same names → ErrorFree (reads end).found → is_no_type (reads now).param.ty ≡ false → (reads now).param ≡ (reads end).param

  abbrev SignatureStep : List Span → ReadsSignature → Type 0
  SignatureStep names reads = Same names → ErrorFree (reads end).found → is_refused (reads now).signed ≡ false → (reads now).signed ≡ (reads end).signed

  abbrev alike : Related
  alike = record {
    first = type_naming;
    second = reads_fold;
    third = type_naming;
    Types = λ (names : List Span) (kinds : Kinds) (spans : List Span). TypeStep names kinds;
    Formals = λ (names : List Span) (reads : ReadsFormals) (spans : List Span). FormalStep names reads;
    Returns = λ (names : List Span) (reads : ReadsReturned) (spans : List Span). ReturnedStep names reads;
    Signatures = λ (names : List Span) (reads : ReadsSignature) (spans : List Span). SignatureStep names reads;
  }

  abbrev F : Type 0
  F = KnownFormal alike

  abbrev R : Type 0
  R = KnownReturned alike

  -- ---- each kind from its parts

  type_good : (y : TypeNode alike) → TypeFits alike y
  type_good (TypeTree-F.CapOf span name) same policy whole = capability_same now end uses span name (deciding_in SameName name same) whole
  type_good (TypeTree-F.CapOperation span signature) same policy whole =
      signature_same now end numbers (signature_read signature.0 now).signed (signature_read signature.0 end).signed (signature.1 same whole)
  type_good (TypeTree-F.Array span dims item) same policy whole =
      array_same dims (type_kinding item.0 now policy).kind.ty (type_kinding item.0 end policy).kind.ty
      (item.1 (each-right SameName (dims_names dims) _ same) policy (error_free_first (type_kinding item.0 end policy).found _ whole))
  type_good (TypeTree-F.Named span name) same policy whole = named_same now end uses span name (deciding_in SameName name same) whole
  type_good _ same policy whole = inl refl

  formal_good : (y : FormalNode alike) → FormalFits alike y
  formal_good y same is_field whole fine =
      let policy = formal_bounds is_field (mode_of y.mode) in
      formals_same (mode_of y.mode) (type_kinding y.ty.0 now policy).kind.ty (type_kinding y.ty.0 end policy).kind.ty
      (y.ty.1 (each-right SameName (flat_map decl_names y.decls) _ same) policy (error_free_first (type_kinding y.ty.0 end policy).found _ whole)) y.decls fine

  returned_good : (y : ReturnedNode alike) → ReturnedFits alike y
  returned_good y same whole fine =
      by (y.ty.1 (each-right SameName (decl_names y.decl) _ same) fixed_bounds (error_free_first (type_kinding y.ty.0 end fixed_bounds).found _ whole))
    where
      by : SameOrNone (type_kinding y.ty.0 now fixed_bounds).kind.ty (type_kinding y.ty.0 end fixed_bounds).kind.ty
          → param_of Res (type_kinding y.ty.0 now fixed_bounds).kind.ty y.decl ≡ param_of Res (type_kinding y.ty.0 end fixed_bounds).kind.ty y.decl
      by (inl e) = ap (λ type. param_of Res type y.decl) e
      by (inr none) = absurd (true≢false (sym (ap is_no_type (ap (decl_type y.decl.dims) none ∙ decl_none y.decl.dims) ∙ no_type) ∙ fine))

  abbrev params_in : List F → Facts → List NamedParam
  params_in xs facts = all_params (formals_at (map formal_read (map (λ (x : F). x.0) xs)) facts false)

  all_same : (xs : List F) → Same (joined (map formal_names (map (λ (x : F). x.0) xs))) → ErrorFree (formals_found (formals_at (map formal_read (map (λ (x : F). x.0) xs)) end false))
      → are_refused (params_in xs now) ≡ false → params_in xs now ≡ params_in xs end
  all_same [] same whole fine = refl
  all_same (x ∷ xs) same whole fine =
      let parts = any_parts (formal_read x.0 now false).params (params_in xs now) fine in
      let one = x.1 (each-left SameName (formal_names x.0) _ same) false (error_free_first (formal_read x.0 end false).found _ whole) parts.0 in
      let more = all_same xs (each-right SameName (formal_names x.0) _ same) (error_free_second (formal_read x.0 end false).found _ whole) parts.1 in
      ap (λ params. params ++ params_in xs now) one ∙ ap (λ params. (formal_read x.0 end false).params ++ params) more

  signature_by : (y : SignatureNode alike) (returned : Option R) → SignatureFits alike (record y { returned = returned })
  signature_by y None same whole fine =
      let parts = or_parts (are_refused (params_in y.formals now)) false fine in
      ap (λ params. record { params = params; returned = None; forms = forms_of y.kinds })
      (all_same y.formals (each-left SameName (joined (map formal_names (map (λ (x : F). x.0) y.formals))) _ same)
      (error_free_first (formals_found (formals_at (map formal_read (map (λ (x : F). x.0) y.formals)) end false)) _ whole) parts.0)
  signature_by y (Some returned) same whole fine =
      let parts = or_parts (are_refused (params_in y.formals now)) (is_no_type (returned_read returned.0 now).param.ty) fine in
      let found = formals_found (formals_at (map formal_read (map (λ (x : F). x.0) y.formals)) end false) in
      let spans = joined (map formal_names (map (λ (x : F). x.0) y.formals)) in
      ap (λ params. record { params = params; returned = Some (returned_read returned.0 now).param; forms = forms_of y.kinds }) (all_same y.formals (each-left SameName spans _ same) (error_free_first found _ whole) parts.0)
      ∙ ap (λ param. record { params = params_in y.formals end; returned = Some param; forms = forms_of y.kinds })
      (returned.1 (each-right SameName spans _ same) (error_free_second found _ whole) parts.1)

  signature_good : (y : SignatureNode alike) → SignatureFits alike y
  signature_good y = signature_by y y.returned

  -- a type that is written
  pub type_then : (tree : TypeTree) → Same (type_names tree) → (policy : BoundPolicy) → ErrorFree (type_kinding tree end policy).found → SameOrNone (type_kinding tree now policy).kind.ty (type_kinding tree end policy).kind.ty
  type_then = type_related alike (record { types = type_good; formals = formal_good; returns = returned_good; signatures = signature_good })
