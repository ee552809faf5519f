-- A type that is written is by less that is known what it is by the end, or none: the walk over types.
use Rattle.std.proofs.Common.{◌≡◌, ◌⊎◌, inl, inr, ℕ, Bool, true, false, not, ◌||◌, List, [], ◌∷◌, ◌++◌, Option, Some, None, if◌then◌else◌, refl, sym, ap, subst, ◌∙◌}
use Rattle.std.proofs.lemmas.Bool.{or_parts, true≢false}
use Rattle.sr_check.specs.ErrorFree.{ErrorFree}
use Rattle.sr_check_decl.specs.Bounds.{item_type_rule}
use Rattle.sr_check_decl.specs.declared.kind.NamedParam.{NamedParam}
use Rattle.sr_check_decl.specs.declared.kind.Signed.{Signed}
use Rattle.sr_check_decl.specs.TypeTrees.{are_refused, array_by, array_type, capability_by, capability_kinding, decl_type, formals_of, is_refused, kinding, named_kinding, numbered_type, operation_type, signature_type, type_by, whole_signature}
use Rattle.sr_check_expr.specs.declared.facts.Facts.{Facts}
use Rattle.sr_check_expr.specs.declared.info.Info.{Info}
use Rattle.sr_check_expr.specs.declared.info.Info.TheVariants as info
use Rattle.sr_check_expr.specs.Infos.{info_at}
use Rattle.sr_check_expr.specs.Naming.{decl_info, decl_of, deciding}
use Rattle.sr_names.specs.declared.meaning.Decl.{Decl}
use Rattle.sr_names.specs.declared.meaning.Meaning.{Meaning}
use Rattle.sr_names.specs.declared.meaning.Meaning.TheVariants.{Declared}
use Rattle.sr_names.specs.Spots.{spot_of}
use Rattle.sr_names.specs.Uses.{meaning_at}
use Rattle.sr_tree.specs.declared.name.QualifiedName.{QualifiedName}
use Rattle.sr_tree.specs.declared.types.Decl.{Decl as DeclTree}
use Rattle.sr_tree.specs.declared.types.DimsTree.{DimsTree}
use Rattle.sr_types.specs.declared.signature.Mode.{Mode}
use Rattle.sr_types.specs.declared.signature.Signature.{Signature as TypeSignature}
use Rattle.sr_types.specs.declared.ty.Ty.{Ty, out-Ty, out-roll-Ty}
use Rattle.sr_types.specs.declared.ty.Ty.TheOpen.{Ty-F}
use Rattle.sr_types.specs.declared.ty.Ty.TheVariants as ty
use Rattle.sr_types.specs.Signatures.{number_of}
use Rattle.sr_types.specs.Types.{is_no_type, layer_is_untyped}
use Rattle.sr_value.specs.declared.place.Span.{Span}
use Rattle.sr_front.proofs.Constants.StaticNames.{IsIdle, SameDecl, SameMeaning, component_known, idle_known, same_known}

-- the same, or none
abbrev pub SameOrNone : Ty → Ty → Type 0
SameOrNone a b = (a ≡ b) ⊎ (a ≡ ty.Untyped)

pub no_type : is_no_type ty.Untyped ≡ true
no_type = ap layer_is_untyped (ap out-Ty (sym ty.rolls-Untyped) ∙ out-roll-Ty Ty-F.Untyped)

array_none : (dims : DimsTree) → array_type dims ty.Untyped ≡ ty.Untyped
array_none dims = ap (λ b. if b || not (item_type_rule ty.Untyped) then ty.Untyped else array_by dims.second ty.Untyped) no_type

pub array_same : (dims : DimsTree) (a b : Ty) → SameOrNone a b → SameOrNone (array_type dims a) (array_type dims b)
array_same dims a b (inl e) = inl (ap (array_type dims) e)
array_same dims a b (inr none) = inr (ap (array_type dims) none ∙ array_none dims)

-- ---- names of types

module _ (now end : Facts) (uses : now.uses ≡ end.uses) where
  kinding_same : (span : Span) (a b : Option Ty) → a ≡ b → SameOrNone (kinding span a).kind.ty (kinding span b).kind.ty
  kinding_same span a b e = inl (ap (λ one. (kinding span one).kind.ty) e)

  idle_type : (decl : Decl) (found : Option Info) → IsIdle found → type_by (Some decl) found ≡ None
  idle_type decl None idle = refl
  idle_type decl (Some (info.Value typed)) idle = refl
  idle_type decl (Some (info.Operation ty component is_local)) idle = refl
  idle_type decl (Some _) idle = absurd idle

  idle_cap : (decl : Decl) (found : Option Info) → IsIdle found → capability_by (Some decl) found ≡ None
  idle_cap decl None idle = refl
  idle_cap decl (Some (info.Value typed)) idle = refl
  idle_cap decl (Some (info.Operation ty component is_local)) idle = refl
  idle_cap decl (Some _) idle = absurd idle

  -- a name that means no type is refused
  refused : {A : Type 0} (span : Span) (found : Option Ty) → found ≡ None → ErrorFree (kinding span found).found → A
  refused span found none whole = absurd (subst (λ one. ErrorFree (kinding span one).found) none whole)

  type_same : (span : Span) (decl : Decl) → SameDecl now end decl → ErrorFree (kinding span (type_by (Some decl) (info_at end.infos decl.spot))).found
      → SameOrNone (kinding span (type_by (Some decl) (info_at now.infos decl.spot))).kind.ty (kinding span (type_by (Some decl) (info_at end.infos decl.spot))).kind.ty
  type_same span decl (same_known same sound types) whole = kinding_same span _ _ (ap (type_by (Some decl)) same)
  type_same span decl (idle_known idle) whole = refused span _ (idle_type decl (info_at end.infos decl.spot) idle) whole
  type_same span decl (component_known first second here there) whole = refused span _ (ap (type_by (Some decl)) there) whole

  cap_same : (span : Span) (decl : Decl) → SameDecl now end decl → ErrorFree (kinding span (capability_by (Some decl) (info_at end.infos decl.spot))).found
      → SameOrNone (kinding span (capability_by (Some decl) (info_at now.infos decl.spot))).kind.ty (kinding span (capability_by (Some decl) (info_at end.infos decl.spot))).kind.ty
  cap_same span decl (same_known same sound types) whole = kinding_same span _ _ (ap (capability_by (Some decl)) same)
  cap_same span decl (idle_known idle) whole = refused span _ (idle_cap decl (info_at end.infos decl.spot) idle) whole
  cap_same span decl (component_known first second here there) whole = kinding_same span _ _ (ap (capability_by (Some decl)) here ∙ sym (ap (capability_by (Some decl)) there))

  abbrev NameGood : QualifiedName → Type 0
  NameGood name = SameMeaning now end (meaning_at end.uses (spot_of (deciding name).span))

  meant_type : (span : Span) (meaning : Option Meaning) → SameMeaning now end meaning → ErrorFree (kinding span (type_by (decl_of meaning) (decl_info end.infos (decl_of meaning)))).found
      → SameOrNone (kinding span (type_by (decl_of meaning) (decl_info now.infos (decl_of meaning)))).kind.ty (kinding span (type_by (decl_of meaning) (decl_info end.infos (decl_of meaning)))).kind.ty
  meant_type span (Some (Declared decl)) same whole = type_same span decl same whole
  meant_type span _ same whole = inl refl

  meant_cap : (span : Span) (meaning : Option Meaning) → SameMeaning now end meaning → ErrorFree (kinding span (capability_by (decl_of meaning) (decl_info end.infos (decl_of meaning)))).found
      → SameOrNone (kinding span (capability_by (decl_of meaning) (decl_info now.infos (decl_of meaning)))).kind.ty (kinding span (capability_by (decl_of meaning) (decl_info end.infos (decl_of meaning)))).kind.ty
  meant_cap span (Some (Declared decl)) same whole = cap_same span decl same whole
  meant_cap span _ same whole = inl refl

  pub named_same : (span : Span) (name : QualifiedName) → NameGood name → ErrorFree (named_kinding end span name).found → SameOrNone (named_kinding now span name).kind.ty (named_kinding end span name).kind.ty
  named_same span name same whole =
      subst (λ meanings. SameOrNone (kinding span (type_by (decl_of (meaning_at meanings (spot_of (deciding name).span))) (decl_info now.infos (decl_of (meaning_at meanings (spot_of (deciding name).span)))))).kind.ty (named_kinding end span name).kind.ty)
      (sym uses) (meant_type span (meaning_at end.uses (spot_of (deciding name).span)) same whole)

  pub capability_same : (span : Span) (name : QualifiedName) → NameGood name → ErrorFree (capability_kinding end span name).found → SameOrNone (capability_kinding now span name).kind.ty (capability_kinding end span name).kind.ty
  capability_same span name same whole =
      subst (λ meanings. SameOrNone (kinding span (capability_by (decl_of (meaning_at meanings (spot_of (deciding name).span))) (decl_info now.infos (decl_of (meaning_at meanings (spot_of (deciding name).span)))))).kind.ty (capability_kinding end span name).kind.ty)
      (sym uses) (meant_cap span (meaning_at end.uses (spot_of (deciding name).span)) same whole)

-- ---- formals

pub any_parts : (xs ys : List NamedParam) → are_refused (xs ++ ys) ≡ false → (are_refused xs ≡ false) × (are_refused ys ≡ false)
any_parts [] ys h = (refl, h)
any_parts (x ∷ xs) ys h =
    let both = or_parts (is_no_type x.ty) (are_refused (xs ++ ys)) h in
    let more = any_parts xs ys both.1 in
    (ap (λ b. b || are_refused xs) both.0 ∙ more.0, more.1)

pub decl_none : (dims : Option DimsTree) → decl_type dims ty.Untyped ≡ ty.Untyped
decl_none None = refl
decl_none (Some dims) = array_none dims

-- where no formal is refused, all are the same
pub formals_same : (mode : Mode) (a b : Ty) → SameOrNone a b → (decls : List DeclTree) → are_refused (formals_of mode a decls) ≡ false → formals_of mode a decls ≡ formals_of mode b decls
formals_same mode a b (inl e) decls h = ap (λ type. formals_of mode type decls) e
formals_same mode a b (inr none) [] h = refl
formals_same mode a b (inr none) (decl ∷ decls) h =
    absurd (true≢false (sym (ap is_no_type (ap (decl_type decl.dims) none ∙ decl_none decl.dims) ∙ no_type) ∙ (or_parts (is_no_type (decl_type decl.dims a)) (are_refused (formals_of mode a decls)) h).0))

-- ---- signatures

module _ (now end : Facts) (numbers : (signature : TypeSignature) (number : ℕ) → number_of now.signatures signature ≡ Some number → number_of end.signatures signature ≡ Some number) where
  numbered_same : (signature : TypeSignature) → SameOrNone (operation_type now signature) (operation_type end signature)
  numbered_same signature = by (number_of now.signatures signature) refl
    where
      by : (number : Option ℕ) → number_of now.signatures signature ≡ number → SameOrNone (numbered_type (number_of now.signatures signature)) (numbered_type (number_of end.signatures signature))
      by None is = inr (ap numbered_type is)
      by (Some number) is = inl (ap numbered_type (is ∙ sym (numbers signature number is)))

  pub signature_same : (a b : Signed) → (is_refused a ≡ false → a ≡ b) → SameOrNone (signature_type now a) (signature_type end b)
  signature_same a b same = by (is_refused a) refl
    where
      whole : is_refused a ≡ false → SameOrNone (operation_type now (whole_signature a)) (operation_type end (whole_signature a)) → SameOrNone (signature_type now a) (signature_type end b)
      whole fine (inl e) =
          inl (ap (λ c. if c then ty.Untyped else operation_type now (whole_signature a)) fine ∙ e
          ∙ sym (ap (λ c. if c then ty.Untyped else operation_type end (whole_signature a)) fine) ∙ ap (signature_type end) (same fine))
      whole fine (inr none) = inr (ap (λ c. if c then ty.Untyped else operation_type now (whole_signature a)) fine ∙ none)

      by : (c : Bool) → is_refused a ≡ c → SameOrNone (signature_type now a) (signature_type end b)
      by true refused = inr (ap (λ c. if c then ty.Untyped else operation_type now (whole_signature a)) refused)
      by false fine = whole fine (numbered_same (whole_signature a))
