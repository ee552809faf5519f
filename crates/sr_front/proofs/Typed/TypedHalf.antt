-- What is declared outside of procs and blocks has the type that is read in the end, where its names mean the same: what is
-- known of operations comes of their heads.
use Rattle.std.proofs.Common.{◌≡◌, ℕ, ◌+◌, length, Bool, true, false, List, [], ◌∷◌, Option, Some, refl, sym, ap, map, subst, ◌∙◌, if◌then◌else◌}
use Rattle.std.proofs.lemmas.Bool.{false≢true}
use Rattle.sr_value.specs.declared.place.Span.{Span}
use Rattle.sr_names.specs.declared.spot.Spot.{Spot}
use Rattle.sr_names.specs.Spots.{spot_of}
use Rattle.sr_tree.specs.declared.declaration.ConstDecl.{ConstDecl}
use Rattle.sr_tree.specs.declared.declaration.VarDecl.{VarDecl}
use Rattle.sr_tree.specs.declared.declaration.OpTypeDecl.{OpTypeDecl}
use Rattle.sr_tree.specs.declared.declaration.TypeDecl.{TypeDecl}
use Rattle.sr_tree.specs.declared.name.Name.{Name}
use Rattle.sr_tree.specs.declared.name.QualifiedName.{QualifiedName}
use Rattle.sr_tree.specs.declared.component.Component.{Component}
use Rattle.sr_tree.specs.Parts.{formals_of, name_of}
use Rattle.sr_tree.specs.declared.types.Decl.{Decl as DeclTree}
use Rattle.sr_tree.specs.declared.types.Formal.{Formal}
use Rattle.sr_tree.specs.declared.types.Signature.{Signature as SignatureTree}
use Rattle.sr_tree.specs.declared.types.TypeTree.{TypeTree}
use Rattle.sr_types.specs.declared.ty.Ty.{Ty}
use Rattle.sr_types.specs.declared.ty.Ty.TheVariants as ty
use Rattle.sr_check_expr.specs.declared.facts.Facts.{Facts}
use Rattle.sr_check_expr.specs.declared.info.Info.{Info}
use Rattle.sr_check_expr.specs.declared.info.Info.TheVariants as info
use Rattle.sr_check_expr.specs.Arguments.{all_found, all_valued}
use Rattle.sr_check_expr.specs.Infos.{info_at, type_spot}
use Rattle.sr_check_expr.specs.Typings.{typed_exprs_of}
use Rattle.sr_check_decl.specs.declared.kind.BoundPolicy.{BoundPolicy}
use Rattle.sr_check_decl.specs.declared.kind.Kind.{Kind}
use Rattle.sr_check_decl.specs.declared.kind.NamedParam.{NamedParam}
use Rattle.sr_check_decl.specs.declared.tally.Tally.{Tally}
use Rattle.sr_check_decl.specs.Constants.{const_found, const_of}
use Rattle.sr_check_decl.specs.Declaring.{enumeration_declared, field_info, fields_of, literal_info, literals_declared, name_declared, component_formals, component_typed, const_declared, head_declared, making, optype_declared, params_declared, var_declared, written_type}
use Rattle.sr_check_decl.specs.Entering.{entered, formals_entered, signature_entered, signature_read_in, signed_entered, type_entered}
use Rattle.sr_check_decl.specs.TypeTrees.{all_params, decl_found, decl_type, decls_found, fixed_bounds, formal_read, formals_at, formals_found, free_bounds, signature_read, signature_type, type_kinding, whole_signature}
use Rattle.sr_check_decl.specs.Variables.{declare, typings_of, var_found, variable, vars_declared}
use Rattle.sr_check.specs.ErrorFree.{ErrorFree}
use Rattle.sr_check.proofs.Each.{Each}
use Rattle.sr_check.proofs.Entered.{keeps_formals, keeps_signature, keeps_type}
use Rattle.sr_check.proofs.ErrorFree.{error_free_first, error_free_second}
use Rattle.sr_front.proofs.Typed.Typed.{FieldsTyped, FoundTyped, IsTyped, ValueTyped, typed_test}
use Rattle.sr_front.proofs.Typed.TypedTypes.{Agrees, Counts, InfosTyped, ParamsTyped, SignaturesTyped, SignedTyped, all_uses, decl_typed, entered_typed, formal_uses, formals_agree, formals_typed, later_itself, signature_agrees, signature_typed, signature_uses, signed_is, signed_kept, type_agrees, type_part, type_typed, type_uses}
use Rattle.sr_front.proofs.Typed.PassingParts.{whole_passes}
use Rattle.sr_front.proofs.Typed.PassingTypes.{enum_passes, op_passes}
use Rattle.sr_front.proofs.Lists.Put.{put_holds}

-- what is known has a type, but for operations and components
abbrev pub HalfTyped : Option Info → Type 0
HalfTyped (Some (info.Value typed)) = ValueTyped typed
HalfTyped (Some (info.«Type» type)) = IsTyped type
HalfTyped (Some (info.Record fields)) = FieldsTyped fields
HalfTyped (Some (info.OpType type)) = IsTyped type
HalfTyped _ = Unit {0}

pub record Half (facts : Facts) : Type 0 where
  pub infos : (spot : Spot) → HalfTyped (info_at facts.infos spot)
  pub signatures : SignaturesTyped facts

half_part : (found : Option Info) → HalfTyped found → FoundTyped (type_part found)
half_part (Some (info.«Type» type)) h = h
half_part (Some (info.Record fields)) h = h
half_part (Some (info.OpType type)) h = h
half_part _ h = tt

pub half_types : (facts : Facts) → Half facts → InfosTyped facts
half_types facts half spot = half_part (info_at facts.infos spot) (half.infos spot)

pub half_put : (facts : Facts) (spot : Spot) (one : Info) → HalfTyped (Some one) → Half facts → Half (declare facts spot one)
half_put facts spot one typed half = record {
  infos = λ other. put_holds facts spot one (λ at. HalfTyped) typed other (λ apart. half.infos other);
  signatures = half.signatures;
}

-- a type that is written: `end` is what is known where no rule is broken
pub half_type : (tree : TypeTree) (facts end : Facts) (policy : BoundPolicy) → Half facts → Each (Agrees facts end) (type_uses tree) → Counts (type_entered tree facts) end → ErrorFree (type_kinding tree end policy).found
    → Half (type_entered tree facts) × (((type_kinding tree (type_entered tree facts) policy).kind.ty ≡ (type_kinding tree end policy).kind.ty) × IsTyped (type_kinding tree end policy).kind.ty)
half_type tree facts end policy half agree counts whole =
    let after = type_entered tree facts in
    let read = type_agrees tree facts end policy (half_types facts half) agree counts in
    let here = type_typed tree facts after policy (half_types facts half) (later_itself after) in (
      record {
        infos = keeps_type (λ now. (spot : Spot) → HalfTyped (info_at now.infos spot)) (λ now signature h. h) tree facts half.infos;
        signatures = read.signatures whole half.signatures;
      },
      (here.same ∙ sym read.same, subst IsTyped (sym read.same) (read.typed whole)),
    )

-- a constant with a type
pub half_const : (in_spec : Bool) (constant : ConstDecl) (tree : TypeTree) (facts end : Facts) → Half facts → Each (Agrees facts end) (type_uses tree) → Counts (type_entered tree facts) end
    → ErrorFree (const_found in_spec end (record constant { ty = Some tree })) → Half (const_declared in_spec (record constant { ty = Some tree }) facts)
half_const in_spec constant tree facts end half agree counts whole =
    let after = type_entered tree facts in
    let read = half_type tree facts end fixed_bounds half agree counts (error_free_first (type_kinding tree end fixed_bounds).found _ whole) in
    half_put after (spot_of constant.name.span) (info.Value (const_of in_spec after (record constant { ty = Some tree }))) (subst IsTyped (sym read.1.0) read.1.1, λ place. absurd (false≢true place)) read.0

half_vars : (policy : BoundPolicy) (end : Facts) (item : Kind) (type : Ty) (decls : List DeclTree) (facts : Facts) → type ≡ item.ty → IsTyped item.ty → ErrorFree (decls_found policy end item decls) → Half facts → Half (vars_declared type decls facts)
half_vars policy end item type [] facts same typed whole half = half
half_vars policy end item type (decl ∷ decls) facts same typed whole half =
    let one = decl_typed policy end decl.dims item typed (error_free_first (decl_found policy end item decl.dims) _ whole) in
    half_vars policy end item type decls (declare facts (spot_of decl.name.span) (variable (decl_type decl.dims type))) same typed (error_free_second (decl_found policy end item decl.dims) _ whole)
    (half_put facts (spot_of decl.name.span) (variable (decl_type decl.dims type)) (subst (λ t. IsTyped (decl_type decl.dims t)) (sym same) one, λ place. refl) half)

-- variables with a type
pub half_var : (variables : VarDecl) (tree : TypeTree) (facts end : Facts) → Half facts → Each (Agrees facts end) (type_uses tree) → Counts (type_entered tree facts) end
    → ErrorFree (var_found end (record variables { ty = Some tree })) → Half (var_declared (record variables { ty = Some tree }) facts)
half_var variables tree facts end half agree counts whole =
    let after = type_entered tree facts in
    let kinds = type_kinding tree end free_bounds in
    let values = typings_of end variables.values in
    let rules = error_free_second (all_valued (typed_exprs_of values)) _ (error_free_second (all_found values) _ whole) in
    let read = half_type tree facts end free_bounds half agree counts (error_free_first kinds.found _ rules) in
    half_vars free_bounds end kinds.kind (type_kinding tree after free_bounds).kind.ty variables.decls after read.1.0 read.1.1
    (error_free_first (decls_found free_bounds end kinds.kind variables.decls) _ (error_free_second kinds.found _ rules)) read.0

-- ---- signatures

abbrev pub half_infos : Facts → Type 0
half_infos now = (spot : Spot) → HalfTyped (info_at now.infos spot)

-- a signature that is written
pub half_signature : (tree : SignatureTree) (facts end : Facts) → Half facts → Each (Agrees facts end) (signature_uses tree) → Counts (signature_entered tree facts) end → ErrorFree (signature_read tree end).found
    → Half (signature_entered tree facts) × IsTyped (written_type tree (signature_entered tree facts))
half_signature tree facts end half agree counts whole =
    let after = signature_entered tree facts in
    let read = signature_agrees tree facts end (half_types facts half) agree counts in
    let here = signature_typed tree facts after (half_types facts half) (later_itself after) in
    let signed = (signature_read_in tree facts).read in
    let kept = signed_kept signed (read.typed whole) in
    let number = read.numbered kept in
    let is : signature_type after (signature_read tree after).signed ≡ ty.Op number.0 = ap (signature_type after) here.same ∙ signed_is after signed number.0 kept number.1 in (
      record { infos = keeps_signature half_infos (λ now signature h. h) tree facts half.infos; signatures = read.signatures whole half.signatures },
      subst IsTyped (sym is) (op_passes typed_test number.0 refl),
    )

-- the name of a type of operations
pub half_optype : (named : OpTypeDecl) (facts end : Facts) → Half facts → Each (Agrees facts end) (signature_uses named.signature) → Counts (signature_entered named.signature facts) end → ErrorFree (signature_read named.signature end).found
    → Half (optype_declared named facts)
half_optype named facts end half agree counts whole =
    let after = signature_entered named.signature facts in
    let read = half_signature named.signature facts end half agree counts whole in
    half_put after (spot_of named.name.span) (info.OpType (written_type named.signature after)) read.1 read.0

-- an operation, whatever its type is
pub half_operation : (facts : Facts) (spot : Spot) (type : Ty) (component : Spot) (is_local : Bool) → Half facts → Half (declare facts spot (info.Operation type component is_local))
half_operation facts spot type component is_local half = half_put facts spot (info.Operation type component is_local) tt half

-- ---- formals and fields

-- formals or fields that are written
pub half_formals : (formals : List Formal) (facts end : Facts) (is_field : Bool) → Half facts → Each (Agrees facts end) (all_uses (map formal_uses formals)) → Counts (formals_entered formals facts) end
    → ErrorFree (formals_found (formals_at (map formal_read formals) end is_field))
    → Half (formals_entered formals facts) × ParamsTyped (all_params (formals_at (map formal_read formals) (formals_entered formals facts) is_field))
half_formals formals facts end is_field half agree counts whole =
    let after = formals_entered formals facts in
    let read = formals_agree formals facts end is_field (half_types facts half) agree counts in
    let here = formals_typed formals facts after is_field (half_types facts half) (later_itself after) in (
      record { infos = keeps_formals half_infos (λ now signature h. h) formals facts half.infos; signatures = read.signatures whole half.signatures },
      subst ParamsTyped (sym here.same) (read.typed whole),
    )

pub half_params : (params : List NamedParam) (facts : Facts) → ParamsTyped params → Half facts → Half (params_declared params facts)
half_params [] facts each half = half
half_params (param ∷ params) facts each half = half_params params (declare facts param.spot (variable param.ty)) each.1 (half_put facts param.spot (variable param.ty) (each.0, λ place. refl) half)

-- what makes an instance, and the formals of its component
pub half_head : (component : Component) (facts end : Facts) → Half facts → Each (Agrees facts end) (all_uses (map formal_uses (formals_of component))) → Counts (formals_entered (formals_of component) facts) end
    → ErrorFree (formals_found (formals_at (map formal_read (formals_of component)) end false)) → Half (head_declared component facts)
half_head component facts end half agree counts whole =
    let after = formals_entered (formals_of component) facts in
    let read = half_formals (formals_of component) facts end false half agree counts whole in
    let params = component_formals after (formals_of component) in
    let signed = making params in
    let typed : SignedTyped signed = record { params = read.1; returned = tt } in
    let all = entered (whole_signature signed) after in
    let same : signed_entered signed after ≡ all = ap (λ (met : Bool). if met then after else all) (signed_kept signed typed) in
    let made : Half all = record { infos = read.0.infos; signatures = entered_typed after (whole_signature signed) (whole_passes typed_test signed typed) read.0.signatures } in
    let known : Half (signed_entered signed after) = subst Half (sym same) made in
    half_params params (component_typed (name_of component) signed (signed_entered signed after)) read.1 (half_put (signed_entered signed after) (spot_of (name_of component).span) (info.Component (signature_type (signed_entered signed after) signed)) tt known)

-- ---- what is written where its signatures have numbers already

agrees_itself : (names : List QualifiedName) (facts : Facts) → Each (Agrees facts facts) names
agrees_itself [] facts = tt
agrees_itself (name ∷ names) facts = ((refl, refl), agrees_itself names facts)

-- a type
pub half_written : (tree : TypeTree) (facts end : Facts) (policy : BoundPolicy) → Half facts → Each (Agrees facts end) (type_uses tree) → Counts (type_entered tree facts) end → Counts (type_entered tree facts) facts → ErrorFree (type_kinding tree end policy).found
    → IsTyped (type_kinding tree facts policy).kind.ty
half_written tree facts end policy half agree counts again whole =
    let read = type_agrees tree facts end policy (half_types facts half) agree counts in
    let here = type_agrees tree facts facts policy (half_types facts half) (agrees_itself (type_uses tree) facts) again in
    subst IsTyped (sym here.same) (read.typed whole)

-- the name of a type
pub half_named : (named : TypeDecl) (tally : Tally) (end : Facts) → Half tally.facts → Each (Agrees tally.facts end) (type_uses named.ty) → Counts (type_entered named.ty tally.facts) end → Counts (type_entered named.ty tally.facts) tally.facts
    → ErrorFree (type_kinding named.ty end fixed_bounds).found → Half (name_declared named tally).facts
half_named named tally end half agree counts again whole =
    half_put tally.facts (spot_of named.name.span) (info.«Type» (type_kinding named.ty tally.facts fixed_bounds).kind.ty) (half_written named.ty tally.facts end fixed_bounds half agree counts again whole) half

fields_typed : (params : List NamedParam) → ParamsTyped params → FieldsTyped (map field_info params)
fields_typed [] each = tt
fields_typed (param ∷ params) each = (each.0, fields_typed params each.1)

-- a record
pub half_record : (span : Span) (fields : List Formal) (tally : Tally) (end : Facts) → Half tally.facts → Each (Agrees tally.facts end) (all_uses (map formal_uses fields)) → Counts (formals_entered fields tally.facts) end
    → Counts (formals_entered fields tally.facts) tally.facts → ErrorFree (formals_found (formals_at (map formal_read fields) end true)) → Half (declare tally.facts (spot_of span) (info.Record (fields_of tally.facts fields)))
half_record span fields tally end half agree counts again whole =
    let facts = tally.facts in
    let read = formals_agree fields facts end true (half_types facts half) agree counts in
    let here = formals_agree fields facts facts true (half_types facts half) (agrees_itself (all_uses (map formal_uses fields)) facts) again in
    half_put facts (spot_of span) (info.Record (fields_of facts fields)) (fields_typed (all_params (formals_at (map formal_read fields) facts true)) (subst ParamsTyped (sym here.same) (read.typed whole))) half

half_literals : (spot : Spot) (number index : ℕ) (names : List Name) (facts : Facts) → Half facts → Half (literals_declared spot number index names facts)
half_literals spot number index [] facts half = half
half_literals spot number index (name ∷ names) facts half =
    half_literals spot number (index + 1) names (declare facts (spot_of name.span) (literal_info spot number index))
    (half_put facts (spot_of name.span) (literal_info spot number index) (enum_passes typed_test (type_spot spot), λ place. absurd (false≢true place)) half)

-- an enumeration
pub half_enumeration : (span : Span) (literals : List Name) (tally : Tally) → Half tally.facts → Half (enumeration_declared span literals tally).facts
half_enumeration span literals tally half =
    let one = info.Enumeration tally.enumerations (length literals) in
    half_literals (spot_of span) tally.enumerations 0 literals (declare tally.facts (spot_of span) one) (half_put tally.facts (spot_of span) one tt half)
