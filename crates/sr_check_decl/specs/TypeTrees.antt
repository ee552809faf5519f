-- Types as they are written: what is found in them, and what types they are.
use Rattle.std.specs.Prelude.{ℕ, ℤ, pos, Bool, true, false, not, ◌&&◌, ◌||◌, List, [], ◌∷◌, ◌++◌, Option, Some, None, if◌then◌else◌, map}
use Rattle.std.specs.List.{list_any}
use Rattle.std.specs.Option.{option_map}
use Rattle.sr_value.specs.declared.place.Span.{Span}
use Rattle.sr_names.specs.declared.finding.Finding.{Finding}
use Rattle.sr_names.specs.declared.finding.Rule.TheVariants.{BadType}
use Rattle.sr_names.specs.declared.meaning.Decl.{Decl}
use Rattle.sr_names.specs.Spots.{spot_of}
use Rattle.sr_names.specs.Uses.{meaning_at}
use Rattle.sr_tree.specs.declared.expr.Expr.{Expr}
use Rattle.sr_tree.specs.declared.name.QualifiedName.{QualifiedName}
use Rattle.sr_tree.specs.declared.types.Decl.{Decl as DeclTree}
use Rattle.sr_tree.specs.declared.types.DimsTree.{DimsTree}
use Rattle.sr_tree.specs.declared.types.Formal.{Formal, fold-Formal}
use Rattle.sr_tree.specs.declared.types.InvocationKind.{InvocationKind}
use Rattle.sr_tree.specs.declared.types.InvocationKind.TheVariants as kind
use Rattle.sr_tree.specs.declared.types.PassMode.{PassMode}
use Rattle.sr_tree.specs.declared.types.PassMode.TheVariants as pass
use Rattle.sr_tree.specs.declared.types.RangeTree.{RangeTree}
use Rattle.sr_tree.specs.declared.types.RangeTree.TheVariants.{Length, Bounds, From, Any}
use Rattle.sr_tree.specs.declared.types.Returned.{Returned, fold-Returned}
use Rattle.sr_tree.specs.declared.types.Signature.{Signature as SignatureTree, fold-Signature}
use Rattle.sr_tree.specs.declared.types.TypeTree.{TypeTree, fold-TypeTree}
use Rattle.sr_tree.specs.declared.types.TypeTree.TheOpen.{TypeTree-F, Formal-F, Returned-F, Signature-F}
use Rattle.sr_types.specs.declared.signature.Forms.{Forms}
use Rattle.sr_types.specs.declared.signature.Forms.TheVariants.{Both, Call, Send}
use Rattle.sr_types.specs.declared.signature.Mode.{Mode}
use Rattle.sr_types.specs.declared.signature.Mode.TheVariants.{Val, Var, Res}
use Rattle.sr_types.specs.declared.signature.Param.{Param}
use Rattle.sr_types.specs.declared.signature.Signature.{Signature}
use Rattle.sr_types.specs.declared.ty.Ty.{Ty}
use Rattle.sr_types.specs.declared.ty.Ty.TheVariants as ty
use Rattle.sr_types.specs.declared.typed.Typed.{Typed}
use Rattle.sr_types.specs.Signatures.{number_of}
use Rattle.sr_types.specs.Types.{is_no_type}
use Rattle.sr_check_expr.specs.declared.facts.Facts.{Facts}
use Rattle.sr_check_expr.specs.declared.info.Info.{Info}
use Rattle.sr_check_expr.specs.declared.info.Info.TheVariants as info
use Rattle.sr_check_decl.specs.declared.kind.BoundPolicy.{BoundPolicy}
use Rattle.sr_check_decl.specs.declared.kind.Kind.{Kind}
use Rattle.sr_check_decl.specs.declared.kind.NamedParam.{NamedParam}
use Rattle.sr_check_decl.specs.declared.kind.Signed.{Signed}
use Rattle.sr_check_decl.specs.Bounds.{int_rule, static_int, fixed_length_rule, fixed_int_rule, ends_in_range, item_type_rule}
use Rattle.sr_check_expr.specs.Exprs.{infer_expr}
use Rattle.sr_check_expr.specs.Infos.{type_spot}
use Rattle.sr_check_expr.specs.Typings.{Typing, valued, broken_unless}
use Rattle.sr_check_expr.specs.Naming.{decl_of, decl_info, deciding}
use Rattle.sr_check_expr.specs.PredefinedCalls.{is_resource}

-- bounds in the type of a `var` needn't be static; those in type declarations, constants, signatures, fields and
-- formals are
abbrev pub free_bounds : BoundPolicy
free_bounds = record { fixed = false; takes_star = false }

abbrev pub fixed_bounds : BoundPolicy
fixed_bounds = record { fixed = true; takes_star = false }

-- a type, with what is found in it
pub record Kinding : Type 0 where
  pub found : List Finding
  pub kind : Kind

abbrev pub kinding_at : Span → List Finding → Ty → Kinding
kinding_at span found ty = record { found = found; kind = record { span = span; ty = ty } }

-- ---- bounds and lengths

-- a bound is an int, and known before the run where it has to be static
abbrev pub bound_rule : Bool → Typed → Bool
bound_rule true bound = fixed_int_rule bound
bound_rule false bound = int_rule bound

-- so is the length of a string, which isn't below 0 where it has to be static
abbrev pub length_rule : Bool → Typed → Bool
length_rule true length = fixed_length_rule length
length_rule false length = int_rule length

abbrev pub bound_found : Bool → Typing → List Finding
bound_found fixed bound = valued bound ++ broken_unless (bound_rule fixed bound.typed_expr.typed) BadType bound.typed_expr.span

abbrev pub length_found : Bool → Typing → List Finding
length_found fixed length = valued length ++ broken_unless (length_rule fixed length.typed_expr.typed) BadType length.typed_expr.span

-- where bounds have to be static, the higher isn't below the lower by more than 1
abbrev pub ends_rule : Bool → Option ℤ → Option ℤ → Bool
ends_rule fixed low high = not fixed || ends_in_range low high

abbrev pub star_found : BoundPolicy → Span → List Finding
star_found bound_policy span = broken_unless bound_policy.takes_star BadType span

-- `[n]` is `[1:n]`
abbrev pub range_found : BoundPolicy → Facts → RangeTree → List Finding
range_found bound_policy facts (Length span length) =
    bound_found bound_policy.fixed (infer_expr length facts)
    ++ broken_unless (ends_rule bound_policy.fixed (Some (pos 1)) (static_int (infer_expr length facts).typed_expr.typed.value)) BadType span
range_found bound_policy facts (Bounds span low high) =
    bound_found bound_policy.fixed (infer_expr low facts)
    ++ (bound_found bound_policy.fixed (infer_expr high facts)
    ++ broken_unless (ends_rule bound_policy.fixed (static_int (infer_expr low facts).typed_expr.typed.value) (static_int (infer_expr high facts).typed_expr.typed.value)) BadType span)
range_found bound_policy facts (From span low) = bound_found bound_policy.fixed (infer_expr low facts) ++ star_found bound_policy span
range_found bound_policy facts (Any span) = star_found bound_policy span

abbrev pub second_range_found : BoundPolicy → Facts → Option RangeTree → List Finding
second_range_found bound_policy facts None = []
second_range_found bound_policy facts (Some range) = range_found bound_policy facts range

abbrev pub dims_found : BoundPolicy → Facts → DimsTree → List Finding
dims_found bound_policy facts dims = range_found bound_policy facts dims.first ++ second_range_found bound_policy facts dims.second

abbrev pub array_by : Option RangeTree → Ty → Ty
array_by None item = ty.Vector item
array_by (Some range) item = ty.Matrix item

-- an array whose items have a type that isn't refused and is no array
abbrev pub array_type : DimsTree → Ty → Ty
array_type dims item = if is_no_type item || not (item_type_rule item) then ty.Untyped else array_by dims.second item

-- the item type of an array is no array
abbrev pub array_found : BoundPolicy → Facts → DimsTree → Kind → List Finding
array_found bound_policy facts dims item = dims_found bound_policy facts dims ++ broken_unless (item_type_rule item.ty) BadType item.span

-- a name that is declared may have dims of its own
abbrev pub decl_found : BoundPolicy → Facts → Kind → Option DimsTree → List Finding
decl_found bound_policy facts item None = []
decl_found bound_policy facts item (Some dims) = array_found bound_policy facts dims item

abbrev pub decl_type : Option DimsTree → Ty → Ty
decl_type None ty = ty
decl_type (Some dims) ty = array_type dims ty

abbrev pub decls_found : BoundPolicy → Facts → Kind → List DeclTree → List Finding
decls_found bound_policy facts item [] = []
decls_found bound_policy facts item (decl ∷ decls) = decl_found bound_policy facts item decl.dims ++ decls_found bound_policy facts item decls

-- ---- names of types

abbrev pub declared_type : Decl → Info → Option Ty
declared_type decl (info.«Type» ty) = Some ty
declared_type decl (info.Enumeration number literals) = Some (ty.Enum (type_spot decl.spot))
declared_type decl (info.Record fields) = Some (ty.Rec (type_spot decl.spot))
declared_type decl _ = None

abbrev pub type_by : Option Decl → Option Info → Option Ty
type_by None info = None
type_by (Some decl) None = None
type_by (Some decl) (Some info) = declared_type decl info

-- `cap R` is of a resource, `cap T` of the type of an operation
abbrev pub capability_of : Decl → Info → Option Ty
capability_of decl (info.OpType signature) = Some signature
capability_of decl (info.Component formals) = if is_resource decl.sort then Some (ty.Resource (type_spot decl.spot)) else None
capability_of decl _ = None

abbrev pub capability_by : Option Decl → Option Info → Option Ty
capability_by None info = None
capability_by (Some decl) None = None
capability_by (Some decl) (Some info) = capability_of decl info

abbrev pub named_decl : Facts → QualifiedName → Option Decl
named_decl facts qualified = decl_of (meaning_at facts.uses (spot_of (deciding qualified).span))

-- another sort of name is refused
abbrev pub kinding : Span → Option Ty → Kinding
kinding span None = kinding_at span (broken_unless false BadType span) ty.Untyped
kinding span (Some named) = kinding_at span [] named

abbrev pub named_kinding : Facts → Span → QualifiedName → Kinding
named_kinding facts span qualified = kinding span (type_by (named_decl facts qualified) (decl_info facts.infos (named_decl facts qualified)))

abbrev pub capability_kinding : Facts → Span → QualifiedName → Kinding
capability_kinding facts span qualified = kinding span (capability_by (named_decl facts qualified) (decl_info facts.infos (named_decl facts qualified)))

-- ---- formals

pub record FormalsFound : Type 0 where
  pub found : List Finding
  pub params : List NamedParam

pub record ReturnsFound : Type 0 where
  pub found : List Finding
  pub param : NamedParam

pub record SignedFound : Type 0 where
  pub found : List Finding
  pub signed : Signed

-- an argument is passed by value where no word is written
abbrev pub mode_of : Option PassMode → Mode
mode_of None = Val
mode_of (Some pass.Val) = Val
mode_of (Some pass.Var) = Var
mode_of (Some pass.Res) = Res

abbrev pub takes_in : Mode → Bool
takes_in Val = true
takes_in Var = true
takes_in Res = false

-- `*` stands only in formals that aren't `res` and aren't fields
abbrev pub formal_bounds : Bool → Mode → BoundPolicy
formal_bounds is_field mode = record { fixed = true; takes_star = not is_field && takes_in mode }

abbrev pub param_of : Mode → Ty → DeclTree → NamedParam
param_of mode ty decl = record { name = decl.name.text; spot = spot_of decl.name.span; mode = mode; ty = decl_type decl.dims ty }

abbrev pub formals_of : Mode → Ty → List DeclTree → List NamedParam
formals_of mode ty decls = map (param_of mode ty) decls

abbrev pub formals_found : List FormalsFound → List Finding
formals_found [] = []
formals_found (formals ∷ more) = formals.found ++ formals_found more

abbrev pub all_params : List FormalsFound → List NamedParam
all_params [] = []
all_params (formals ∷ more) = formals.params ++ all_params more

abbrev pub returns_found : Option ReturnsFound → List Finding
returns_found None = []
returns_found (Some returns) = returns.found

abbrev pub returned_param : Option ReturnsFound → Option NamedParam
returned_param returns = option_map (λ returns. returns.param) returns

-- ---- the forms in which an operation may be invoked

abbrev pub is_call : InvocationKind → Bool
is_call kind.Call = true
is_call kind.Send = false

abbrev pub forms_by : Bool → Bool → Forms
forms_by true true = Both
forms_by true false = Call
forms_by false true = Send
forms_by false false = Both

-- where no braces are written both are allowed
abbrev pub forms_of : List InvocationKind → Forms
forms_of kinds = forms_by (list_any is_call kinds) (list_any (λ kind. not (is_call kind)) kinds)

-- ---- the type of a signature

abbrev pub is_refused_return : Option NamedParam → Bool
is_refused_return None = false
is_refused_return (Some returned) = is_no_type returned.ty

abbrev pub are_refused : List NamedParam → Bool
are_refused params = list_any (λ param. is_no_type param.ty) params

abbrev pub params_of : List NamedParam → List Param
params_of params = map (λ param. record { mode = param.mode; ty = param.ty }) params

abbrev pub whole_signature : Signed → Signature
whole_signature signed = record { params = params_of signed.params; returns = option_map (λ returned. returned.ty) signed.returned; forms = signed.forms }

abbrev pub numbered_type : Option ℕ → Ty
numbered_type None = ty.Untyped
numbered_type (Some number) = ty.Op number

-- the type of the operations of a signature keeps its number
abbrev pub operation_type : Facts → Signature → Ty
operation_type facts signature = numbered_type (number_of facts.signatures signature)

-- a signature of which a part was refused has no type
abbrev pub is_refused : Signed → Bool
is_refused signed = are_refused signed.params || is_refused_return signed.returned

abbrev pub signature_type : Facts → Signed → Ty
signature_type facts signed = if is_refused signed then ty.Untyped else operation_type facts (whole_signature signed)

-- ---- all

abbrev pub Kinds : Type 0
Kinds = Facts → BoundPolicy → Kinding

abbrev pub ReadsFormals : Type 0
ReadsFormals = Facts → Bool → FormalsFound

abbrev pub ReadsReturned : Type 0
ReadsReturned = Facts → ReturnsFound

abbrev pub ReadsSignature : Type 0
ReadsSignature = Facts → SignedFound

abbrev pub formals_from : Facts → BoundPolicy → Mode → List DeclTree → Kinding → FormalsFound
formals_from facts bound_policy mode decls kinding = record {
  found = kinding.found ++ decls_found bound_policy facts kinding.kind decls;
  params = formals_of mode kinding.kind.ty decls;
}

abbrev pub formal_step : Formal-F Kinds ReadsFormals ReadsReturned ReadsSignature → ReadsFormals
formal_step formal facts is_field =
    formals_from facts (formal_bounds is_field (mode_of formal.mode)) (mode_of formal.mode) formal.decls
    (formal.ty facts (formal_bounds is_field (mode_of formal.mode)))

abbrev pub returns_from : Facts → DeclTree → Kinding → ReturnsFound
returns_from facts decl kinding = record {
  found = kinding.found ++ decl_found fixed_bounds facts kinding.kind decl.dims;
  param = param_of Res kinding.kind.ty decl;
}

abbrev pub returned_step : Returned-F Kinds ReadsFormals ReadsReturned ReadsSignature → ReadsReturned
returned_step returned facts = returns_from facts returned.decl (returned.ty facts fixed_bounds)

abbrev pub formals_at : List ReadsFormals → Facts → Bool → List FormalsFound
formals_at formals facts is_field = map (λ formal. formal facts is_field) formals

abbrev pub returns_at : Option ReadsReturned → Facts → Option ReturnsFound
returns_at returned facts = option_map (λ returned. returned facts) returned

abbrev pub signature_step : Signature-F Kinds ReadsFormals ReadsReturned ReadsSignature → ReadsSignature
signature_step signature facts = record {
  found = formals_found (formals_at signature.formals facts false) ++ returns_found (returns_at signature.returned facts);
  signed = record {
    params = all_params (formals_at signature.formals facts false);
    returned = returned_param (returns_at signature.returned facts);
    forms = forms_of signature.kinds;
  };
}

abbrev pub string_found : BoundPolicy → Facts → Span → Option Expr → List Finding
string_found bound_policy facts span None = star_found bound_policy span
string_found bound_policy facts span (Some length) = length_found bound_policy.fixed (infer_expr length facts)

abbrev pub array_kinding : Facts → BoundPolicy → Span → DimsTree → Kinding → Kinding
array_kinding facts bound_policy span dims item =
    kinding_at span (item.found ++ array_found bound_policy facts dims item.kind) (array_type dims item.kind.ty)

abbrev pub operation_kinding : Facts → Span → SignedFound → Kinding
operation_kinding facts span read = kinding_at span read.found (signature_type facts read.signed)

-- an enumeration and a record type are each a type of their own, known by the place of the word `enum` or `rec`
abbrev pub type_step : TypeTree-F Kinds ReadsFormals ReadsReturned ReadsSignature → Kinds
type_step (TypeTree-F.Int span) facts bound_policy = kinding_at span [] ty.Int
type_step (TypeTree-F.Bool span) facts bound_policy = kinding_at span [] ty.Bool
type_step (TypeTree-F.Char span) facts bound_policy = kinding_at span [] ty.Char
type_step (TypeTree-F.Str span length) facts bound_policy = kinding_at span (string_found bound_policy facts span length) ty.Str
type_step (TypeTree-F.Enum span literals) facts bound_policy = kinding_at span [] (ty.Enum (type_spot (spot_of span)))
type_step (TypeTree-F.Rec span fields) facts bound_policy = kinding_at span (formals_found (formals_at fields facts true)) (ty.Rec (type_spot (spot_of span)))
type_step (TypeTree-F.CapOf span name) facts bound_policy = capability_kinding facts span name
type_step (TypeTree-F.CapMachine span) facts bound_policy = kinding_at span [] ty.Vm
type_step (TypeTree-F.CapOperation span signature) facts bound_policy = operation_kinding facts span (signature facts)
type_step (TypeTree-F.Array span dims item) facts bound_policy = array_kinding facts bound_policy span dims (item facts bound_policy)
type_step (TypeTree-F.Named span name) facts bound_policy = named_kinding facts span name

abbrev pub type_kinding : TypeTree → Kinds
type_kinding = fold-TypeTree Kinds ReadsFormals ReadsReturned ReadsSignature type_step formal_step returned_step signature_step

abbrev pub formal_read : Formal → ReadsFormals
formal_read = fold-Formal Kinds ReadsFormals ReadsReturned ReadsSignature type_step formal_step returned_step signature_step

abbrev pub returned_read : Returned → ReadsReturned
returned_read = fold-Returned Kinds ReadsFormals ReadsReturned ReadsSignature type_step formal_step returned_step signature_step

abbrev pub signature_read : SignatureTree → ReadsSignature
signature_read = fold-Signature Kinds ReadsFormals ReadsReturned ReadsSignature type_step formal_step returned_step signature_step
