-- The signatures that are written in a declaration: before the declaration is read they are put into the table of the
-- program, each after those that stand inside it.
use Rattle.std.specs.Prelude.{List, [], ◌∷◌, ◌++◌, Option, Some, None, if◌then◌else◌, map}
use Rattle.sr_names.specs.Spots.{spot_of}
use Rattle.sr_tree.specs.declared.declaration.OpItem.{OpItem}
use Rattle.sr_tree.specs.declared.declaration.OpItem.TheVariants.{Signed as OfSignature, Typed as OfType}
use Rattle.sr_tree.specs.declared.types.Decl.{Decl as DeclTree}
use Rattle.sr_tree.specs.declared.types.DimsTree.{DimsTree}
use Rattle.sr_tree.specs.declared.types.Formal.{Formal, fold-Formal}
use Rattle.sr_tree.specs.declared.types.Returned.{Returned, fold-Returned}
use Rattle.sr_tree.specs.declared.types.Signature.{Signature as SignatureTree, fold-Signature}
use Rattle.sr_tree.specs.declared.types.TypeTree.{TypeTree, fold-TypeTree}
use Rattle.sr_tree.specs.declared.types.TypeTree.TheOpen.{TypeTree-F, Formal-F, Returned-F, Signature-F}
use Rattle.sr_types.specs.declared.signature.Forms.{Forms}
use Rattle.sr_types.specs.declared.signature.Mode.{Mode}
use Rattle.sr_types.specs.declared.signature.Mode.TheVariants.{Res}
use Rattle.sr_types.specs.declared.signature.Signature.{Signature}
use Rattle.sr_types.specs.declared.ty.Ty.{Ty}
use Rattle.sr_types.specs.declared.ty.Ty.TheVariants as ty
use Rattle.sr_types.specs.Signatures.{with_signature}
use Rattle.sr_check_expr.specs.declared.facts.Facts.{Facts}
use Rattle.sr_check_expr.specs.Infos.{type_spot}
use Rattle.sr_check_decl.specs.declared.kind.NamedParam.{NamedParam}
use Rattle.sr_check_decl.specs.declared.kind.Signed.{Signed}
use Rattle.sr_check_decl.specs.TypeTrees.{mode_of, forms_of, formals_of, param_of, array_type, whole_signature, is_refused, signature_type, capability_kinding, named_kinding}

-- ---- one signature

abbrev pub entered : Signature → Facts → Facts
entered signature facts = record facts { signatures = with_signature facts.signatures signature }

-- a signature of which a part was refused is none
abbrev pub signed_entered : Signed → Facts → Facts
signed_entered signed facts = if is_refused signed then facts else entered (whole_signature signed) facts

-- ---- what is read part by part, with the facts that have the signatures of the parts before

pub record Entered (A : Type 0) : Type 0 where
  pub facts : Facts
  pub read : A

abbrev pub EntersType : Type 0
EntersType = Facts → Entered Ty

abbrev pub EntersFormals : Type 0
EntersFormals = Facts → Entered (List NamedParam)

abbrev pub EntersReturned : Type 0
EntersReturned = Facts → Entered NamedParam

abbrev pub EntersSignature : Type 0
EntersSignature = Facts → Entered Signed

abbrev pub read_in : {A : Type 0} → Facts → A → Entered A
read_in facts read = record { facts = facts; read = read }

-- ---- formals and what is returned

abbrev pub params_after : Mode → List DeclTree → Entered Ty → Entered (List NamedParam)
params_after mode decls type = read_in type.facts (formals_of mode type.read decls)

abbrev pub formal_step : Formal-F EntersType EntersFormals EntersReturned EntersSignature → EntersFormals
formal_step formal facts = params_after (mode_of formal.mode) formal.decls (formal.ty facts)

abbrev pub after_params : List NamedParam → Entered (List NamedParam) → Entered (List NamedParam)
after_params params more = read_in more.facts (params ++ more.read)

abbrev pub in_turn : List EntersFormals → EntersFormals
in_turn [] facts = read_in facts []
in_turn (formal ∷ formals) facts = after_params (formal facts).read (in_turn formals (formal facts).facts)

abbrev pub param_after : DeclTree → Entered Ty → Entered NamedParam
param_after decl type = read_in type.facts (param_of Res type.read decl)

abbrev pub returned_step : Returned-F EntersType EntersFormals EntersReturned EntersSignature → EntersReturned
returned_step returned facts = param_after returned.decl (returned.ty facts)

abbrev pub some_after : Entered NamedParam → Entered (Option NamedParam)
some_after returned = read_in returned.facts (Some returned.read)

abbrev pub maybe_returned : Option EntersReturned → Facts → Entered (Option NamedParam)
maybe_returned None facts = read_in facts None
maybe_returned (Some returned) facts = some_after (returned facts)

-- ---- signatures and types

abbrev pub signed_after : Signed → Facts → Entered Signed
signed_after signed facts = read_in (signed_entered signed facts) signed

abbrev pub after_returned : Forms → List NamedParam → Entered (Option NamedParam) → Entered Signed
after_returned forms params returned = signed_after (record { params = params; returned = returned.read; forms = forms }) returned.facts

abbrev pub after_formals : Forms → Option EntersReturned → Entered (List NamedParam) → Entered Signed
after_formals forms returned params = after_returned forms params.read (maybe_returned returned params.facts)

abbrev pub signature_step : Signature-F EntersType EntersFormals EntersReturned EntersSignature → EntersSignature
signature_step signature facts = after_formals (forms_of signature.kinds) signature.returned (in_turn signature.formals facts)

abbrev pub operation_after : Entered Signed → Entered Ty
operation_after signed = read_in signed.facts (signature_type signed.facts signed.read)

abbrev pub array_after : DimsTree → Entered Ty → Entered Ty
array_after dims item = read_in item.facts (array_type dims item.read)

abbrev pub type_step : TypeTree-F EntersType EntersFormals EntersReturned EntersSignature → EntersType
type_step (TypeTree-F.Int span) facts = read_in facts ty.Int
type_step (TypeTree-F.Bool span) facts = read_in facts ty.Bool
type_step (TypeTree-F.Char span) facts = read_in facts ty.Char
type_step (TypeTree-F.Str span length) facts = read_in facts ty.Str
type_step (TypeTree-F.Enum span literals) facts = read_in facts (ty.Enum (type_spot (spot_of span)))
type_step (TypeTree-F.Rec span fields) facts = read_in (in_turn fields facts).facts (ty.Rec (type_spot (spot_of span)))
type_step (TypeTree-F.CapOf span name) facts = read_in facts (capability_kinding facts span name).kind.ty
type_step (TypeTree-F.CapMachine span) facts = read_in facts ty.Vm
type_step (TypeTree-F.CapOperation span signature) facts = operation_after (signature facts)
type_step (TypeTree-F.Array span dims item) facts = array_after dims (item facts)
type_step (TypeTree-F.Named span name) facts = read_in facts (named_kinding facts span name).kind.ty

abbrev pub type_read_in : TypeTree → EntersType
type_read_in = fold-TypeTree EntersType EntersFormals EntersReturned EntersSignature type_step formal_step returned_step signature_step

abbrev pub formal_read_in : Formal → EntersFormals
formal_read_in = fold-Formal EntersType EntersFormals EntersReturned EntersSignature type_step formal_step returned_step signature_step

abbrev pub returned_read_in : Returned → EntersReturned
returned_read_in = fold-Returned EntersType EntersFormals EntersReturned EntersSignature type_step formal_step returned_step signature_step

abbrev pub signature_read_in : SignatureTree → EntersSignature
signature_read_in = fold-Signature EntersType EntersFormals EntersReturned EntersSignature type_step formal_step returned_step signature_step

abbrev pub formals_read_in : List Formal → EntersFormals
formals_read_in formals facts = in_turn (map formal_read_in formals) facts

-- ---- the facts with what is written in a declaration

abbrev pub type_entered : TypeTree → Facts → Facts
type_entered tree facts = (type_read_in tree facts).facts

abbrev pub written_entered : Option TypeTree → Facts → Facts
written_entered None facts = facts
written_entered (Some tree) facts = type_entered tree facts

abbrev pub formals_entered : List Formal → Facts → Facts
formals_entered formals facts = (formals_read_in formals facts).facts

abbrev pub signature_entered : SignatureTree → Facts → Facts
signature_entered tree facts = (signature_read_in tree facts).facts

abbrev pub op_entered : OpItem → Facts → Facts
op_entered (OfSignature span name signature) facts = signature_entered signature facts
op_entered (OfType span name optype) facts = facts

abbrev pub ops_entered : List OpItem → Facts → Facts
ops_entered [] facts = facts
ops_entered (op ∷ ops) facts = ops_entered ops (op_entered op facts)
