-- A signature that is written says of its operations what the head of it in the table says.
use Rattle.std.proofs.Common.{◌≡◌, suc, ◌+◌, Bool, true, false, ◌||◌, not, List, [], ◌∷◌, Option, Some, None, is_some, length, map, refl, sym, ap, ◌∙◌, subst}
use Rattle.std.specs.List.{list_any}
use Rattle.std.specs.Option.{option_map}
use Rattle.std.proofs.lemmas.List.{length-append, length-map}
use Rattle.sr_tree.specs.declared.statement.Quantifier.{Quantifier}
use Rattle.sr_tree.specs.declared.types.Formal.{Formal, out-Formal}
use Rattle.sr_tree.specs.declared.types.InvocationKind.{InvocationKind}
use Rattle.sr_tree.specs.declared.types.InvocationKind.TheVariants as kind
use Rattle.sr_tree.specs.declared.types.Returned.{Returned}
use Rattle.sr_tree.specs.declared.types.Signature.{Signature as SignatureTree, out-Signature, map-Signature}
use Rattle.sr_tree.specs.declared.types.TypeTree.{TypeTree}
use Rattle.sr_tree.specs.declared.types.TypeTree.TheOpen.{Signature-F}
use Rattle.sr_tree.specs.declared.types.TypeTree.TheFolds.{fold_out-Formal, fold_out-Signature}
use Rattle.sr_types.specs.declared.signature.Signature.{Signature}
use Rattle.sr_types.specs.Signatures.{signature_of}
use Rattle.sr_check_expr.specs.Arguments.{may_call, may_send}
use Rattle.sr_check_expr.specs.declared.facts.Facts.{Facts}
use Rattle.sr_check_decl.specs.declared.kind.NamedParam.{NamedParam}
use Rattle.sr_check_decl.specs.Declaring.{component_formals, making, process_params, process_signature, semaphore_signature, written_type}
use Rattle.sr_check_decl.specs.TypeTrees.{Kinds, ReadsFormals, ReadsReturned, ReadsSignature, formal_read, formal_step, forms_by, forms_of, is_call, operation_type, params_of, returned_param, returned_read, returned_step, returns_at, signature_read, signature_step, signature_type, type_kinding, type_step, whole_signature}
use Rattle.sr_outline.specs.Heads.{allows, head_of, int_parameter, parameters_in, parameters_of, returned_shape, same_kind, sent_head}
use Rattle.sr_tables.specs.declared.tables.Head.{Head}
use Rattle.sr_tables.specs.Shapes.{Shapes}
use Rattle.sr_front.proofs.Headed.HeadCounts.{FitsTable, fits_equal, made_equal, signed_equal}

-- ---- the forms

any_same : {A : Type 0} (test other : A → Bool) → ((thing : A) → test thing ≡ other thing) → (things : List A) → list_any test things ≡ list_any other things
any_same test other same [] = refl
any_same test other same (thing ∷ things) = λ i. same thing i || any_same test other same things i

calls_same : (form : InvocationKind) → is_call form ≡ same_kind form kind.Call
calls_same kind.Call = refl
calls_same kind.Send = refl

sends_same : (form : InvocationKind) → not (is_call form) ≡ same_kind form kind.Send
sends_same kind.Call = refl
sends_same kind.Send = refl

called : (sends : Bool) → may_call (forms_by true sends) ≡ true
called true = refl
called false = refl

sent : (calls : Bool) → may_send (forms_by calls true) ≡ true
sent true = refl
sent false = refl

calls_by : (calls : Bool) → may_call (forms_by calls true) ≡ calls
calls_by true = refl
calls_by false = refl

sends_by : (sends : Bool) → may_send (forms_by true sends) ≡ sends
sends_by true = refl
sends_by false = refl

pub may_call_is : (kinds : List InvocationKind) → may_call (forms_of kinds) ≡ allows kinds kind.Call
may_call_is [] = refl
may_call_is (kind.Call ∷ kinds) = called _
may_call_is (kind.Send ∷ kinds) = calls_by _ ∙ any_same is_call (λ form. same_kind form kind.Call) calls_same kinds

pub may_send_is : (kinds : List InvocationKind) → may_send (forms_of kinds) ≡ allows kinds kind.Send
may_send_is [] = refl
may_send_is (kind.Call ∷ kinds) = sends_by _ ∙ any_same (λ form. not (is_call form)) (λ form. same_kind form kind.Send) sends_same kinds
may_send_is (kind.Send ∷ kinds) = sent _

-- ---- formals

as_many_named : (facts table : Facts) (shapes : Shapes) (formal : Formal) → length (formal_read formal facts false).params ≡ length (parameters_in table shapes formal)
as_many_named facts table shapes formal =
    ap (λ reads. length (reads facts false).params) (fold_out-Formal Kinds ReadsFormals ReadsReturned ReadsSignature type_step formal_step returned_step signature_step formal)
    ∙ length-map (out-Formal formal).decls _
    ∙ sym (length-map (out-Formal formal).decls _)

-- a formal for each name of each formal
pub as_many_formals : (facts table : Facts) (shapes : Shapes) (formals : List Formal) → length (component_formals facts formals) ≡ length (parameters_of table shapes formals)
as_many_formals facts table shapes [] = refl
as_many_formals facts table shapes (formal ∷ formals) =
    length-append (formal_read formal facts false).params (component_formals facts formals)
    ∙ (λ i. as_many_named facts table shapes formal i + as_many_formals facts table shapes formals i)
    ∙ sym (length-append (parameters_in table shapes formal) (parameters_of table shapes formals))

pub as_many_params : (params : List NamedParam) → length (params_of params) ≡ length params
as_many_params params = length-map params _

-- ---- what is returned

returned_same : (facts table : Facts) (shapes : Shapes) (x : Signature-F TypeTree Formal Returned SignatureTree) (returned : Option Returned)
    → is_some (option_map (λ (param : NamedParam). param.ty)
    (returned_param (returns_at
    (map-Signature TypeTree Formal Returned SignatureTree Kinds ReadsFormals ReadsReturned ReadsSignature type_kinding formal_read returned_read signature_read (record x { returned = returned })).returned facts)))
    ≡ is_some (option_map (returned_shape table shapes) returned)
returned_same facts table shapes x None = refl
returned_same facts table shapes x (Some returned) = refl

-- ---- signatures

module _ (table : Facts) (shapes : Shapes) where
  -- what is read of a signature fits its head
  pub read_fits : (tree : SignatureTree) (facts : Facts) → FitsTable (head_of table shapes tree) (whole_signature (signature_read tree facts).signed)
  read_fits tree facts =
      subst (λ reads. FitsTable (head_of table shapes tree) (whole_signature (reads facts).signed))
      (sym (fold_out-Signature Kinds ReadsFormals ReadsReturned ReadsSignature type_step formal_step returned_step signature_step tree))
      (record {
        params = as_many_params (component_formals facts (out-Signature tree).formals) ∙ as_many_formals facts table shapes (out-Signature tree).formals;
        returns = returned_same facts table shapes (out-Signature tree) (out-Signature tree).returned;
        call = may_call_is (out-Signature tree).kinds;
        send = may_send_is (out-Signature tree).kinds;
      })

  -- the signature of the type that is written fits the head
  pub written_fits : (tree : SignatureTree) (facts : Facts) (signature : Signature) → signature_of facts.signatures (written_type tree facts) ≡ Some signature → FitsTable (head_of table shapes tree) signature
  written_fits tree facts signature at =
      fits_equal (head_of table shapes tree) (whole_signature (signature_read tree facts).signed) signature (signed_equal facts (signature_read tree facts).signed signature at) (read_fits tree facts)

-- ---- semaphores, processes and components

process_params_are : (quantifiers : List Quantifier) → length (process_params quantifiers) ≡ length (map int_parameter quantifiers)
process_params_are [] = refl
process_params_are (quantifier ∷ more) = ap suc (process_params_are more)

pub process_fits : (quantifiers : List Quantifier) (facts : Facts) (signature : Signature) → signature_of facts.signatures (operation_type facts (process_signature quantifiers)) ≡ Some signature
    → FitsTable (sent_head (map int_parameter quantifiers)) signature
process_fits quantifiers facts signature at =
    fits_equal (sent_head (map int_parameter quantifiers)) (process_signature quantifiers) signature (made_equal facts (process_signature quantifiers) signature at)
    (record { params = process_params_are quantifiers; returns = refl; call = refl; send = refl })

pub semaphore_fits : (facts : Facts) (signature : Signature) → signature_of facts.signatures (operation_type facts semaphore_signature) ≡ Some signature → FitsTable (sent_head []) signature
semaphore_fits facts signature at =
    fits_equal (sent_head []) semaphore_signature signature (made_equal facts semaphore_signature signature at)
    (record { params = refl; returns = refl; call = refl; send = refl })

-- what makes an instance takes the formals of its component
abbrev pub making_head : Facts → Shapes → List Formal → Head
making_head table shapes formals = record { parameters = parameters_of table shapes formals; returns = None; can_call = true; can_send = true }

pub making_fits : (facts table : Facts) (shapes : Shapes) (formals : List Formal) (signature : Signature)
    → signature_of facts.signatures (signature_type facts (making (component_formals facts formals))) ≡ Some signature → FitsTable (making_head table shapes formals) signature
making_fits facts table shapes formals signature at =
    let params = component_formals facts formals in
    fits_equal (making_head table shapes formals) (whole_signature (making params)) signature (signed_equal facts (making params) signature at)
    (record { params = as_many_params params ∙ as_many_formals facts table shapes formals; returns = refl; call = refl; send = refl })
