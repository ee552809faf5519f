-- Entering the signatures of a declaration keeps what one more signature keeps.
use Rattle.std.proofs.Common.{Bool, true, false, List, [], ◌∷◌, Option, Some, None, map, if◌then◌else◌}
use Rattle.sr_tree.specs.declared.declaration.OpItem.{OpItem}
use Rattle.sr_tree.specs.declared.declaration.OpItem.TheVariants.{Signed as OfSignature, Typed as OfType}
use Rattle.sr_tree.specs.declared.types.Formal.{Formal}
use Rattle.sr_tree.specs.declared.types.Signature.{Signature as SignatureTree}
use Rattle.sr_tree.specs.declared.types.TypeTree.{TypeTree}
use Rattle.sr_tree.specs.declared.types.TypeTree.TheOpen.{TypeTree-F}
use Rattle.sr_types.specs.declared.signature.Forms.{Forms}
use Rattle.sr_types.specs.declared.signature.Signature.{Signature}
use Rattle.sr_check_expr.specs.declared.facts.Facts.{Facts}
use Rattle.sr_check_decl.specs.declared.kind.NamedParam.{NamedParam}
use Rattle.sr_check_decl.specs.declared.kind.Signed.{Signed}
use Rattle.sr_check_decl.specs.Entering.{Entered, EntersType, EntersFormals, EntersReturned, EntersSignature, after_formals, entered, signed_entered, in_turn, maybe_returned, formal_step, returned_step, signature_step, type_step, formal_read_in, returned_read_in, type_entered, written_entered, formals_entered, signature_entered, op_entered, ops_entered}
use Rattle.sr_check_decl.specs.TypeTrees.{forms_of, is_refused, whole_signature}
use Rattle.sr_tree.proofs.TypeFolds.{FormalFits, FormalNode, KnownFormal, KnownReturned, Layers, Related, ReturnedFits, ReturnedNode, SignatureFits, SignatureNode, TypeFits, TypeFold, TypeNode, formal_related, signature_related, type_related}

-- the fold that enters what is written
abbrev pub entering : TypeFold
entering = record {
  OfType = EntersType;
  OfFormal = EntersFormals;
  OfReturned = EntersReturned;
  OfSignature = EntersSignature;
  type_step = type_step;
  formal_step = formal_step;
  returned_step = returned_step;
  signature_step = signature_step;
}

module _ (Q : Facts → Type 0) (q : (facts : Facts) (signature : Signature) → Q facts → Q (entered signature facts)) where
  abbrev Keeps : {A : Type 0} → (Facts → Entered A) → Type 0
  Keeps reads = (facts : Facts) → Q facts → Q (reads facts).facts

  abbrev KeepsAll : {A : Type 0} → (Facts → Entered A) → (Facts → Entered A) → (Facts → Entered A) → Type 0
  KeepsAll reads second third = Keeps reads

  abbrev keeping : Related
  keeping = record { first = entering; second = entering; third = entering; Types = KeepsAll; Formals = KeepsAll; Returns = KeepsAll; Signatures = KeepsAll }

  pub keeps_signed : (signed : Signed) (facts : Facts) → Q facts → Q (signed_entered signed facts)
  keeps_signed signed facts h = by (is_refused signed)
    where
      by : (refused : Bool) → Q (if refused then facts else entered (whole_signature signed) facts)
      by true = h
      by false = q facts _ h

  keeps_row : (formals : List (KnownFormal keeping)) → Keeps (in_turn (map formal_read_in (map (λ f. f.0) formals)))
  keeps_row [] facts h = h
  keeps_row (formal ∷ formals) facts h = keeps_row formals (formal_read_in formal.0 facts).facts (formal.1 facts h)

  type_node : (y : TypeNode keeping) → TypeFits keeping y
  type_node (TypeTree-F.Rec span fields) facts h = keeps_row fields facts h
  type_node (TypeTree-F.CapOperation span signature) facts h = signature.1 facts h
  type_node (TypeTree-F.Array span dims item) facts h = item.1 facts h
  type_node _ facts h = h

  formal_node : (y : FormalNode keeping) → FormalFits keeping y
  formal_node y facts h = y.ty.1 facts h

  returned_node : (y : ReturnedNode keeping) → ReturnedFits keeping y
  returned_node y facts h = y.ty.1 facts h

  keeps_both : (forms : Forms) (returned : Option EntersReturned) → ((facts : Facts) → Q facts → Q (maybe_returned returned facts).facts) → (params : Entered (List NamedParam)) → Q params.facts
      → Q (after_formals forms returned params).facts
  keeps_both forms returned keeps params h =
      keeps_signed (record { params = params.read; returned = (maybe_returned returned params.facts).read; forms = forms }) (maybe_returned returned params.facts).facts (keeps params.facts h)

  signature_by : (y : SignatureNode keeping) (returned : Option (KnownReturned keeping)) → SignatureFits keeping (record y { returned = returned })
  signature_by y None facts h =
      keeps_both (forms_of y.kinds) None (λ f k. k) (in_turn (map formal_read_in (map (λ f. f.0) y.formals)) facts) (keeps_row y.formals facts h)
  signature_by y (Some returned) facts h =
      keeps_both (forms_of y.kinds) (Some (returned_read_in returned.0)) returned.1 (in_turn (map formal_read_in (map (λ f. f.0) y.formals)) facts) (keeps_row y.formals facts h)

  signature_node : (y : SignatureNode keeping) → SignatureFits keeping y
  signature_node y = signature_by y y.returned

  layers : Layers keeping
  layers = record { types = type_node; formals = formal_node; returns = returned_node; signatures = signature_node }

  pub keeps_type : (tree : TypeTree) (facts : Facts) → Q facts → Q (type_entered tree facts)
  keeps_type = type_related keeping layers

  keeps_formal : (tree : Formal) → Keeps (formal_read_in tree)
  keeps_formal = formal_related keeping layers

  pub keeps_signature : (tree : SignatureTree) (facts : Facts) → Q facts → Q (signature_entered tree facts)
  keeps_signature = signature_related keeping layers

  pub keeps_written : (tree : Option TypeTree) (facts : Facts) → Q facts → Q (written_entered tree facts)
  keeps_written None facts h = h
  keeps_written (Some tree) facts h = keeps_type tree facts h

  pub keeps_formals : (formals : List Formal) (facts : Facts) → Q facts → Q (formals_entered formals facts)
  keeps_formals [] facts h = h
  keeps_formals (formal ∷ formals) facts h = keeps_formals formals (formal_read_in formal facts).facts (keeps_formal formal facts h)

  pub keeps_ops : (ops : List OpItem) (facts : Facts) → Q facts → Q (ops_entered ops facts)
  keeps_ops [] facts h = h
  keeps_ops (op ∷ ops) facts h = keeps_ops ops (op_entered op facts) (by op)
    where
      by : (op : OpItem) → Q (op_entered op facts)
      by (OfSignature span name signature) = keeps_signature signature facts h
      by (OfType span name optype) = h
