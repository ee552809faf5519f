-- The records in a written type: where its names mean the same later and its signatures have numbers, entering the fields of
-- one again changes nothing, and the names in its fields are among those of the type.
use Rattle.std.proofs.Common.{◌≡◌, sym, subst, List, [], ◌∷◌, Option, Some, None, map}
use Rattle.sr_value.specs.declared.place.Span.{Span}
use Rattle.sr_tree.specs.declared.name.QualifiedName.{QualifiedName}
use Rattle.sr_tree.specs.declared.types.Formal.{Formal}
use Rattle.sr_tree.specs.declared.types.Returned.{Returned}
use Rattle.sr_tree.specs.declared.types.Signature.{Signature}
use Rattle.sr_tree.specs.declared.types.TypeTree.{TypeTree, out-TypeTree}
use Rattle.sr_tree.specs.declared.types.TypeTree.TheOpen.{TypeTree-F}
use Rattle.sr_tree.specs.declared.types.TypeTree.TheVariants as ty
use Rattle.sr_tree.specs.Nested.{Holds, all_trees, all_types, types_within, formal_types, returned_types}
use Rattle.sr_tree.proofs.Nested.{formal_held, held_fold, same_fields}
use Rattle.sr_check_expr.specs.declared.facts.Facts.{Facts}
use Rattle.sr_check_decl.specs.declared.kind.Signed.{Signed}
use Rattle.sr_check_decl.specs.Entering.{Entered, EntersFormals, EntersReturned, EntersSignature, EntersType, formal_read_in, formals_entered, in_turn, returned_read_in, signed_entered, type_entered}
use Rattle.sr_check_decl.specs.TypeTrees.{forms_of}
use Rattle.sr_check.proofs.Each.{Each, each-append, each-left, each-right}
use Rattle.sr_check.proofs.Entered.{entering, keeps_formals, keeps_signed, keeps_type}
use Rattle.sr_front.proofs.Typed.EnteredAgain.{formals_entered_again}
use Rattle.sr_front.proofs.Typed.TypedTypes.{Agrees, Counts, all_uses, counts_itself, counts_through, entered_counts, formal_uses, returned_uses, type_uses, uses_fold}
use Rattle.sr_tree.proofs.TypeFolds.{out-enum, out-record, type_related, FormalFits, FormalNode, KnownFormal, KnownReturned, Related, ReturnedFits, ReturnedNode, SignatureFits, SignatureNode, TypeFits, TypeNode}

module _ (P : QualifiedName → Type 0) where
  -- of a record: what holds of the names in its fields, which are entered
  abbrev pub RecordAgain : {C D : Type 0} → Facts → TypeTree-F TypeTree Formal C D → Type 0
  RecordAgain later (TypeTree-F.Rec span fields) = Each P (all_uses (map formal_uses fields)) × (formals_entered fields later ≡ later)
  RecordAgain later _ = Unit {0}

  abbrev pub RecordsAgain : Facts → List TypeTree → Type 0
  RecordsAgain later = Each (λ tree. RecordAgain later (out-TypeTree tree))

  abbrev Within : {A : Type 0} → List QualifiedName → (Facts → Entered A) → List TypeTree → Type 0
  Within names enters types = (facts later : Facts) → Each (Agrees facts later) names → Each P names → Counts (enters facts).facts later → RecordsAgain later types

  abbrev related : Related
  related = record {
    first = uses_fold;
    second = entering;
    third = held_fold;
    Types = λ names (enters : EntersType) (held : Holds TypeTree). Within names enters held.types;
    Formals = λ names (enters : EntersFormals) (held : Holds Formal). Within names enters held.types;
    Returns = λ names (enters : EntersReturned) (held : Holds Returned). ((facts : Facts) → Counts facts (enters facts).facts) × Within names enters held.types;
    Signatures = λ names (enters : EntersSignature) (held : Holds Signature). Within names enters held.types;
  }

  -- ---- each kind of tree from its parts

  record_again : (later : Facts) (span : Span) (fields : List Formal) → Each P (all_uses (map formal_uses fields)) → formals_entered fields later ≡ later → RecordAgain later (out-TypeTree (ty.Rec span (all_trees (map formal_held fields))))
  record_again later span fields each same =
      subst (λ layer. RecordAgain later layer) (sym (out-record span (all_trees (map formal_held fields))))
      (subst (λ trees. Each P (all_uses (map formal_uses trees)) × (formals_entered trees later ≡ later)) (sym (same_fields fields)) (each, same))

  row_within : (formals : List (KnownFormal related)) → Within (all_uses (map formal_uses (map (λ (f : KnownFormal related). f.0) formals))) (in_turn (map formal_read_in (map (λ (f : KnownFormal related). f.0) formals))) (all_types (map formal_held (map (λ (f : KnownFormal related). f.0) formals)))
  row_within [] facts later agree each more = tt
  row_within (formal ∷ formals) facts later agree each more =
      let trees = map (λ (f : KnownFormal related). f.0) formals in
      let first = (formal_read_in formal.0 facts).facts in
      let names = all_uses (map formal_uses trees) in
      let grows : Counts first (formals_entered trees first) = keeps_formals (Counts first) (entered_counts first) trees first (counts_itself first) in
      each-append (λ tree. RecordAgain later (out-TypeTree tree)) (formal_types formal.0) (all_types (map formal_held trees))
      (formal.1 facts later (each-left (Agrees facts later) (formal_uses formal.0) names agree) (each-left P (formal_uses formal.0) names each) (counts_through first (formals_entered trees first) later grows more))
      (row_within formals first later (keeps_formals (λ now. Each (Agrees now later) names) (λ now signature h. h) (formal.0 ∷ []) facts (each-right (Agrees facts later) (formal_uses formal.0) names agree))
      (each-right P (formal_uses formal.0) names each) more)

  type_node : (y : TypeNode related) → TypeFits related y
  type_node (TypeTree-F.Enum span literals) facts later agree each more = (subst (λ layer. RecordAgain later layer) (sym (out-enum span literals)) tt, tt)
  type_node (TypeTree-F.Rec span fields) facts later agree each more =
      let trees = map (λ (f : KnownFormal related). f.0) fields in
      (record_again later span trees each (formals_entered_again trees facts later agree more), row_within fields facts later agree each more)
  type_node (TypeTree-F.CapOperation span signature) facts later agree each more = signature.1 facts later agree each more
  type_node (TypeTree-F.Array span dims item) facts later agree each more = item.1 facts later agree each more
  type_node _ facts later agree each more = tt

  formal_node : (y : FormalNode related) → FormalFits related y
  formal_node y facts later agree each more = y.ty.1 facts later agree each more

  returned_node : (y : ReturnedNode related) → ReturnedFits related y
  returned_node y = (λ facts. keeps_type (Counts facts) (entered_counts facts) y.ty.0 facts (counts_itself facts), λ facts later agree each more. y.ty.1 facts later agree each more)

  signature_by : (y : SignatureNode related) (returned : Option (KnownReturned related)) → SignatureFits related (record y { returned = returned })
  signature_by y None facts later agree each more =
      let trees = map (λ (f : KnownFormal related). f.0) y.formals in
      let names = all_uses (map formal_uses trees) in
      let params = in_turn (map formal_read_in trees) facts in
      let signed : Signed = record { params = params.read; returned = None; forms = forms_of y.kinds } in
      let after : Counts params.facts later =
      counts_through params.facts (signed_entered signed params.facts) later (keeps_signed (Counts params.facts) (entered_counts params.facts) signed params.facts (counts_itself params.facts)) more in
      each-append (λ tree. RecordAgain later (out-TypeTree tree)) (all_types (map formal_held trees)) [] (row_within y.formals facts later (each-left (Agrees facts later) names [] agree) (each-left P names [] each) after) tt
  signature_by y (Some returned) facts later agree each more =
      let trees = map (λ (f : KnownFormal related). f.0) y.formals in
      let names = all_uses (map formal_uses trees) in
      let back_names = returned_uses returned.0 in
      let params = in_turn (map formal_read_in trees) facts in
      let back = returned_read_in returned.0 params.facts in
      let signed : Signed = record { params = params.read; returned = Some back.read; forms = forms_of y.kinds } in
      let after : Counts back.facts later =
      counts_through back.facts (signed_entered signed back.facts) later (keeps_signed (Counts back.facts) (entered_counts back.facts) signed back.facts (counts_itself back.facts)) more in
      each-append (λ tree. RecordAgain later (out-TypeTree tree)) (all_types (map formal_held trees)) (returned_types returned.0)
      (row_within y.formals facts later (each-left (Agrees facts later) names back_names agree) (each-left P names back_names each) (counts_through params.facts back.facts later (returned.1.0 params.facts) after))
      (returned.1.1 params.facts later (keeps_formals (λ now. Each (Agrees now later) back_names) (λ now signature h. h) trees facts (each-right (Agrees facts later) names back_names agree)) (each-right P names back_names each) after)

  -- the records in a type
  pub records_again : (tree : TypeTree) (facts later : Facts) → Each (Agrees facts later) (type_uses tree) → Each P (type_uses tree) → Counts (type_entered tree facts) later → RecordsAgain later (types_within tree)
  records_again = type_related related (record { types = type_node; formals = formal_node; returns = returned_node; signatures = λ y. signature_by y y.returned })
