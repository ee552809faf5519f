-- What is written in the parts of a type is what is written in the type.
use Rattle.std.proofs.Common.{◌≡◌, ◌∙◌, ℕ, List, ◌++◌, sym, ap, flat_map, append_assoc}
use Rattle.std.specs.Prelude.{fold}
use Rattle.std.proofs.lemmas.Grind.{flat_map-append}
use Rattle.std.proofs.lemmas.List.Sums.{fold-append}
use Rattle.sr_value.specs.declared.place.Span.{Span}
use Rattle.sr_names.specs.Spots.{spot_of}
use Rattle.sr_tree.specs.declared.types.Formal.{Formal}
use Rattle.sr_tree.specs.declared.types.Signature.{Signature, out-Signature}
use Rattle.sr_tree.specs.declared.types.TypeTree.TheVariants as ty
use Rattle.sr_tree.specs.Nested.{types_within, formal_types, written_types, signature_types}
use Rattle.sr_tree.proofs.Nested.{record_types, signature_parts}
use Rattle.sr_tree.proofs.TypeFolds.{out-record}
use Rattle.sr_check_expr.specs.declared.facts.Facts.{Facts}
use Rattle.sr_tables.specs.Shapes.{Shapes}
use Rattle.sr_tables.specs.Tables.{with_entry}
use Rattle.sr_outline.specs.Outline.{tree_literals, layer_literals}
use Rattle.sr_outline.specs.Shapes.{at_word, declared_shape, with_written}

-- ---- records

pub record_literals : (span : Span) (fields : List Formal) → flat_map tree_literals (types_within (ty.Rec span fields)) ≡ flat_map tree_literals (flat_map formal_types fields)
record_literals span fields =
    ap (λ types. flat_map tree_literals types) (record_types span fields)
    ∙ ap (λ layer. layer_literals layer ++ flat_map tree_literals (flat_map formal_types fields)) (out-record span fields)

pub record_written : (facts : Facts) (shapes : Shapes) (span : Span) (fields : List Formal)
    → fold (with_written facts) shapes (types_within (ty.Rec span fields))
    ≡ fold (with_written facts) (with_entry shapes (spot_of span) (declared_shape facts shapes (ty.Rec span fields))) (flat_map formal_types fields)
record_written facts shapes span fields =
    ap (λ types. fold (with_written facts) shapes types) (record_types span fields)
    ∙ ap (λ layer. fold (with_written facts) (at_word shapes layer (declared_shape facts shapes (ty.Rec span fields))) (flat_map formal_types fields)) (out-record span fields)

-- ---- signatures

pub signature_literals : (names : List (List (List ℕ))) (tree : Signature)
    → (names ++ flat_map tree_literals (flat_map formal_types (out-Signature tree).formals)) ++ flat_map tree_literals (written_types (out-Signature tree).returned)
    ≡ names ++ flat_map tree_literals (signature_types tree)
signature_literals names tree =
    let formals = flat_map formal_types (out-Signature tree).formals in
    let returned = written_types (out-Signature tree).returned in
    append_assoc names (flat_map tree_literals formals) (flat_map tree_literals returned)
    ∙ ap (λ all. names ++ all) (sym (flat_map-append tree_literals formals returned) ∙ ap (λ types. flat_map tree_literals types) (sym (signature_parts tree)))

pub signature_written : (facts : Facts) (shapes : Shapes) (tree : Signature)
    → fold (with_written facts) (fold (with_written facts) shapes (flat_map formal_types (out-Signature tree).formals)) (written_types (out-Signature tree).returned)
    ≡ fold (with_written facts) shapes (signature_types tree)
signature_written facts shapes tree =
    sym (fold-append (with_written facts) shapes (flat_map formal_types (out-Signature tree).formals) (written_types (out-Signature tree).returned))
    ∙ ap (λ types. fold (with_written facts) shapes types) (sym (signature_parts tree))
