-- The names of what is written in the parts of a type are those of what is written in the type.
use Rattle.std.proofs.Common.{◌≡◌, ◌∙◌, ◌++◌, ℕ, List, OnOk, ap, sym, subst, flat_map}
use Rattle.sr_tree.specs.declared.types.Formal.{Formal}
use Rattle.sr_tree.specs.declared.types.Signature.{out-Signature}
use Rattle.sr_tree.specs.declared.types.TypeTree.{TypeTree}
use Rattle.sr_tree.specs.Nested.{formal_types, types_within, written_types}
use Rattle.sr_outline.specs.Outline.{tree_literals}
use Rattle.sr_outline.proofs.Within.{record_literals, signature_literals}
use Rattle.sr_outline.proofs.outline.+literals.Goals as goal

pub push_within-returns-in-Rec : goal.push_within-returns-in-Rec
push_within-returns-in-Rec t c =
    subst (λ (all : List (List (List ℕ))). OnOk c.push_within_formals.result (c.push_within_formals.new.names ≡ c.args.names.now ++ all))
    (ap (λ (fields : List Formal). flat_map tree_literals (flat_map formal_types fields)) c.as_slice-in-Rec.ensures
    ∙ sym (record_literals c.in-Rec.span c.in-Rec.fields)
    ∙ ap (λ (tree : TypeTree). flat_map tree_literals (types_within tree)) (sym c.in-Rec.is))
    c.push_within_formals.ensures

pub push_within_signature-returns : goal.push_within_signature-returns
push_within_signature-returns t c =
    let returned = flat_map tree_literals (written_types (out-Signature c.args.signature.now).returned) in
    subst (λ (all : List (List (List ℕ))). OnOk c.push_within_returned.result (c.push_within_returned.new.names ≡ all))
    (ap (λ names. names ++ returned) (c.in_ok-push_within_formals.ensures
    ∙ ap (λ (formals : List Formal). c.args.names.now ++ flat_map tree_literals (flat_map formal_types formals)) c.as_slice.ensures)
    ∙ signature_literals c.args.names.now c.args.signature.now)
    c.push_within_returned.ensures
