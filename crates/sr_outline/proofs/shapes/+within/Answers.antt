-- The shapes of what is written in the parts of a type are those of what is written in the type.
use Rattle.std.proofs.Common.{◌≡◌, ◌∙◌, List, OnOk, ap, sym, subst, flat_map}
use Rattle.std.specs.Prelude.{fold}
use Rattle.sr_tree.specs.declared.types.Formal.{Formal}
use Rattle.sr_tree.specs.declared.types.Signature.{out-Signature}
use Rattle.sr_tree.specs.declared.types.TypeTree.{TypeTree}
use Rattle.sr_tree.specs.Nested.{formal_types, types_within, written_types}
use Rattle.sr_names.specs.declared.spot.Spot.{Spot}
use Rattle.sr_names.specs.Spots.{spot_of}
use Rattle.sr_tables.specs.Shapes.{Shapes}
use Rattle.sr_tables.specs.Tables.{with_entry}
use Rattle.sr_outline.specs.Shapes.{declared_shape, with_written}
use Rattle.sr_outline.proofs.Within.{record_written, signature_written}
use Rattle.sr_outline.proofs.shapes.+within.Goals as goal

pub declare_within-returns-in_ok-insert_shape-in-Rec : goal.declare_within-returns-in_ok-insert_shape-in-Rec
declare_within-returns-in_ok-insert_shape-in-Rec t c =
    let facts = c.args.facts.now in
    let fields = c.in-Rec.fields in
    let kept = c.in_ok-insert_shape-in-Rec.ensures
    ∙ ap (λ (spot : Spot). with_entry c.args.table.now spot (declared_shape facts c.args.table.now c.args.tree.now)) c.of-in-Rec.ensures
    ∙ ap (λ (tree : TypeTree). with_entry c.args.table.now (spot_of c.in-Rec.span) (declared_shape facts c.args.table.now tree)) c.in-Rec.is in
    subst (λ (all : Shapes). OnOk c.declare_within_formals.result (c.declare_within_formals.new.table ≡ all))
    (ap (λ (fields : List Formal). fold (with_written facts) c.insert_shape-in-Rec.new.table (flat_map formal_types fields)) c.as_slice.ensures
    ∙ ap (λ (shapes : Shapes). fold (with_written facts) shapes (flat_map formal_types fields)) kept
    ∙ sym (record_written facts c.args.table.now c.in-Rec.span fields)
    ∙ ap (λ (tree : TypeTree). fold (with_written facts) c.args.table.now (types_within tree)) (sym c.in-Rec.is))
    c.declare_within_formals.ensures

pub declare_within_signature-returns : goal.declare_within_signature-returns
declare_within_signature-returns t c =
    let facts = c.args.facts.now in
    let returned = written_types (out-Signature c.args.signature.now).returned in
    subst (λ (all : Shapes). OnOk c.declare_within_returned.result (c.declare_within_returned.new.table ≡ all))
    (ap (λ (shapes : Shapes). fold (with_written facts) shapes returned) (c.in_ok-declare_within_formals.ensures
    ∙ ap (λ (formals : List Formal). fold (with_written facts) c.args.table.now (flat_map formal_types formals)) c.as_slice.ensures)
    ∙ signature_written facts c.args.table.now c.args.signature.now)
    c.declare_within_returned.ensures
