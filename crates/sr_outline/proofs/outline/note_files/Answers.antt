-- The components of one file more are noted.
use Rattle.std.proofs.Common.{◌≡◌, ℕ, ◌+◌, List, fold, length, drop, sym, subst, ◌∙◌}
use Rattle.std.specs.List.{enumerate_from}
use Rattle.sr_tree.specs.declared.component.Component.{Component}
use Rattle.sr_tables.specs.declared.tables.Tables.{Tables}
use Rattle.sr_tables.specs.Parts.{components_in}
use Rattle.sr_outline.specs.Outline.{with_component}
use Rattle.sr_outline.proofs.Files.{file_folded}
use Rattle.sr_outline.proofs.outline.note_files.Goals as goal

pub loop-file-preserved : goal.loop-file-preserved
loop-file-preserved c =
    let rest : List Component = components_in (drop (c.loop-file.file-index + 1) c.args.files.now) in
    let all : Tables = fold (with_component c.args.facts.now) c.args.tables.now (enumerate_from 0 (components_in c.args.files.now)) in
    subst (λ (tables : Tables). fold (with_component c.args.facts.now) tables (enumerate_from c.in_ok-number.number rest) ≡ all) (sym c.in_ok-number.ensures.tables)
    (subst (λ (number : ℕ). fold (with_component c.args.facts.now) (fold (with_component c.args.facts.now) c.loop-file.tables (enumerate_from c.loop-file.number c.as_slice.result.now)) (enumerate_from number rest) ≡ all) (sym c.in_ok-number.ensures.next)
    (subst (λ (components : List Component). fold (with_component c.args.facts.now) (fold (with_component c.args.facts.now) c.loop-file.tables (enumerate_from c.loop-file.number components)) (enumerate_from (c.loop-file.number + length components) rest) ≡ all) (sym c.as_slice.ensures)
    (file_folded (with_component c.args.facts.now) c.loop-file.tables c.loop-file.number c.args.files.now c.loop-file.file-index c.file-item.result c.loop-file-test.true c.file-item.is ∙ c.loop-file.invariant)))
