-- The operations of one file more are opened.
use Rattle.std.proofs.Common.{◌≡◌, ℕ, ◌+◌, List, flat_map, length, drop, sym, ap, subst, ◌∙◌}
use Rattle.std.specs.List.{enumerate_from}
use Rattle.sr_tree.specs.declared.component.Component.{Component}
use Rattle.sr_tables.specs.Parts.{components_in}
use Rattle.sr_tables.specs.Tables.{with_entries}
use Rattle.sr_outline.specs.Outline.{component_entries}
use Rattle.sr_outline.proofs.Files.{file_entered}
use Rattle.sr_outline.proofs.outline.open_all.Goals as goal

pub loop-file-preserved : goal.loop-file-preserved
loop-file-preserved c =
    let before = c.loop-file.opening in
    let first = c.args.opening.now in
    let facts = c.args.facts.now in
    let entries = component_entries facts first.shapes first.heads first.procs in
    let rest : List Component = components_in (drop (c.loop-file.file-index + 1) c.args.files.now) in
    let all = with_entries first.operations (flat_map entries (enumerate_from 0 (components_in c.args.files.now))) in
    let opened = c.in_ok-number.ensures.operations
    ∙ ap (λ shapes. with_entries before.operations (flat_map (component_entries facts shapes before.heads before.procs) (enumerate_from c.loop-file.number c.as_slice.result.now))) c.loop-file.invariant.0
    ∙ ap (λ heads. with_entries before.operations (flat_map (component_entries facts first.shapes heads before.procs) (enumerate_from c.loop-file.number c.as_slice.result.now))) c.loop-file.invariant.1
    ∙ ap (λ procs. with_entries before.operations (flat_map (component_entries facts first.shapes first.heads procs) (enumerate_from c.loop-file.number c.as_slice.result.now))) c.loop-file.invariant.2 in (
      c.in_ok-number.ensures.shapes ∙ c.loop-file.invariant.0,
      c.in_ok-number.ensures.heads ∙ c.loop-file.invariant.1,
      c.in_ok-number.ensures.procs ∙ c.loop-file.invariant.2,
      subst (λ operations. with_entries operations (flat_map entries (enumerate_from c.in_ok-number.number rest)) ≡ all) (sym opened)
          (subst (λ (number : ℕ). with_entries (with_entries before.operations (flat_map entries (enumerate_from c.loop-file.number c.as_slice.result.now))) (flat_map entries (enumerate_from number rest)) ≡ all) (sym c.in_ok-number.ensures.next)
          (subst (λ (components : List Component). with_entries (with_entries before.operations (flat_map entries (enumerate_from c.loop-file.number components))) (flat_map entries (enumerate_from (c.loop-file.number + length components) rest)) ≡ all) (sym c.as_slice.ensures)
          (file_entered entries before.operations c.loop-file.number c.args.files.now c.loop-file.file-index c.file-item.result c.loop-file-test.true c.file-item.is ∙ c.loop-file.invariant.3))),
    )
