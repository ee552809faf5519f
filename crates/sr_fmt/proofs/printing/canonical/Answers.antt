-- What the walk writes is the canonical text.
use Rattle.std.proofs.Common.{◌++◌, ap, ◌∙◌}
use Rattle.sr_order.specs.Spans.{statement_spans}
use Rattle.sr_fmt.specs.Marks.{marked}
use Rattle.sr_fmt.specs.Told.{all_told}
use Rattle.sr_fmt.proofs.MarkLemmas.{canonical_of, for_ok}
use Rattle.sr_fmt.proofs.ToldLemmas.{told_of_tokens}
use Rattle.sr_fmt.proofs.printing.canonical.Goals as goal

pub print_pieces-requires-clause-told : goal.print_pieces-requires-clause-told
print_pieces-requires-clause-told c =
    told_of_tokens c.args.source.now c.args.tokens.now.items c.deref.result.now c.requires.lexed
    (c.deref.ensures.value ∙ c.in_ok-told.ensures ∙ ap all_told c.as_slice-2.ensures)

pub returns : goal.returns
returns c =
    for_ok c.finish.result c.finish.ensures
    (λ text e. canonical_of c.args.source.now c.args.tree.now c.as_slice.result.now c.deref-2.result.now c.print_pieces.new.printer text
    (c.as_slice.ensures ∙ c.in_ok-note_file.ensures ∙ ap (λ first. first ++ statement_spans c.args.tree.now) c.new-starts.ensures)
    (λ at h. ap (λ marks. marked marks at) c.deref-2.ensures.value ∙ c.in_ok-marks.ensures.marked at h)
    c.in_ok-print_pieces.ensures e)
