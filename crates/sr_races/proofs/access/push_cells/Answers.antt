use Rattle.std.proofs.Common.{◌∙◌, ◌++◌, ◌∷◌, [], ap, arith, sym, take}
use Rattle.std.proofs.lemmas.List.{take_more}
use Rattle.std.specs.Prelude.{filter_map, option_to_list}
use Rattle.sr_races.specs.Accesses.{cell_in}
use Rattle.sr_races.proofs.PathLemmas.{cells-more}
use Rattle.sr_races.proofs.access.push_cells.Goals as goal

pub loop-one-preserved : goal.loop-one-preserved
loop-one-preserved c =
    let so-far = take c.loop-one.one-index c.args.seen.now in
    c.in_ok-push_cell.ensures ∙ ap (λ xs. xs ++ option_to_list (cell_in c.one-item.result)) c.loop-one.invariant ∙ sym (cells-more so-far c.one-item.result)
    ∙ ap (filter_map cell_in) (ap (λ x. so-far ++ x ∷ []) c.one-item.is ∙ sym (take_more c.args.seen.now c.loop-one.one-index c.one-item.result (omega arith)))
