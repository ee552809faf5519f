use Rattle.std.proofs.Common.{◌∙◌, [], ap}
use Rattle.std.proofs.lemmas.Option.{unwrap_or-slice_get}
use Rattle.std.specs.Prelude.{slice_index, unwrap_or}
use Rattle.sr_clock_rows.proofs.clocks.Clocks.count.Goals as goal

pub returns-in-None-get : goal.returns-in-None-get
returns-in-None-get c =
    ap (λ o. unwrap_or o 0) c.in-None-get.ensures.value ∙ unwrap_or-slice_get c.in-Some.row.now c.args.column 0
    ∙ ap (λ o. slice_index (unwrap_or o []) c.args.column) c.in-Some.ensures.value
