use Rattle.std.proofs.Common.{rules, tests}
use Rattle.std.proofs.lemmas.Iterator.{YieldsList-from_slice}
use Rattle.std.proofs.lemmas.Iterator.Search.{position_from_yields_List}
use Rattle.std.specs.Prelude.{◌==◌}
use Rattle.sr_races.specs.declared.marks.Line.{Line}
use Rattle.sr_races.proofs.MarkLemmas.{column-found}
use Rattle.sr_races.proofs.marks.place_of.Goals as goal

pub returns : goal.returns
returns c =
    column-found c.args.lines.now c.args.column c.position.result
    (position_from_yields_List (λ (line : Line). line.column == c.args.column) _ _ _ c.position.ensures.ran (YieldsList-from_slice c.args.lines.now c.iter.ensures.rest) (λ x b q k. search (rules, tests)))
