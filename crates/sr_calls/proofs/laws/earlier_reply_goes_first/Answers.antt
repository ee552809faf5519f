use Rattle.std.proofs.Common.{[], ◌∷◌, ◌++◌, ap, ◌∙◌}
use Rattle.std.specs.Prelude.{find}
use Rattle.sr_calls.specs.Calls.{answers_one, items_of}
use Rattle.sr_calls.proofs.ProcessCallsLemmas.{items-with_items}
use Rattle.sr_calls.proofs.FirstLemmas.{found-earlier, found-last}
use Rattle.sr_calls.proofs.laws.earlier_reply_goes_first.Goals as goal

pub returns-clause-earlier : goal.returns-clause-earlier
returns-clause-earlier c = λ all caller ids first later is.
    ap (find (answers_one ids)) (items-with_items all caller (items_of all caller ++ later ∷ [])) ∙ found-earlier (answers_one ids) (items_of all caller) later first is

pub returns-clause-only : goal.returns-clause-only
returns-clause-only c = λ all caller ids reply none asked.
    ap (find (answers_one ids)) (items-with_items all caller (items_of all caller ++ reply ∷ [])) ∙ found-last (answers_one ids) (items_of all caller) reply none asked
