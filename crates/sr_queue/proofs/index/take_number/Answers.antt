use Rattle.std.proofs.Common.{◌≡◌, Ok, length, ap, subst, refl, ◌∙◌}
use Rattle.std.specs.List.{remove}
use Rattle.std.specs.List.Sorted.{IsSearchInRange}
use Rattle.sr_line.proofs.SearchLemmas.{on_some, searched_at}
use Rattle.sr_queue.proofs.index.take_number.Goals as goal

pub returns-in-Ok : goal.returns-in-Ok
returns-in-Ok c = λ place at.
    let deque = c.args.line.now in
    let within : IsSearchInRange c.binary_search.result (length deque.items) = subst (IsSearchInRange c.binary_search.result) deque.ok.0 c.binary_search.ensures.bound in
    let found : c.binary_search.result ≡ Ok place = searched_at (λ x. x) deque.items c.requires c.args.number c.binary_search.result within c.binary_search.ensures.position place c.args.number at refl in
    let same : c.in-Ok.at ≡ place = cc in
    let low = c.in-Ok.ensures.bound in
    on_some c.take_at.result (c.take_at.ensures.succeeds c.args.number low) c.take_at.ensures.items ∙ ap (remove deque.items) same

pub returns-in_default : goal.returns-in_default
returns-in_default c = λ place at.
    let deque = c.args.line.now in
    let within : IsSearchInRange c.binary_search.result (length deque.items) = subst (IsSearchInRange c.binary_search.result) deque.ok.0 c.binary_search.ensures.bound in
    let found : c.binary_search.result ≡ Ok place = searched_at (λ x. x) deque.items c.requires c.args.number c.binary_search.result within c.binary_search.ensures.position place c.args.number at refl in
    cc (found, c.in_default.is)
