use Rattle.std.proofs.Common.{rules, ◌≡◌, length, IfSome, Ok, ap, subst, sym, ◌∙◌}
use Rattle.std.specs.List.Sorted.{IsSearchInRange}
use Rattle.std.specs.Result.{result_ok}
use Rattle.std.proofs.lemmas.List.Sorted.{answers_always}
use Rattle.sr_line.specs.Lines.{IsNumbered}
use Rattle.sr_line.proofs.SearchLemmas.{searched-there, searched_at}
use Rattle.sr_line.proofs.search.place_in.Goals as goal

pub returns-clause-found : goal.returns-clause-found
returns-clause-found g c = λ place item at is.
    let facts = c.binary_search_by_key.ensures in
    let deque = c.args.items.now in
    let by_number = facts.position g.T.HasNumber.number_of (answers_always _ _ _ (λ f a r f' called. search rules)) in
    let within : IsSearchInRange c.binary_search_by_key.result (length deque.items) = subst (IsSearchInRange c.binary_search_by_key.result) deque.ok.0 facts.bound in
    let found : c.binary_search_by_key.result ≡ Ok place = searched_at g.T.HasNumber.number_of deque.items c.requires c.args.number c.binary_search_by_key.result within by_number place item at is in
    c.ok.ensures.value ∙ ap result_ok found

pub returns-clause-there : goal.returns-clause-there
returns-clause-there g c =
    let facts = c.binary_search_by_key.ensures in
    let deque = c.args.items.now in
    let number_of = g.T.HasNumber.number_of in
    let by_number = facts.position number_of (answers_always _ _ _ (λ f a r f' called. search rules)) in
    let within : IsSearchInRange c.binary_search_by_key.result (length deque.items) = subst (IsSearchInRange c.binary_search_by_key.result) deque.ok.0 facts.bound in
    let there : IfSome (result_ok c.binary_search_by_key.result) (IsNumbered number_of deque.items c.args.number) = searched-there number_of deque.items c.requires c.args.number c.binary_search_by_key.result within by_number in
    subst (λ o. IfSome o (IsNumbered number_of deque.items c.args.number)) (sym c.ok.ensures.value) there
