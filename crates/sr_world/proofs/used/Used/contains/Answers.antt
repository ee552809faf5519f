use Rattle.std.proofs.Common.{◌≡◌, ℕ, List, ap, subst, sym, ◌∙◌}
use Rattle.std.specs.List.Sorted.{IsBinarySearchResult}
use Rattle.std.specs.Ordering.{nat_cmp}
use Rattle.sr_world.specs.Parts.{Numbers}
use Rattle.sr_world.proofs.UsedLemmas.{search_finds}
use Rattle.sr_world.proofs.used.Used.contains.Goals as goal

pub returns : goal.returns
returns c = λ ascend.
    let same : c.as_slice.result.now ≡ c.args.self.now.names = c.as_slice.ensures.value ∙ ap (λ (n : Numbers). n.names) c.self.view_is in
    let halved = subst (λ (names : List ℕ). IsBinarySearchResult (λ n. nat_cmp n c.args.name) names c.binary_search.result) same c.binary_search.ensures.position in
    let found = search_finds c.args.self.now.names c.args.name c.binary_search.result halved ascend in
    ((λ yes. found.0 (sym c.is_ok.ensures.value ∙ yes)), (λ there. c.is_ok.ensures.value ∙ found.1 there))
