-- A sort keeps the places, and of equal ones that stand together one is left.
use Rattle.std.proofs.Common.{◌≡◌, eqb, List, ℕ, sym, ◌∙◌, ap, subst}
use Rattle.std.specs.List.{dedup}
use Rattle.std.specs.List.Sorted.{IsStrictlySortedBy}
use Rattle.std.specs.Ordering.{nat_cmp}
use Rattle.std.proofs.lemmas.List.Filters.{dedup_is}
use Rattle.std.proofs.lemmas.List.Sorted.{list_any-IsPermutation}
use Rattle.std.proofs.lemmas.Map.Keys.{IsStrictlyIncreasing-dedup, sorted_from_strictly_increasing}
use Rattle.sr_check_decl.specs.Needers.{has_place}
use Rattle.sr_check_decl.proofs.Places.{has-dedup}
use Rattle.sr_check_decl.proofs.needers.in_order.Goals as goal

left : (c : goal.After-from_vec) → c.from_vec.result ≡ dedup eqb c.sort_unstable.new.self.items
left c = c.from_vec.ensures ∙ dedup_is eqb c.sort_unstable.new.self.items c.dedup.new.self.items c.dedup.ensures.filtered

pub returns-clause-rising : goal.returns-clause-rising
returns-clause-rising c =
    subst (λ (xs : List ℕ). IsStrictlySortedBy nat_cmp xs) (sym (left c))
    (sorted_from_strictly_increasing _ (IsStrictlyIncreasing-dedup c.sort_unstable.new.self.items c.sort_unstable.ensures.sorted))

pub returns-clause-same : goal.returns-clause-same
returns-clause-same c = λ place.
    ap (λ xs. has_place xs place) (left c) ∙ has-dedup place c.sort_unstable.new.self.items
    ∙ sym (list_any-IsPermutation (λ other. eqb place other) c.into_vec-sorted.result.items c.sort_unstable.new.self.items c.sort_unstable.ensures.permutation)
    ∙ ap (λ xs. has_place xs place) c.into_vec-sorted.ensures
