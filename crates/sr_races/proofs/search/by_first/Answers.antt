use Rattle.std.proofs.Common.{List, rules, subst, sym}
use Rattle.std.proofs.lemmas.List.Sorted.{IsNonDecreasingBy-from_sort_by_key, answers_always}
use Rattle.std.specs.List.Sorted.{IsNonDecreasingBy, IsPermutation, IsStableByKey}
use Rattle.std.specs.Ordering.{nat_cmp}
use Rattle.sr_races.specs.Searches.{first_of}
use Rattle.sr_races.specs.declared.race.Race.{Race}
use Rattle.sr_races.proofs.search.by_first.Goals as goal

pub returns-clause-permutation : goal.returns-clause-permutation
returns-clause-permutation c =
    subst (λ (xs : List Race). IsPermutation c.args.races xs) (sym c.from_vec.ensures) (subst (λ (xs : List Race). IsPermutation xs c.sort_by_key.new.self.items) c.into_vec-sorted.ensures c.sort_by_key.ensures.permutation)

pub returns-clause-rising : goal.returns-clause-rising
returns-clause-rising c =
    subst (IsNonDecreasingBy first_of) (sym c.from_vec.ensures)
    (IsNonDecreasingBy-from_sort_by_key first_of c.sort_by_key.new.self.items c.in_ok-sort_by_key.ensures.sorted (λ a r q k. search rules))

pub returns-clause-stable : goal.returns-clause-stable
returns-clause-stable c =
    subst (λ (xs : List Race). IsStableByKey first_of nat_cmp c.args.races xs) (sym c.from_vec.ensures)
    (subst (λ (xs : List Race). IsStableByKey first_of nat_cmp xs c.sort_by_key.new.self.items) c.into_vec-sorted.ensures
    (c.sort_by_key.ensures.stable first_of (answers_always _ _ _ (λ f a r g h. search rules))))
