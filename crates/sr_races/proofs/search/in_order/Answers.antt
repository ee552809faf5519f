use Rattle.std.proofs.Common.{◌≡◌, ◌∙◌, List, eqb, subst, sym, ℕ}
use Rattle.std.proofs.lemmas.List.Filters.{dedup_is}
use Rattle.std.proofs.lemmas.List.Kept.{Contains-dedup_nat, Contains-from_dedup}
use Rattle.std.proofs.lemmas.List.Sorted.{Contains-permutation, IsPermutation-sym}
use Rattle.std.proofs.lemmas.Map.Keys.{IsStrictlyIncreasing-dedup}
use Rattle.std.specs.List.{dedup}
use Rattle.std.specs.List.Sorted.{IsStrictlyIncreasing}
use Rattle.std.specs.Prelude.{Contains}
use Rattle.sr_races.proofs.search.in_order.Goals as goal

left : (c : goal.After-from_vec) → c.from_vec.result ≡ dedup eqb c.sort_unstable.new.self.items
left c = c.from_vec.ensures ∙ dedup_is eqb c.sort_unstable.new.self.items c.dedup.new.self.items c.dedup.ensures.filtered

pub returns-clause-rises : goal.returns-clause-rises
returns-clause-rises c = subst IsStrictlyIncreasing (sym (left c)) (IsStrictlyIncreasing-dedup c.sort_unstable.new.self.items c.sort_unstable.ensures.sorted)

pub returns-clause-keeps : goal.returns-clause-keeps
returns-clause-keeps c = λ item here.
    subst (λ (xs : List ℕ). Contains xs item) (sym (left c))
    (Contains-dedup_nat c.sort_unstable.new.self.items item
    (Contains-permutation c.into_vec-sorted.result.items c.sort_unstable.new.self.items item c.sort_unstable.ensures.permutation (subst (λ (xs : List ℕ). Contains xs item) (sym c.into_vec-sorted.ensures) here)))

pub returns-clause-adds_none : goal.returns-clause-adds_none
returns-clause-adds_none c = λ item here.
    subst (λ (xs : List ℕ). Contains xs item) c.into_vec-sorted.ensures
    (Contains-permutation c.sort_unstable.new.self.items c.into_vec-sorted.result.items item (IsPermutation-sym c.into_vec-sorted.result.items c.sort_unstable.new.self.items c.sort_unstable.ensures.permutation)
    (Contains-from_dedup eqb c.sort_unstable.new.self.items item (subst (λ (xs : List ℕ). Contains xs item) (left c) here)))
