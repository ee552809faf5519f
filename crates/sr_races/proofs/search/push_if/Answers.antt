use Rattle.std.proofs.Common.{◌+◌, ◌∙◌, refl, subst, sym, true≢false}
use Rattle.std.proofs.lemmas.Result.{on_ok_weaker}
use Rattle.sr_races.proofs.PairLemmas.{pair-found, pair-passed}
use Rattle.sr_races.specs.Searches.{AreRacesBefore}
use Rattle.sr_races.proofs.search.push_if.Goals as goal

pub returns-then-not-looks_raced : goal.returns-then-not-looks_raced
returns-then-not-looks_raced c = λ r count has is-one is-other less within found.
    pair-passed r count c.args.clocks.now has c.args.first c.args.second c.args.one.now c.args.other.now is-one is-other less within c.args.races.now found
    (λ looks. true≢false (sym (c.looks_raced.ensures.1 looks) ∙ c.if-not-looks_raced.true))

pub returns : goal.returns
returns c = λ r count has is-one is-other less within found.
    on_ok_weaker c.push.result
    (λ pushed. subst (λ xs. AreRacesBefore r (c.args.first + 1) c.args.second xs) (sym pushed)
    (pair-found r count c.args.clocks.now has c.args.first c.args.second c.args.one.now c.args.other.now is-one is-other less within c.args.races.now found (c.looks_raced.ensures.0 c.if-not-looks_raced.false) _ refl refl refl refl))
    c.push.ensures.ok
