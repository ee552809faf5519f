-- What is known of the first of a list stays known, and is known of more.
use Rattle.std.proofs.Common.{◌≡◌, ◌<◌, List, ℕ, true, false, length, leb, ap, sym, ◌∙◌, subst, take}
use Rattle.sr_names.specs.declared.spot.Spot.{Spot}
use Rattle.sr_check_decl.specs.Needs.{are_known, row_is_known, FirstAreKnown}
use Rattle.sr_check_decl.proofs.Known.{first_known-at, first_known-none, first_known-set, known-by}
use Rattle.sr_check_decl.proofs.needs.Needs.are_known.Goals as goal

pub returns-in-None-clause-value : goal.returns-in-None-clause-value
returns-in-None-clause-value c =
    let needs = c.args.self.now in
    sym (ap (λ o. row_is_known c.args.facts.now o) (first_known-none c.args.facts.now needs.spots needs.known c.args.place c.requires (sym c.get.ensures.value ∙ sym c.in-None.ensures)))

-- up to the first that isn't known all are
passed : (c : goal.After-replace) → are_known c.args.facts.now (take c.first_unknown-first.result c.in-Some-get.spots.now) ≡ true
passed c =
    let facts = c.args.facts.now in
    let needs = c.args.self.now in
    let before : are_known facts (take c.in-Some.from c.in-Some-get.spots.now) ≡ true =
    first_known-at facts needs.spots needs.known c.args.place c.in-Some-get.spots.now c.in-Some.from c.requires (sym c.in-Some-get.ensures.value) (sym c.get.ensures.value ∙ sym c.in-Some.ensures) in
    subst (λ (spots : List Spot). are_known facts (take c.in-Some.from spots) ≡ true → are_known facts (take c.first_unknown-first.result spots) ≡ true) c.as_slice.ensures
    c.first_unknown-first.ensures.passed before

pub returns-in-Some-get-clause-value : goal.returns-in-Some-get-clause-value
returns-in-Some-get-clause-value c =
    let facts = c.args.facts.now in
    let spots = c.in-Some-get.spots.now in
    let met = subst (λ (ss : List Spot). c.first_unknown-first.result < length ss → are_known facts ss ≡ false) c.as_slice.ensures c.first_unknown-first.ensures.met in
    ap (λ n. leb n c.first_unknown-first.result) c.len-count.ensures ∙ known-by facts spots c.first_unknown-first.result (passed c) met
    ∙ ap (λ o. row_is_known facts o) c.in-Some-get.ensures.value

pub returns-in-Some-get-clause-known : goal.returns-in-Some-get-clause-known
returns-in-Some-get-clause-known c =
    let needs = c.args.self.now in
    subst (λ (counts : List ℕ). FirstAreKnown c.args.facts.now needs.spots counts) (sym c.replace.ensures.others)
    (first_known-set c.args.facts.now needs.spots needs.known c.args.place c.in-Some-get.spots.now c.first_unknown-first.result c.requires (sym c.in-Some-get.ensures.value) (passed c))
