-- What has no type and names only what is declared is picked.
use Rattle.std.proofs.Common.{◌≡◌, true, false, map, Some, option_map, ap, sym, ◌∙◌}
use Rattle.std.specs.List.{slice_get}
use Rattle.std.proofs.lemmas.Option.{slice_get-map}
use Rattle.sr_check_decl.specs.Waits.{seen}
use Rattle.sr_check_decl.specs.Picked.{settling}
use Rattle.sr_check_decl.proofs.Known.{row-at, picks-settled, picks-known}
use Rattle.sr_check_decl.proofs.inferring.pick.Goals as goal

pub returns-in-None-clause-value : goal.returns-in-None-clause-value
returns-in-None-clause-value c =
    ap (λ o. settling c.args.facts.now (option_map seen o)) c.in-None.ensures.value ∙ ap (settling c.args.facts.now) (sym (slice_get-map seen c.args.all.now c.args.place))

pub returns-then-is_settled-clause-value : goal.returns-then-is_settled-clause-value
returns-then-is_settled-clause-value c =
    let facts = c.args.facts.now in
    sym (picks-settled facts (seen c.in-Some.waiting.now) (sym c.if-is_settled.ensures))
    ∙ ap (λ o. settling facts (option_map seen o)) c.in-Some.ensures.value ∙ ap (settling facts) (sym (slice_get-map seen c.args.all.now c.args.place))

pub returns-then-are_known-clause-value : goal.returns-then-are_known-clause-value
returns-then-are_known-clause-value c =
    let facts = c.args.facts.now in
    let place : Some (seen c.in-Some.waiting.now) ≡ slice_get (map seen c.args.all.now) c.args.place = ap (option_map seen) c.in-Some.ensures.value ∙ sym (slice_get-map seen c.args.all.now c.args.place) in
    sym
    (picks-known facts (seen c.in-Some.waiting.now) true (sym c.if-is_settled.ensures)
    (sym (row-at facts c.args.needs.now.spots (map seen c.args.all.now) c.args.place (seen c.in-Some.waiting.now) c.requires.spots place) ∙ sym c.if-are_known.ensures.value))
    ∙ ap (settling facts) place

pub returns-else-are_known-clause-value : goal.returns-else-are_known-clause-value
returns-else-are_known-clause-value c =
    let facts = c.args.facts.now in
    let place : Some (seen c.in-Some.waiting.now) ≡ slice_get (map seen c.args.all.now) c.args.place = ap (option_map seen) c.in-Some.ensures.value ∙ sym (slice_get-map seen c.args.all.now c.args.place) in
    sym
    (picks-known facts (seen c.in-Some.waiting.now) false (sym c.if-is_settled.ensures)
    (sym (row-at facts c.args.needs.now.spots (map seen c.args.all.now) c.args.place (seen c.in-Some.waiting.now) c.requires.spots place) ∙ sym c.if-are_known.ensures.value))
    ∙ ap (settling facts) place
