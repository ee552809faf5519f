use Rattle.std.proofs.Common.{◌≡◌, ◌++◌, ◌+◌, ◌-◌, ◌<◌, Some, length, ap, sym, subst, ◌∙◌, arith}
use Rattle.std.specs.List.{AllPairs, slice_get}
use Rattle.sr_line.specs.Lines.{IsNumbered, joined}
use Rattle.std.proofs.lemmas.Option.{IfSome_then}
use Rattle.sr_line.proofs.BlockLemmas.{same-items}
use Rattle.sr_line.proofs.StartLemmas.{IsPart, front-ascends, front-found, front-numbered, last-ascends, last-found, last-part, part-numbered}
use Rattle.sr_line.proofs.line.Line.place_of.Goals as goal

pub place_after-requires-clause-up : goal.place_after-requires-clause-up
place_after-requires-clause-up g c =
    let number_of = g.T.HasNumber.number_of in
    let up = subst (AllPairs (λ a b. number_of a < number_of b)) (sym (same-items _ _ c.self.view_is)) c.requires in
    last-ascends number_of (joined c.self.inside.blocks.items) c.self.inside.last.items up

pub place_in_blocks-requires-clause-up : goal.place_in_blocks-requires-clause-up
place_in_blocks-requires-clause-up g c =
    let number_of = g.T.HasNumber.number_of in
    let up = subst (AllPairs (λ a b. number_of a < number_of b)) (sym (same-items _ _ c.self.view_is)) c.requires in
    front-ascends number_of (joined c.self.inside.blocks.items) c.self.inside.last.items up

pub returns-then-starts_by-clause-found : goal.returns-then-starts_by-clause-found
returns-then-starts_by-clause-found g c = λ place item at is.
    let number_of = g.T.HasNumber.number_of in
    let front = joined c.self.inside.blocks.items in
    let last = c.self.inside.last in
    let up = subst (AllPairs (λ a b. number_of a < number_of b)) (sym (same-items _ _ c.self.view_is)) c.requires in
    let there = ap (λ xs. slice_get xs place) (same-items _ _ c.self.view_is) ∙ at in
    let found = last-found number_of front last.items up c.args.number (c.starts_by.ensures.yes c.if-starts_by.true) place item there is in
    let sum : (c.self.inside.len - c.len-last.result) + (place - length front) ≡ place = omega (arith, found.1, c.len-last.ensures, last.ok.0, c.self.invariant) in
    c.place_after.ensures.found (place - length front) item found.0 is ∙ ap Some sum

pub returns-clause-found : goal.returns-clause-found
returns-clause-found g c = λ place item at is.
    let number_of = g.T.HasNumber.number_of in
    let up = subst (AllPairs (λ a b. number_of a < number_of b)) (sym (same-items _ _ c.self.view_is)) c.requires in
    let there = ap (λ xs. slice_get xs place) (same-items _ _ c.self.view_is) ∙ at in
    c.place_in_blocks.ensures.found place item (front-found number_of (joined c.self.inside.blocks.items) c.self.inside.last.items up c.args.number (c.starts_by.ensures.no c.if-starts_by.false) place item there is) is

pub returns-then-starts_by-clause-there : goal.returns-then-starts_by-clause-there
returns-then-starts_by-clause-there g c =
    let number_of = g.T.HasNumber.number_of in
    let front = joined c.self.inside.blocks.items in
    let last = c.self.inside.last in
    let before : c.self.inside.len - c.len-last.result ≡ length front = omega (arith, c.len-last.ensures, last.ok.0, c.self.invariant) in
    let part : IsPart (front ++ last.items) (c.self.inside.len - c.len-last.result) last.items = subst (λ b. IsPart (front ++ last.items) b last.items) (sym before) (last-part front last.items) in
    IfSome_then c.place_after.result c.place_after.ensures.there (λ place there.
    subst (λ xs. IsNumbered number_of xs c.args.number place) (same-items _ _ c.self.view_is)
    (part-numbered number_of (front ++ last.items) (c.self.inside.len - c.len-last.result) last.items part c.args.number place there))

pub returns-clause-there : goal.returns-clause-there
returns-clause-there g c =
    let number_of = g.T.HasNumber.number_of in
    IfSome_then c.place_in_blocks.result c.place_in_blocks.ensures.there (λ place there.
    subst (λ xs. IsNumbered number_of xs c.args.number place) (same-items _ _ c.self.view_is)
    (front-numbered number_of (joined c.self.inside.blocks.items) c.self.inside.last.items c.args.number place there))
