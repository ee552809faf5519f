-- Each file passes, or is the first that is refused.
use Rattle.std.proofs.Common.{◌+◌, ◌++◌, ◌∷◌, [], take, refl, sym, ap, subst, ◌∙◌}
use Rattle.std.proofs.lemmas.List.{take_more, take_all}
use Rattle.sr_front.specs.Phases.{AllPass}
use Rattle.sr_front.specs.Reading.{KeepsLimits, BreaksLimits, tokens_of}
use Rattle.sr_front.proofs.Lists.FileByFile.{goes_on, is_refused, all_passed}
use Rattle.sr_front.proofs.phases.check_limits.Goals as goal

pub returns-in-Err-clause-refused : goal.returns-in-Err-clause-refused
returns-in-Err-clause-refused c = is_refused KeepsLimits BreaksLimits (λ file. file.items) (λ file. file.items) c.args.files.now
    c.loop-tokens.tokens-index (take c.loop-tokens.tokens-index c.args.files.now) c.tokens-item.result c.loop-tokens.tokens-index
    c.tokens-item.result.items c.in-Err.refusal c.loop-tokens.invariant c.loop-tokens-test.true c.tokens-item.is refl refl c.in-Err.ensures.refused

pub loop-tokens-preserved : goal.loop-tokens-preserved
loop-tokens-preserved c =
    goes_on KeepsLimits BreaksLimits (λ file. file.items) (λ file. file.items) c.args.files.now c.loop-tokens.tokens-index
    (take c.loop-tokens.tokens-index c.args.files.now) c.tokens-item.result c.tokens-item.result c.loop-tokens.tokens-index
    (c.loop-tokens.tokens-index + 1) c.tokens-item.result.items (take (c.loop-tokens.tokens-index + 1) c.args.files.now)
    c.loop-tokens.invariant c.loop-tokens-test.true c.tokens-item.is refl refl
    (record { unchanged = refl; within = c.in-Ok.ensures.ok }) refl
    (take_more c.args.files.now c.loop-tokens.tokens-index c.tokens-item.result c.loop-tokens-test.true
    ∙ ap (λ x. take c.loop-tokens.tokens-index c.args.files.now ++ x ∷ []) (sym c.tokens-item.is))

pub returns-clause-ok : goal.returns-clause-ok
returns-clause-ok c = subst (λ files. AllPass KeepsLimits 0 (tokens_of c.args.files.now) (tokens_of files))
    (take_all c.loop-tokens.tokens-index c.args.files.now c.loop-tokens-test.false)
    (all_passed KeepsLimits BreaksLimits (λ file. file.items) (λ file. file.items) c.args.files.now c.loop-tokens.tokens-index
    (take c.loop-tokens.tokens-index c.args.files.now) c.loop-tokens.invariant c.loop-tokens-test.false)
