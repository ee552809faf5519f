-- The phases before the one that refuses pass all files.
use Rattle.std.proofs.Common.{IfErr, sym, subst, Result, Ok, Err}
use Rattle.std.proofs.lemmas.Result.{err_from_is_err_and}
use Rattle.sr_text.specs.declared.refusal.FrontFail.{FrontFail}
use Rattle.sr_text.specs.declared.refusal.FrontFail.TheVariants.{Refused, NoMemory}
use Rattle.sr_text.specs.declared.refusal.Refusal.{Refusal}
use Rattle.sr_front.specs.Phases.{AllPass, FirstRefused}
use Rattle.sr_front.specs.Reading.{AreRefused, IsRefusal, in_limits, in_grammar, KeepsLimits, BreaksLimits, HasTree, HasNoTree, contents_of, tokens_of}
use Rattle.sr_front.proofs.sources.read.Goals as goal

refused : {X : Type 0} (Of For : Refusal → Type 0) (result : Result X FrontFail) → ((refusal : Refusal) → Of refusal → For refusal)
    → IfErr result (IsRefusal Of) → IfErr result (IsRefusal For)
refused Of For (Ok x) gives was = was
refused Of For (Err (Refused refusal)) gives was = gives refusal was
refused Of For (Err NoMemory) gives was = was

pub returns-in_err-check_limits-clause-refused : goal.returns-in_err-check_limits-clause-refused
returns-in_err-check_limits-clause-refused c =
    let answer = err_from_is_err_and c.from_residual-in_err-check_limits.result c.from_residual-in_err-check_limits.ensures.1 in
    subst (λ result. IfErr result (IsRefusal (AreRefused (contents_of c.args.files.now)))) (sym answer.1)
    (subst (λ fail. IsRefusal (AreRefused (contents_of c.args.files.now)) fail) (sym answer.2)
    (in_limits c.in_ok-check_sizes.ensures.ok c.in_ok-tokens.ensures.tokens
    (subst (λ files. FirstRefused KeepsLimits BreaksLimits 0 (tokens_of files) c.in_err-check_limits.field-0.0) c.as_slice.ensures
    c.in_err-check_limits.ensures.refused)))

pub returns-clause-refused : goal.returns-clause-refused
returns-clause-refused c = refused _ _ c.parse_all.result
    (λ refusal first. in_grammar c.in_ok-check_sizes.ensures.ok c.in_ok-tokens.ensures.tokens
    (subst (λ files. AllPass KeepsLimits 0 (tokens_of files) (tokens_of files)) c.as_slice.ensures c.in_ok-check_limits.ensures.ok)
    (subst (λ files. FirstRefused HasTree HasNoTree 0 (tokens_of files) refusal) c.as_slice-2.ensures first))
    c.parse_all.ensures.refused
