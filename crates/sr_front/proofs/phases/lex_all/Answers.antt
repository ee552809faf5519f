-- Each file passes, or is the first that is refused.
use Rattle.std.proofs.Common.{◌+◌, ℕ, List, refl, ap}
use Rattle.sr_text.specs.declared.refusal.FrontFail.{FrontFail}
use Rattle.sr_text.specs.declared.refusal.FrontFail.TheVariants.{Refused, NoMemory}
use Rattle.sr_text.specs.declared.refusal.Refusal.{Refusal}
use Rattle.sr_front.specs.Reading.{IsRefusal}
use Rattle.sr_lexer.specs.Tokens.{Lexes, RefusesToLex, FailsToLex}
use Rattle.sr_front.proofs.Lists.FileByFile.{goes_on, is_refused, all_passed}
use Rattle.sr_front.proofs.phases.lex_all.Goals as goal

failed : (holds : Refusal → Type 0) (number : ℕ) (bytes : List ℕ) (fail : FrontFail) → FailsToLex number bytes fail
    → ((refusal : Refusal) → RefusesToLex number bytes refusal → holds refusal) → IsRefusal holds fail
failed holds number bytes (Refused refusal) refused gives = gives refusal refused
failed holds number bytes NoMemory nothing gives = nothing

pub returns-in-Err-clause-refused : goal.returns-in-Err-clause-refused
returns-in-Err-clause-refused c = failed _ c.loop-content.number c.as_bytes.result.now c.in-Err.fail c.in-Err.ensures.refused
    (λ refusal refused. is_refused Lexes RefusesToLex (λ file. file.1) (λ file. file.items) c.args.files.now c.loop-content.content-index
    c.loop-content.all c.loop-content-item.result c.loop-content.number c.as_bytes.result.now refusal c.loop-content.invariant.1
    c.loop-content-test.true c.loop-content-item.is c.loop-content.invariant.0 c.as_bytes.ensures refused)

pub loop-content-preserved : goal.loop-content-preserved
loop-content-preserved c = (
  ap (λ n. n + 1) c.loop-content.invariant.0,
  goes_on Lexes RefusesToLex (λ file. file.1) (λ file. file.items) c.args.files.now c.loop-content.content-index c.loop-content.all
      c.loop-content-item.result c.in-Ok.tokens c.loop-content.number (c.loop-content.content-index + 1) c.as_bytes.result.now c.push.new.self
      c.loop-content.invariant.1 c.loop-content-test.true c.loop-content-item.is c.loop-content.invariant.0 c.as_bytes.ensures
      c.in-Ok.ensures.tokens refl c.in_ok-push-in-Ok.ensures.ok,
)

pub returns-clause-tokens : goal.returns-clause-tokens
returns-clause-tokens c = all_passed Lexes RefusesToLex (λ file. file.1) (λ file. file.items) c.args.files.now c.loop-content.content-index
    c.loop-content.all c.loop-content.invariant.1 c.loop-content-test.false
