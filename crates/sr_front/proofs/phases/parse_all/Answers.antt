-- Each file passes, or is the first that is refused.
use Rattle.std.proofs.Common.{◌+◌, ℕ, List, refl, subst}
use Rattle.std.proofs.lemmas.List.{map-id}
use Rattle.sr_text.specs.declared.refusal.FrontFail.{FrontFail}
use Rattle.sr_text.specs.declared.refusal.FrontFail.TheVariants.{Refused, NoMemory}
use Rattle.sr_text.specs.declared.refusal.Refusal.{Refusal}
use Rattle.sr_tree.specs.declared.token.Token.{Token}
use Rattle.sr_parse_expr.specs.Refused.{IsRefusedIn}
use Rattle.sr_parser.specs.Programs.{SpellsNoFile}
use Rattle.sr_program_reader.specs.Files.{SpellsFile}
use Rattle.sr_front.specs.Phases.{AllPass}
use Rattle.sr_front.specs.Reading.{HasTree, HasNoTree, IsRefusal, tokens_of}
use Rattle.sr_front.proofs.Lists.FileByFile.{goes_on, is_refused, all_passed}
use Rattle.sr_front.proofs.phases.parse_all.Goals as goal

failed : (holds : Refusal → Type 0) (tokens : List Token) (fail : FrontFail) → SpellsNoFile tokens fail → IsRefusedIn SpellsFile tokens 0 fail
    → ((refusal : Refusal) → HasNoTree 0 tokens refusal → holds refusal) → IsRefusal holds fail
failed holds tokens (Refused refusal) none dead gives = gives refusal (record { no_tree = none; dead = dead })
failed holds tokens NoMemory none dead gives = none

numbered : (number : ℕ) (tokens : List Token) (refusal : Refusal) → HasNoTree 0 tokens refusal → HasNoTree number tokens refusal
numbered number tokens refusal none = record { no_tree = none.no_tree; dead = none.dead }

pub returns-in-Err-clause-refused : goal.returns-in-Err-clause-refused
returns-in-Err-clause-refused c = failed _ c.tokens-item.result.items c.in-Err.fail c.in-Err.ensures.none c.in-Err.ensures.dead
    (λ refusal refused. is_refused HasTree HasNoTree (λ file. file.items) (λ tree. tree) c.args.files.now c.loop-tokens.tokens-index
    c.loop-tokens.trees c.tokens-item.result c.loop-tokens.tokens-index c.tokens-item.result.items refusal c.loop-tokens.invariant
    c.loop-tokens-test.true c.tokens-item.is refl refl (numbered c.loop-tokens.tokens-index c.tokens-item.result.items refusal refused))

pub loop-tokens-preserved : goal.loop-tokens-preserved
loop-tokens-preserved c =
    goes_on HasTree HasNoTree (λ file. file.items) (λ tree. tree) c.args.files.now c.loop-tokens.tokens-index c.loop-tokens.trees
    c.tokens-item.result c.in-Ok.tree c.loop-tokens.tokens-index (c.loop-tokens.tokens-index + 1) c.tokens-item.result.items c.push.new.self
    c.loop-tokens.invariant c.loop-tokens-test.true c.tokens-item.is refl refl
    c.in-Ok.ensures.tree refl c.in_ok-push-in-Ok.ensures.ok

pub returns-clause-trees : goal.returns-clause-trees
returns-clause-trees c = subst (AllPass HasTree 0 (tokens_of c.args.files.now)) (map-id c.loop-tokens.trees)
    (all_passed HasTree HasNoTree (λ file. file.items) (λ tree. tree) c.args.files.now c.loop-tokens.tokens-index
    c.loop-tokens.trees c.loop-tokens.invariant c.loop-tokens-test.false)
