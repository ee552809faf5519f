-- The words that the matches have are those that are no options.
use Rattle.std.proofs.Common.{◌≡◌, ◌∙◌, ap, sym, subst, IfOk, Some, ℕ, List}
use Rattle.clap.specs.Matches.{found_of}
use Rattle.sr_words.specs.Commands.{recorded_of as rule}
use Rattle.sr_words.proofs.Getters.{texts_in, words_read}
use Rattle.sr_words.proofs.read.recorded_of.Goals as goal

pub returns-in-None-clause-usage : goal.returns-in-None-clause-usage
returns-in-None-clause-usage c =
    let words = words_read (found_of c.args.matches.now) c.get_raw.result c.get_raw.ensures in
    λ usage. ap rule (words ∙ ap texts_in c.in-None.is)

pub returns-in-Some-clause-recorded : goal.returns-in-Some-clause-recorded
returns-in-Some-clause-recorded c =
    let words = words_read (found_of c.args.matches.now) c.get_raw.result c.get_raw.ensures ∙ ap texts_in c.in-Some.is in
    let P : List (List ℕ) → Type 0 = λ xs. IfOk c.recorded_in.result (λ recorded. rule xs ≡ Some recorded) in
    subst P (sym words) c.recorded_in.ensures.recorded

pub returns-in-Some-clause-usage : goal.returns-in-Some-clause-usage
returns-in-Some-clause-usage c =
    let words = words_read (found_of c.args.matches.now) c.get_raw.result c.get_raw.ensures ∙ ap texts_in c.in-Some.is in
    λ usage. ap rule words ∙ c.recorded_in.ensures.usage usage
