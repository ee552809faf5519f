-- The words that the matches have are those that are no options.
use Rattle.std.proofs.Common.{◌≡◌, ◌∙◌, ap, sym, subst, IfOk, Some, ℕ, List}
use Rattle.clap.specs.Matches.{found_of}
use Rattle.sr_words.specs.Commands.{file_of as file_rule}
use Rattle.sr_words.proofs.Getters.{texts_in, words_read}
use Rattle.sr_words.proofs.read.file_of.Goals as goal

pub returns-in-None-clause-usage : goal.returns-in-None-clause-usage
returns-in-None-clause-usage c =
    let words = words_read (found_of c.args.matches.now) c.get_raw.result c.get_raw.ensures in
    λ usage. ap file_rule (words ∙ ap texts_in c.in-None.is)

pub returns-in-Some-clause-file : goal.returns-in-Some-clause-file
returns-in-Some-clause-file c =
    let words = words_read (found_of c.args.matches.now) c.get_raw.result c.get_raw.ensures ∙ ap texts_in c.in-Some.is in
    let P : List (List ℕ) → Type 0 = λ xs. IfOk c.file_in.result (λ file. file_rule xs ≡ Some file) in
    subst P (sym words) c.file_in.ensures.file

pub returns-in-Some-clause-usage : goal.returns-in-Some-clause-usage
returns-in-Some-clause-usage c =
    let words = words_read (found_of c.args.matches.now) c.get_raw.result c.get_raw.ensures ∙ ap texts_in c.in-Some.is in
    λ usage. ap file_rule words ∙ c.file_in.ensures.usage usage
