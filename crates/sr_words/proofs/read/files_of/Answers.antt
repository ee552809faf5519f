-- The words that the matches have are those that are no options.
use Rattle.std.proofs.Common.{◌≡◌, ◌∙◌, ap, sym, subst, IfOk, Some, ℕ, List}
use Rattle.clap.specs.Matches.{found_of}
use Rattle.sr_words.specs.Commands.{files_of as files_rule}
use Rattle.sr_words.proofs.Getters.{texts_in, words_read}
use Rattle.sr_words.proofs.read.files_of.Goals as goal

pub returns-in-None-clause-usage : goal.returns-in-None-clause-usage
returns-in-None-clause-usage c =
    let words = words_read (found_of c.args.matches.now) c.get_raw.result c.get_raw.ensures in
    λ usage. ap files_rule (words ∙ ap texts_in c.in-None.is)

pub returns-in-Some-clause-files : goal.returns-in-Some-clause-files
returns-in-Some-clause-files c =
    let words = words_read (found_of c.args.matches.now) c.get_raw.result c.get_raw.ensures ∙ ap texts_in c.in-Some.is in
    let P : List (List ℕ) → Type 0 = λ xs. IfOk c.files_in.result (λ files. files_rule xs ≡ Some files) in
    subst P (sym words) c.files_in.ensures.files

pub returns-in-Some-clause-usage : goal.returns-in-Some-clause-usage
returns-in-Some-clause-usage c =
    let words = words_read (found_of c.args.matches.now) c.get_raw.result c.get_raw.ensures ∙ ap texts_in c.in-Some.is in
    λ usage. ap files_rule words ∙ c.files_in.ensures.usage usage
