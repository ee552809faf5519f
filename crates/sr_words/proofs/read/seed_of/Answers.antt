-- The words that the matches have are those that are no options.
use Rattle.std.proofs.Common.{◌∙◌, ap, sym}
use Rattle.clap.specs.Matches.{found_of}
use Rattle.sr_words.specs.Commands.{seed_of as seed_rule}
use Rattle.sr_words.proofs.Getters.{texts_in, words_read}
use Rattle.sr_words.proofs.read.seed_of.Goals as goal

pub returns-in-Some : goal.returns-in-Some
returns-in-Some c =
    let words = words_read (found_of c.args.matches.now) c.get_raw.result c.get_raw.ensures in
    c.seed_in.ensures ∙ sym (ap seed_rule (words ∙ ap texts_in c.in-Some.is))

pub returns-in-None : goal.returns-in-None
returns-in-None c =
    let words = words_read (found_of c.args.matches.now) c.get_raw.result c.get_raw.ensures in
    sym (ap seed_rule (words ∙ ap texts_in c.in-None.is))
