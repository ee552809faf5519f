-- The getter answers what the matches say of the option.
use Rattle.std.proofs.Common.{◌∙◌, ap, sym, Some, rules}
use Rattle.std.specs.Option.{option_map}
use Rattle.clap.specs.Matches.{found_of}
use Rattle.sr_words.specs.Commands.{setting_number}
use Rattle.sr_words.proofs.Getters.{value_read}
use Rattle.sr_words.proofs.read.number_of.Goals as goal

pub returns-in-None : goal.returns-in-None
returns-in-None c =
    let read = value_read c.args.setting (found_of c.args.matches.now) c.setting_name.result.now c.get_str.result c.get_str.ensures c.setting_name.ensures in
    ap Some c.default_of.ensures ∙ sym (ap (setting_number c.args.setting) (read ∙ ap (option_map (λ v. v.now)) c.in-None.is))

pub returns-in-Some : goal.returns-in-Some
returns-in-Some c =
    let read = value_read c.args.setting (found_of c.args.matches.now) c.setting_name.result.now c.get_str.result c.get_str.ensures c.setting_name.ensures in
    search rules
