-- The getter answers what the matches say of the flag.
use Rattle.clap.specs.Matches.{found_of}
use Rattle.sr_words.proofs.Getters.{flag_read}
use Rattle.sr_words.proofs.read.has_flag.Goals as goal

pub returns : goal.returns
returns c =
    flag_read c.args.flag (found_of c.args.matches.now) c.flag_name.result.now c.get_flag.result c.flag_name.ensures c.get_flag.ensures.none c.get_flag.ensures.value
    c.get_flag.ensures.other c.requires
