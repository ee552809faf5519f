-- Both are proved over the bits of a canonical text.
use Rattle.sr_fmt_laws.proofs.KeptBits.{same_text}
use Rattle.sr_fmt_laws.proofs.Relay.{stays_as_it_is}
use Rattle.sr_fmt_laws.proofs.laws.keeps_its_source.Goals as goal

pub returns : goal.returns
returns c = record { same = same_text; stays = stays_as_it_is }
