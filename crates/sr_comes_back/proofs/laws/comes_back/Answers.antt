-- The tokens of the canonical text are told again from those of the source.
use Rattle.sr_comes_back.proofs.Back.{comes_back}
use Rattle.sr_comes_back.proofs.OneText.{one_text}
use Rattle.sr_comes_back.proofs.laws.comes_back.Goals as goal

pub returns : goal.returns
returns c = record { back = comes_back; one = one_text }
