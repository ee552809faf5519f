-- What the table of hashes answers is the place of the signature.
use Rattle.std.proofs.Common.{ap, ◌∙◌, position}
use Rattle.sr_types.specs.Equality.{equal_signatures}
use Rattle.sr_types.proofs.Numbers.{number-found}
use Rattle.sr_types.proofs.signatures.Signatures.number.Goals as goal

pub returns-clause-found : goal.returns-clause-found
returns-clause-found c = number-found c.args.self.now c.args.signature.now c.get_index_of.result (c.get_index_of.ensures.index ∙ ap (λ keys. position (equal_signatures c.args.signature.now) keys) c.self.view_is)
