-- The table of hashes holds what is equal, which is the signature itself; what stood there stands where it stood.
use Rattle.std.proofs.Common.{Some, sym, ap, ◌∙◌}
use Rattle.indexmap.specs.IndexSet.{insert_key}
use Rattle.sr_types.specs.Decided.{signature_decides, signature_itself}
use Rattle.sr_types.specs.Equality.{equal_signatures}
use Rattle.sr_types.specs.Signatures.{signature_at}
use Rattle.sr_types.proofs.Places.{one-place, insert_key-keeps}
use Rattle.sr_types.proofs.signatures.Signatures.add.Goals as goal

pub returns-clause-found : goal.returns-clause-found
returns-clause-found c =
    let stored = c.in_ok-number.ensures.stored in
    stored.1 ∙ ap Some (sym ((signature_decides c.args.signature stored.0).0 stored.2))

pub returns-clause-one : goal.returns-clause-one
returns-clause-one c = λ a b signature p q. one-place equal_signatures signature_itself _ a b signature c.insert_full.ensures.unique p q

pub returns-clause-kept : goal.returns-clause-kept
returns-clause-kept c = λ number signature p. ap (λ keys. signature_at keys number) (c.in_ok-number.ensures.keys ∙ ap (λ keys. insert_key equal_signatures keys c.args.signature) c.self.view_is) ∙ insert_key-keeps equal_signatures c.args.self.now c.args.signature number signature p
