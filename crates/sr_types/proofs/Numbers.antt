-- The signature with the number of a signature is that signature.
use Rattle.std.proofs.Common.{◌≡◌, ℕ, List, Option, Some, None, IfSome, sym, ap, ◌∙◌}
use Rattle.sr_types.specs.declared.signature.Signature.{Signature}
use Rattle.sr_types.specs.Decided.{signature_decides}
use Rattle.sr_types.specs.Equality.{equal_signatures}
use Rattle.sr_types.specs.Signatures.{number_of, signature_at}
use Rattle.sr_types.proofs.Places.{position-passes}

pub number-found : (signatures : List Signature) (signature : Signature) (number : Option ℕ) → number ≡ number_of signatures signature → IfSome number (λ n. signature_at signatures n ≡ Some signature)
number-found signatures signature None e = tt
number-found signatures signature (Some n) e =
    let passes = position-passes (equal_signatures signature) signatures n (sym e) in
    passes.1 ∙ ap Some (sym ((signature_decides signature passes.0).0 passes.2))
