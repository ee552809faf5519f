-- Results that are there.
use Rattle.std.proofs.Common.{◌≡◌, Option, Some, None, Result, Ok, Err, refl, ap}
use Rattle.sr_value.specs.declared.fault.Fault.{Fault}
use Rattle.sr_value.specs.Parts.{or_fault, with_ok}

pub step-back : {A B : Type 0} (r : Result A Fault) (next : A → Result B Fault) (b : B) → with_ok r next ≡ Ok b → (a : A) × ((r ≡ Ok a) × (next a ≡ Ok b))
step-back (Ok a) next b is = (a, (refl, is))
step-back (Err fault) next b is = cc

pub found-back : {A : Type 0} (fault : Fault) (o : Option A) (a : A) → or_fault fault o ≡ Ok a → o ≡ Some a
found-back fault (Some x) a is = let same : x ≡ a = cc in ap (λ y. Some y) same
found-back fault None a is = cc

pub same-ok : {A : Type 0} (a b : A) → ◌≡◌ {A = Result A Fault} (Ok a) (Ok b) → a ≡ b
same-ok a b is = cc
