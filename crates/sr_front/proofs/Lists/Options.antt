-- What is there where something was found.
use Rattle.std.proofs.Common.{◌≡◌, true, Option, None, Some, is_some, refl}
use Rattle.std.proofs.lemmas.Bool.{false≢true}

pub some_of : {A : Type 0} (found : Option A) → is_some found ≡ true → (thing : A) × (found ≡ Some thing)
some_of None e = absurd (false≢true e)
some_of (Some thing) e = (thing, refl)
