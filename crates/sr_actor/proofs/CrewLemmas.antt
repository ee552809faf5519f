-- What begins one process of a crew.
use Rattle.std.proofs.Common.{◌≡◌, ℕ, Option, Some, None, is_some, false, refl, true≢false}
use Rattle.std.specs.HashMap.{HashMap, UpdatesBy}
use Rattle.std.specs.Prelude.{nat_eq}
pub use Rattle.std.proofs.lemmas.Result.{on_ok_weaker as on_ok}
use Rattle.sr_actor.specs.Crew.{KeepsOthers}
use Rattle.sr_actor.specs.declared.member.Member.{Member}

pub updated-others : {A S : Type 0} (p : ℕ) (old new : HashMap ℕ (Member A) S) (w : Option (Member A)) → UpdatesBy nat_eq (nat_eq p) old new w → KeepsOthers p old new
updated-others p old new w updates = λ q off. updates.2 q off

-- ---- what a call that may fail leaves

pub absent-here : {A : Type 0} (o : Option A) → is_some o ≡ false → o ≡ None
absent-here None none = refl
absent-here (Some a) none = absurd (true≢false none)
