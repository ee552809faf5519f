-- The number of a step decides nothing; a new one serves every step.
use Rattle.std.proofs.Common.{◌≡◌, ℕ, Bool, true, false, Option, None, Some, refl}
use Rattle.std.specs.Prelude.{if◌then◌else◌}
use Rattle.sr_world.specs.Acting.{IsNew, NeedsNew}
use Rattle.sr_world.specs.Does.{Does, Did, Makes, Cannot, Ends, Undecided, comes_to, where_some}
use Rattle.sr_world.specs.Worlds.{World}

-- what there is none of can't be done, by either number
pub same-where : {A : Type 0} (o : Option A) (f g : A → Does) → ((a : A) → comes_to (f a) ≡ comes_to (g a)) → comes_to (where_some o f) ≡ comes_to (where_some o g)
same-where None f g same = refl
same-where (Some a) f g same = same a

pub same-if : (b : Bool) (x y z w : Does) → comes_to x ≡ comes_to z → comes_to y ≡ comes_to w → comes_to (if b then x else y) ≡ comes_to (if b then z else w)
same-if true x y z w same other = same
same-if false x y z w same other = other

pub needs_new : (world : World) (name : ℕ) → IsNew world name → (meant : Does) → NeedsNew meant world name
needs_new world name new (Did after answer) = tt
needs_new world name new (Makes after answer) = new
needs_new world name new Cannot = tt
needs_new world name new (Ends ending) = tt
needs_new world name new Undecided = tt
