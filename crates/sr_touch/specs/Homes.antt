-- The part in which pending invocations stand.
use Rattle.std.specs.Prelude.{ℕ, ◌+◌}
use Rattle.sr_buckets.specs.Parts.{home}
use Rattle.sr_value.specs.declared.capability.Owner.{Owner}
use Rattle.sr_value.specs.declared.capability.Owner.TheVariants.{Inst, Proc}

abbrev pub owner_number : Owner → ℕ
owner_number (Inst instance) = instance
owner_number (Proc process) = process

-- where the pending invocations of an owner stand that are of the class of this operation
abbrev pub line_home : (ℕ → ℕ) → Owner → ℕ → ℕ
line_home class owner op = home (owner_number owner + 1 + class op)
