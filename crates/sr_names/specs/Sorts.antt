-- The sorts of names.
use Rattle.std.specs.Prelude.{Bool, true, false}
use Rattle.sr_names.specs.declared.meaning.Sort.{Sort}
use Rattle.sr_names.specs.declared.meaning.Sort.TheVariants.{Constant, Literal, «Type» as TypeSort, OpType, Operation, Variable, Quantifier, Resource, Global}

-- constants and types are usable only after their declaration, everything else in all of its component
abbrev pub needs_order : Sort → Bool
needs_order Constant = true
needs_order Literal = true
needs_order TypeSort = true
needs_order OpType = true
needs_order Operation = false
needs_order Variable = false
needs_order Quantifier = false
needs_order Resource = false
needs_order Global = false

-- a resource shows its operations to nobody: they are reached through a capability
abbrev pub is_hidden : Sort → Sort → Bool
is_hidden Resource Operation = true
is_hidden _ _ = false
