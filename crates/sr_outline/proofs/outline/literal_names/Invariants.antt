-- What there is so far and what the rest adds are what all add.
use Rattle.std.proofs.Common.{drop, map, ◌++◌, ◌≡◌}
use Rattle.sr_outline.proofs.outline.literal_names.Given as goal

abbrev pub invariant-loop-literal : goal.invariant-loop-literal
invariant-loop-literal l = l.names ++ map (λ name. name.text) (drop l.literal-index l.literals) ≡ map (λ name. name.text) l.literals
