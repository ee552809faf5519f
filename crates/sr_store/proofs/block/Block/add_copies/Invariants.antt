use Rattle.std.proofs.Common.{◌≡◌, ℕ, nat_eq}
use Rattle.std.specs.List.{IsDistinct}
use Rattle.std.specs.Map.{keys_of, lookup}
use Rattle.std.specs.Option.{option_or}
use Rattle.std.specs.FinMap as map
use Rattle.sr_store.proofs.block.Block.add_copies.Given as goal

abbrev pub invariant-loop-var : goal.invariant-loop-var
invariant-loop-var l = record {
  distinct : IsDistinct nat_eq (keys_of l.var-iterator);
  left : (q : ℕ) → option_or (lookup (nat_eq q) l.var-iterator) (map.get l.self.variables q) ≡ map.get l.other.variables q;
}
