use Rattle.std.proofs.Common.{◌≡◌, ℕ, unwrap_or, option_map}
use Rattle.std.specs.BTreeMap.{is_at}
use Rattle.std.specs.FinMap as map
use Rattle.std.specs.List.{IsDistinct}
use Rattle.std.specs.Map.{keys_of, lookup}
use Rattle.std.specs.Ordering.{eq_by_cmp, nat_cmp}
use Rattle.sr_store.specs.Variables.{block_of}
use Rattle.sr_store.proofs.KeptLemmas.{listed}
use Rattle.sr_store.proofs.bucket.Bucket.add_copies.Given as goal

abbrev pub invariant-loop-block : goal.invariant-loop-block
invariant-loop-block l = record {
  distinct : IsDistinct (eq_by_cmp nat_cmp) (keys_of l.block-iterator);
  no_empty : (q : ℕ) → map.get l.self.variables q ≡ listed (block_of l.self.variables q);
  left : (q : ℕ) → unwrap_or (option_map (λ d. d.variables) (lookup (is_at (nat_cmp q)) l.block-iterator)) (block_of l.self.variables q) ≡ block_of l.other.variables q;
}
