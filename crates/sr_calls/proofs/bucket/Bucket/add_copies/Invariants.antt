use Rattle.std.proofs.Common.{◌≡◌, ℕ, nat_eq, unwrap_or}
use Rattle.std.specs.FinMap as map
use Rattle.std.specs.List.{IsDistinct}
use Rattle.std.specs.Map.{keys_of, lookup}
use Rattle.std.specs.Option.{option_map}
use Rattle.sr_calls.specs.Calls.{items_of}
use Rattle.sr_calls.specs.PerProcess.{ProcessCalled}
use Rattle.sr_calls.proofs.ProcessCallsLemmas.{listed}
use Rattle.sr_calls.proofs.bucket.Bucket.add_copies.Given as goal

abbrev pub invariant-loop-process : goal.invariant-loop-process
invariant-loop-process l = record {
  distinct : IsDistinct nat_eq (keys_of l.process-iterator);
  held_full : (q : ℕ) → map.get l.self.held q ≡ listed (items_of l.self.held q);
  replies_full : (q : ℕ) → map.get l.self.replies q ≡ listed (items_of l.self.replies q);
  held : (q : ℕ) → unwrap_or (option_map (λ (d : ProcessCalled). d.held) (lookup (nat_eq q) l.process-iterator)) (items_of l.self.held q) ≡ items_of l.other.held q;
  replies : (q : ℕ) → unwrap_or (option_map (λ (d : ProcessCalled). d.replies) (lookup (nat_eq q) l.process-iterator)) (items_of l.self.replies q) ≡ items_of l.other.replies q;
}
