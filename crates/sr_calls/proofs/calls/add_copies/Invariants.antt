use Rattle.std.proofs.Common.{◌≡◌, ℕ, ◌<◌, Some, length}
use Rattle.std.specs.Prelude.{slice_get}
use Rattle.sr_calls.specs.Calls.{Called}
use Rattle.sr_calls.proofs.calls.add_copies.Given as goal

abbrev pub invariant-loop-place : goal.invariant-loop-place
invariant-loop-place l = record {
  long : length l.to ≡ length l.fn.to;
  copied : (k : ℕ) (bucket copy : Called) → k < l.place → slice_get l.from k ≡ Some bucket → slice_get l.to k ≡ Some copy → (copy.held ≡ bucket.held) × (copy.replies ≡ bucket.replies);
}
