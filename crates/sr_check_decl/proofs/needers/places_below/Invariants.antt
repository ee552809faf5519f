-- The places so far are those below the next.
use Rattle.std.proofs.Common.{◌≡◌, ℕ, ◌<◌, length, get_or}
use Rattle.sr_check_decl.proofs.needers.places_below.Given as goal

abbrev pub invariant-loop-place : goal.invariant-loop-place
invariant-loop-place l = record {
  long : length l.places ≡ l.place;
  each : (k : ℕ) → k < l.place → get_or l.places k 0 ≡ k;
}
