-- Code with one instruction written over: what is below it and above it is as before.
use Rattle.std.proofs.Common.{◌≡◌, ℕ, zero, suc, ◌≤◌, ◌<◌, List, [], ◌∷◌, length, Some, refl, ◌∙◌, ap, slice_get, slice_set, arith}
use Rattle.sr_value.specs.declared.place.Place.{Place}
use Rattle.sr_code.specs.Acts.{point, act}
use Rattle.sr_code.specs.Runs.{Machine, go, here_at}
use Rattle.sr_code.specs.Stretches.{Extends, Follows, Has}
use Rattle.sr_code.specs.declared.code.Coded.{Coded}
use Rattle.sr_code.specs.declared.instruction.Instruction.{Instruction}
use Rattle.sr_code.specs.declared.operands.Operands.{Operands}
use Rattle.sr_code.proofs.Stretches.{runs_found}
use Rattle.sr_gen.specs.Doing.{Patches}

set_length : {A : Type 0} (xs : List A) (i : ℕ) (x : A) → length (slice_set xs i x) ≡ length xs
set_length [] i x = refl
set_length (y ∷ ys) zero x = refl
set_length (y ∷ ys) (suc i) x = ap suc (set_length ys i x)

set_same : {A : Type 0} (xs : List A) (i : ℕ) (x : A) → i < length xs → slice_get (slice_set xs i x) i ≡ Some x
set_same [] i x within = absurd (omega arith)
set_same (y ∷ ys) zero x within = refl
set_same (y ∷ ys) (suc i) x within = set_same ys i x (omega arith)

set_below : {A : Type 0} (xs : List A) (i k : ℕ) (x : A) → k < i → slice_get (slice_set xs i x) k ≡ slice_get xs k
set_below [] i k x less = refl
set_below (y ∷ ys) zero k x less = absurd (omega arith)
set_below (y ∷ ys) (suc i) zero x less = refl
set_below (y ∷ ys) (suc i) (suc k) x less = set_below ys i k x (omega arith)

set_above : {A : Type 0} (xs : List A) (i k : ℕ) (x : A) → i < k → slice_get (slice_set xs i x) k ≡ slice_get xs k
set_above [] i k x less = refl
set_above (y ∷ ys) zero zero x less = absurd (omega arith)
set_above (y ∷ ys) zero (suc k) x less = refl
set_above (y ∷ ys) (suc i) zero x less = absurd (omega arith)
set_above (y ∷ ys) (suc i) (suc k) x less = set_above ys i k x (omega arith)

pub patched_length : {line : Place} {instruction : Instruction} {at : ℕ} {old new : List Coded} → Patches line instruction at old new → length new ≡ length old
patched_length {line = line} {instruction = instruction} {at = at} {old = old} p = ap length p.is ∙ set_length old at (record { place = line; instruction = instruction })

-- what is below the instruction stands there as before
pub patched_extends : {line : Place} {instruction : Instruction} {c0 c1 old new : List Coded} → Patches line instruction (length c1) old new → Extends c0 c1 → Extends c1 old → Extends c0 new
patched_extends {c0 = c0} {c1 = c1} {old = old} p e f = record {
  above = let l = patched_length p in let a = e.above in let b = f.above in omega arith;
  kept = record {
    same = λ at low high.
        let a = e.above in
        ap (λ c. slice_get c at) p.is ∙ set_below old (length c1) at _ (omega arith) ∙ f.kept.same at low (omega arith) ∙ e.kept.same at low high;
  };
}

pub patched_lower : {line : Place} {instruction : Instruction} {from : ℕ} {c1 old new whole : List Coded} → Patches line instruction (length c1) old new → Extends c1 old
    → Has new from (length new) whole → Has c1 from (length c1) whole
patched_lower {c1 = c1} {old = old} p f h = record {
  same = λ at low high.
      let l = patched_length p in let b = f.above in
      h.same at low (omega arith) ∙ ap (λ c. slice_get c at) p.is ∙ set_below old (length c1) at _ high ∙ f.kept.same at (omega arith) high;
}

-- and so is what is above it
pub patched_upper : {line : Place} {instruction : Instruction} {from at to : ℕ} {old new whole : List Coded} → Patches line instruction at old new → from ≤ at → at < to
    → Has new from (length new) whole → Has old to (length old) whole
patched_upper {at = at} {old = old} p less more h = record {
  same = λ k low high. let l = patched_length p in h.same k (omega arith) (omega arith) ∙ ap (λ c. slice_get c k) p.is ∙ set_above old at k _ (omega arith);
}

-- the instruction itself is carried out
pub runs_patched : (m : Machine) {line : Place} {instruction : Instruction} {from at : ℕ} {old new : List Coded} → Patches line instruction at old new → from ≤ at → at < length old
    → Has new from (length new) m.code → (on : Operands)
    → Follows (go m (point (suc at) on)) (act m.core instruction (here_at m line) at on) (go m)
runs_patched m {line = line} {instruction = instruction} {at = at} {old = old} p low within h on =
    let l = patched_length p in
    runs_found m at (record { place = line; instruction = instruction }) on
    (h.same at low (omega arith) ∙ ap (λ c. slice_get c at) p.is ∙ set_same old at (record { place = line; instruction = instruction }) within)
