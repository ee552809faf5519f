-- The input that is taken to its end.
use Rattle.std.proofs.Common.{◌≡◌, ◌∙◌, ◌+◌, ◌<◌, ◌≤◌, ℕ, Bool, true, false, List, [], ◌++◌, length, take, Option, ap, append-nil, arith, length-append, refl, subst, sym, true≢false}
use Rattle.std.specs.Prelude.{◌↔◌, IfSome}
use Rattle.std.specs.Io.KnownBytes.{prepend_known}
use Rattle.sr_ports.specs.Faults.{Rose}
use Rattle.sr_run.proofs.Known.{at-end, passed-none, prepend_known-append, prepend_known-nil}
use Rattle.sr_top.specs.declared.report.LimitKind.TheVariants as limit
use Rattle.sr_top.specs.Replaying.{IsTooLong, IsWhole}
use Rattle.sr_top.specs.Stages.{EndsInput, EndsPiece, TakesPiece}
use Rattle.sr_top.specs.declared.report.Ending.{Ending}
use Rattle.sr_top.specs.declared.report.Ending.TheVariants.{Done, Quiet, Stopped, Failed, Limit, Refused, NoFile, ReadFault, WriteFault, NoMemory, Usage, BadJournal, OtherFiles, Illegal}

-- there were no bytes
pub took_none : (left now : Option (List ℕ)) (count : ℕ) (room old : List ℕ) → count ≡ 0 → left ≡ prepend_known (take count room) now
    → IfSome left (λ bytes. (count ≡ 0) ↔ (bytes ≡ [])) → length old ≤ 67108865 → TakesPiece left now old old false
took_none left now count room old none passed ends most =
    let same = passed-none left now count room none passed in
    record {
      piece = [];
      passed = same ∙ prepend_known-nil now;
      added = sym (append-nil old);
      most = most;
      more = λ some. absurd (true≢false (sym some));
      none = λ is. (refl, at-end left now count none same ends);
    }

-- there were some
pub took_some : (left now : Option (List ℕ)) (piece old new : List ℕ) → left ≡ prepend_known piece now → new ≡ old ++ piece → 0 < length piece
    → length old + length piece ≤ 67108865 → TakesPiece left now old new true
took_some left now piece old new passed added some most =
    let longer : length new ≡ length old + length piece = ap length added ∙ length-append old piece in
    record {
      piece = piece;
      passed = passed;
      added = added;
      most = omega arith;
      more = λ is. omega arith;
      none = λ is. absurd (true≢false is);
    }

-- what was taken so far, and one more piece
pub passed-more : (first left now : Option (List ℕ)) (old new : List ℕ) (some : Bool) → first ≡ prepend_known old left → TakesPiece left now old new some → first ≡ prepend_known new now
passed-more first left now old new some before takes =
    before ∙ ap (prepend_known old) takes.passed ∙ prepend_known-append old takes.piece now ∙ ap (λ bytes. prepend_known bytes now) (sym takes.added)

-- all was taken
pub whole_after : (first left now : Option (List ℕ)) (old new : List ℕ) (some : Bool) → some ≡ false → first ≡ prepend_known old left → length old ≤ 67108864
    → TakesPiece left now old new some → IsWhole first now new
whole_after first left now old new some is before most takes =
    let none = takes.none is in
    let same : length new ≡ length old = ap length none.0 in
    record { passed = passed-more first left now old new some before takes; at_end = none.1; most = omega arith }

-- too much was taken
pub long_after : (first left now : Option (List ℕ)) (old new : List ℕ) (some : Bool) → first ≡ prepend_known old left → TakesPiece left now old new some → 67108864 < length new
    → IsTooLong first now
long_after first left now old new some before takes more = record { taken = new; passed = passed-more first left now old new some before takes; more = more }

-- a piece couldn't be taken
pub stopped_input : (left left_now : Option (List ℕ)) (faults before now : ℕ) → before ≡ faults → (ending : Ending) → EndsPiece before now ending → EndsInput left left_now faults now ending
stopped_input left left_now faults before now same Done ends = absurd ends
stopped_input left left_now faults before now same Quiet ends = absurd ends
stopped_input left left_now faults before now same (Stopped status) ends = absurd ends
stopped_input left left_now faults before now same (Failed fault place) ends = absurd ends
stopped_input left left_now faults before now same (Limit limit.Steps) ends = absurd ends
stopped_input left left_now faults before now same (Limit (limit.Ticks process)) ends = absurd ends
stopped_input left left_now faults before now same (Limit limit.Input) ends = absurd ends
stopped_input left left_now faults before now same (Limit limit.Items) ends = absurd ends
stopped_input left left_now faults before now same (Limit limit.Races) ends = absurd ends
stopped_input left left_now faults before now same (Refused refusal) ends = absurd ends
stopped_input left left_now faults before now same (NoFile file) ends = absurd ends
stopped_input left left_now faults before now same ReadFault ends = subst (λ n. Rose n now) same ends
stopped_input left left_now faults before now same WriteFault ends = absurd ends
stopped_input left left_now faults before now same NoMemory ends = ends ∙ same
stopped_input left left_now faults before now same Usage ends = absurd ends
stopped_input left left_now faults before now same (BadJournal fail) ends = absurd ends
stopped_input left left_now faults before now same (OtherFiles file) ends = absurd ends
stopped_input left left_now faults before now same (Illegal at) ends = absurd ends
