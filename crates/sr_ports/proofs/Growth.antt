-- What several puts append, one after the other.
use Rattle.std.proofs.Common.{◌≡◌, ℕ, ◌+◌, List, [], ◌++◌, length, take, None, Some, refl, sym, ap, ◌∙◌, arith, append_assoc, append-nil, length-append}
use Rattle.std.proofs.Math.Seq.{take-append-add}
use Rattle.std.specs.declared.option.Option.{Option}
use Rattle.std.specs.Io.KnownBytes.{append_known}
use Rattle.sr_ports.specs.Streams.{PutInPart}

pub append_known-nil : (held : Option (List ℕ)) → append_known held [] ≡ held
append_known-nil None = refl
append_known-nil (Some bytes) = ap Some (append-nil bytes)

pub append_known-append : (held : Option (List ℕ)) (first second : List ℕ) → append_known (append_known held first) second ≡ append_known held (first ++ second)
append_known-append None first second = refl
append_known-append (Some bytes) first second = ap Some (append_assoc bytes first second)

-- a text was put before, and a second one in part
pub PutInPart-after : (held mid now : Option (List ℕ)) (first second : List ℕ) → mid ≡ append_known held first → PutInPart mid now second
    → PutInPart held now (first ++ second)
PutInPart-after held mid now first second whole part =
    record {
      count = length first + part.count;
      short = omega (arith, length-append first second, part.short);
      appended =
          part.appended ∙ ap (λ known. append_known known (take part.count second)) whole ∙ append_known-append held first _
          ∙ ap (append_known held) (sym (take-append-add first second part.count));
    }
