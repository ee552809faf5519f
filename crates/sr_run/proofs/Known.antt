-- Bytes that are told: those before, and those after.
use Rattle.std.proofs.Common.{◌≡◌, ℕ, List, [], ◌++◌, None, Some, take, refl, ap, sym, ◌∙◌, subst, append_assoc}
use Rattle.std.specs.Prelude.{◌↔◌, IfSome}
use Rattle.std.specs.declared.option.Option.{Option}
use Rattle.std.specs.Io.KnownBytes.{prepend_known}

pub prepend_known-nil : (left : Option (List ℕ)) → left ≡ prepend_known [] left
prepend_known-nil None = refl
prepend_known-nil (Some bytes) = refl

pub prepend_known-append : (first second : List ℕ) (left : Option (List ℕ)) → prepend_known first (prepend_known second left) ≡ prepend_known (first ++ second) left
prepend_known-append first second None = refl
prepend_known-append first second (Some bytes) = ap Some (sym (append_assoc first second bytes))

-- no bytes were taken
pub passed-none : (left now : Option (List ℕ)) (count : ℕ) (room : List ℕ) → count ≡ 0 → left ≡ prepend_known (take count room) now → left ≡ now
passed-none left now count room none passed = passed ∙ ap (λ n. prepend_known (take n room) now) none ∙ sym (prepend_known-nil now)

-- a source that gives no bytes has none left
at-end-by : (left : Option (List ℕ)) (count : ℕ) → count ≡ 0 → IfSome left (λ bytes. (count ≡ 0) ↔ (bytes ≡ [])) → IfSome left (λ bytes. bytes ≡ [])
at-end-by None count none ends = tt
at-end-by (Some bytes) count none ends = ends.0 none

pub at-end : (left now : Option (List ℕ)) (count : ℕ) → count ≡ 0 → left ≡ now → IfSome left (λ bytes. (count ≡ 0) ↔ (bytes ≡ [])) → IfSome now (λ bytes. bytes ≡ [])
at-end left now count none passed ends = subst (λ o. IfSome o (λ bytes. bytes ≡ [])) passed (at-end-by left count none ends)
