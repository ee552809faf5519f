-- A signature that has a number keeps it.
use Rattle.std.proofs.Common.{◌≡◌, ℕ, ◌+◌, Bool, true, false, cond, List, [], ◌∷◌, ◌++◌, Some, if◌then◌else◌, sym, ◌∙◌}
use Rattle.std.proofs.lemmas.Iterator.Adapters.{position_from-zero}
use Rattle.std.proofs.lemmas.Option.{none-some}
use Rattle.std.specs.List.{list_any, position_from}
use Rattle.sr_check_expr.specs.declared.facts.Facts.{Facts}
use Rattle.sr_types.specs.declared.signature.Signature.{Signature}
use Rattle.sr_types.specs.Equality.{equal_signatures}
use Rattle.sr_types.specs.Signatures.{number_of, with_signature}
use Rattle.sr_front.proofs.Known.InfosStay.{Steady}
use Rattle.sr_front.proofs.Known.KeptDeclared.{Declares}
use Rattle.sr_front.proofs.Known.KeptNames.{Anywhere}

found_more : (test : Signature → Bool) (first : ℕ) (xs ys : List Signature) (number : ℕ) → position_from test first xs ≡ Some number → position_from test first (xs ++ ys) ≡ Some number
found_more test first [] ys number h = absurd (none-some number h)
found_more test first (x ∷ xs) ys number h = by (test x) h (found_more test (first + 1) xs ys number)
  where
    by : (b : Bool) → cond b (Some first) (position_from test (first + 1) xs) ≡ Some number → (position_from test (first + 1) xs ≡ Some number → position_from test (first + 1) (xs ++ ys) ≡ Some number)
        → cond b (Some first) (position_from test (first + 1) (xs ++ ys)) ≡ Some number
    by true h more = h
    by false h more = more h

module _ (signature : Signature) (number : ℕ) where
  abbrev pub Numbered : Facts → Type 0
  Numbered facts = number_of facts.signatures signature ≡ Some number

  numbered_with : (signatures : List Signature) (other : Signature) → number_of signatures signature ≡ Some number → number_of (with_signature signatures other) signature ≡ Some number
  numbered_with signatures other h = by (list_any (equal_signatures other) signatures)
    where
      by : (b : Bool) → number_of (if b then signatures else signatures ++ other ∷ []) signature ≡ Some number
      by true = h
      by false =
          position_from-zero (equal_signatures signature) (signatures ++ other ∷ [])
          ∙ found_more (equal_signatures signature) 0 signatures (other ∷ []) number (sym (position_from-zero (equal_signatures signature) signatures) ∙ h)

  pub numbered_declares : Declares Numbered Anywhere
  numbered_declares = record {
    entered = λ facts other h. numbered_with facts.signatures other h;
    put = λ facts spot one free h. h;
    operation = λ facts spot ty component is_local h. h;
    standing = λ facts component h. h;
  }

  pub numbered_steady : Steady Numbered Anywhere Anywhere
  numbered_steady = record {
    closed = record { entered = λ facts other h. numbered_with facts.signatures other h; put = λ facts spot typed free h. h; operation = λ facts spot ty component is_local fits h. h };
    standing = λ facts component h. h;
  }
