-- Findings of which none is a broken rule: their parts, and where there are none.
use Rattle.std.proofs.Common.{◌≡◌, refl, sym, subst, inl, inr, Bool, true, false, List, [], ◌∷◌, ◌++◌, None, MatchOption}
use Rattle.std.specs.Prelude.{IsTrue}
use Rattle.sr_names.specs.declared.finding.Finding.{Finding}
use Rattle.sr_names.specs.declared.finding.Finding.TheVariants.{Use, Broken}
use Rattle.sr_names.specs.declared.finding.Rule.{Rule}
use Rattle.sr_names.specs.declared.finding.Diagnostic.{Diagnostic}
use Rattle.sr_names.specs.FirstLaw.{IsBroken, IsFirst}
use Rattle.sr_names.specs.Diagnostics.{nothing, all_noted}
use Rattle.sr_names.proofs.FirstLemmas.{keeps-first}
use Rattle.sr_check_expr.specs.Typings.{broken_unless}
use Rattle.sr_value.specs.declared.place.Span.{Span}
use Rattle.sr_check.specs.ErrorFree.{ErrorFree}

pub error_free_first : (xs ys : List Finding) → ErrorFree (xs ++ ys) → ErrorFree xs
error_free_first [] ys whole = tt
error_free_first (Use spot meaning ∷ xs) ys whole = error_free_first xs ys whole
error_free_first (Broken diagnostic ∷ xs) ys whole = absurd whole

pub error_free_second : (xs ys : List Finding) → ErrorFree (xs ++ ys) → ErrorFree ys
error_free_second [] ys whole = whole
error_free_second (Use spot meaning ∷ xs) ys whole = error_free_second xs ys whole
error_free_second (Broken diagnostic ∷ xs) ys whole = absurd whole

pub error_free_both : (xs ys : List Finding) → ErrorFree xs → ErrorFree ys → ErrorFree (xs ++ ys)
error_free_both [] ys first second = second
error_free_both (Use spot meaning ∷ xs) ys first second = error_free_both xs ys first second
error_free_both (Broken diagnostic ∷ xs) ys first second = absurd first

-- what is found is told by an equal list
pub same_error_free : {xs ys : List Finding} → xs ≡ ys → ErrorFree ys → ErrorFree xs
same_error_free is whole = subst ErrorFree (sym is) whole

-- a rule that isn't broken is met
pub rule_met : (met : Bool) (rule : Rule) (span : Span) → ErrorFree (broken_unless met rule span) → IsTrue met
rule_met true rule span error_free = refl
rule_met false rule span error_free = absurd error_free

-- ---- where nothing broken is kept

broken_nowhere : (findings : List Finding) → ((diagnostic : Diagnostic) → IsBroken findings diagnostic → ⊥) → ErrorFree findings
broken_nowhere [] none = tt
broken_nowhere (Use spot meaning ∷ findings) none = broken_nowhere findings (λ diagnostic within. none diagnostic (inr within))
broken_nowhere (Broken diagnostic ∷ findings) none = none diagnostic (inl refl)

pub error_free : (findings : List Finding) → (all_noted nothing findings).first ≡ None → ErrorFree findings
error_free findings is =
    broken_nowhere findings
    (subst (λ first. MatchOption first ((diagnostic : Diagnostic) → IsBroken findings diagnostic → ⊥) (IsFirst findings)) is (keeps-first findings))
