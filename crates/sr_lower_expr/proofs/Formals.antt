-- A turn of the loop over formals.
use Rattle.std.proofs.Common.{◌≡◌, ℕ, suc, ◌+◌, ◌<◌, sym, List, [], ◌∷◌, ◌++◌, append_assoc, ap, ◌∙◌, arith, length, drop, get_or}
use Rattle.std.proofs.Math.Seq.{drop-cons}
use Rattle.sr_core.specs.declared.component.Parameter.{Parameter}
use Rattle.sr_core.specs.declared.formal.Formal.{Formal}
use Rattle.sr_lower_expr.specs.Places.{first_var, formal_of, formals_of, vars_after}

-- a variable more stands for the next formal
pub formals_turn : (formals added : List Formal) (formal : Formal) (vars left : List ℕ) (var : ℕ) (parameters : List Parameter) (i : ℕ) (parameter : Parameter) (all : List Formal)
    → i < length parameters → parameter ≡ get_or parameters i parameter → var ≡ first_var vars → formal ≡ formal_of var parameter → left ≡ vars_after vars
    → added ≡ formals ++ formal ∷ [] → formals ++ formals_of vars (drop i parameters) ≡ all
    → added ++ formals_of left (drop (i + 1) parameters) ≡ all
formals_turn formals added formal vars left var parameters i parameter all within at first is after more so_far =
    let next : i + 1 ≡ suc i = omega arith in
    ap (λ (made : List Formal). made ++ formals_of left (drop (i + 1) parameters)) more
    ∙ append_assoc formals (formal ∷ []) (formals_of left (drop (i + 1) parameters))
    ∙ ap (λ (f : Formal). formals ++ f ∷ formals_of left (drop (i + 1) parameters)) is
    ∙ ap (λ (v : ℕ). formals ++ formal_of v parameter ∷ formals_of left (drop (i + 1) parameters)) first
    ∙ ap (λ (vs : List ℕ). formals ++ formal_of (first_var vars) parameter ∷ formals_of vs (drop (i + 1) parameters)) after
    ∙ ap (λ (n : ℕ). formals ++ formal_of (first_var vars) parameter ∷ formals_of (vars_after vars) (drop n parameters)) next
    ∙ ap (λ (p : Parameter). formals ++ formals_of vars (p ∷ drop (suc i) parameters)) at
    ∙ ap (λ (rest : List Parameter). formals ++ formals_of vars rest) (sym (drop-cons parameters i parameter within))
    ∙ so_far
