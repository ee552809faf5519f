-- Components of one file and of more after them, and the first final code of some and of more after them.
use Rattle.std.proofs.Common.{◌≡◌, ℕ, ◌+◌, List, [], ◌∷◌, ◌++◌, Option, Some, None, refl, sym, ap, ◌∙◌, length, map}
use Rattle.std.proofs.lemmas.List.{map-append}
use Rattle.std.specs.List.{enumerate_from}
use Rattle.std.specs.Prelude.{option_to_list}
use Rattle.sr_check_expr.specs.declared.facts.Facts.{Facts}
use Rattle.sr_core.specs.declared.component.Body.{Body}
use Rattle.sr_tables.specs.declared.tables.Tables.{Tables}
use Rattle.sr_tree.specs.declared.component.Component.{Component}
use Rattle.sr_outline.proofs.Appends.{enumerate_append}
use Rattle.sr_desugar.specs.Bodies.{first_final}
use Rattle.sr_desugar.specs.Core.{whole_of, wholes_from}

pub first_kept : (last : Option Body) → first_final (option_to_list last) ≡ last
first_kept None = refl
first_kept (Some body) = refl

pub first_more : (xs ys : List Body) → first_final (option_to_list (first_final xs) ++ ys) ≡ first_final (xs ++ ys)
first_more [] ys = refl
first_more (x ∷ xs) ys = refl

pub wholes_append : (facts : Facts) (tables : Tables) (imports : List (List ℕ)) (n m : ℕ) (xs ys : List Component)
    → m ≡ n + length xs
    → wholes_from facts tables imports n (xs ++ ys) ≡ wholes_from facts tables imports n xs ++ wholes_from facts tables imports m ys
wholes_append facts tables imports n m xs ys is =
    ap (map (whole_of facts tables imports)) (enumerate_append n xs ys)
    ∙ map-append (whole_of facts tables imports) (enumerate_from n xs) (enumerate_from (n + length xs) ys)
    ∙ ap (λ k. wholes_from facts tables imports n xs ++ wholes_from facts tables imports k ys) (sym is)
