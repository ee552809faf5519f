-- The arrows of the rows that a picture shows are the links of all rows.
use Rattle.std.proofs.Common.{◌≡◌, ◌∙◌, ◌==◌, ◌&&◌, ◌||◌, ◌++◌, ◌∷◌, [], ℕ, Bool, true, false, List, Option, Some, None, ap, sym, refl}
use Rattle.std.specs.Prelude.{flat_map, is_some}
use Rattle.std.specs.List.{list_any}
use Rattle.std.proofs.lemmas.List.{append-nil}
use Rattle.std.proofs.lemmas.List.Folds.{list_any-append}
use Rattle.std.proofs.lemmas.Grind.{flat_map-append}
use Rattle.sr_trace.specs.Shown.{arrow_from, arrows, arrows_to, is_arrow, is_from, is_link, is_linked, is_shown, is_source, row_if, shown}
use Rattle.sr_trace.specs.declared.traced.Traced.{Traced}

one : (x t : Bool) → ((x && t) || false) ≡ (x && t)
one true true = refl
one true false = refl
one false t = refl

two : (x y t : Bool) → ((x && t) || ((y && t) || false)) ≡ ((x || y) && t)
two true y true = refl
two true true false = refl
two true false false = refl
two false y t = one y t

-- the arrows to an item, by the two items from which it may be linked
ends : (from to item : ℕ) (begun after : Option ℕ)
    → list_any (is_arrow from to) (arrow_from true begun item ++ arrow_from false after item) ≡ ((is_from from begun || is_from from after) && (item == to))
ends from to item None None = refl
ends from to item None (Some second) = one (second == from) (item == to)
ends from to item (Some first) None = two (first == from) false (item == to)
ends from to item (Some first) (Some second) = two (first == from) (second == from) (item == to)

first-false : (x y : Bool) → (x || y) ≡ false → x ≡ false
first-false true y off = off
first-false false y off = refl

-- what isn't linked isn't linked from any item
unlinked : (from : ℕ) (begun after : Option ℕ) → (is_some begun || is_some after) ≡ false → (is_from from begun || is_from from after) ≡ false
unlinked from None None off = refl
unlinked from None (Some second) off = cc
unlinked from (Some first) after off = cc

-- a row that is shown has its arrows; one that isn't has none, as it isn't linked
row-arrows : (from to : ℕ) (row : Traced) (b : Bool) → (is_linked row || b) ≡ true
    → list_any (is_arrow from to) (arrows (row_if (is_linked row || b) row)) ≡ is_link from to row
row-arrows from to row b on =
    let some : row_if (is_linked row || b) row ≡ row ∷ [] = ap (λ v. row_if v row) on in
    let all : arrows (row_if (is_linked row || b) row) ≡ arrows_to row = ap arrows some ∙ append-nil (arrows_to row) in
    ap (list_any (is_arrow from to)) all ∙ ends from to row.item row.begun_by row.after

no-arrows : (from to : ℕ) (row : Traced) (b : Bool) → (is_linked row || b) ≡ false
    → list_any (is_arrow from to) (arrows (row_if (is_linked row || b) row)) ≡ is_link from to row
no-arrows from to row b off =
    let none : row_if (is_linked row || b) row ≡ [] = ap (λ v. row_if v row) off in
    let left : list_any (is_arrow from to) (arrows (row_if (is_linked row || b) row)) ≡ false = ap (λ rows. list_any (is_arrow from to) (arrows rows)) none in
    let right : is_link from to row ≡ false = ap (λ v. v && (row.item == to)) (unlinked from row.begun_by row.after (first-false (is_linked row) b off)) in
    left ∙ sym right

row-shown : (from to : ℕ) (row : Traced) (b shown : Bool) → (is_linked row || b) ≡ shown
    → list_any (is_arrow from to) (arrows (row_if (is_linked row || b) row)) ≡ is_link from to row
row-shown from to row b true is = row-arrows from to row b is
row-shown from to row b false is = no-arrows from to row b is

shown-arrows : (from to : ℕ) (all rows : List Traced)
    → list_any (is_arrow from to) (arrows (flat_map (λ row. row_if (is_shown all row) row) rows)) ≡ list_any (is_link from to) rows
shown-arrows from to all [] = refl
shown-arrows from to all (row ∷ rows) =
    let first = row_if (is_shown all row) row in
    let rest = flat_map (λ row. row_if (is_shown all row) row) rows in
    let split : arrows (first ++ rest) ≡ arrows first ++ arrows rest = flat_map-append arrows_to first rest in
    let parts : list_any (is_arrow from to) (arrows first ++ arrows rest) ≡ (list_any (is_arrow from to) (arrows first) || list_any (is_arrow from to) (arrows rest)) =
    list_any-append (is_arrow from to) (arrows first) (arrows rest) in
    let here : list_any (is_arrow from to) (arrows first) ≡ is_link from to row =
    row-shown from to row (list_any (is_source row.item) all) (is_shown all row) refl in
    ap (list_any (is_arrow from to)) split ∙ parts
    ∙ ap (λ v. v || list_any (is_arrow from to) (arrows rest)) here
    ∙ ap (λ v. is_link from to row || v) (shown-arrows from to all rows)

pub arrows-links : (from to : ℕ) (rows : List Traced) → list_any (is_arrow from to) (arrows (shown rows)) ≡ list_any (is_link from to) rows
arrows-links from to rows = shown-arrows from to rows rows
