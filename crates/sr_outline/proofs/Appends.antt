-- What is put in one list after another is what is put in both, one after the other.
use Rattle.std.proofs.Common.{◌≡◌, ℕ, ◌+◌, List, [], ◌∷◌, ◌++◌, fold, flat_map, length, map, sym, ap, ◌∙◌, arith}
use Rattle.std.specs.List.{enumerate_from}
use Rattle.std.proofs.lemmas.Grind.{flat_map-append}
use Rattle.std.proofs.lemmas.List.{map-append}
use Rattle.std.proofs.lemmas.List.Sums.{fold-append}
use Rattle.sr_check_expr.specs.declared.facts.Facts.{Facts}
use Rattle.sr_core.specs.declared.component.Operation.{Operation}
use Rattle.sr_names.specs.declared.spot.Spot.{Spot}
use Rattle.sr_tree.specs.declared.declaration.OpTypeDecl.{OpTypeDecl}
use Rattle.sr_tree.specs.declared.declaration.TypeDecl.{TypeDecl}
use Rattle.sr_tables.specs.Tables.{with_entries}
use Rattle.sr_tables.proofs.Appends.{entries_append}
use Rattle.sr_outline.specs.declared.operations.OperationTable.{OperationTable}
use Rattle.sr_outline.specs.Heads.{Heads, DeclaredOperation, head_entry, operation_entry, with_heads, with_opened}
use Rattle.sr_outline.specs.Outline.{with_number}
use Rattle.sr_outline.specs.Shapes.{with_type, with_types}
use Rattle.sr_tables.specs.Shapes.{Shapes}

pub numbers_append : (there xs ys : List ℕ) → fold with_number (fold with_number there xs) ys ≡ fold with_number there (xs ++ ys)
numbers_append there xs ys = sym (fold-append with_number there xs ys)

pub types_append : (facts : Facts) (shapes : Shapes) (xs ys : List TypeDecl) → with_types facts (with_types facts shapes xs) ys ≡ with_types facts shapes (xs ++ ys)
types_append facts shapes xs ys = sym (fold-append (with_type facts) shapes xs ys)

pub heads_append : (facts : Facts) (shapes : Shapes) (heads : Heads) (xs ys : List OpTypeDecl)
    → with_heads facts shapes (with_heads facts shapes heads xs) ys ≡ with_heads facts shapes heads (xs ++ ys)
heads_append facts shapes heads xs ys =
    entries_append heads (map (head_entry facts shapes) xs) (map (head_entry facts shapes) ys)
    ∙ ap (λ entries. with_entries heads entries) (sym (map-append (head_entry facts shapes) xs ys))

pub opened_append : (opening : OperationTable) (xs ys : List DeclaredOperation) → with_opened (with_opened opening xs) ys ≡ with_opened opening (xs ++ ys)
opened_append opening xs ys =
    let entry : DeclaredOperation → Spot × Operation = operation_entry opening.procs opening.component in
    ap (λ operations. record opening { operations = operations }) (entries_append opening.operations (map entry xs) (map entry ys) ∙ ap (λ entries. with_entries opening.operations entries) (sym (map-append entry xs ys)))

pub enumerate_append : {X : Type 0} (n : ℕ) (xs ys : List X) → enumerate_from n (xs ++ ys) ≡ enumerate_from n xs ++ enumerate_from (n + length xs) ys
enumerate_append n [] ys = let e : n ≡ n + 0 = omega arith in ap (λ m. enumerate_from m ys) e
enumerate_append n (x ∷ xs) ys =
    let e : n + 1 + length xs ≡ n + length (x ∷ xs) = omega arith in
    ap (λ rest. (n, x) ∷ rest) (enumerate_append (n + 1) xs ys ∙ ap (λ m. enumerate_from (n + 1) xs ++ enumerate_from m ys) e)

-- the same where each thing has its number
pub numbered_append : {A X : Type 0} (step : A → ℕ × X → A) (start : A) (n : ℕ) (xs ys : List X)
    → fold step start (enumerate_from n (xs ++ ys)) ≡ fold step (fold step start (enumerate_from n xs)) (enumerate_from (n + length xs) ys)
numbered_append step start n xs ys =
    ap (λ all. fold step start all) (enumerate_append n xs ys)
    ∙ fold-append step start (enumerate_from n xs) (enumerate_from (n + length xs) ys)

pub numbered_entries_append : {A X : Type 0} (entries : ℕ × X → List (Spot × A)) (table : List (Spot × A)) (n : ℕ) (xs ys : List X)
    → with_entries table (flat_map entries (enumerate_from n (xs ++ ys)))
    ≡ with_entries (with_entries table (flat_map entries (enumerate_from n xs))) (flat_map entries (enumerate_from (n + length xs) ys))
numbered_entries_append entries table n xs ys =
    ap (λ all. with_entries table (flat_map entries all)) (enumerate_append n xs ys)
    ∙ ap (λ all. with_entries table all) (flat_map-append entries (enumerate_from n xs) (enumerate_from (n + length xs) ys))
    ∙ sym (entries_append table (flat_map entries (enumerate_from n xs)) (flat_map entries (enumerate_from (n + length xs) ys)))
