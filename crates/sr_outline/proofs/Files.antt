-- A turn over the files of a program: what the components of one file add, and then those of the files after it.
use Rattle.std.proofs.Common.{◌≡◌, ℕ, suc, ◌+◌, ◌<◌, List, ◌∷◌, fold, flat_map, length, drop, get_or, arith, sym, ap, ◌∙◌}
use Rattle.std.proofs.Math.Seq.{drop-cons}
use Rattle.std.specs.List.{enumerate_from}
use Rattle.sr_names.specs.declared.spot.Spot.{Spot}
use Rattle.sr_tree.specs.declared.component.Component.{Component}
use Rattle.sr_tree.specs.declared.component.File.{File}
use Rattle.sr_tables.specs.Parts.{components_in}
use Rattle.sr_tables.specs.Tables.{with_entries}
use Rattle.sr_outline.proofs.Appends.{numbered_append, numbered_entries_append}

first_of_rest : (files : List File) (i : ℕ) (file : File) → i < length files → file ≡ get_or files i file
    → file ∷ drop (i + 1) files ≡ drop i files
first_of_rest files i file within is =
    let next : i + 1 ≡ suc i = omega arith in
    ap (λ (n : ℕ). file ∷ drop n files) next ∙ ap (λ (first : File). first ∷ drop (suc i) files) is ∙ sym (drop-cons files i file within)

-- numbered things are folded
pub file_folded : {A : Type 0} (step : A → ℕ × Component → A) (start : A) (n : ℕ) (files : List File) (i : ℕ) (file : File)
    → i < length files → file ≡ get_or files i file
    → fold step (fold step start (enumerate_from n file.components)) (enumerate_from (n + length file.components) (components_in (drop (i + 1) files)))
    ≡ fold step start (enumerate_from n (components_in (drop i files)))
file_folded step start n files i file within is =
    sym (numbered_append step start n file.components (components_in (drop (i + 1) files)))
    ∙ ap (λ (rest : List File). fold step start (enumerate_from n (components_in rest))) (first_of_rest files i file within is)

-- numbered things have entries in a table
pub file_entered : {A : Type 0} (entries : ℕ × Component → List (Spot × A)) (table : List (Spot × A)) (n : ℕ) (files : List File) (i : ℕ) (file : File)
    → i < length files → file ≡ get_or files i file
    → with_entries (with_entries table (flat_map entries (enumerate_from n file.components)))
    (flat_map entries (enumerate_from (n + length file.components) (components_in (drop (i + 1) files))))
    ≡ with_entries table (flat_map entries (enumerate_from n (components_in (drop i files))))
file_entered entries table n files i file within is =
    sym (numbered_entries_append entries table n file.components (components_in (drop (i + 1) files)))
    ∙ ap (λ (rest : List File). with_entries table (flat_map entries (enumerate_from n (components_in rest)))) (first_of_rest files i file within is)
