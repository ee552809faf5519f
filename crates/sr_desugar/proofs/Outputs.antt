-- Outputs and components that are put after others in turn are all put after them.
use Rattle.std.proofs.Common.{◌≡◌, ℕ, suc, ◌+◌, ◌<◌, List, [], ◌∷◌, ◌++◌, Option, flat_map, map, length, drop, get_or, arith, append-nil, append_assoc, sym, ap, ◌∙◌}
use Rattle.std.proofs.Math.Seq.{drop-cons}
use Rattle.std.proofs.lemmas.Grind.{flat_map-append}
use Rattle.std.proofs.lemmas.List.{map-append}
use Rattle.std.specs.List.{enumerate_from}
use Rattle.std.specs.Prelude.{option_to_list}
use Rattle.sr_check_expr.specs.declared.facts.Facts.{Facts}
use Rattle.sr_core.specs.declared.component.Body.{Body}
use Rattle.sr_core.specs.declared.component.Component.{Component}
use Rattle.sr_tables.specs.declared.tables.Tables.{Tables}
use Rattle.sr_tables.specs.Parts.{components_in}
use Rattle.sr_tree.specs.declared.component.Component.{Component as ComponentTree}
use Rattle.sr_tree.specs.declared.component.File.{File}
use Rattle.sr_desugar.specs.declared.bodies.Codes.{Codes}
use Rattle.sr_desugar.specs.declared.bodies.Gathered.{Gathered}
use Rattle.sr_desugar.specs.Bodies.{Output, all_finals, first_final, with_codes, with_outputs}
use Rattle.sr_desugar.specs.Core.{LoweredComponent, all_components, wholes_from, with_wholes}
use Rattle.sr_desugar.proofs.Appends.{first_kept, first_more, wholes_append}

first_of_rest : {X : Type 0} (xs : List X) (i : ℕ) (x : X) → i < length xs → x ≡ get_or xs i x → x ∷ drop (i + 1) xs ≡ drop i xs
first_of_rest xs i x within is =
    let next : i + 1 ≡ suc i = omega arith in
    ap (λ (n : ℕ). x ∷ drop n xs) next ∙ ap (λ first. first ∷ drop (suc i) xs) is ∙ sym (drop-cons xs i x within)

-- what a thing more makes is appended, and then what those after it make
pub mapped_next : {X Y Z : Type 0} (part : Y → Z) (make : X → Y) (there : List Z) (made : Z) (xs : List X) (i : ℕ) (x : X)
    → i < length xs → x ≡ get_or xs i x → made ≡ part (make x)
    → (there ++ made ∷ []) ++ map part (map make (drop (i + 1) xs)) ≡ there ++ map part (map make (drop i xs))
mapped_next part make there made xs i x within at is =
    append_assoc there (made ∷ []) (map part (map make (drop (i + 1) xs)))
    ∙ ap (λ first. there ++ first ∷ map part (map make (drop (i + 1) xs))) is
    ∙ ap (λ rest. there ++ map part (map make rest)) (first_of_rest xs i x within at)

after_more : {A B : Type 0} (part : A → List B) (there : List B) (xs ys : List A) → (there ++ flat_map part xs) ++ flat_map part ys ≡ there ++ flat_map part (xs ++ ys)
after_more part there xs ys = append_assoc there (flat_map part xs) (flat_map part ys) ∙ ap (λ rest. there ++ rest) (sym (flat_map-append part xs ys))

-- ---- outputs

finals_more : (last : Option Body) (xs ys : List Output)
    → first_final (option_to_list (first_final (option_to_list last ++ all_finals xs)) ++ all_finals ys) ≡ first_final (option_to_list last ++ all_finals (xs ++ ys))
finals_more last xs ys =
    first_more (option_to_list last ++ all_finals xs) (all_finals ys)
    ∙ ap (λ (finals : List Body). first_final finals) (after_more (λ output. output.finals) (option_to_list last) xs ys)

pub codes_more : (codes : Codes) (xs ys : List Output) → with_codes (with_codes codes xs) ys ≡ with_codes codes (xs ++ ys)
codes_more codes xs ys = λ i. record { initial = after_more (λ output. output.code) codes.initial xs ys i; last = finals_more codes.last xs ys i }

pub codes_none : (codes : Codes) → with_codes codes [] ≡ codes
codes_none codes = λ i. record {
  initial = append-nil codes.initial i;
  last = (ap (λ (finals : List Body). first_final finals) (append-nil (option_to_list codes.last)) ∙ first_kept codes.last) i;
}

pub outputs_more : (gathered : Gathered) (xs ys : List Output) → with_outputs (with_outputs gathered xs) ys ≡ with_outputs gathered (xs ++ ys)
outputs_more gathered xs ys = λ i. record { procs = after_more (λ output. output.procs) gathered.procs xs ys i; sites = after_more (λ output. output.sites) gathered.sites xs ys i }

pub outputs_none : (gathered : Gathered) → with_outputs gathered [] ≡ gathered
outputs_none gathered = λ i. record { procs = append-nil gathered.procs i; sites = append-nil gathered.sites i }

-- an item more, and then those after it
pub codes_item : {X : Type 0} (output : X → Output) (codes : Codes) (items : List X) (i : ℕ) (item : X)
    → i < length items → item ≡ get_or items i item
    → with_codes (with_codes codes (output item ∷ [])) (map output (drop (i + 1) items)) ≡ with_codes codes (map output (drop i items))
codes_item output codes items i item within is =
    codes_more codes (output item ∷ []) (map output (drop (i + 1) items))
    ∙ ap (λ rest. with_codes codes (map output rest)) (first_of_rest items i item within is)

pub outputs_item : {X : Type 0} (output : X → Output) (gathered : Gathered) (items : List X) (i : ℕ) (item : X)
    → i < length items → item ≡ get_or items i item
    → with_outputs (with_outputs gathered (output item ∷ [])) (map output (drop (i + 1) items)) ≡ with_outputs gathered (map output (drop i items))
outputs_item output gathered items i item within is =
    outputs_more gathered (output item ∷ []) (map output (drop (i + 1) items))
    ∙ ap (λ rest. with_outputs gathered (map output rest)) (first_of_rest items i item within is)

-- ---- components

pub wholes_more : (gathered : Gathered) (xs ys : List LoweredComponent) → with_wholes (with_wholes gathered xs) ys ≡ with_wholes gathered (xs ++ ys)
wholes_more gathered xs ys = λ i. record { procs = after_more (λ whole. whole.procs) gathered.procs xs ys i; sites = after_more (λ whole. whole.sites) gathered.sites xs ys i }

pub wholes_none : (gathered : Gathered) → with_wholes gathered [] ≡ gathered
wholes_none gathered = λ i. record { procs = append-nil gathered.procs i; sites = append-nil gathered.sites i }

pub components_more : (components : List Component) (xs ys : List LoweredComponent) → (components ++ all_components xs) ++ all_components ys ≡ components ++ all_components (xs ++ ys)
components_more components xs ys =
    append_assoc components (all_components xs) (all_components ys) ∙ ap (λ rest. components ++ rest) (sym (map-append (λ whole. whole.component) xs ys))

-- a component more, and then those after it
pub components_item : {X : Type 0} (whole : ℕ × X → LoweredComponent) (components : List Component) (n : ℕ) (items : List X) (i : ℕ) (item : X)
    → i < length items → item ≡ get_or items i item
    → (components ++ (whole (n, item)).component ∷ []) ++ all_components (map whole (enumerate_from (n + 1) (drop (i + 1) items)))
    ≡ components ++ all_components (map whole (enumerate_from n (drop i items)))
components_item whole components n items i item within is =
    components_more components (whole (n, item) ∷ []) (map whole (enumerate_from (n + 1) (drop (i + 1) items)))
    ∙ ap (λ rest. components ++ all_components (map whole (enumerate_from n rest))) (first_of_rest items i item within is)

pub gathered_item : {X : Type 0} (whole : ℕ × X → LoweredComponent) (gathered : Gathered) (n : ℕ) (items : List X) (i : ℕ) (item : X)
    → i < length items → item ≡ get_or items i item
    → with_wholes (with_wholes gathered (whole (n, item) ∷ [])) (map whole (enumerate_from (n + 1) (drop (i + 1) items)))
    ≡ with_wholes gathered (map whole (enumerate_from n (drop i items)))
gathered_item whole gathered n items i item within is =
    wholes_more gathered (whole (n, item) ∷ []) (map whole (enumerate_from (n + 1) (drop (i + 1) items)))
    ∙ ap (λ rest. with_wholes gathered (map whole (enumerate_from n rest))) (first_of_rest items i item within is)

-- ---- a turn over files: what the components of one file add, and then those of the files after it

module _ (facts : Facts) (tables : Tables) (imports : List (List ℕ)) where
  abbrev numbered : ℕ → List ComponentTree → List LoweredComponent
  numbered first components = wholes_from facts tables imports first components

  wholes_file : (n m : ℕ) (files : List File) (i : ℕ) (file : File)
      → i < length files → file ≡ get_or files i file → m ≡ n + length file.components
      → numbered n file.components ++ numbered m (components_in (drop (i + 1) files)) ≡ numbered n (components_in (drop i files))
  wholes_file n m files i file within is next =
      sym (wholes_append facts tables imports n m file.components (components_in (drop (i + 1) files)) next)
      ∙ ap (λ (rest : List File). numbered n (components_in rest)) (first_of_rest files i file within is)

  pub components_file : (components : List Component) (n m : ℕ) (files : List File) (i : ℕ) (file : File)
      → i < length files → file ≡ get_or files i file → m ≡ n + length file.components
      → (components ++ all_components (numbered n file.components)) ++ all_components (numbered m (components_in (drop (i + 1) files)))
      ≡ components ++ all_components (numbered n (components_in (drop i files)))
  components_file components n m files i file within is next =
      components_more components (numbered n file.components) (numbered m (components_in (drop (i + 1) files)))
      ∙ ap (λ wholes. components ++ all_components wholes) (wholes_file n m files i file within is next)

  pub gathered_file : (gathered : Gathered) (n m : ℕ) (files : List File) (i : ℕ) (file : File)
      → i < length files → file ≡ get_or files i file → m ≡ n + length file.components
      → with_wholes (with_wholes gathered (numbered n file.components)) (numbered m (components_in (drop (i + 1) files)))
      ≡ with_wholes gathered (numbered n (components_in (drop i files)))
  gathered_file gathered n m files i file within is next =
      wholes_more gathered (numbered n file.components) (numbered m (components_in (drop (i + 1) files)))
      ∙ ap (λ wholes. with_wholes gathered wholes) (wholes_file n m files i file within is next)
