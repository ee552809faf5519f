-- Names that are declared one list after the other are declared like both lists in one.
use Rattle.std.proofs.Common.{◌≡◌, ℕ, suc, ◌+◌, ◌<◌, List, [], ◌∷◌, ◌++◌, length, get_or, drop, Option, Some, None, refl, ap, sym, ◌∙◌, append_assoc, add-one, drop-cons}
use Rattle.std.proofs.lemmas.List.Sums.{fold-append}
use Rattle.std.specs.Option.{option_map}
use Rattle.sr_names.specs.declared.diagnostics.Diagnostics.{Diagnostics}
use Rattle.sr_names.specs.declared.meaning.Sort.{Sort}
use Rattle.sr_names.specs.declared.meaning.Sort.TheVariants.{Literal}
use Rattle.sr_names.specs.Diagnostics.{all_noted, noted}
use Rattle.sr_names.specs.Entries.{Entries}
use Rattle.sr_tree.specs.declared.name.Name.{Name}
use Rattle.sr_tree.specs.declared.types.Formal.{Formal, out-Formal}
use Rattle.sr_tree.specs.declared.types.Returned.{Returned}
use Rattle.sr_tree.specs.declared.types.Signature.{Signature, out-Signature}
use Rattle.sr_tree.specs.declared.types.TypeTree.{TypeTree}
use Rattle.sr_tree.specs.declared.types.TypeTree.TheFolds.{fold_out-Formal, fold_out-Signature, map-Signature}
use Rattle.sr_tree.specs.declared.types.TypeTree.TheOpen.{Signature-F}
use Rattle.sr_scope.specs.Declares.{name_declared, name_twice, names_declared, names_twice}
use Rattle.sr_scope.specs.Literals.{maybe_literals, type_step, formal_step, returned_step, signature_step, literals_of, formal_literals, returned_literals, signature_literals, formals_literals}

names_after : (sort : Sort) (a b : List Name) (table : Entries)
    → names_declared sort b (names_declared sort a table) ≡ names_declared sort (a ++ b) table
names_after sort [] b table = refl
names_after sort (name ∷ a) b table = names_after sort a b (name_declared sort name table)

twice_after : (sort : Sort) (a b : List Name) (table : Entries)
    → names_twice sort (a ++ b) table ≡ names_twice sort a table ++ names_twice sort b (names_declared sort a table)
twice_after sort [] b table = refl
twice_after sort (name ∷ a) b table =
    ap (λ found. name_twice sort name table ++ found) (twice_after sort a b (name_declared sort name table))
    ∙ sym (append_assoc (name_twice sort name table) _ _)

-- so are those noted that were declared already
noted_after : (sort : Sort) (a b : List Name) (table : Entries) (before : Diagnostics)
    → all_noted (all_noted before (names_twice sort a table)) (names_twice sort b (names_declared sort a table)) ≡ all_noted before (names_twice sort (a ++ b) table)
noted_after sort a b table before =
    sym (fold-append noted before (names_twice sort a table) (names_twice sort b (names_declared sort a table)))
    ∙ ap (all_noted before) (sym (twice_after sort a b table))

-- ---- the literals of formals from one on: those of its type, then those of the formals after it

abbrev N : Type 0
N = List Name

module _ (formals : List Formal) (i : ℕ) (formal : Formal) (within : i < length formals) (is : formal ≡ get_or formals i formal) where
  abbrev own : N
  own = literals_of (out-Formal formal).ty

  abbrev rest : N
  rest = formals_literals (drop (i + 1) formals)

  from_one : formals_literals (drop i formals) ≡ own ++ rest
  from_one =
      ap formals_literals (drop-cons formals i formal within ∙ ap (λ first. first ∷ drop (suc i) formals) (sym is) ∙ ap (λ (n : ℕ). formal ∷ drop n formals) (sym (add-one i)))
      ∙ ap (λ names. names ++ rest) (fold_out-Formal N N N N type_step formal_step returned_step signature_step formal)

  pub one_declared : (old new whole : Entries) → new ≡ names_declared Literal own old
      → names_declared Literal (formals_literals (drop i formals)) old ≡ whole → names_declared Literal rest new ≡ whole
  one_declared old new whole next known =
      ap (names_declared Literal rest) next ∙ names_after Literal own rest old ∙ ap (λ names. names_declared Literal names old) (sym from_one) ∙ known

  pub one_noted : (old new : Entries) (before after whole : Diagnostics) → new ≡ names_declared Literal own old → after ≡ all_noted before (names_twice Literal own old)
      → all_noted before (names_twice Literal (formals_literals (drop i formals)) old) ≡ whole → all_noted after (names_twice Literal rest new) ≡ whole
  one_noted old new before after whole next noted known =
      ap (λ table. all_noted after (names_twice Literal rest table)) next
      ∙ ap (λ seen. all_noted seen (names_twice Literal rest (names_declared Literal own old))) noted
      ∙ noted_after Literal own rest old before
      ∙ ap (λ names. all_noted before (names_twice Literal names old)) (sym from_one) ∙ known

-- ---- the literals of a signature: those of its formals, then those of what it returns

module _ (signature : Signature) where
  abbrev of_formals : N
  of_formals = formals_literals (out-Signature signature).formals

  abbrev of_returned : N
  of_returned = maybe_literals (option_map returned_literals (out-Signature signature).returned)

  abbrev step : Signature-F TypeTree Formal Returned Signature → N
  step x = signature_step (map-Signature TypeTree Formal Returned Signature N N N N literals_of formal_literals returned_literals signature_literals x)

  parts : (x : Signature-F TypeTree Formal Returned Signature) → step x ≡ formals_literals x.formals ++ maybe_literals (option_map returned_literals x.returned)
  parts x = by x.returned
    where
      by : (returned : Option Returned) → step (record x { returned = returned }) ≡ formals_literals x.formals ++ maybe_literals (option_map returned_literals returned)
      by None = refl
      by (Some returned) = refl

  in_parts : signature_literals signature ≡ of_formals ++ of_returned
  in_parts = fold_out-Signature N N N N type_step formal_step returned_step signature_step signature ∙ parts (out-Signature signature)

  pub signature_declared : (formals : List Formal) → formals ≡ (out-Signature signature).formals → (old mid new : Entries)
      → mid ≡ names_declared Literal (formals_literals formals) old → new ≡ names_declared Literal of_returned mid
      → new ≡ names_declared Literal (signature_literals signature) old
  signature_declared formals is old mid new first last =
      last ∙ ap (names_declared Literal of_returned) (first ∙ ap (λ all. names_declared Literal (formals_literals all) old) is)
      ∙ names_after Literal of_formals of_returned old
      ∙ ap (λ names. names_declared Literal names old) (sym in_parts)

  pub signature_noted : (formals : List Formal) → formals ≡ (out-Signature signature).formals → (old mid : Entries) (before between after : Diagnostics)
      → mid ≡ names_declared Literal (formals_literals formals) old → between ≡ all_noted before (names_twice Literal (formals_literals formals) old)
      → after ≡ all_noted between (names_twice Literal of_returned mid)
      → after ≡ all_noted before (names_twice Literal (signature_literals signature) old)
  signature_noted formals is old mid before between after table first last =
      last ∙ ap (λ entries. all_noted between (names_twice Literal of_returned entries)) (table ∙ ap (λ all. names_declared Literal (formals_literals all) old) is)
      ∙ ap (λ seen. all_noted seen (names_twice Literal of_returned (names_declared Literal of_formals old)))
      (first ∙ ap (λ all. all_noted before (names_twice Literal (formals_literals all) old)) is)
      ∙ noted_after Literal of_formals of_returned old before
      ∙ ap (λ names. all_noted before (names_twice Literal names old)) (sym in_parts)
