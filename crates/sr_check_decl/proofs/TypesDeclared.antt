-- What is declared for the enumerations and records in a type, by the parts of the type.
use Rattle.std.proofs.Common.{◌≡◌, ◌∙◌, ℕ, suc, ◌+◌, ◌<◌, List, [], ◌∷◌, ◌++◌, length, drop, get_or, flat_map, refl, sym, ap, arith}
use Rattle.std.proofs.Math.Seq.{drop-cons}
use Rattle.sr_value.specs.declared.place.Span.{Span}
use Rattle.sr_names.specs.Spots.{spot_of}
use Rattle.sr_tree.specs.declared.types.Formal.{Formal, out-Formal}
use Rattle.sr_tree.specs.declared.types.Returned.{Returned}
use Rattle.sr_tree.specs.declared.types.Signature.{Signature, out-Signature}
use Rattle.sr_tree.specs.declared.types.TypeTree.{TypeTree, out-TypeTree}
use Rattle.sr_tree.specs.declared.types.TypeTree.TheFolds.{fold_out-Formal}
use Rattle.sr_tree.specs.declared.types.TypeTree.TheVariants as ty
use Rattle.sr_tree.specs.Nested.{Holds, type_step, formal_step, returned_step, signature_step, types_within, formal_types, written_types, signature_types}
use Rattle.sr_tree.proofs.Nested.{record_types, signature_parts}
use Rattle.sr_tree.proofs.TypeFolds.{out-record}
use Rattle.sr_check_expr.specs.declared.info.Info.TheVariants as info
use Rattle.sr_check_decl.specs.declared.tally.Tally.{Tally}
use Rattle.sr_check_decl.specs.Declaring.{at_facts, fields_of, layer_declared, types_declared}
use Rattle.sr_check_decl.specs.Variables.{declare}

-- types that are declared one list after the other are declared like both lists in one
pub types_declared_both : (a b : List TypeTree) (tally : Tally) → types_declared (a ++ b) tally ≡ types_declared b (types_declared a tally)
types_declared_both [] b tally = refl
types_declared_both (tree ∷ a) b tally = types_declared_both a b (layer_declared (out-TypeTree tree) tally)

-- ---- formals

formal_types_of : (formal : Formal) → formal_types formal ≡ types_within (out-Formal formal).ty
formal_types_of formal =
    ap (λ (held : Holds Formal). held.types) (fold_out-Formal (Holds TypeTree) (Holds Formal) (Holds Returned) (Holds Signature) type_step formal_step returned_step signature_step formal)

formals_declared : (formal : Formal) (formals : List Formal) (tally : Tally)
    → types_declared (flat_map formal_types (formal ∷ formals)) tally ≡ types_declared (flat_map formal_types formals) (types_declared (types_within (out-Formal formal).ty) tally)
formals_declared formal formals tally =
    types_declared_both (formal_types formal) (flat_map formal_types formals) tally
    ∙ ap (λ types. types_declared (flat_map formal_types formals) (types_declared types tally)) (formal_types_of formal)

first_of_rest : (formals : List Formal) (i : ℕ) (formal : Formal) → i < length formals → formal ≡ get_or formals i formal → formal ∷ drop (i + 1) formals ≡ drop i formals
first_of_rest formals i formal within is =
    let next : i + 1 ≡ suc i = omega arith in
    ap (λ (n : ℕ). formal ∷ drop n formals) next ∙ ap (λ (first : Formal). first ∷ drop (suc i) formals) is ∙ sym (drop-cons formals i formal within)

-- the next formal declares the types in it, and then those after it do
pub next_declared : (formals : List Formal) (i : ℕ) (formal : Formal) (tally : Tally) → i < length formals → formal ≡ get_or formals i formal
    → types_declared (flat_map formal_types (drop (i + 1) formals)) (types_declared (types_within (out-Formal formal).ty) tally) ≡ types_declared (flat_map formal_types (drop i formals)) tally
next_declared formals i formal tally within is =
    sym (formals_declared formal (drop (i + 1) formals) tally)
    ∙ ap (λ (rest : List Formal). types_declared (flat_map formal_types rest) tally) (first_of_rest formals i formal within is)

-- ---- records

-- a record is declared where it stands, and then what stands in its fields
pub record_declared : (span : Span) (fields : List Formal) (tally : Tally)
    → types_declared (types_within (ty.Rec span fields)) tally
    ≡ types_declared (flat_map formal_types fields) (at_facts tally (declare tally.facts (spot_of span) (info.Record (fields_of tally.facts fields))))
record_declared span fields tally =
    ap (λ types. types_declared types tally) (record_types span fields)
    ∙ ap (λ layer. types_declared (flat_map formal_types fields) (layer_declared layer tally)) (out-record span fields)

-- ---- signatures

-- a signature declares the types in its formals, and then those in what it returns
pub signature_declared : (tree : Signature) (tally : Tally)
    → types_declared (signature_types tree) tally
    ≡ types_declared (written_types (out-Signature tree).returned) (types_declared (flat_map formal_types (out-Signature tree).formals) tally)
signature_declared tree tally =
    ap (λ types. types_declared types tally) (signature_parts tree)
    ∙ types_declared_both (flat_map formal_types (out-Signature tree).formals) (written_types (out-Signature tree).returned) tally
