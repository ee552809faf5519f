-- Where operations are declared: outside of blocks, where the names of procs can mean them, or in the blocks of procs.
use Rattle.std.proofs.Common.{◌≡◌, ◌⊎◌, ℕ, ◌+◌, ◌≤◌, List, [], ◌∷◌, ◌++◌, Some, Ok, true, refl, ap, sym, ◌∙◌, inl, inr, map, flat_map, arith}
use Rattle.std.specs.List.{IsDistinct}
use Rattle.sr_value.specs.declared.place.Span.{Span}
use Rattle.sr_names.proofs.LinkLemmas.{same_spot-refl}
use Rattle.sr_names.specs.declared.meaning.Decl.{Decl}
use Rattle.sr_names.specs.declared.meaning.Meaning.TheVariants.{Declared}
use Rattle.sr_names.specs.declared.meaning.Sort.{Sort}
use Rattle.sr_names.specs.declared.meaning.Sort.TheVariants.{Operation}
use Rattle.sr_names.specs.declared.spot.Spot.{Spot}
use Rattle.sr_names.specs.Readings.{declaration}
use Rattle.sr_names.specs.Spots.{same_spot, spot_of}
use Rattle.sr_names.specs.Uses.{meaning_at}
use Rattle.sr_tree.specs.declared.component.Component.{Component}
use Rattle.sr_tree.specs.declared.component.File.{File}
use Rattle.sr_tree.specs.declared.component.Item.{Item}
use Rattle.sr_tree.specs.declared.component.Item.TheVariants as item
use Rattle.sr_tree.specs.declared.component.Proc.{Proc}
use Rattle.sr_tree.specs.declared.component.ProcItem.{ProcItem}
use Rattle.sr_tree.specs.declared.component.ProcItem.TheVariants as inner
use Rattle.sr_tree.specs.declared.component.SpecItem.{SpecItem}
use Rattle.sr_tree.specs.declared.component.SpecItem.TheVariants as spec
use Rattle.sr_tree.specs.declared.declaration.OpItem.{OpItem}
use Rattle.sr_tree.specs.declared.declaration.OpItem.TheVariants as op
use Rattle.sr_tree.specs.declared.declaration.Semaphore.{Semaphore}
use Rattle.sr_tree.specs.declared.name.Name.{Name}
use Rattle.sr_tree.specs.Parts.{name_of, spec_of, formals_of, body_of}
use Rattle.sr_order.specs.Names.{where_some, expr_names, name_names, names_spans, signature_names, qualified_names, quantifier_names, op_item_names, semaphore_names, proc_item_names, block_names, spec_item_names, formal_names, item_names, component_names, file_names}
use Rattle.sr_order.specs.Spans.{op_item_span, spec_operations, inner_operations, block_operations, item_operations, component_operations, operation_spans}
use Rattle.sr_scope.specs.declared.program.Names.{Names}
use Rattle.sr_scope.specs.Components.{sort_of}
use Rattle.sr_scope.specs.Declares.{op_name}
use Rattle.sr_scope.specs.Procs.{semaphore_names as semaphores_named}
use Rattle.sr_scope.specs.Resolved.{resolved}
use Rattle.sr_scope.specs.Served.{inner_operations_of, locals_of, locals_in}
use Rattle.sr_scope.specs.Uses.{IsIn}
use Rattle.sr_scope.proofs.Among.{names_at, names_both, one_if, at_most_one}
use Rattle.sr_scope.proofs.Findings.{in_either, in_flat, in_left, in_right}
use Rattle.sr_scope.proofs.Meant.{IsComponent, IsDeclared, means}
use Rattle.sr_scope.proofs.OwnNames.{Fewer, none, each, both, after, spans_both, spec_own, item_own, formal_own, own_names, names_of, names_in, spans_of, spec_fewer, formal_fewer, of_each}
use Rattle.sr_scope.proofs.Served.{counted_name, in_names, one_name, proc_denotes}
use Rattle.sr_scope.proofs.Tables.{sorted}

-- ---- there is room for the names that are declared outside of blocks and for the operations in blocks

-- at no spot more of both stand than of the names
record Room (names : List (Sort × Name)) (locals : List Span) (all : List Span) : Type 0 where
  at : (spot : Spot) → names_at spot (spans_of names) + names_at spot locals ≤ names_at spot all

room_both : {all more : List Span} (a b : List (Sort × Name)) (l m : List Span) → Room a l all → Room b m more → Room (a ++ b) (l ++ m) (all ++ more)
room_both {all = all} {more = more} a b l m h k = record {
  at = λ spot. omega (arith, ap (names_at spot) (spans_both a b), names_both spot (spans_of a) (spans_of b), names_both spot l m, names_both spot all more, h.at spot, k.at spot);
}

room_of_each : {A : Type 0} (own : A → List (Sort × Name)) (local : A → List Span) (names : A → List Span) → ((tree : A) → Room (own tree) (local tree) (names tree))
    → (trees : List A) → Room (flat_map own trees) (flat_map local trees) (flat_map names trees)
room_of_each own local names one [] = record { at = λ spot. omega arith }
room_of_each own local names one (tree ∷ trees) = room_both (own tree) (flat_map own trees) (local tree) (flat_map local trees) (one tree) (room_of_each own local names one trees)

no_locals : {names : List (Sort × Name)} {all : List Span} → Fewer (spans_of names) all → Room names [] all
no_locals h = record { at = λ spot. omega (arith, h.at spot) }

all_locals : {locals all : List Span} → Fewer locals all → Room [] locals all
all_locals h = record { at = λ spot. omega (arith, h.at spot) }

with_name : {locals all : List Span} (sort : Sort) (name : Name) → Fewer locals all → Room ((sort, name) ∷ []) locals (name.span ∷ all)
with_name sort name h = record { at = λ spot. omega (arith, h.at spot) }

ops_fewer : (items : List OpItem) → Fewer (map op_item_span items) (flat_map op_item_names items)
ops_fewer [] = none
ops_fewer (op.Signed span name signature ∷ items) = both (each name.span (none {t = signature_names signature})) (ops_fewer items)
ops_fewer (op.Typed span name optype ∷ items) = both (each name.span (none {t = qualified_names optype})) (ops_fewer items)

semaphores_fewer : (semaphores : List Semaphore) → Fewer (map (λ semaphore. semaphore.name.span) semaphores) (flat_map semaphore_names semaphores)
semaphores_fewer [] = none
semaphores_fewer (semaphore ∷ semaphores) = both (each semaphore.name.span (none {t = where_some expr_names semaphore.value})) (semaphores_fewer semaphores)

inner_fewer : (one : ProcItem) → Fewer (inner_operations one) (proc_item_names one)
inner_fewer (inner.Op operations) = ops_fewer operations.items
inner_fewer (inner.Sem declared) = semaphores_fewer declared.semaphores
inner_fewer (inner.Const constant) = none
inner_fewer (inner.Var variables) = none
inner_fewer (inner.Statement statement) = none

block_fewer : (block : List ProcItem) → Fewer (block_operations block) (block_names block)
block_fewer [] = none
block_fewer (one ∷ block) = both (inner_fewer one) (block_fewer block)

item_room : (one : Item) → Room (item_own one) (inner_operations_of one) (item_names one)
item_room (item.Spec declared) = no_locals (spec_fewer declared)
item_room (item.Proc proc) =
    all_locals (after (proc.name.span ∷ []) (after (names_spans proc.formals) (after (where_some name_names proc.returned) (block_fewer proc.block))))
item_room (item.Procedure procedure) = with_name Operation procedure.name (after (signature_names procedure.signature) (block_fewer procedure.block))
item_room (item.Process process) = with_name Operation process.name (after (flat_map quantifier_names process.quantifiers) (block_fewer process.block))
item_room (item.Final final) = all_locals (block_fewer final.block)
item_room (item.Statement statement) = no_locals none

component_room : (component : Component) → Room (names_of component) (locals_of component) (component_names component)
component_room component =
    room_both ((sort_of component, name_of component) ∷ []) (own_names component) [] (locals_of component) (with_name (sort_of component) (name_of component) (none {t = []}))
    (room_both (flat_map spec_own (spec_of component)) (flat_map formal_own (formals_of component) ++ flat_map item_own (body_of component)) [] (locals_of component)
    (no_locals (of_each spec_own spec_item_names spec_fewer (spec_of component)))
    (room_both (flat_map formal_own (formals_of component)) (flat_map item_own (body_of component)) [] (locals_of component)
    (no_locals (of_each formal_own formal_names formal_fewer (formals_of component)))
    (room_of_each item_own inner_operations_of item_names item_room (body_of component))))

files_room : (files : List File) → Room (names_in files) (locals_in files) (flat_map file_names files)
files_room files =
    room_of_each (λ file. flat_map names_of file.components) (λ file. flat_map locals_of file.components) file_names
    (λ file. room_of_each names_of locals_of component_names component_room file.components) files

-- ---- where an operation is declared

-- a name that is declared as an operation outside of blocks
abbrev Outside : List (Sort × Name) → Span → Type 0
Outside names span = (name : Name) × IsIn (Operation, name) names × (name.span ≡ span)

ops_outside : (items : List OpItem) (span : Span) → IsIn span (map op_item_span items) → Outside (sorted Operation (map op_name items)) span
ops_outside [] span k = absurd k
ops_outside (op.Signed at name signature ∷ items) span (inl is) = (name, inl refl, is)
ops_outside (op.Typed at name optype ∷ items) span (inl is) = (name, inl refl, is)
ops_outside (one ∷ items) span (inr k) = let more = ops_outside items span k in (more.0, inr more.1, more.2)

semaphores_outside : (semaphores : List Semaphore) (span : Span) → IsIn span (map (λ semaphore. semaphore.name.span) semaphores) → Outside (sorted Operation (semaphores_named semaphores)) span
semaphores_outside [] span k = absurd k
semaphores_outside (one ∷ semaphores) span (inl is) = (one.name, inl refl, is)
semaphores_outside (one ∷ semaphores) span (inr k) = let more = semaphores_outside semaphores span k in (more.0, inr more.1, more.2)

spec_outside : (one : SpecItem) (span : Span) → IsIn span (spec_operations one) → Outside (spec_own one) span
spec_outside (spec.Op operations) span k = ops_outside operations.items span k
spec_outside (spec.Sem declared) span k = semaphores_outside declared.semaphores span k
spec_outside (spec.Import imports) span k = absurd k
spec_outside (spec.Const constant) span k = absurd k
spec_outside (spec.Type named) span k = absurd k
spec_outside (spec.OpType named) span k = absurd k
spec_outside (spec.Var variables) span k = absurd k

item_either : (one : Item) (span : Span) → IsIn span (item_operations one) → Outside (item_own one) span ⊎ IsIn span (inner_operations_of one)
item_either (item.Spec declared) span k = inl (spec_outside declared span k)
item_either (item.Proc proc) span k = inr k
item_either (item.Procedure procedure) span (inl is) = inl (procedure.name, inl refl, is)
item_either (item.Procedure procedure) span (inr k) = inr k
item_either (item.Process process) span (inl is) = inl (process.name, inl refl, is)
item_either (item.Process process) span (inr k) = inr k
item_either (item.Final final) span k = inr k
item_either (item.Statement statement) span k = absurd k

pub from_flat : {A B : Type 0} (f : A → List B) (b : B) (xs : List A) → IsIn b (flat_map f xs) → (a : A) × IsIn a xs × IsIn b (f a)
from_flat f b [] k = absurd k
from_flat f b (x ∷ xs) k = by (in_either b (f x) (flat_map f xs) k) (from_flat f b xs)
  where
    by : IsIn b (f x) ⊎ IsIn b (flat_map f xs) → (IsIn b (flat_map f xs) → (a : _) × IsIn a xs × IsIn b (f a)) → (a : _) × IsIn a (x ∷ xs) × IsIn b (f a)
    by (inl h) more = (x, inl refl, h)
    by (inr h) more = let rest = more h in (rest.0, inr rest.1, rest.2)

pub from_map : (spot : Spot) (spans : List Span) → IsIn spot (map spot_of spans) → (span : Span) × IsIn span spans × (spot_of span ≡ spot)
from_map spot [] k = absurd k
from_map spot (span ∷ spans) (inl is) = (span, inl refl, is)
from_map spot (span ∷ spans) (inr k) = let more = from_map spot spans k in (more.0, inr more.1, more.2)

counted_span : (spot : Spot) (span : Span) (spans : List Span) → spot_of span ≡ spot → IsIn span spans → 1 ≤ names_at spot spans
counted_span spot span [] at k = absurd k
counted_span spot span (one ∷ spans) at (inl is) =
    let here : same_spot spot (spot_of one) ≡ true = ap (λ other. same_spot spot (spot_of other)) is ∙ ap (same_spot spot) at ∙ same_spot-refl spot in
    omega (arith, ap one_if here)
counted_span spot span (one ∷ spans) at (inr k) = omega (arith, counted_span spot span spans at k)

-- an operation is declared outside of blocks or in a block
operation_either : (files : List File) (span : Span) → IsIn span (flat_map operation_spans files) → Outside (names_in files) span ⊎ IsIn span (locals_in files)
operation_either files span k =
    let in_file = from_flat operation_spans span files k in
    let file = in_file.0 in
    let in_component = from_flat component_operations span file.components in_file.2 in
    let component = in_component.0 in
    let to_names : (one : Sort × Name) → IsIn one (own_names component) → IsIn one (names_in files) =
    λ one h. in_flat (λ other. flat_map names_of other.components) file one files in_file.1 (in_flat names_of component one file.components in_component.1 (inr h)) in
    let to_locals : IsIn span (locals_of component) → IsIn span (locals_in files) =
    λ h. in_flat (λ other. flat_map locals_of other.components) file span files in_file.1 (in_flat locals_of component span file.components in_component.1 h) in
    by component to_names to_locals (in_either span (flat_map spec_operations (spec_of component)) (flat_map item_operations (body_of component)) in_component.2)
  where
    by : (component : Component) → ((one : Sort × Name) → IsIn one (own_names component) → IsIn one (names_in files)) → (IsIn span (locals_of component) → IsIn span (locals_in files))
        → IsIn span (flat_map spec_operations (spec_of component)) ⊎ IsIn span (flat_map item_operations (body_of component))
        → Outside (names_in files) span ⊎ IsIn span (locals_in files)
    by component to_names to_locals (inl h) =
        let in_spec = from_flat spec_operations span (spec_of component) h in
        let outside = spec_outside in_spec.0 span in_spec.2 in
        inl (
          outside.0,
          to_names (Operation, outside.0)
              (in_left (Operation, outside.0) (flat_map spec_own (spec_of component)) _ (in_flat spec_own in_spec.0 (Operation, outside.0) (spec_of component) in_spec.1 outside.1)),
          outside.2,
        )
    by component to_names to_locals (inr h) =
        let in_item = from_flat item_operations span (body_of component) h in
        either in_item.0 in_item.1 (item_either in_item.0 span in_item.2)
      where
        either : (one : Item) → IsIn one (body_of component) → Outside (item_own one) span ⊎ IsIn span (inner_operations_of one) → Outside (names_in files) span ⊎ IsIn span (locals_in files)
        either one among (inl outside) =
            inl (
              outside.0,
              to_names (Operation, outside.0)
                  (in_right (Operation, outside.0) (flat_map spec_own (spec_of component)) _
                  (in_right (Operation, outside.0) (flat_map formal_own (formals_of component)) _ (in_flat item_own one (Operation, outside.0) (body_of component) among outside.1))),
              outside.2,
            )
        either one among (inr local) = inr (to_locals (in_flat inner_operations_of one span (body_of component) among local))

-- ---- what the name of a proc means

module _ (files : List File) (distinct : IsDistinct same_spot (map spot_of (flat_map file_names files))) where
  room : (spot : Spot) → names_at spot (spans_of (names_in files)) + names_at spot (locals_in files) ≤ 1
  room spot = omega (arith, (files_room files).at spot, at_most_one spot (flat_map file_names files) distinct)

  -- no operation is declared in a block where a name is declared outside of blocks
  no_local : (one : Sort × Name) → IsIn one (names_in files) → (spot : Spot) → spot_of one.1.span ≡ spot → (span : Span) → spot_of span ≡ spot → IsIn span (locals_in files) → ⊥
  no_local one among spot at span here local =
      omega (arith, room spot, counted_name spot (names_in files) one among at, counted_span spot span (locals_in files) here local)

  -- where an operation is declared nothing else is
  is_operation : (one : Sort × Name) → IsIn one (names_in files) → (span : Span) → spot_of span ≡ spot_of one.1.span → IsIn span (flat_map operation_spans files) → one.0 ≡ Operation
  is_operation one among span at k = by (operation_either files span k)
    where
      by : Outside (names_in files) span ⊎ IsIn span (locals_in files) → one.0 ≡ Operation
      by (inl outside) =
          ap (λ (name : Sort × Name). name.0)
          (one_name (spot_of one.1.span) (names_in files) (omega (arith, room (spot_of one.1.span))) one (Operation, outside.0) among outside.1 refl (ap spot_of outside.2 ∙ at))
      by (inr local) = absurd (no_local one among (spot_of one.1.span) refl span at local)

-- what a name means that is used outside of blocks is declared outside of blocks
named_outside : (files : List File) (text : List ℕ) (decl : Decl)
    → IsComponent (flat_map (λ file. file.components) files) decl ⊎ IsDeclared (flat_map (λ file. file.components) files) text decl
    → (one : Sort × Name) × IsIn one (names_in files) × (decl ≡ declaration one.0 one.1.span)
named_outside files text decl (inl one) =
    ((sort_of one.component, name_of one.component), in_names files one.component (sort_of one.component, name_of one.component) one.there (inl refl), one.is)
named_outside files text decl (inr one) =
    ((one.sort, one.name), in_names files one.component (one.sort, one.name) one.there (inr one.among), one.is)

module _ (files : List File) (names : Names) (accepted : resolved files ≡ Ok names) (distinct : IsDistinct same_spot (map spot_of (flat_map file_names files)))
    (component : Component) (there : IsIn component (flat_map (λ file. file.components) files)) (proc : Proc) (among : IsIn (item.Proc proc) (body_of component))
    (decl : Decl) (means_it : meaning_at names.uses (spot_of proc.name.span) ≡ Some (Declared decl)) where
  outside : (one : Sort × Name) × IsIn one (names_in files) × (decl ≡ declaration one.0 one.1.span)
  outside =
      named_outside files proc.name.text decl
      (means files component there proc.name.text (spot_of proc.name.span) decl (proc_denotes files names accepted distinct component there proc among decl means_it))

  -- where an operation is declared the name means an operation
  pub means_operation : IsIn decl.spot (map spot_of (flat_map operation_spans files)) → decl.sort ≡ Operation
  means_operation k =
      let at = from_map decl.spot (flat_map operation_spans files) k in
      ap (λ d. d.sort) outside.2
      ∙ is_operation files distinct outside.0 outside.1 at.0 (at.2 ∙ ap (λ d. d.spot) outside.2) at.1

  -- the name means nothing that is declared in a block
  pub means_shared : IsIn decl.spot (map spot_of (locals_in files)) → ⊥
  means_shared k =
      let at = from_map decl.spot (locals_in files) k in
      no_local files distinct outside.0 outside.1 decl.spot (ap (λ d. d.spot) (sym outside.2)) at.0 at.2 at.1
