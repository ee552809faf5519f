-- The declarations of components by their trees: each name with its sort, in the order of the text.
use Rattle.std.proofs.Common.{◌≡◌, ◌≤◌, List, [], ◌∷◌, ◌++◌, map, flat_map, refl, ap, sym, subst, arith}
use Rattle.sr_value.specs.declared.place.Span.{Span}
use Rattle.sr_names.specs.declared.meaning.Sort.{Sort}
use Rattle.sr_names.specs.declared.meaning.Sort.TheVariants.{Constant, Literal, «Type» as type_sort, OpType as optype_sort, Variable, Operation}
use Rattle.sr_names.specs.declared.spot.Spot.{Spot}
use Rattle.sr_tree.specs.declared.component.Component.{Component}
use Rattle.sr_tree.specs.declared.component.File.{File}
use Rattle.sr_tree.specs.declared.component.Item.{Item}
use Rattle.sr_tree.specs.declared.component.Item.TheVariants as item
use Rattle.sr_tree.specs.declared.component.SpecItem.{SpecItem}
use Rattle.sr_tree.specs.declared.component.SpecItem.TheVariants as spec
use Rattle.sr_tree.specs.declared.declaration.OpItem.{OpItem}
use Rattle.sr_tree.specs.declared.declaration.OpItem.TheVariants as op
use Rattle.sr_tree.specs.declared.declaration.Semaphore.{Semaphore}
use Rattle.sr_tree.specs.declared.name.Name.{Name}
use Rattle.sr_tree.specs.declared.types.Decl.{Decl}
use Rattle.sr_tree.specs.declared.types.Formal.{Formal, out-Formal}
use Rattle.sr_tree.specs.declared.types.TypeTree.{TypeTree}
use Rattle.sr_tree.specs.declared.types.TypeTree.TheFolds.{fold_out-Formal}
use Rattle.sr_tree.specs.Parts.{name_of, spec_of, formals_of, body_of}
use Rattle.sr_order.specs.Names.{where_some, expr_names, names_spans, decl_names, dims_names, type_names_step, formal_names_step, returned_names_step, signature_names_step, type_names, formal_names, signature_names, qualified_names, op_item_names, semaphore_names, spec_item_names, item_names, component_names, file_names}
use Rattle.sr_scope.specs.Components.{sort_of, own_declared, own_twice}
use Rattle.sr_scope.specs.Declarations.{var_names}
use Rattle.sr_scope.specs.Declares.{op_name, name_declared, name_twice, names_declared, names_twice}
use Rattle.sr_scope.specs.Exprs.{Finds}
use Rattle.sr_scope.specs.Items.{spec_declared, spec_twice, specs_declared, specs_twice, item_declared, item_twice, items_declared, items_twice}
use Rattle.sr_scope.specs.Literals.{literals_of}
use Rattle.sr_scope.specs.Procs.{semaphore_names as semaphores_named}
use Rattle.sr_scope.specs.Types.{Formals, Signed, formal_read, formals_declared, formals_twice, type_step, formal_step, returned_step, signature_step}
use Rattle.sr_scope.proofs.Among.{names_at, names_both}
use Rattle.sr_scope.proofs.LiteralNames.{literals_within}
use Rattle.sr_scope.proofs.Tables.{Declares, all_declared, all_twice, sorted, no_names, one_name, some_names, in_turn}

-- ---- declarations

abbrev pub spec_own : SpecItem → List (Sort × Name)
spec_own (spec.Import imports) = []
spec_own (spec.Const constant) = (Constant, constant.name) ∷ []
spec_own (spec.Type named) = (type_sort, named.name) ∷ sorted Literal (literals_of named.ty)
spec_own (spec.OpType named) = (optype_sort, named.name) ∷ []
spec_own (spec.Op operations) = sorted Operation (map op_name operations.items)
spec_own (spec.Var variables) = sorted Variable (var_names variables)
spec_own (spec.Sem declared) = sorted Operation (semaphores_named declared.semaphores)

abbrev pub item_own : Item → List (Sort × Name)
item_own (item.Spec declared) = spec_own declared
item_own (item.Procedure procedure) = (Operation, procedure.name) ∷ []
item_own (item.Process process) = (Operation, process.name) ∷ []
item_own (item.Proc proc) = []
item_own (item.Final final) = []
item_own (item.Statement statement) = []

abbrev pub formal_own : Formal → List (Sort × Name)
formal_own formal = sorted Variable (formal_read formal).names

-- what a component declares outside of blocks
abbrev pub own_names : Component → List (Sort × Name)
own_names component = flat_map spec_own (spec_of component) ++ (flat_map formal_own (formals_of component) ++ flat_map item_own (body_of component))

-- and its own name
abbrev pub names_of : Component → List (Sort × Name)
names_of component = (sort_of component, name_of component) ∷ own_names component

-- ---- these are what is declared

spec_declares : (one : SpecItem) → Declares (spec_own one) (spec_declared one) (spec_twice one)
spec_declares (spec.Import imports) = no_names
spec_declares (spec.Const constant) = one_name Constant constant.name
spec_declares (spec.Type named) =
    in_turn ((type_sort, named.name) ∷ []) (sorted Literal (literals_of named.ty))
    (name_declared type_sort named.name) (names_declared Literal (literals_of named.ty))
    (name_twice type_sort named.name) (names_twice Literal (literals_of named.ty))
    (one_name type_sort named.name) (some_names Literal (literals_of named.ty))
spec_declares (spec.OpType named) = one_name optype_sort named.name
spec_declares (spec.Op operations) = some_names Operation (map op_name operations.items)
spec_declares (spec.Var variables) = some_names Variable (var_names variables)
spec_declares (spec.Sem declared) = some_names Operation (semaphores_named declared.semaphores)

pub specs_declares : (items : List SpecItem) → Declares (flat_map spec_own items) (specs_declared items) (specs_twice items)
specs_declares [] = no_names
specs_declares (one ∷ items) =
    in_turn (spec_own one) (flat_map spec_own items) (spec_declared one) (specs_declared items) (spec_twice one) (specs_twice items)
    (spec_declares one) (specs_declares items)

item_declares : (one : Item) → Declares (item_own one) (item_declared one) (item_twice one)
item_declares (item.Spec declared) = spec_declares declared
item_declares (item.Procedure procedure) = one_name Operation procedure.name
item_declares (item.Process process) = one_name Operation process.name
item_declares (item.Proc proc) = no_names
item_declares (item.Final final) = no_names
item_declares (item.Statement statement) = no_names

items_declares : (items : List Item) → Declares (flat_map item_own items) (items_declared items) (items_twice items)
items_declares [] = no_names
items_declares (one ∷ items) =
    in_turn (item_own one) (flat_map item_own items) (item_declared one) (items_declared items) (item_twice one) (items_twice items)
    (item_declares one) (items_declares items)

formals_declares : (formals : List Formal) → Declares (flat_map formal_own formals) (formals_declared (map formal_read formals)) (formals_twice (map formal_read formals))
formals_declares [] = no_names
formals_declares (formal ∷ formals) =
    in_turn (formal_own formal) (flat_map formal_own formals)
    (names_declared Variable (formal_read formal).names) (formals_declared (map formal_read formals))
    (names_twice Variable (formal_read formal).names) (formals_twice (map formal_read formals))
    (some_names Variable (formal_read formal).names) (formals_declares formals)

-- a component as a whole
own_declares : (component : Component)
    → Declares (own_names component)
    (λ table. items_declared (body_of component) (formals_declared (map formal_read (formals_of component)) (specs_declared (spec_of component) table)))
    (λ table. specs_twice (spec_of component) table
    ++ (formals_twice (map formal_read (formals_of component)) (specs_declared (spec_of component) table)
    ++ items_twice (body_of component) (formals_declared (map formal_read (formals_of component)) (specs_declared (spec_of component) table))))
own_declares component =
    let formals = map formal_read (formals_of component) in
    let body = body_of component in
    in_turn (flat_map spec_own (spec_of component)) (flat_map formal_own (formals_of component) ++ flat_map item_own body)
    (specs_declared (spec_of component)) (λ table. items_declared body (formals_declared formals table))
    (specs_twice (spec_of component)) (λ table. formals_twice formals table ++ items_twice body (formals_declared formals table))
    (specs_declares (spec_of component))
    (in_turn (flat_map formal_own (formals_of component)) (flat_map item_own body)
    (formals_declared formals) (items_declared body) (formals_twice formals) (items_twice body)
    (formals_declares (formals_of component)) (items_declares body))

pub own_is : (component : Component) → own_declared component ≡ all_declared (own_names component) []
own_is component = (own_declares component).table []

pub own_twice_is : (component : Component) → own_twice component ≡ all_twice (own_names component) []
own_twice_is component = (own_declares component).found []

-- ---- each of these names is one of the names of the component

abbrev pub spans_of : List (Sort × Name) → List Span
spans_of names = map (λ name. name.1.span) names

-- at no spot more of the ones stand than of the others
pub record Fewer (some all : List Span) : Type 0 where
  pub at : (spot : Spot) → names_at spot some ≤ names_at spot all

pub none : {t : List Span} → Fewer [] t
none = record { at = λ spot. omega arith }

pub each : {s t : List Span} (span : Span) → Fewer s t → Fewer (span ∷ s) (span ∷ t)
each span a = record { at = λ spot. omega (arith, a.at spot) }

pub both : {s t u v : List Span} → Fewer s t → Fewer u v → Fewer (s ++ u) (t ++ v)
both {s = s} {t = t} {u = u} {v = v} a b = record {
  at = λ spot. omega (arith, names_both spot s u, names_both spot t v, a.at spot, b.at spot);
}

-- others after them
first : {s t : List Span} (u : List Span) → Fewer s t → Fewer s (t ++ u)
first {s = s} {t = t} u a = record { at = λ spot. omega (arith, names_both spot t u, a.at spot) }

-- others before them
pub after : {s t : List Span} (u : List Span) → Fewer s t → Fewer s (u ++ t)
after {s = s} {t = t} u a = record { at = λ spot. omega (arith, names_both spot u t, a.at spot) }

pub spans_both : (a b : List (Sort × Name)) → spans_of (a ++ b) ≡ spans_of a ++ spans_of b
spans_both [] b = refl
spans_both (name ∷ a) b = ap (λ spans. name.1.span ∷ spans) (spans_both a b)

appended : {t u : List Span} (a b : List (Sort × Name)) → Fewer (spans_of a) t → Fewer (spans_of b) u → Fewer (spans_of (a ++ b)) (t ++ u)
appended {t = t} {u = u} a b h k = subst (λ spans. Fewer spans (t ++ u)) (sym (spans_both a b)) (both h k)

pub of_each : {A : Type 0} (own : A → List (Sort × Name)) (names : A → List Span) → ((tree : A) → Fewer (spans_of (own tree)) (names tree))
    → (trees : List A) → Fewer (spans_of (flat_map own trees)) (flat_map names trees)
of_each own names one [] = none
of_each own names one (tree ∷ trees) = appended (own tree) (flat_map own trees) (one tree) (of_each own names one trees)

abbrev S : Type 0
S = List Span

sorted_spans : (literals : List Name) → spans_of (sorted Literal literals) ≡ names_spans literals
sorted_spans [] = refl
sorted_spans (literal ∷ literals) = ap (λ spans. literal.span ∷ spans) (sorted_spans literals)

type_fewer : (ty : TypeTree) → Fewer (spans_of (sorted Literal (literals_of ty))) (type_names ty)
type_fewer ty = record {
  at = λ spot. subst (λ spans. names_at spot spans ≤ names_at spot (type_names ty)) (sym (sorted_spans (literals_of ty))) ((literals_within ty).at spot);
}

ops_fewer : (items : List OpItem) → Fewer (spans_of (sorted Operation (map op_name items))) (flat_map op_item_names items)
ops_fewer [] = none
ops_fewer (op.Signed span name signature ∷ items) = both (each name.span (none {t = signature_names signature})) (ops_fewer items)
ops_fewer (op.Typed span name optype ∷ items) = both (each name.span (none {t = qualified_names optype})) (ops_fewer items)

decls_fewer : (decls : List Decl) → Fewer (spans_of (sorted Variable (map (λ decl. decl.name) decls))) (flat_map decl_names decls)
decls_fewer [] = none
decls_fewer (decl ∷ decls) = both (each decl.name.span (none {t = where_some dims_names decl.dims})) (decls_fewer decls)

semaphores_fewer : (semaphores : List Semaphore) → Fewer (spans_of (sorted Operation (semaphores_named semaphores))) (flat_map semaphore_names semaphores)
semaphores_fewer [] = none
semaphores_fewer (semaphore ∷ semaphores) = both (each semaphore.name.span (none {t = where_some expr_names semaphore.value})) (semaphores_fewer semaphores)

pub spec_fewer : (one : SpecItem) → Fewer (spans_of (spec_own one)) (spec_item_names one)
spec_fewer (spec.Import imports) = none
spec_fewer (spec.Const constant) = each constant.name.span none
spec_fewer (spec.Type named) = each named.name.span (type_fewer named.ty)
spec_fewer (spec.OpType named) = each named.name.span none
spec_fewer (spec.Op operations) = ops_fewer operations.items
spec_fewer (spec.Var variables) = first _ (decls_fewer variables.decls)
spec_fewer (spec.Sem declared) = semaphores_fewer declared.semaphores

item_fewer : (one : Item) → Fewer (spans_of (item_own one)) (item_names one)
item_fewer (item.Spec declared) = spec_fewer declared
item_fewer (item.Procedure procedure) = each procedure.name.span none
item_fewer (item.Process process) = each process.name.span none
item_fewer (item.Proc proc) = none
item_fewer (item.Final final) = none
item_fewer (item.Statement statement) = none

pub formal_fewer : (formal : Formal) → Fewer (spans_of (formal_own formal)) (formal_names formal)
formal_fewer formal =
    subst (λ (read : Formals). Fewer (spans_of (sorted Variable read.names)) (formal_names formal))
    (sym (fold_out-Formal Finds Formals Formals Signed type_step formal_step returned_step signature_step formal))
    (subst (λ spans. Fewer (spans_of (sorted Variable (map (λ decl. decl.name) (out-Formal formal).decls))) spans)
    (sym (fold_out-Formal S S S S type_names_step formal_names_step returned_names_step signature_names_step formal))
    (first _ (decls_fewer (out-Formal formal).decls)))

component_fewer : (component : Component) → Fewer (spans_of (names_of component)) (component_names component)
component_fewer component =
    each (name_of component).span
    (appended (flat_map spec_own (spec_of component)) (flat_map formal_own (formals_of component) ++ flat_map item_own (body_of component))
    (of_each spec_own spec_item_names spec_fewer (spec_of component))
    (appended (flat_map formal_own (formals_of component)) (flat_map item_own (body_of component))
    (of_each formal_own formal_names formal_fewer (formals_of component))
    (of_each item_own item_names item_fewer (body_of component))))

-- what the components of a program declare
abbrev pub names_in : List File → List (Sort × Name)
names_in files = flat_map (λ file. flat_map names_of file.components) files

pub names_fewer : (files : List File) → Fewer (spans_of (names_in files)) (flat_map file_names files)
names_fewer files = of_each (λ file. flat_map names_of file.components) file_names (λ file. of_each names_of component_names component_fewer file.components) files
