-- The spans of the statements, operations and components of a file are picked from its tokens.
use Rattle.std.proofs.Common.{subst, List, [], ◌∷◌, map}
use Rattle.std.proofs.lemmas.List.Concat.{flat_map_single}
use Rattle.sr_tree.specs.declared.component.Component.{Component}
use Rattle.sr_tree.specs.declared.component.File.{File}
use Rattle.sr_tree.specs.declared.component.Item.{Item}
use Rattle.sr_tree.specs.declared.component.ProcItem.{ProcItem}
use Rattle.sr_tree.specs.declared.component.SpecItem.{SpecItem}
use Rattle.sr_tree.specs.declared.declaration.OpDecl.{OpDecl}
use Rattle.sr_tree.specs.declared.declaration.OpItem.{OpItem}
use Rattle.sr_tree.specs.declared.declaration.SemDecl.{SemDecl}
use Rattle.sr_tree.specs.declared.declaration.Semaphore.{Semaphore}
use Rattle.sr_tree.specs.declared.token.Token.{Token}
use Rattle.sr_tree.specs.Components as c
use Rattle.sr_tree.specs.Components.{Spells, SpellsComponent, SpellsItem, SpellsProcItem, SpellsSpecItem}
use Rattle.sr_tree.specs.Declarations as d
use Rattle.sr_tree.specs.Declarations.{SpellsOp, SpellsOpItem, SpellsMoreOpItems, SpellsSem, SpellsMoreSemaphores}
use Rattle.sr_order.specs.Order.{Picks, nothing, left_out, picked}
use Rattle.sr_order.specs.Spans.{inner_statements, item_statements, component_statements, statement_spans, op_item_span, op_spans, semaphore_spans, spec_operations, inner_operations, item_operations, component_operations, operation_spans, component_span, component_spans}
use Rattle.sr_order.proofs.Picked.{none, both, first, second, listed}
use Rattle.sr_order.proofs.Statements.{statement-picked}

-- ---- statements

inner-statements : (i : ProcItem) (u : List Token) → SpellsProcItem i u → Picks (inner_statements i) u
inner-statements i u (c.constant d) = none
inner-statements i u (c.variables d) = none
inner-statements i u (c.op d) = none
inner-statements i u (c.semaphores d) = none
inner-statements i u (c.a_statement d) = statement-picked d

item-statements : (i : Item) (u : List Token) → SpellsItem i u → Picks (item_statements i) u
item-statements i u (c.spec d) = none
item-statements i u (c.proc (c.proc t n o k h j l ns m r b e)) =
    left_out t (left_out n (left_out o (second _ (left_out k (second _ (first _ (listed inner_statements inner-statements b)))))))
item-statements i u (c.procedure (c.procedure t n h j s b e)) = left_out t (left_out n (second _ (first _ (listed inner_statements inner-statements b))))
item-statements i u (c.process (c.process t n h j q b e)) = left_out t (left_out n (second _ (first _ (listed inner_statements inner-statements b))))
item-statements i u (c.final (c.final t k h b j)) = left_out t (first _ (listed inner_statements inner-statements b))
item-statements i u (c.a_statement d) = statement-picked d

component-statements : (tree : Component) (u : List Token) → SpellsComponent tree u → Picks (component_statements tree) u
component-statements tree u (c.resource t n h i f v is l e) = left_out t (left_out n (second _ (first _ (listed item_statements item-statements is))))
component-statements tree u (c.split_resource t n b m h i ss o j k l f v is x e) =
    left_out t (left_out n (second _ (left_out b (left_out m (second _ (first _ (listed item_statements item-statements is)))))))
component-statements tree u (c.global t n h i ss c.no_body e) = none
component-statements tree u (c.global t n h i ss (c.body b m j k l is x) e) =
    left_out t (left_out n (second _ (first _ (left_out b (left_out m (listed item_statements item-statements is))))))

pub statements-picked : (tokens : List Token) (file : File) → Spells tokens file → Picks (statement_spans file) tokens
statements-picked tokens file (c.file cs) = listed component_statements component-statements cs

-- ---- operations

op-item : (i : OpItem) (u : List Token) → SpellsOpItem i u → Picks (op_item_span i ∷ []) u
op-item i u (d.signed n h s) = picked n none
op-item i u (d.of_optype n k h j q) = picked n none

more-ops : (is : List OpItem) (u : List Token) → SpellsMoreOpItems is u → Picks (map op_item_span is) u
more-ops is u d.no_more_op_items = nothing
more-ops (i ∷ is) u (d.one_more_op_item {u = v} {v = w} t h o m) = left_out t (both (op-item i v o) (more-ops is w m))

ops : (declared : OpDecl) (u : List Token) → SpellsOp declared u → Picks (op_spans declared) u
ops declared u (d.op {i = i} {is = is} {u = v} {v = w} t h o m) = left_out t (both (op-item i v o) (more-ops is w m))

more-semaphores : (ss : List Semaphore) (u : List Token) → SpellsMoreSemaphores ss u → Picks (map (λ semaphore. semaphore.name.span) ss) u
more-semaphores ss u d.no_more_semaphores = nothing
more-semaphores ss u (d.one_more_semaphore {ss = rest} {v = w} t n h i e m) = left_out t (picked n (second _ (more-semaphores rest w m)))

semaphores : (declared : SemDecl) (u : List Token) → SpellsSem declared u → Picks (semaphore_spans declared) u
semaphores declared u (d.semaphores {ss = ss} {v = w} t n h i e m) = left_out t (picked n (second _ (more-semaphores ss w m)))

spec-operations : (i : SpecItem) (u : List Token) → SpellsSpecItem i u → Picks (spec_operations i) u
spec-operations i u (c.imports d) = none
spec-operations i u (c.constant d) = none
spec-operations i u (c.type_decl d) = none
spec-operations i u (c.optype d) = none
spec-operations i u (c.op {d = o} d) = ops o u d
spec-operations i u (c.variables d) = none
spec-operations i u (c.semaphores {d = s} d) = semaphores s u d

inner-operations : (i : ProcItem) (u : List Token) → SpellsProcItem i u → Picks (inner_operations i) u
inner-operations i u (c.constant d) = none
inner-operations i u (c.variables d) = none
inner-operations i u (c.op {d = o} d) = ops o u d
inner-operations i u (c.semaphores {d = s} d) = semaphores s u d
inner-operations i u (c.a_statement d) = none

item-operations : (i : Item) (u : List Token) → SpellsItem i u → Picks (item_operations i) u
item-operations i u (c.spec {i = s} d) = spec-operations s u d
item-operations i u (c.proc (c.proc t n o k h j l ns m r b e)) =
    left_out t (left_out n (left_out o (second _ (left_out k (second _ (first _ (listed inner_operations inner-operations b)))))))
item-operations i u (c.procedure (c.procedure t n h j s b e)) = left_out t (picked n (second _ (first _ (listed inner_operations inner-operations b))))
item-operations i u (c.process (c.process t n h j q b e)) = left_out t (picked n (second _ (first _ (listed inner_operations inner-operations b))))
item-operations i u (c.final (c.final t k h b j)) = left_out t (first _ (listed inner_operations inner-operations b))
item-operations i u (c.a_statement d) = none

component-operations : (tree : Component) (u : List Token) → SpellsComponent tree u → Picks (component_operations tree) u
component-operations tree u (c.resource t n h i f v is l e) = left_out t (left_out n (second _ (first _ (listed item_operations item-operations is))))
component-operations tree u (c.split_resource t n b m h i ss o j k l f v is x e) =
    left_out t (left_out n (both (listed spec_operations spec-operations ss) (left_out b (left_out m (second _ (first _ (listed item_operations item-operations is)))))))
component-operations tree u (c.global t n h i ss c.no_body e) = left_out t (left_out n (both (listed spec_operations spec-operations ss) none))
component-operations tree u (c.global t n h i ss (c.body b m j k l is x) e) =
    left_out t (left_out n (both (listed spec_operations spec-operations ss) (first _ (left_out b (left_out m (listed item_operations item-operations is))))))

pub operations-picked : (tokens : List Token) (file : File) → Spells tokens file → Picks (operation_spans file) tokens
operations-picked tokens file (c.file cs) = listed component_operations component-operations cs

-- ---- components

component-picked : (tree : Component) (u : List Token) → SpellsComponent tree u → Picks (component_span tree ∷ []) u
component-picked tree u (c.resource t n h i f v is l e) = left_out t (picked n none)
component-picked tree u (c.split_resource t n b m h i ss o j k l f v is x e) = left_out t (picked n none)
component-picked tree u (c.global t n h i ss b e) = left_out t (picked n none)

pub components-picked : (tokens : List Token) (file : File) → Spells tokens file → Picks (component_spans file) tokens
components-picked tokens file (c.file {cs = trees} cs) = subst (λ spans. Picks spans tokens) (flat_map_single component_span trees) (listed (λ tree. component_span tree ∷ []) component-picked cs)
