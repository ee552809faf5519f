-- The spans of the names of a file are picked from its tokens.
use Rattle.std.proofs.Common.{true, List, flat_map}
use Rattle.sr_tree.specs.declared.component.Component.{Component}
use Rattle.sr_tree.specs.declared.component.File.{File}
use Rattle.sr_tree.specs.declared.component.Item.{Item}
use Rattle.sr_tree.specs.declared.component.ProcItem.{ProcItem}
use Rattle.sr_tree.specs.declared.component.SpecItem.{SpecItem}
use Rattle.sr_tree.specs.declared.token.Token.{Token}
use Rattle.sr_tree.specs.declared.types.Formal.{Formal}
use Rattle.sr_tree.specs.Components as c
use Rattle.sr_tree.specs.Components.{Spells, SpellsComponent, SpellsItem, SpellsList, SpellsOptionalFormals, SpellsProcItem, SpellsSpecItem}
use Rattle.sr_order.specs.Order.{Picks, nothing, left_out, picked}
use Rattle.sr_order.specs.Names.{formal_names, spec_item_names, proc_item_names, block_names, item_names, component_names, file_names}
use Rattle.sr_order.proofs.Picked.{none, both, first, listed}
use Rattle.sr_order.proofs.TypeNames.{formals-picked, signature-picked}
use Rattle.sr_order.proofs.DeclNames.{import-picked, const-picked, type-decl-picked, optype-picked, op-picked, var-picked, sem-picked}
use Rattle.sr_order.proofs.StatementNames.{optional-names, optional-quantifiers, returned-name, statement-picked}

spec-item : (i : SpecItem) (u : List Token) → SpellsSpecItem i u → Picks (spec_item_names i) u
spec-item i u (c.imports d) = import-picked d
spec-item i u (c.constant d) = const-picked d
spec-item i u (c.type_decl d) = type-decl-picked d
spec-item i u (c.optype d) = optype-picked d
spec-item i u (c.op d) = op-picked d
spec-item i u (c.variables d) = var-picked d
spec-item i u (c.semaphores d) = sem-picked d

proc-item : (i : ProcItem) (u : List Token) → SpellsProcItem i u → Picks (proc_item_names i) u
proc-item i u (c.constant d) = const-picked d
proc-item i u (c.variables d) = var-picked d
proc-item i u (c.op d) = op-picked d
proc-item i u (c.semaphores d) = sem-picked d
proc-item i u (c.a_statement d) = statement-picked d

block-picked : {is : List ProcItem} {u : List Token} → SpellsList SpellsProcItem true is u → Picks (block_names is) u
block-picked b = listed proc_item_names proc-item b

item-picked : (i : Item) (u : List Token) → SpellsItem i u → Picks (item_names i) u
item-picked i u (c.spec {i = s} d) = spec-item s u d
item-picked i u (c.proc (c.proc t n o k h j l ns m r b e)) =
    left_out t (picked n (left_out o (both (optional-names ns) (left_out k (both (returned-name r) (first _ (block-picked b)))))))
item-picked i u (c.procedure (c.procedure t n h j s b e)) = left_out t (picked n (both (signature-picked s) (first _ (block-picked b))))
item-picked i u (c.process (c.process t n h j q b e)) = left_out t (picked n (both (optional-quantifiers q) (first _ (block-picked b))))
item-picked i u (c.final (c.final t k h b j)) = left_out t (first _ (block-picked b))
item-picked i u (c.a_statement d) = statement-picked d

optional-formals : {fs : List Formal} {u : List Token} → SpellsOptionalFormals fs u → Picks (flat_map formal_names fs) u
optional-formals c.no_formals = nothing
optional-formals (c.some_formals d) = formals-picked d

component-picked : (tree : Component) (u : List Token) → SpellsComponent tree u → Picks (component_names tree) u
component-picked tree u (c.resource t n h i f v is l e) = left_out t (picked n (both (formals-picked f) (first _ (listed item_names item-picked is))))
component-picked tree u (c.split_resource t n b m h i ss o j k l f v is x e) =
    left_out t (picked n (both (listed spec_item_names spec-item ss) (left_out b (left_out m (both (optional-formals f) (first _ (listed item_names item-picked is)))))))
component-picked tree u (c.global t n h i ss c.no_body e) = left_out t (picked n (both (listed spec_item_names spec-item ss) none))
component-picked tree u (c.global t n h i ss (c.body b m j k l is x) e) =
    left_out t (picked n (both (listed spec_item_names spec-item ss) (first _ (left_out b (left_out m (listed item_names item-picked is))))))

pub names-picked : (tokens : List Token) (file : File) → Spells tokens file → Picks (file_names file) tokens
names-picked tokens file (c.file cs) = listed component_names component-picked cs
