-- What the code of a component asks of what is known where it is read: its blocks declare operations where no type is known, each
-- is known by the type that its head makes, and the signature of a procedure is known.
use Rattle.std.proofs.Common.{◌≡◌, ◌⊎◌, true, List, [], ◌∷◌, None}
use Rattle.sr_names.specs.declared.spot.Spot.{Spot}
use Rattle.sr_names.specs.Spots.{spot_of}
use Rattle.sr_tree.specs.declared.component.Component.{Component}
use Rattle.sr_tree.specs.declared.component.Item.{Item}
use Rattle.sr_tree.specs.declared.component.Item.TheVariants as item
use Rattle.sr_tree.specs.declared.component.ProcItem.{ProcItem}
use Rattle.sr_tree.specs.declared.component.ProcItem.TheVariants as inner
use Rattle.sr_tree.specs.declared.declaration.OpItem.{OpItem}
use Rattle.sr_tree.specs.Parts.{body_of}
use Rattle.sr_check_expr.specs.declared.facts.Facts.{Facts}
use Rattle.sr_check_expr.specs.Infos.{info_at}
use Rattle.sr_check_decl.specs.Declarations.{ops_found}
use Rattle.sr_check_decl.specs.Declaring.{op_item_name, ops_declared, sems_declared, standing}
use Rattle.sr_check_decl.specs.Entering.{ops_entered, signature_entered}
use Rattle.sr_check_decl.specs.Parts.{component_decl}
use Rattle.sr_check_decl.specs.TypeTrees.{signature_read}
use Rattle.sr_check.specs.declared.serving.Serving.TheVariants.{Ends, Serves}
use Rattle.sr_check.specs.Components.{beginning, component_read, item_read, items_procs, proc_item_read, quantifiers_formal, signed_declared}
use Rattle.sr_check.specs.Contexts.{Context, with_facts}
use Rattle.sr_check.specs.ErrorFree.{ErrorFree}
use Rattle.sr_check.specs.Procs.{Procs}
use Rattle.sr_check.specs.Quantifying.{quantifiers_known}
use Rattle.sr_check.specs.Services.{operation_named, service_bound, spot_or, type_of}
use Rattle.sr_front.proofs.Headed.Heads.{ops_headed, sems_headed}
use Rattle.sr_front.proofs.Typed.TypedTypes.{Later, type_part}

-- one of these stands at the spot
abbrev pub OpAt : List OpItem → Spot → Type 0
OpAt [] spot = ⊥
OpAt (op ∷ ops) spot = (spot ≡ spot_of (op_item_name op).span) ⊎ OpAt ops spot

-- no type is known where one of these stands
abbrev pub FreeOps : List OpItem → Facts → Type 0
FreeOps ops facts = (spot : Spot) → OpAt ops spot → type_part (info_at facts.infos spot) ≡ None

-- the operations of a block: where no rule is broken in them, each is known by the type that its head makes
pub record OpsGood (ops : List OpItem) (facts : Facts) : Type 0 where
  pub free : FreeOps ops (ops_entered ops facts)
  pub headed : ErrorFree (ops_found (ops_declared true ops (ops_entered ops facts)) ops) → ErrorFree (ops_headed (ops_declared true ops (ops_entered ops facts)) ops)

-- ---- blocks

abbrev pub FreeItem : ProcItem → Facts → Type 0
FreeItem (inner.Op operations) facts = OpsGood operations.items facts
FreeItem (inner.Sem semaphores) facts = ErrorFree (sems_headed (sems_declared true semaphores.semaphores facts) semaphores.semaphores)
FreeItem _ facts = Unit {0}

abbrev pub FreeBlock : List ProcItem → Context → Type 0
FreeBlock [] context = Unit {0}
FreeBlock (one ∷ items) context = FreeItem one context.facts × FreeBlock items (with_facts context (proc_item_read one context).facts)

-- ---- items

abbrev pub FreeCode : Procs → Item → Facts → Type 0
FreeCode procs (item.Spec declared) facts = Unit {0}
FreeCode procs (item.Proc proc) facts =
    FreeBlock proc.block (beginning procs (Serves (spot_or (spot_of proc.name.span) (operation_named facts proc.name))) (service_bound proc.formals proc.returned (type_of (operation_named facts proc.name)) facts))
FreeCode procs (item.Procedure procedure) facts =
    Later (signature_entered procedure.signature facts) facts × FreeBlock procedure.block (beginning procs (Serves (spot_of procedure.name.span)) (signed_declared (signature_read procedure.signature facts).signed facts))
FreeCode procs (item.Process process) facts =
    FreeBlock process.block (beginning procs (Serves (spot_of process.name.span)) (quantifiers_formal process.quantifiers (quantifiers_known facts process.quantifiers)))
FreeCode procs (item.Final final) facts = FreeBlock final.block (beginning procs Ends facts)
FreeCode procs (item.Statement statement) facts = Unit {0}

abbrev pub FreeItems : Procs → List Item → Facts → Type 0
FreeItems procs [] facts = Unit {0}
FreeItems procs (one ∷ items) facts = FreeCode procs one facts × FreeItems procs items (item_read procs one facts).facts

-- ---- components

abbrev pub FreeComponent : Component → Facts → Type 0
FreeComponent component facts =
    FreeItems (items_procs (standing facts (component_decl component)) (body_of component) []) (body_of component) (standing facts (component_decl component))

abbrev pub FreeComponents : List Component → Facts → Type 0
FreeComponents [] facts = Unit {0}
FreeComponents (component ∷ more) facts = FreeComponent component facts × FreeComponents more (component_read component facts).facts
