-- Expressions are regular.
use Rattle.std.specs.List.{slice_set}
use Rattle.std.proofs.Common.{◌≡◌, ℕ, zero, suc, true, List, [], ◌∷◌, Option, Some, None, refl, ap}
use Rattle.sr_value.specs.declared.capability.Cap.{Cap}
use Rattle.sr_value.specs.declared.capability.Cap.TheVariants.{Op, Res as a_resource, Vm}
use Rattle.sr_value.specs.declared.shape.Sel.{Sel}
use Rattle.sr_value.specs.declared.shape.Shape.{Shape}
use Rattle.sr_value.specs.declared.value.Value.{Value}
use Rattle.sr_value.specs.declared.value.Value.TheVariants.{Int, Capa}
use Rattle.sr_value.specs.Shapes.{default_value}
use Rattle.sr_value.specs.Parts.{with_ok, loaded_at}
use Rattle.sr_ask.specs.Asking.{done, got, made, number, ready, moment, took, read_item}
use Rattle.sr_ask.specs.Behaviors.{give, ◌>>=◌}
use Rattle.sr_ask.specs.declared.environment.Located.{Located}
use Rattle.sr_ask.specs.declared.environment.Own.{Own}
use Rattle.sr_ask.specs.declared.environment.Spot.{Spot}
use Rattle.sr_ask.specs.declared.environment.Spot.TheVariants.{Own as an_own, Shared as a_shared}
use Rattle.sr_ask.specs.declared.forms.InputItem.{InputItem}
use Rattle.sr_ask.specs.declared.forms.InputItem.TheVariants.{Value as read_value, NotOfKind, NoMore}
use Rattle.sr_ask.specs.declared.request.Request.TheVariants.{Load, Store, Invoke, Take, Count, Read as read_request, EnsureGlobal, Create as create_request, MakeVm, Age}
use Rattle.sr_core.specs.declared.expression.Leaf.{Leaf}
use Rattle.sr_core.specs.declared.expression.Leaf.TheVariants.{Constant, Operation, MyResource, MyMachine, Count as count_of_op, MakeMachine, Moment}
use Rattle.sr_core.specs.declared.owner.Home.TheVariants.{Mine as my_home, Imported as imported_home}
use Rattle.sr_core.specs.declared.owner.Root.{Root}
use Rattle.sr_core.specs.declared.owner.Root.TheVariants.{Own as own_root, Shared as shared_root}
use Rattle.sr_core.specs.declared.owner.OperationOwner.{OperationOwner}
use Rattle.sr_core.specs.declared.owner.OperationOwner.TheVariants.{Mine, Imported, Process}
use Rattle.sr_ask.specs.declared.environment.ReadTarget.{ReadTarget}
use Rattle.sr_ask.specs.declared.environment.Sent.{Sent}
use Rattle.sr_meaning.specs.Expressions.{Meaning, at_end, created, default_given, ensured, give_back, leaf_meaning, needs_of, owner_of, read_all, taken, called}
use Rattle.sr_ask.specs.Invocations.{read_next, read_all as items_read}
use Rattle.sr_meaning.specs.Here.{Here, asker, settle}
use Rattle.sr_meaning.specs.Places.{own_load, own_store, load_at, load_place, store_at, store_place, store_results, spot_of}
use Rattle.sr_core.specs.Values.{cap_of}
use Rattle.sr_meaning.proofs.Regular.{Regular, RegularMeaning, AllRegular, with_limit, regular_then, regular_give, regular_equal, regular_own, regular_by, regular_request, regular_settle, regular_in_order}
use Rattle.sr_ask.specs.Invocations.{instance_in, value_after, values_sent, places_back}
use Rattle.sr_ask.specs.Places.{own_at, own_after, declare_own, nothing}

-- ---- places

pub regular_declare : (var : ℕ) (own : Own) → Regular (λ limit. declare_own var own)
regular_declare var own = regular_own (λ owns. slice_set owns var (Some own))

regular_own_load : (var : ℕ) (path : List Sel) (here : Here) → Regular (λ limit. own_load var path (with_limit limit here))
regular_own_load var path here =
    regular_by (λ own service out limit. settle (with_ok (own_at own var) (λ o. loaded_at o.value path)) (with_limit limit here)) (λ own service out. regular_settle here _)

regular_own_store : (var : ℕ) (path : List Sel) (value : Value) (here : Here) → Regular (λ limit. own_store var path value (with_limit limit here))
regular_own_store var path value here =
    regular_by (λ own service out limit. settle (with_ok (own_at own var) (λ o. own_after o path value)) (with_limit limit here) >>= declare_own var)
    (λ own service out. regular_then (regular_settle here _) (λ held. regular_declare var held))

regular_load_at : (spot : Spot) (path : List Sel) (here : Here) → Regular (λ limit. load_at spot path (with_limit limit here))
regular_load_at (an_own var) path here = regular_own_load var path here
regular_load_at (a_shared block var) path here = regular_request here got (Load block var path) refl

pub regular_load : (place : Located) (here : Here) → Regular (λ limit. load_place place (with_limit limit here))
regular_load place here = regular_load_at place.spot place.path here

regular_store_at : (spot : Spot) (path : List Sel) (value : Value) (here : Here) → Regular (λ limit. store_at spot path value (with_limit limit here))
regular_store_at (an_own var) path value here = regular_own_store var path value here
regular_store_at (a_shared block var) path value here = regular_request here done (Store block var path value) refl

pub regular_store : (place : Located) (value : Value) (here : Here) → Regular (λ limit. store_place place value (with_limit limit here))
regular_store place value here = regular_store_at place.spot place.path value here

pub regular_store_results : (places : List Located) (values : List Value) (here : Here) → Regular (λ limit. store_results places values (with_limit limit here))
regular_store_results [] values here = regular_give values
regular_store_results (place ∷ places) [] here = regular_give []
regular_store_results (place ∷ places) (value ∷ values) here = regular_then (regular_store place value here) (λ _. regular_store_results places values here)

pub same_spot : (root : Root) (here : Here) (limit : ℕ) → spot_of root (with_limit limit here) ≡ spot_of root here
same_spot (own_root var) here limit = refl
same_spot (shared_root my_home var) here limit = refl
same_spot (shared_root (imported_home at) var) here limit = refl

-- ---- leaves

same_owner : (whose : OperationOwner) (here : Here) (limit : ℕ) → owner_of whose (with_limit limit here) ≡ owner_of whose here
same_owner Mine here limit = refl
same_owner (Imported at) here limit = refl
same_owner Process here limit = refl

pub regular_leaf : (leaf : Leaf) (here : Here) → Regular (λ limit. leaf_meaning leaf (with_limit limit here))
regular_leaf (Constant value) here = regular_give value
regular_leaf (Operation whose op) here =
    regular_equal (λ limit. give (Capa (Op (owner_of whose (with_limit limit here)) op))) (λ limit. give (Capa (Op (owner_of whose here) op)))
    (λ limit. ap (λ owner. give (Capa (Op owner op))) (same_owner whose here limit)) (regular_give _)
regular_leaf MyResource here = regular_give (Capa (a_resource here.start.instance))
regular_leaf MyMachine here = regular_give (Capa (Vm here.start.vm))
regular_leaf (count_of_op op) here = regular_then (regular_request here number (Count op) refl) (λ n. regular_give (Int n))
regular_leaf MakeMachine here = regular_then (regular_request here made MakeVm refl) (λ name. regular_give (Capa (Vm name)))
regular_leaf Moment here = regular_then (regular_request here moment Age refl) (λ now. regular_give (Int now))

-- ---- invocations

regular_default : (returns : Option Shape) (here : Here) → Regular (λ limit. default_given returns (with_limit limit here))
regular_default None here = regular_give nothing
regular_default (Some shape) here = regular_settle here (default_value shape)

pub regular_give_back : (places : List Located) (returns : Option Shape) (results : Option (List Value)) (here : Here) → Regular (λ limit. give_back places returns results (with_limit limit here))
regular_give_back places returns None here = regular_default returns here
regular_give_back places returns (Some results) here = regular_then (regular_store_results places results here) (λ rest. regular_give (value_after rest))

pub regular_taken : (id : ℕ) (here : Here) → Regular (λ limit. taken id (with_limit limit here))
regular_taken id here = regular_then (regular_request here (took (id ∷ [])) (Take (id ∷ [])) refl) (λ reply. regular_give reply.results)

pub regular_called : (target : Meaning Value) (args : List (Meaning Sent)) (returns : Option Shape) (here : Here) → RegularMeaning target → AllRegular args
    → Regular (λ limit. called target args returns (with_limit limit here))
regular_called target args returns here t a =
    regular_then (t.at here) (λ operation. regular_then (regular_settle here (cap_of operation)) (λ cap. regular_then (regular_in_order args here a) (λ sent.
    regular_then (regular_request here made (Invoke cap (values_sent sent) true) refl) (λ id. regular_then (regular_taken id here) (λ reply.
    regular_give_back (places_back sent) returns reply here)))))

-- ---- create

pub regular_ensured : (globals : List ℕ) (vm : Cap) (here : Here) → Regular (λ limit. ensured globals vm (with_limit limit here))
regular_ensured [] vm here = regular_give tt
regular_ensured (global ∷ globals) vm here = regular_then (regular_request here ready (EnsureGlobal global vm) refl) (λ _. regular_ensured globals vm here)

pub regular_created : (resource : ℕ) (args : List Value) (vm : Cap) (here : Here) → Regular (λ limit. created resource args vm (with_limit limit here))
regular_created resource args vm here =
    regular_then (regular_ensured (needs_of here.core resource) vm here) (λ _.
    regular_then (regular_request here made (create_request resource args vm) refl) (λ name.
    regular_then (regular_taken name here) (λ reply. regular_give (instance_in reply))))

-- ---- read

regular_at_end : (count : ℕ) (here : Here) → Regular (λ limit. at_end count (with_limit limit here))
regular_at_end zero here = regular_give _
regular_at_end (suc n) here = regular_settle here _

regular_read_next : (count : ℕ) (read_target : ReadTarget) (read_targets : List ReadTarget) (item : InputItem) (here : Here) → Regular (λ limit. read_all (suc count) read_targets (with_limit limit here))
    → Regular (λ limit. read_next count read_target (items_read (suc count) read_targets) item (asker (with_limit limit here)))
regular_read_next count read_target read_targets (read_value value) here rest = regular_then (regular_store read_target.place value here) (λ _. rest)
regular_read_next count read_target read_targets NotOfKind here rest = regular_settle here _
regular_read_next count read_target read_targets NoMore here rest = regular_at_end count here

pub regular_read_all : (count : ℕ) (read_targets : List ReadTarget) (here : Here) → Regular (λ limit. read_all count read_targets (with_limit limit here))
regular_read_all count [] here = regular_settle here _
regular_read_all count (read_target ∷ read_targets) here =
    regular_then (regular_request here read_item (read_request read_target.kind) refl) (λ item. regular_read_next count read_target read_targets item here (regular_read_all (suc count) read_targets here))
