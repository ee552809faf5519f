-- A core may be lent to other threads. Each of its types has a lemma of its own, since a search for all at once is too long:
-- `X-field` of X as a field of another type, `X-sync` of X itself.
use denote.Enum.Declared.{shape as enum_shape}
use denote.Hole.{as_row}
use denote.Param.Send.{IsSend, IsSync, enum_sync, sendable, struct_sync}
use denote.Param.SendFields.{as_row_sync, declared_sync}
use denote.RattleType.{RattleType}
use denote.Struct.Declared.{shape as struct_shape}
use denote.Struct.Field.{bool-field, i32-field, u32-field}
use Rattle.sr_core.proofs.component.Kind.TheSendSync as kind
use Rattle.sr_core.proofs.expression.Argument.TheLaws.TheKnot.{sync-Argument, sync-Expr, sync-PlaceExpr}
use Rattle.sr_core.proofs.expression.Function.TheSendSync as function
use Rattle.sr_core.proofs.expression.Readable.TheSendSync as readable
use Rattle.sr_core.proofs.formal.Mode.TheSendSync as mode
use Rattle.sr_core.proofs.owner.OperationOwner.TheSendSync as operation_owner
use Rattle.sr_core.proofs.owner.Root.TheSendSync as root
use Rattle.sr_core.proofs.site.Named.TheSendSync as named
use Rattle.sr_core.proofs.site.SharedRead.TheSendSync as shared_read
use Rattle.sr_core.proofs.statement.Bump.TheSendSync as bump
use Rattle.sr_core.proofs.statement.Direction.TheSendSync as direction
use Rattle.sr_core.proofs.statement.Scope.TheSendSync as scope
use Rattle.sr_core.proofs.statement.Statement.TheLaws.TheKnot.{sync-Statement}
use Rattle.sr_core.specs.contracts.component.Body as body_type
use Rattle.sr_core.specs.contracts.component.Component as component_type
use Rattle.sr_core.specs.contracts.component.Core as core_type
use Rattle.sr_core.specs.contracts.component.Operation as operation_type
use Rattle.sr_core.specs.contracts.component.Parameter as parameter_type
use Rattle.sr_core.specs.contracts.component.Proc as proc_type
use Rattle.sr_core.specs.contracts.expression.Argument as argument_type
use Rattle.sr_core.specs.contracts.expression.Expr as expr_type
use Rattle.sr_core.specs.contracts.expression.Leaf as leaf_type
use Rattle.sr_core.specs.contracts.expression.PlaceExpr as place_expr_type
use Rattle.sr_core.specs.contracts.formal.Formal as formal_type
use Rattle.sr_core.specs.contracts.formal.FormalShape as formal_shape_type
use Rattle.sr_core.specs.contracts.formal.Returned as returned_type
use Rattle.sr_core.specs.contracts.site.Arm as arm_type
use Rattle.sr_core.specs.contracts.site.Site as site_type
use Rattle.sr_core.specs.contracts.statement.Action as action_type
use Rattle.sr_core.specs.contracts.statement.CoCall as co_call_type
use Rattle.sr_core.specs.contracts.statement.Declaration as declaration_type
use Rattle.sr_core.specs.contracts.statement.DimsExpr as dims_expr_type
use Rattle.sr_core.specs.contracts.statement.ItemShape as item_shape_type
use Rattle.sr_core.specs.contracts.statement.Quantifier as quantifier_type
use Rattle.sr_core.specs.contracts.statement.Range as range_type
use Rattle.sr_core.specs.contracts.statement.Setup as setup_type
use Rattle.sr_core.specs.contracts.statement.ShapeExpr as shape_expr_type
use Rattle.sr_core.specs.contracts.statement.Statement as statement_type
use Rattle.sr_value.proofs.boxed.Boxed.TheSendSync as boxed
use Rattle.sr_value.proofs.capability.Cap.TheSendSync as cap
use Rattle.sr_value.proofs.operator.Operator.TheSendSync as operator
use Rattle.sr_value.proofs.place.Place.TheSendSync as place
use Rattle.sr_value.proofs.row.Row.TheSendSync as row
use Rattle.sr_value.proofs.shape.Dims.TheSendSync as dims
use Rattle.sr_value.proofs.shape.Shape.TheLaws.TheKnot.{both_sync-Shape}
use Rattle.sr_value.proofs.shared.Shared.TheSendSync as shared
use Rattle.sr_value.proofs.text.Text.TheSendSync as text
use Rattle.sr_value.proofs.value.Value.TheLaws.TheKnot.{sync-Value}
use Rattle.sr_value.specs.contracts.row.Row as row_type
use Rattle.sr_value.specs.contracts.shape.Shape as shape_type
use Rattle.sr_value.specs.contracts.shared.Shared as shared_type
use Rattle.sr_value.specs.contracts.value.Value as value_type
use Rattle.std.specs.contracts.option.Option as option_type

bool-part : IsSync bool-field.row
bool-part = search sendable

i32-part : IsSync i32-field.row
i32-part = search sendable

i32-sync : IsSync (as_row i32-field)
i32-sync = as_row_sync i32-field i32-part

u32-part : IsSync u32-field.row
u32-part = search sendable

u32-sync : IsSync (as_row u32-field)
u32-sync = as_row_sync u32-field u32-part

u32-send : IsSend u32-field.row
u32-send = search sendable

shared_row-send : (R : RattleType) → IsSend R → IsSync R → IsSend (shared_type.the_row (row_type.the_row R))
shared_row-send R send sync = shared.the_send (row_type.the_row R) (row.the_send R send) (row.the_sync R sync)

shared_row-sync : (R : RattleType) → IsSend R → IsSync R → IsSync (shared_type.the_row (row_type.the_row R))
shared_row-sync R send sync = shared.the_sync (row_type.the_row R) (row.the_send R send) (row.the_sync R sync)

value-field : IsSync (value_type.the_field).row
value-field = sync-Value (search sendable) (search sendable) (search sendable) u32-part text.the_sync row.the_sync dims.the_field_sync cap.the_field_sync

shape-field : IsSync (shape_type.the_field).row
shape-field = both_sync-Shape u32-send u32-part shared_row-send shared_row-sync dims.the_field_send dims.the_field_sync shared.the_send shared.the_sync

shape-sync : IsSync shape_type.the_row
shape-sync = as_row_sync shape_type.the_field shape-field

optional-sync : (R : RattleType) → IsSync R → IsSync (option_type.the_field R).row
optional-sync R item = enum_sync (enum_shape (option_type.the_type R)) (tt, ((item, tt), tt))

leaf-field : IsSync (leaf_type.the_field).row
leaf-field = enum_sync (enum_shape leaf_type.the_type) ((value-field, tt), ((operation_owner.the_field_sync, (u32-part, tt)), (tt, (tt, ((u32-part, tt), (tt, (tt, tt)))))))

expr-field : IsSync (expr_type.the_field).row
expr-field = sync-Expr leaf-field operator.the_field_sync boxed.the_sync function.the_field_sync row.the_sync u32-part (optional-sync _ shape-sync) root.the_field_sync readable.the_field_sync

expr-sync : IsSync expr_type.the_row
expr-sync = as_row_sync expr_type.the_field expr-field

place_expr-field : IsSync (place_expr_type.the_field).row
place_expr-field = sync-PlaceExpr leaf-field operator.the_field_sync boxed.the_sync function.the_field_sync row.the_sync u32-part (optional-sync _ shape-sync) root.the_field_sync readable.the_field_sync

place_expr-sync : IsSync place_expr_type.the_row
place_expr-sync = as_row_sync place_expr_type.the_field place_expr-field

argument-field : IsSync (argument_type.the_field).row
argument-field = sync-Argument leaf-field operator.the_field_sync boxed.the_sync function.the_field_sync row.the_sync u32-part (optional-sync _ shape-sync) root.the_field_sync readable.the_field_sync

argument-sync : IsSync argument_type.the_row
argument-sync = as_row_sync argument_type.the_field argument-field

formal_shape-field : IsSync (formal_shape_type.the_field).row
formal_shape-field = enum_sync (enum_shape formal_shape_type.the_type) ((shape-field, tt), ((i32-part, (shape-field, tt)), ((i32-part, (optional-sync _ i32-sync, (i32-part, (optional-sync _ i32-sync, (shape-field, tt))))), tt)))

formal-field : IsSync (formal_type.the_field).row
formal-field = struct_sync (struct_shape formal_type.the_type) (u32-part, (mode.the_field_sync, (formal_shape-field, tt)))

formal-sync : IsSync formal_type.the_row
formal-sync = as_row_sync formal_type.the_field formal-field

returned-field : IsSync (returned_type.the_field).row
returned-field = struct_sync (struct_shape returned_type.the_type) (u32-part, (shape-field, tt))

returned-sync : IsSync returned_type.the_row
returned-sync = as_row_sync returned_type.the_field returned-field

parameter-field : IsSync (parameter_type.the_field).row
parameter-field = struct_sync (struct_shape parameter_type.the_type) (mode.the_field_sync, (formal_shape-field, tt))

parameter-sync : IsSync parameter_type.the_row
parameter-sync = as_row_sync parameter_type.the_field parameter-field

operation-field : IsSync (operation_type.the_field).row
operation-field = struct_sync (struct_shape operation_type.the_type) (text.the_sync, (u32-part, (scope.the_field_sync, (row.the_sync _ parameter-sync, (optional-sync _ shape-sync, (bool-part, (bool-part, (optional-sync _ u32-sync, tt))))))))

operation-sync : IsSync operation_type.the_row
operation-sync = as_row_sync operation_type.the_field operation-field

range-field : IsSync (range_type.the_field).row
range-field = struct_sync (struct_shape range_type.the_type) (expr-field, (expr-field, tt))

dims_expr-field : IsSync (dims_expr_type.the_field).row
dims_expr-field = enum_sync (enum_shape dims_expr_type.the_type) (tt, ((range-field, tt), ((range-field, (range-field, tt)), tt)))

item_shape-field : IsSync (item_shape_type.the_field).row
item_shape-field = enum_sync (enum_shape item_shape_type.the_type) ((shape-field, tt), ((expr-field, tt), tt))

shape_expr-field : IsSync (shape_expr_type.the_field).row
shape_expr-field = struct_sync (struct_shape shape_expr_type.the_type) (dims_expr-field, (item_shape-field, tt))

setup-field : IsSync (setup_type.the_field).row
setup-field = enum_sync (enum_shape setup_type.the_type) ((shape_expr-field, (optional-sync _ expr-sync, tt)), ((shape-field, (expr-field, tt)), tt))

declaration-field : IsSync (declaration_type.the_field).row
declaration-field = struct_sync (struct_shape declaration_type.the_type) (scope.the_field_sync, (u32-part, (setup-field, tt)))

quantifier-field : IsSync (quantifier_type.the_field).row
quantifier-field = struct_sync (struct_shape quantifier_type.the_type) (u32-part, (expr-field, (direction.the_field_sync, (expr-field, (expr-field, (optional-sync _ expr-sync, tt))))))

quantifier-sync : IsSync quantifier_type.the_row
quantifier-sync = as_row_sync quantifier_type.the_field quantifier-field

action-field : IsSync (action_type.the_field).row
action-field = enum_sync (enum_shape action_type.the_type) (tt, ((expr-field, tt), ((expr-field, (row.the_sync _ argument-sync, tt)), ((expr-field, (row.the_sync _ argument-sync, tt)), ((place_expr-field, (expr-field, tt)), ((place_expr-field, (place_expr-field, tt)), ((place_expr-field, (bump.the_field_sync, tt)), ((row.the_sync _ expr-sync, (bool-part, tt)), ((optional-sync _ expr-sync, tt), ((expr-field, tt), ((expr-field, tt), (tt, (tt, (tt, (tt, tt)))))))))))))))

co_call-field : IsSync (co_call_type.the_field).row
co_call-field = struct_sync (struct_shape co_call_type.the_type) (optional-sync _ place_expr-sync, (expr-field, (row.the_sync _ argument-sync, (optional-sync _ shape-sync, tt))))

optional_row-sync : (R : RattleType) → IsSync R → IsSync (option_type.the_row (row_type.the_row R))
optional_row-sync R item = as_row_sync (option_type.the_field (row_type.the_row R)) (optional-sync (row_type.the_row R) (row.the_sync R item))

row_row-sync : (R : RattleType) → IsSync R → IsSync (row_type.the_row (row_type.the_row R))
row_row-sync R item = row.the_sync (row_type.the_row R) (row.the_sync R item)

statement-field : IsSync (statement_type.the_field).row
statement-field = sync-Statement place.the_field_sync declaration-field action-field row.the_sync optional_row-sync (row.the_sync _ quantifier-sync) u32-part row_row-sync expr-field co_call-field

statement-sync : IsSync statement_type.the_row
statement-sync = as_row_sync statement_type.the_field statement-field

body-field : IsSync (body_type.the_field).row
body-field = struct_sync (struct_shape body_type.the_type) (u32-part, (row.the_sync _ statement-sync, tt))

body-sync : IsSync body_type.the_row
body-sync = as_row_sync body_type.the_field body-field

component-field : IsSync (component_type.the_field).row
component-field = struct_sync (struct_shape component_type.the_type) (text.the_sync, (place.the_field_sync, (kind.the_field_sync, (row.the_sync _ formal-sync, (row.the_sync _ u32-sync, (row.the_sync _ u32-sync, (body-field, (optional-sync _ body-sync, tt))))))))

component-sync : IsSync component_type.the_row
component-sync = as_row_sync component_type.the_field component-field

proc-field : IsSync (proc_type.the_field).row
proc-field = struct_sync (struct_shape proc_type.the_type) (place.the_field_sync, (u32-part, (row.the_sync _ formal-sync, (optional-sync _ returned-sync, (body-field, tt)))))

proc-sync : IsSync proc_type.the_row
proc-sync = as_row_sync proc_type.the_field proc-field

arm-field : IsSync (arm_type.the_field).row
arm-field = struct_sync (struct_shape arm_type.the_type) (place.the_field_sync, (u32-part, (row.the_sync _ formal-sync, (optional-sync _ returned-sync, (optional-sync _ expr-sync, (optional-sync _ expr-sync, tt))))))

arm-sync : IsSync arm_type.the_row
arm-sync = as_row_sync arm_type.the_field arm-field

site-field : IsSync (site_type.the_field).row
site-field = struct_sync (struct_shape site_type.the_type) (scope.the_field_sync, (row.the_sync _ arm-sync, (bool-part, (row.the_sync _ named.the_sync, (row.the_sync _ shared_read.the_sync, (row.the_sync _ u32-sync, tt))))))

site-sync : IsSync site_type.the_row
site-sync = as_row_sync site_type.the_field site-field

pub core-sync : IsSync core_type.the_row
core-sync = declared_sync core_type.the_type (row.the_sync _ component-sync, (row.the_sync _ operation-sync, (row.the_sync _ proc-sync, (row.the_sync _ site-sync, (row.the_sync _ (row.the_sync _ text.the_sync), tt)))))
