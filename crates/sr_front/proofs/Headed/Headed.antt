-- What is known of an operation of an accepted program: it is in the table of operations, and its type has a signature that
-- fits what the table says of it.
use Rattle.std.specs.Prelude.{◌≡◌, Bool, List, Some, length, is_some}
use Rattle.sr_check.proofs.Owners.{Meets}
use Rattle.sr_check_expr.specs.Arguments.{may_call, may_send}
use Rattle.sr_core.specs.declared.component.Operation.{Operation}
use Rattle.sr_names.specs.declared.spot.Spot.{Spot}
use Rattle.sr_tree.specs.declared.component.Component.{Component}
use Rattle.sr_types.specs.declared.signature.Signature.{Signature}
use Rattle.sr_types.specs.declared.ty.Ty.{Ty}
use Rattle.sr_types.specs.Signatures.{signature_of}
use Rattle.sr_front.proofs.Known.Declared.{Entered}

-- a signature says of its operations what the table says of one: how many formals, whether it returns, and the forms
pub record FitsHead (operation : Operation) (signature : Signature) : Type 0 where
  pub params : length signature.params ≡ length operation.parameters
  pub returns : is_some signature.returns ≡ is_some operation.returns
  pub call : may_call signature.forms ≡ operation.can_call
  pub send : may_send signature.forms ≡ operation.can_send

-- a type has a signature that fits an operation
pub record HasHead (signatures : List Signature) (operation : Operation) (ty : Ty) : Type 0 where
  pub signature : Signature
  pub at : signature_of signatures ty ≡ Some signature
  pub fits : FitsHead operation signature

-- an operation that is known is in the table, and its type has a signature that fits
pub record IsHeaded (components : List Component) (procs : List Spot) (table : List (Spot × Operation)) (signatures : List Signature) (spot : Spot) (ty : Ty) (component : Spot) (is_local : Bool) : Type 0 where
  pub entered : Entered components procs table spot component is_local
  pub head : HasHead signatures entered.operation ty

abbrev pub Headed : List Component → List Spot → List (Spot × Operation) → Meets
Headed components procs table signatures spot ty component is_local = IsHeaded components procs table signatures spot ty component is_local
