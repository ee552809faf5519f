-- What a look at the first of a list says of the list.
use Rattle.std.proofs.Common.{◌≡◌, ℕ, List, [], ◌∷◌, Option, Some, None, refl, ap, sym}
use Rattle.sr_value.specs.declared.value.Value.{Value}
use Rattle.sr_ask.specs.declared.environment.ReadTarget.{ReadTarget}
use Rattle.sr_ask.specs.declared.request.Request.TheVariants.{Read as read_request}
use Rattle.sr_core.specs.Formals.{first_of}
use Rattle.sr_code.specs.Stacks.{first}
use Rattle.sr_code.specs.declared.operands.Operands.{Operands}
use Rattle.sr_execute.specs.Executes.{reads, waits, went}
use Rattle.sr_execute.specs.declared.frame.Frame.{Frame}

pub first_sent : (args : List Value) (found : Option Value) → found ≡ first args → found ≡ first_of args
first_sent [] found is = is
first_sent (arg ∷ args) found is = is

pub reads_none : (targets : List ReadTarget) (next : ℕ) (on : Operands) (frame : Frame) → None ≡ first targets → reads targets next on frame ≡ went next on frame
reads_none [] next on frame none = refl
reads_none (target ∷ targets) next on frame none = absurd (cc)

pub reads_some : (targets : List ReadTarget) (found : ReadTarget) (next : ℕ) (on : Operands) (frame : Frame) → Some found ≡ first targets
    → reads targets next on frame ≡ waits (read_request found.kind) on frame
reads_some [] found next on frame is = absurd (cc)
reads_some (target ∷ targets) found next on frame is =
    let same : found ≡ target = cc in
    ap (λ (other : ReadTarget). waits (read_request other.kind) on frame) (sym same)
