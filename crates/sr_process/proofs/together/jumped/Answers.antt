use Rattle.std.proofs.Common.{◌-◌, ℕ, Bool, false, subst, sym}
use Rattle.sr_process.specs.Together.{Jumps}
use Rattle.sr_process.proofs.Leading.{jump_past, jump_to}
use Rattle.sr_process.proofs.together.jumped.Goals as goal

pub returns-then-truth : goal.returns-then-truth
returns-then-truth c = λ own.
    let P : Bool → Type 0 = λ t. Jumps c.args.code.now own t c.args.address (c.args.address - 1) in
    subst P (sym c.if-truth.true) (jump_past c.args.code.now own c.in_ok-to.field-0.now c.args.address c.in-JumpUnless.to (sym c.in_ok-to.ensures) c.in-JumpUnless.is)

pub returns-else-truth : goal.returns-else-truth
returns-else-truth c = λ own.
    let P : Bool → Type 0 = λ t. Jumps c.args.code.now own t c.args.address c.min.result in
    let Q : ℕ → Type 0 = λ to. Jumps c.args.code.now own false c.args.address to in
    subst P (sym c.if-truth.false) (subst Q (sym c.min.ensures) (jump_to c.args.code.now own c.in_ok-to.field-0.now c.args.address c.in-JumpUnless.to (sym c.in_ok-to.ensures) c.in-JumpUnless.is))
