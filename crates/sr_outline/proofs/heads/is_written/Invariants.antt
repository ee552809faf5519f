-- The form is among all where it is among the rest.
use Rattle.std.proofs.Common.{◌≡◌, drop}
use Rattle.std.specs.List.{list_any}
use Rattle.sr_outline.specs.Heads.{same_kind}
use Rattle.sr_outline.proofs.heads.is_written.Given as goal

abbrev pub invariant-loop-kind : goal.invariant-loop-kind
invariant-loop-kind l = list_any (λ kind. same_kind kind l.form) (drop l.kind-index l.kinds) ≡ list_any (λ kind. same_kind kind l.form) l.kinds
