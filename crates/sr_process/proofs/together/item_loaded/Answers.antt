use Rattle.std.proofs.Common.{ℤ, Some, rules, w32, subst}
use Rattle.std.specs.Prelude.{IfSome}
use Rattle.std.proofs.lemmas.Int.{to_z-of_z}
use Rattle.std.proofs.lemmas.Option.{IfSome_then}
use mir.Val.{SFits}
use Rattle.sr_process.specs.Together.{Loads}
use Rattle.sr_process.proofs.Leading.{item_loads}
use Rattle.sr_process.proofs.together.item_loaded.Goals as goal

pub returns : goal.returns
returns c =
    let fits : SFits w32 c.in_ok-index.index.number = search rules in
    let P : ℤ → Type 0 = λ index. IfSome c.loaded.result (λ found. Loads c.args.code.now c.args.own.now (record { var = c.args.var; index = Some index }) c.in_ok-index.index.after found) in
    IfSome_then c.loaded.result (subst P (to_z-of_z w32 c.in_ok-index.index.number fits) c.loaded.ensures) (λ found loads.
    item_loads c.args.code.now c.args.own.now c.args.var c.args.address c.in_ok-first.first c.in_ok-index.index found c.in_ok-first.ensures c.in_ok-index.ensures loads)
