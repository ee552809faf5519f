-- What is read is the longest piece; where nothing is read, there is none.
use Rattle.std.proofs.Common.{◌≡◌, ℕ, ◌+◌, ◌-◌, sym, ap, subst, length, drop, arith}
use Rattle.sr_reader.specs.Pieces.{IsLongest}
use Rattle.sr_tree.specs.Types.{SpellsType}
use Rattle.sr_parse_expr.specs.Refused.{HasNoTree, IsRefusedIn}
use Rattle.sr_parse_expr.proofs.Parsing.{type-longest, type-stops, front_after, none_after, dead_after}
use Rattle.sr_parse_expr.proofs.parse.parse_type.Goals as goal

pub returns-in-Ok-clause-front : goal.returns-in-Ok-clause-front
returns-in-Ok-clause-front c =
    let e = c.as_slice-items.ensures in
    subst
    (λ w. (x : ℕ) × (length c.as_slice-items.result.now - length c.in-Ok.rest.now ≡ c.args.at + x) × IsLongest SpellsType (drop c.args.at w) c.in-Ok.tree x) e
    (front_after c.as_slice-items.result.now c.args.at (omega (arith, c.requires.within, ap length e)) type-longest c.in-Ok.tree c.in-Ok.rest.now
    (omega (arith, c.in-Ok.ensures.shorter)) c.in-Ok.ensures.reads)

pub returns-in-Err-clause-none : goal.returns-in-Err-clause-none
returns-in-Err-clause-none c =
    let e = c.as_slice-items.ensures in
    subst (λ w. HasNoTree SpellsType (drop c.args.at w) c.refused.result) e
    (subst (HasNoTree SpellsType (drop c.args.at c.as_slice-items.result.now)) (sym c.refused.ensures)
    (none_after c.as_slice-items.result.now c.args.at (omega (arith, c.requires.within, ap length e)) type-longest c.in-Err.fail c.in-Err.ensures.reads))

pub returns-in-Err-clause-dead : goal.returns-in-Err-clause-dead
returns-in-Err-clause-dead c =
    let e = c.as_slice-items.ensures in
    subst (λ w. IsRefusedIn SpellsType w c.args.at c.refused.result) e
    (subst (IsRefusedIn SpellsType c.as_slice-items.result.now c.args.at) (sym c.refused.ensures)
    (dead_after c.as_slice-items.result.now c.args.at (omega (arith, c.requires.within, ap length e)) type-stops c.in-Err.fail c.in-Err.ensures.reads))
