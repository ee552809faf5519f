use Rattle.std.proofs.Common.{◌≡◌, ◌-◌, length, ap, sym, ◌∙◌, arith}
use Rattle.std.proofs.lemmas.List.{length-drop}
use Rattle.sr_world.specs.Parts.{begins_at, ends_at}
use Rattle.sr_world.proofs.LookLemmas.{read_as}
use Rattle.sr_world.proofs.input.Input.pass.Goals as goal

pub invariant_of-self : goal.invariant_of-self
invariant_of-self c =
    let left : length c.args.self.now ≡ length c.self.inside.bytes - c.self.inside.at = ap length (sym c.self.view_is) ∙ length-drop c.self.inside.at c.self.inside.bytes in
    let held = c.self.invariant in
    read_as c.self.inside.bytes c.self.inside.at c.self.inside.token c.self.inside.end held (c.len-2.result - (c.len.result - c.self.inside.at - c.args.count)) c.max.result c.max-self-inside.result
    c.begin_of-self-inside.result c.end_of-self-inside.result
    (omega (arith, left, c.requires, c.len.ensures, c.len-2.ensures, held.begun, held.ended, held.within))
    (omega (arith, c.len-2.ensures))
    c.max.ensures c.max-self-inside.ensures
    (c.begin_of-self-inside.ensures.begins ∙ ap (λ bytes. begins_at bytes c.max.result c.max-self-inside.result) c.as_bytes.ensures)
    (c.end_of-self-inside.ensures ∙ ap (λ bytes. ends_at bytes c.begin_of-self-inside.result c.max-self-inside.result) c.as_bytes-2.ensures)
