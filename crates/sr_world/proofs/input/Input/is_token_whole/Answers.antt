use Rattle.std.proofs.Common.{◌≡◌, ℕ, List, length, ap, subst, ◌∙◌}
use Rattle.std.specs.Prelude.{◌&&◌, nat_lt}
use Rattle.sr_world.specs.Inputs.{after_token, some_are, token_in}
use Rattle.sr_world.proofs.LookLemmas.{whole}
use Rattle.sr_world.proofs.input.Input.is_token_whole.Goals as goal

pub returns-then-self : goal.returns-then-self
returns-then-self c =
    ap (nat_lt c.self.inside.end) c.len.ensures
    ∙ subst (λ (rest : List ℕ). nat_lt c.self.inside.end (length c.self.inside.bytes) ≡ (some_are (token_in rest) && some_are (after_token rest))) c.self.view_is
    (whole c.self.inside.bytes c.self.inside.at c.self.inside.token c.self.inside.end c.self.invariant c.if-self.true)
