use Rattle.std.proofs.Common.{ap, inl, inr, is_some, refl, sym, ◌∙◌}
use Rattle.sr_actor.proofs.CrewLemmas.{absent-here, on_ok}
use Rattle.sr_actor.proofs.crew.begin_once.Goals as goal

pub returns-then-contains_key-clause-begins : goal.returns-then-contains_key-clause-begins
returns-then-contains_key-clause-begins g c = inl refl

pub returns-clause-known : goal.returns-clause-known
returns-clause-known g c = on_ok c.begin.result (λ begun. ap is_some begun.itself) c.begin.ensures

pub returns-clause-begins : goal.returns-clause-begins
returns-clause-begins g c = on_ok c.begin.result (λ begun. inr (absent-here _ (sym c.contains_key.ensures ∙ c.if-contains_key.false), begun)) c.begin.ensures
