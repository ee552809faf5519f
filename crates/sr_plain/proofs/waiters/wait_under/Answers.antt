use Rattle.std.proofs.Common.{◌≡◌, ◌∙◌, Some, ap, eq-eqb, is_some, refl, subst, sym, true, true≢false}
use Rattle.std.specs.HashMap.{UpdatesBy}
use Rattle.sr_plain.specs.Waiting.{is_among}
use Rattle.sr_plain.specs.declared.waiters.Waiting.TheVariants.{One}
use Rattle.sr_plain.proofs.BeginLemmas.{on_ok}
use Rattle.sr_plain.proofs.waiters.wait_under.Goals as goal

pub returns-in-Some : goal.returns-in-Some
returns-in-Some g c =
    let through = c.get_mut.follows.holds c.add.new.self in
    on_ok c.add.result
    (λ more. record {
      waiting = c.add.new.self;
      updates = through.3 (sym (ap is_some c.in-Some.ensures.value));
      itself = more.itself;
      others = λ p here. more.others p (subst (λ o. is_among o p ≡ true) (sym c.in-Some.ensures.value) here);
    })
    c.add.ensures

pub returns-in_ok-insert-in-None : goal.returns-in_ok-insert-in-None
returns-in_ok-insert-in-None g c = record {
  waiting = One c.args.process;
  updates = subst (λ m. UpdatesBy g.K.PartialEq.eq (g.K.PartialEq.eq c.args.key) m c.insert.new.self (Some (One c.args.process))) c.get_mut.follows.holds-at-none c.in_ok-insert-in-None.ensures.updates;
  itself = eq-eqb c.args.process c.args.process refl;
  others = λ p here. absurd (true≢false (sym here ∙ ap (λ o. is_among o p) (sym c.in-None.ensures.value)));
}
