use Rattle.std.proofs.Common.{◌≡◌, ap, refl, subst, sym, true, ◌∙◌}
use Rattle.sr_queue.specs.Classes.{same_class}
use Rattle.sr_plain.specs.Waiting.{HoldsClass}
use Rattle.sr_plain.specs.declared.crowd.Opened.{Opened}
use Rattle.sr_plain.specs.declared.waiters.Waiters.{Waiters}
use Rattle.sr_plain.proofs.BeginLemmas.{on_ok}
use Rattle.sr_plain.proofs.CrowdLemmas.{shut-crowd, shut-nobody, within-row}
use Rattle.sr_plain.proofs.waiters.Waiters.shut.Goals as goal

pub remove-processes-requires : goal.remove-processes-requires
remove-processes-requires c =
    let holds = subst (λ crowds. HoldsClass crowds c.args.class c.in-Some.place) c.as_slice.ensures c.in-Some.ensures in
    within-row c.args.self.now.opened c.in-Some.place holds.crowd holds.here

pub returns-in-Some : goal.returns-in-Some
returns-in-Some c =
    let old : Waiters = c.args.self.now in
    let mid : Waiters = record old { opened = c.remove-processes.new.self } in
    let holds = subst (λ crowds. HoldsClass crowds c.args.class c.in-Some.place) c.as_slice.ensures c.in-Some.ensures in
    let one : holds.crowd ≡ c.remove-processes.result = cc (holds.here, c.remove-processes.ensures.item) in
    let same : same_class c.remove-processes.result.class c.args.class ≡ true = ap (λ (o : Opened). same_class o.class c.args.class) (sym one) ∙ holds.same in
    on_ok c.put_back.result
    (λ back. shut-crowd c.args.class c.in-Some.place c.remove-processes.result old mid c.put_back.new.self c.remove-processes.ensures.item same refl refl refl refl refl c.remove-processes.ensures.others back) c.put_back.ensures

pub returns-in-None : goal.returns-in-None
returns-in-None c = shut-nobody c.args.class c.args.self.now

pub returns-then-is_empty : goal.returns-then-is_empty
returns-then-is_empty c = shut-nobody c.args.class c.args.self.now
