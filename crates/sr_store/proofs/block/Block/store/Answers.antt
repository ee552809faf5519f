use Rattle.std.proofs.Common.{ap, is_some, sym, ◌∙◌}
use Rattle.std.specs.FinMap as map
use Rattle.sr_store.specs.declared.variable.Variable.{Variable}
use Rattle.sr_store.proofs.BlockLemmas.{kept-same, on_fault, stored-early, stored-here, written-same}
use Rattle.sr_store.proofs.block.Block.store.Goals as goal

pub returns-in_default-clause-wrote : goal.returns-in_default-clause-wrote
returns-in_default-clause-wrote c = (
  stored-early c.self.inside.variables.entries c.args.self.now.variables (ap (λ k. k.variables) c.self.view_is) c.args.var c.args.path.now c.args.value c.in_default.ensures.value,
  ap (λ m. map.from_entries m.entries) c.get_mut.follows.holds-at-none ∙ ap (λ k. k.variables) c.self.view_is,
)

pub returns-clause-wrote : goal.returns-clause-wrote
returns-clause-wrote c =
    let variable : Variable = c.in-Some.variable.now in
    let written : Variable = record variable { value = c.put_at.new.place } in
    let through = c.get_mut.follows.holds written in
    stored-here c.self.inside.variables.entries c.args.self.now.variables (ap (λ k. k.variables) c.self.view_is) c.args.var c.args.path.now c.args.value _ variable c.put_at.new.place c.put_at.result c.in-Some.ensures.value
    (through.3 (sym (ap is_some c.in-Some.ensures.value))).0 (written-same _ _ c.args.var variable c.put_at.new.place c.in-Some.ensures.value through.0) c.put_at.ensures

pub returns-clause-err : goal.returns-clause-err
returns-clause-err c =
    let variable : Variable = c.in-Some.variable.now in
    let written : Variable = record variable { value = c.put_at.new.place } in
    let through = c.get_mut.follows.holds written in
    on_fault c.put_at.result variable.value c.put_at.new.place _ _ c.put_at.ensures
    (λ same. kept-same c.self.inside.variables.entries _ _ _ c.args.self.now c.self.view_is (written-same _ _ c.args.var variable c.put_at.new.place c.in-Some.ensures.value through.0 same) through.6)
