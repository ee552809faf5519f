-- One global more is put in, and at the end there are all.
use Rattle.std.proofs.Common.{ℕ, ◌+◌, List, drop, sym, ap, ◌∙◌}
use Rattle.std.proofs.lemmas.List.{drop_all}
use Rattle.sr_outline.specs.Outline.{with_needed}
use Rattle.sr_outline.proofs.Needed.{needed_next, needed_none}
use Rattle.sr_outline.proofs.imports.+needed.Goals as goal

pub push_needed-loop-global-preserved : goal.push_needed-loop-global-preserved
push_needed-loop-global-preserved t c =
    ap (λ (there : List ℕ). with_needed c.args.depth c.args.imports.now there (drop (c.loop-global.global-index + 1) c.args.wanted.now)) c.in_ok-push_global.ensures
    ∙ needed_next c.args.depth c.args.imports.now c.loop-global.there c.args.wanted.now c.loop-global.global-index _ c.loop-global-test.true
    ∙ c.loop-global.invariant

pub push_needed-returns : goal.push_needed-returns
push_needed-returns t c =
    sym (needed_none c.args.depth c.args.imports.now c.loop-global.there)
    ∙ ap (λ (rest : List ℕ). with_needed c.args.depth c.args.imports.now c.loop-global.there rest) (sym (drop_all c.loop-global.global-index c.args.wanted.now c.loop-global-test.false))
    ∙ c.loop-global.invariant
