-- The core is that of the trees, and the classes are those of the core.
use Rattle.std.proofs.Common.{List, ap, ◌∙◌}
use Rattle.sr_desugar.specs.Core as whole
use Rattle.sr_tree.specs.declared.component.File.{File}
use Rattle.sr_front.proofs.cores.written_out.Goals as goal

pub returns : goal.returns
returns c = record {
  core = c.in_ok-core.ensures ∙ ap (λ (files : List File). whole.core_of files c.args.accepted.facts) c.as_slice.ensures;
  classes = c.in_ok-classes.ensures;
}
