-- The look-up is the map's own.
use Rattle.std.proofs.Common.{ap, sym, ◌∙◌}
use Rattle.std.specs.Map.{lookup}
use Rattle.std.specs.Str.{bytes_eq}
use Rattle.sr_names.proofs.TableLemmas.{lookup-named}
use Rattle.sr_names.proofs.declarers.Declarers.get.Goals as goal

pub returns : goal.returns
returns c =
    let name = c.args.name.now in
    c.get.ensures.value ∙ sym (lookup-named name c.self.inside.components.entries) ∙ ap (lookup (bytes_eq name)) c.self.view_is
