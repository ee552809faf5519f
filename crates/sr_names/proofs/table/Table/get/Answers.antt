-- The look-up is the map's own.
use Rattle.std.proofs.Common.{ap, sym, ◌∙◌}
use Rattle.sr_names.specs.Tables.{declared_as}
use Rattle.sr_names.proofs.TableLemmas.{lookup-named}
use Rattle.sr_names.proofs.table.Table.get.Goals as goal

pub returns : goal.returns
returns c =
    let name = c.args.name.now in
    c.copied.ensures ∙ c.get.ensures.value ∙ sym (lookup-named name c.self.inside.entries.entries) ∙ ap (λ table. declared_as table name) c.self.view_is
