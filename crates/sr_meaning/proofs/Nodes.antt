-- What a `do` means, by its node.
use Rattle.std.proofs.Common.{◌≡◌, List, map, Option, Some, None, sym, ◌∙◌, ap}
use Rattle.sr_value.specs.declared.place.Place.{Place}
use Rattle.sr_core.specs.declared.statement.Guarded.{Guarded}
use Rattle.sr_core.specs.declared.statement.Statement.{Statement}
use Rattle.sr_core.specs.declared.statement.Statement.TheFolds.{fold-roll-Statement}
use Rattle.sr_core.specs.declared.statement.Statement.TheOpen.{Statement-F}
use Rattle.sr_core.specs.declared.statement.Statement.TheVariants.{Do, rolls-Do}
use Rattle.sr_meaning.specs.declared.ending.Ending.{Ending}
use Rattle.sr_meaning.specs.Expressions.{Meaning}
use Rattle.sr_meaning.specs.Pieces.{guarded_of, optional_block}
use Rattle.sr_meaning.specs.Statements.{CoPart, co_arm_meaning, guarded_meaning, meaning_of, statement_meaning}

pub meaning_of_do : (place : Place) (guards : List Guarded) (otherwise : Option (List Statement))
    → meaning_of (Do place guards otherwise) ≡ statement_meaning (Statement-F.Do place (map guarded_of guards) (optional_block otherwise))
meaning_of_do place guards None =
    ap meaning_of (sym (rolls-Do place guards None))
    ∙ fold-roll-Statement (Meaning Ending) CoPart (Meaning (Option Ending)) statement_meaning co_arm_meaning guarded_meaning (Statement-F.Do place guards None)
meaning_of_do place guards (Some block) =
    ap meaning_of (sym (rolls-Do place guards (Some block)))
    ∙ fold-roll-Statement (Meaning Ending) CoPart (Meaning (Option Ending)) statement_meaning co_arm_meaning guarded_meaning (Statement-F.Do place guards (Some block))
