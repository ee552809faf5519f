-- A statement means what its node means.
use Rattle.std.proofs.Common.{◌≡◌, ℕ, List, map, Option, sym, ◌∙◌, ap}
use Rattle.sr_value.specs.declared.place.Place.{Place}
use Rattle.sr_core.specs.declared.expression.Expr.{Expr}
use Rattle.sr_core.specs.declared.statement.Action.{Action}
use Rattle.sr_core.specs.declared.statement.CoArm.{CoArm}
use Rattle.sr_core.specs.declared.statement.Declaration.{Declaration}
use Rattle.sr_core.specs.declared.statement.Guarded.{Guarded, out-Guarded}
use Rattle.sr_core.specs.declared.statement.Quantifier.{Quantifier}
use Rattle.sr_core.specs.declared.statement.Statement.{Statement}
use Rattle.sr_core.specs.declared.statement.Statement.TheFolds.{fold-roll-Statement, fold_out-Guarded}
use Rattle.sr_core.specs.declared.statement.Statement.TheOpen.{Statement-F}
use Rattle.sr_core.specs.declared.statement.Statement.TheVariants.{Act, Co, Declare, Do, Fa, If, In, Sends, rolls-Act, rolls-Co, rolls-Declare, rolls-Fa, rolls-If, rolls-In, rolls-Sends}
use Rattle.sr_meaning.specs.declared.ending.Ending.{Ending}
use Rattle.sr_meaning.proofs.Nodes.{meaning_of_do}
use Rattle.sr_meaning.specs.Expressions.{Meaning}
use Rattle.sr_meaning.specs.Pieces.{co_part_of, each_block, guarded_of, optional_block}
use Rattle.sr_meaning.specs.Statements.{CoPart, co_arm_meaning, guarded_meaning, meaning_of, statement_meaning}

pub meaning_declare : (statement : Statement) (place : Place) (declaration : Declaration) → statement ≡ Declare place declaration → meaning_of statement ≡ statement_meaning (Statement-F.Declare place declaration)
meaning_declare statement place declaration is =
    ap meaning_of (is ∙ sym (rolls-Declare place declaration))
    ∙ fold-roll-Statement (Meaning Ending) CoPart (Meaning (Option Ending)) statement_meaning co_arm_meaning guarded_meaning (Statement-F.Declare place declaration)

pub meaning_act : (statement : Statement) (place : Place) (action : Action) → statement ≡ Act place action → meaning_of statement ≡ statement_meaning (Statement-F.Act place action)
meaning_act statement place action is =
    ap meaning_of (is ∙ sym (rolls-Act place action))
    ∙ fold-roll-Statement (Meaning Ending) CoPart (Meaning (Option Ending)) statement_meaning co_arm_meaning guarded_meaning (Statement-F.Act place action)

pub meaning_sends : (statement : Statement) (place : Place) (target count : Expr) → statement ≡ Sends place target count → meaning_of statement ≡ statement_meaning (Statement-F.Sends place target count)
meaning_sends statement place target count is =
    ap meaning_of (is ∙ sym (rolls-Sends place target count))
    ∙ fold-roll-Statement (Meaning Ending) CoPart (Meaning (Option Ending)) statement_meaning co_arm_meaning guarded_meaning (Statement-F.Sends place target count)

pub meaning_if : (statement : Statement) (place : Place) (guards gs : List Guarded) (otherwise os : List Statement) → statement ≡ If place guards otherwise → gs ≡ guards → os ≡ otherwise
    → meaning_of statement ≡ statement_meaning (Statement-F.If place (map guarded_of gs) (map meaning_of os))
meaning_if statement place guards gs otherwise os is gs_are os_are =
    ap meaning_of (is ∙ sym (rolls-If place guards otherwise))
    ∙ fold-roll-Statement (Meaning Ending) CoPart (Meaning (Option Ending)) statement_meaning co_arm_meaning guarded_meaning (Statement-F.If place guards otherwise)
    ∙ ap (λ g. statement_meaning (Statement-F.If place (map guarded_of g) (map meaning_of otherwise))) (sym gs_are)
    ∙ ap (λ o. statement_meaning (Statement-F.If place (map guarded_of gs) (map meaning_of o))) (sym os_are)

pub meaning_do : (statement : Statement) (place : Place) (guards gs : List Guarded) (otherwise : Option (List Statement)) → statement ≡ Do place guards otherwise → gs ≡ guards
    → meaning_of statement ≡ statement_meaning (Statement-F.Do place (map guarded_of gs) (optional_block otherwise))
meaning_do statement place guards gs otherwise is gs_are =
    ap meaning_of is ∙ meaning_of_do place guards otherwise ∙ ap (λ g. statement_meaning (Statement-F.Do place (map guarded_of g) (optional_block otherwise))) (sym gs_are)

pub meaning_fa : (statement : Statement) (place : Place) (quantifiers qs : List Quantifier) (body bs : List Statement) → statement ≡ Fa place quantifiers body → qs ≡ quantifiers → bs ≡ body
    → meaning_of statement ≡ statement_meaning (Statement-F.Fa place qs (map meaning_of bs))
meaning_fa statement place quantifiers qs body bs is qs_are bs_are =
    ap meaning_of (is ∙ sym (rolls-Fa place quantifiers body))
    ∙ fold-roll-Statement (Meaning Ending) CoPart (Meaning (Option Ending)) statement_meaning co_arm_meaning guarded_meaning (Statement-F.Fa place quantifiers body)
    ∙ ap (λ q. statement_meaning (Statement-F.Fa place q (map meaning_of body))) (sym qs_are)
    ∙ ap (λ b. statement_meaning (Statement-F.Fa place qs (map meaning_of b))) (sym bs_are)

pub meaning_in : (statement : Statement) (place : Place) (site : ℕ) (arms others : List (List Statement)) (otherwise os : List Statement) → statement ≡ In place site arms otherwise → others ≡ arms → os ≡ otherwise
    → meaning_of statement ≡ statement_meaning (Statement-F.In place site (each_block others) (map meaning_of os))
meaning_in statement place site arms others otherwise os is arms_are os_are =
    ap meaning_of (is ∙ sym (rolls-In place site arms otherwise))
    ∙ fold-roll-Statement (Meaning Ending) CoPart (Meaning (Option Ending)) statement_meaning co_arm_meaning guarded_meaning (Statement-F.In place site arms otherwise)
    ∙ ap (λ a. statement_meaning (Statement-F.In place site (each_block a) (map meaning_of otherwise))) (sym arms_are)
    ∙ ap (λ o. statement_meaning (Statement-F.In place site (each_block others) (map meaning_of o))) (sym os_are)

pub meaning_co : (statement : Statement) (place : Place) (arms others : List CoArm) → statement ≡ Co place arms → others ≡ arms → meaning_of statement ≡ statement_meaning (Statement-F.Co place (map co_part_of others))
meaning_co statement place arms others is arms_are =
    ap meaning_of (is ∙ sym (rolls-Co place arms))
    ∙ fold-roll-Statement (Meaning Ending) CoPart (Meaning (Option Ending)) statement_meaning co_arm_meaning guarded_meaning (Statement-F.Co place arms)
    ∙ ap (λ a. statement_meaning (Statement-F.Co place (map co_part_of a))) (sym arms_are)

pub guarded_is : (guarded : Guarded) (body : List Statement) → body ≡ (out-Guarded guarded).body
    → guarded_of guarded ≡ guarded_meaning (record { condition = (out-Guarded guarded).condition; body = map meaning_of body })
guarded_is guarded body is =
    fold_out-Guarded (Meaning Ending) CoPart (Meaning (Option Ending)) statement_meaning co_arm_meaning guarded_meaning guarded
    ∙ ap (λ b. guarded_meaning (record { condition = (out-Guarded guarded).condition; body = map meaning_of b })) (sym is)
