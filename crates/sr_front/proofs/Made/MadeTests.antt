-- Tests of what is made of code, of each construct of the core and of the sites in it, and the rules by which a whole passes where its parts do.
use Rattle.std.proofs.Common.{ℕ, Bool, List, Option, Some, None, IsTrue}
use Rattle.std.specs.List.{list_all}
use Rattle.sr_value.specs.declared.place.Place.{Place}
use Rattle.sr_core.specs.declared.expression.Expr.{Expr}
use Rattle.sr_core.specs.declared.expression.PlaceExpr.{PlaceExpr}
use Rattle.sr_core.specs.declared.site.Arm.{Arm}
use Rattle.sr_core.specs.declared.site.Site.{Site}
use Rattle.sr_core.specs.declared.statement.Action.{Action}
use Rattle.sr_core.specs.declared.statement.Action.TheVariants as action
use Rattle.sr_core.specs.declared.statement.Bump.{Bump}
use Rattle.sr_core.specs.declared.statement.CoArm.{CoArm, roll-CoArm}
use Rattle.sr_core.specs.declared.statement.CoCall.{CoCall}
use Rattle.sr_core.specs.declared.statement.Guarded.{Guarded, roll-Guarded}
use Rattle.sr_core.specs.declared.statement.Quantifier.{Quantifier}
use Rattle.sr_core.specs.declared.statement.Scope.{Scope}
use Rattle.sr_core.specs.declared.statement.Statement.{Statement}
use Rattle.sr_core.specs.declared.statement.Statement.TheVariants as core
use Rattle.sr_core.specs.Tests.{if_some}
use Rattle.sr_desugar.specs.Statements.{Block, LoweredArm, WithSites, all_made, all_sites, arms_of, blocks_of}
use Rattle.sr_tables.specs.Lists.{lists}
use Rattle.sr_tables.specs.Sites.{site_of}

pub record MadeTests : Type 0 where
  pub expr : Expr → Bool
  pub place : PlaceExpr → Bool
  pub action : Action → Bool
  pub quantifier : Quantifier → Bool
  pub call : CoCall → Bool
  pub one : Statement → Bool
  pub branch : Guarded → Bool
  pub co_arm : CoArm → Bool
  pub block : List Statement → Bool
  pub arm : Arm → Bool
  pub site : Site → Bool

module _ (tests : MadeTests) where
  abbrev pub AllOne : List Statement → Type 0
  AllOne block = IsTrue (list_all tests.one block)

  -- ---- a whole passes where its parts do

  pub record ActionRules : Type 0 where
    pub skips : IsTrue (tests.action action.Skip)
    pub exits : IsTrue (tests.action action.Exit)
    pub nexts : IsTrue (tests.action action.Next)
    pub returns : IsTrue (tests.action action.Return)
    pub replies : IsTrue (tests.action action.Reply)
    pub stops : (status : Option Expr) → IsTrue (if_some tests.expr status) → IsTrue (tests.action (action.Stop status))
    pub assigns : (place : PlaceExpr) (value : Expr) → IsTrue (tests.place place) → IsTrue (tests.expr value) → IsTrue (tests.action (action.Assign place value))
    pub swaps : (left right : PlaceExpr) → IsTrue (tests.place left) → IsTrue (tests.place right) → IsTrue (tests.action (action.Swap left right))
    pub bumps : (place : PlaceExpr) (bump : Bump) → IsTrue (tests.place place) → IsTrue (tests.action (action.Bump place bump))
    pub destroys : (target : Expr) → IsTrue (tests.expr target) → IsTrue (tests.action (action.Destroy target))
    pub evaluates : (expr : Expr) → IsTrue (tests.expr expr) → IsTrue (tests.action (action.Evaluate expr))

  pub record MadeRules : Type 0 where
    pub actions : ActionRules
    pub block_rule : (block : List Statement) → AllOne block → IsTrue (tests.block block)
    pub act_rule : (place : Place) (one : Action) → IsTrue (tests.action one) → IsTrue (tests.one (core.Act place one))
    pub if_rule : (place : Place) (guards : List Guarded) (otherwise : List Statement) → IsTrue (list_all tests.branch guards) → AllOne otherwise → IsTrue (tests.one (core.If place guards otherwise))
    pub do_rule : (place : Place) (guards : List Guarded) → IsTrue (list_all tests.branch guards) → IsTrue (tests.one (core.Do place guards None))
    pub do_else_rule : (place : Place) (guards : List Guarded) (otherwise : List Statement) → IsTrue (list_all tests.branch guards) → AllOne otherwise → IsTrue (tests.one (core.Do place guards (Some otherwise)))
    pub fa_rule : (place : Place) (quantifiers : List Quantifier) (body : List Statement) → IsTrue (list_all tests.quantifier quantifiers) → AllOne body → IsTrue (tests.one (core.Fa place quantifiers body))
    pub in_rule : (place : Place) (site : ℕ) (arms : List (List Statement)) (otherwise : List Statement) → IsTrue (list_all tests.block arms) → AllOne otherwise → IsTrue (tests.one (core.In place site arms otherwise))
    pub co_rule : (place : Place) (arms : List CoArm) → IsTrue (list_all tests.co_arm arms) → IsTrue (tests.one (core.Co place arms))
    pub branch_rule : (condition : Expr) (body : List Statement) → IsTrue (tests.expr condition) → AllOne body → IsTrue (tests.branch (roll-Guarded (record { condition = condition; body = body })))
    pub arm_rule : (quantifiers : List Quantifier) (call : CoCall) (body : List Statement) → IsTrue (list_all tests.quantifier quantifiers) → IsTrue (tests.call call) → AllOne body
        → IsTrue (tests.co_arm (roll-CoArm (record { quantifiers = quantifiers; call = call; body = body })))
    pub quantifier_rule : (one : Quantifier) → IsTrue (tests.expr one.from) → IsTrue (tests.expr one.to) → IsTrue (tests.expr one.by) → IsTrue (if_some tests.expr one.condition) → IsTrue (tests.quantifier one)
    pub site_rule : (scope : Scope) (arms : List Arm) (has_else : Bool) → IsTrue (list_all tests.arm arms) → IsTrue (tests.site (site_of scope arms has_else))

  -- ---- what is made passes, and so do the sites in it

  abbrev pub SitesPass : List Site → Type 0
  SitesPass sites = IsTrue (list_all tests.site sites)

  pub record BlockFits (one : WithSites Block) : Type 0 where
    pub made : AllOne one.made
    pub sites : SitesPass one.sites

  pub record StatementFits (one : WithSites Statement) : Type 0 where
    pub made : IsTrue (tests.one one.made)
    pub sites : SitesPass one.sites

  pub record ArmFits (one : WithSites LoweredArm) : Type 0 where
    pub block : IsTrue (tests.block one.made.block)
    pub arm : IsTrue (tests.arm one.made.arm)
    pub sites : SitesPass one.sites

  pub record BranchFits (one : WithSites Guarded) : Type 0 where
    pub made : IsTrue (tests.branch one.made)
    pub sites : SitesPass one.sites

  pub record CoArmFits (one : WithSites CoArm) : Type 0 where
    pub made : IsTrue (tests.co_arm one.made)
    pub sites : SitesPass one.sites

  -- lists of them
  pub record BlocksFit (all : List (WithSites Block)) : Type 0 where
    pub made : AllOne (lists (all_made all))
    pub sites : SitesPass (all_sites all)

  pub record ArmsFit (all : List (WithSites LoweredArm)) : Type 0 where
    pub blocks : IsTrue (list_all tests.block (blocks_of all))
    pub arms : IsTrue (list_all tests.arm (arms_of all))
    pub sites : SitesPass (all_sites all)

  pub record BranchesFit (all : List (WithSites Guarded)) : Type 0 where
    pub made : IsTrue (list_all tests.branch (all_made all))
    pub sites : SitesPass (all_sites all)

  pub record CoArmsFit (all : List (WithSites CoArm)) : Type 0 where
    pub made : IsTrue (list_all tests.co_arm (all_made all))
    pub sites : SitesPass (all_sites all)
