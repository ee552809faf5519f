-- A line may end after parts of statements.
use Rattle.std.proofs.Common.{List, refl, Option}
use Rattle.sr_tree.specs.declared.token.Token.{Token}
use Rattle.sr_tree.specs.declared.expr.Expr.{Expr}
use Rattle.sr_tree.specs.declared.expr.Invocation.{Invocation}
use Rattle.sr_tree.specs.Statements as s
use Rattle.sr_tree.specs.Statements.{SpellsNamed, SpellsInvocation, SpellsStatus}
use Rattle.sr_comes_back.proofs.Ending.{Ends, KeepsEnd, keeps_none, ends_skip, ends_with, ends_after, keeps_of, may_end_is}
use Rattle.sr_comes_back.proofs.EndsExpressions.{ends_primary}

pub ends_named : {x : Expr} {u : List Token} → SpellsNamed x u → Ends u
ends_named (s.named n h0 h1) = ends_primary h1

pub ends_invocation : {x : Invocation} {u : List Token} → SpellsInvocation x u → Ends u
ends_invocation (s.invocation h0) = ends_primary h0

pub keeps_status : {x : Option Expr} {u : List Token} → SpellsStatus x u → KeepsEnd u
keeps_status (s.no_status) = keeps_none
keeps_status (s.status {u = u} opening closing h0 h1 h2) = keeps_of (ends_skip opening (ends_after u (ends_with closing (may_end_is closing h2 refl) keeps_none)))
