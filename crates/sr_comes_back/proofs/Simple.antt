-- Statements that stand on one line.
use Rattle.std.proofs.Common.{List, refl}
use Rattle.sr_tree.specs.declared.token.Token.{Token}
use Rattle.sr_tree.specs.declared.statement.Statement.{Statement}
use Rattle.sr_tree.specs.Statements as s
use Rattle.sr_tree.specs.Statements.{SpellsStatement}
use Rattle.sr_comes_back.proofs.Flat.{Flat, none_flat, flat_token, flat_open, shut_flat, flat_both, shut_both, inner_of, plain_is}
use Rattle.sr_comes_back.proofs.Ending.{Ends, keeps_none, ends_skip, ends_with, ends_after, may_end_is}
use Rattle.sr_comes_back.proofs.FlatExpressions.{flat_expr, flat_create, flat_primary}
use Rattle.sr_comes_back.proofs.FlatParts.{flat_named, flat_invocation, flat_status, flat_places}
use Rattle.sr_comes_back.proofs.EndsExpressions.{ends_expr, ends_create, ends_primary}
use Rattle.sr_comes_back.proofs.EndsParts.{ends_named, ends_invocation, keeps_status}

-- whether a statement stands on one line
abbrev pub IsSimple : {x : Statement} {u : List Token} → SpellsStatement x u → Type 0
IsSimple (s.skip t h0) = Unit {0}
IsSimple (s.exit t h0) = Unit {0}
IsSimple (s.next t h0) = Unit {0}
IsSimple (s.returns t h0) = Unit {0}
IsSimple (s.reply t h0) = Unit {0}
IsSimple (s.stop t h0 h1) = Unit {0}
IsSimple (s.call t h0 h1) = Unit {0}
IsSimple (s.invoke h0) = Unit {0}
IsSimple (s.send t h0 h1) = Unit {0}
IsSimple (s.forward t h0 h1) = Unit {0}
IsSimple (s.receive t n opening closing h0 h1 h2 h3 h4) = Unit {0}
IsSimple (s.assign becomes h0 h1 h2) = Unit {0}
IsSimple (s.exchange t h0 h1 h2) = Unit {0}
IsSimple (s.increment t h0 h1) = Unit {0}
IsSimple (s.decrement t h0 h1) = Unit {0}
IsSimple (s.if t closing h0 h1 h2 h3) = ⊥
IsSimple (s.do_ t closing h0 h1 h2 h3) = ⊥
IsSimple (s.for_all t arrow closing h0 h1 h2 h3 h4) = ⊥
IsSimple (s.in_ t closing h0 h1 h2 h3 h4) = ⊥
IsSimple (s.co t closing h0 h1 h2 h3) = ⊥
IsSimple (s.destroy t h0 h1) = Unit {0}
IsSimple (s.create h0) = Unit {0}

pub flat_statement : {x : Statement} {u : List Token} (d : SpellsStatement x u) → IsSimple d → Flat u
flat_statement (s.skip t h0) simple = (flat_token t (plain_is t h0 refl) none_flat)
flat_statement (s.exit t h0) simple = (flat_token t (plain_is t h0 refl) none_flat)
flat_statement (s.next t h0) simple = (flat_token t (plain_is t h0 refl) none_flat)
flat_statement (s.returns t h0) simple = (flat_token t (plain_is t h0 refl) none_flat)
flat_statement (s.reply t h0) simple = (flat_token t (plain_is t h0 refl) none_flat)
flat_statement (s.stop t h0 h1) simple = (flat_token t (plain_is t h0 refl) (flat_status h1))
flat_statement (s.call t h0 h1) simple = (flat_token t (plain_is t h0 refl) (flat_invocation h1))
flat_statement (s.invoke h0) simple = (flat_named h0)
flat_statement (s.send t h0 h1) simple = (flat_token t (plain_is t h0 refl) (flat_invocation h1))
flat_statement (s.forward t h0 h1) simple = (flat_token t (plain_is t h0 refl) (flat_invocation h1))
flat_statement (s.receive t n opening closing h0 h1 h2 h3 h4) simple = (flat_token t (plain_is t h0 refl) (flat_token n (plain_is n h1 refl) (flat_open opening h2 refl (shut_both (inner_of (flat_places h3)) (shut_flat closing h4 refl none_flat)))))
flat_statement (s.assign becomes h0 h1 h2) simple = (flat_both (flat_named h0) (flat_token becomes (plain_is becomes h1 refl) (flat_expr h2)))
flat_statement (s.exchange t h0 h1 h2) simple = (flat_both (flat_named h0) (flat_token t (plain_is t h1 refl) (flat_primary h2)))
flat_statement (s.increment t h0 h1) simple = (flat_both (flat_named h0) (flat_token t (plain_is t h1 refl) none_flat))
flat_statement (s.decrement t h0 h1) simple = (flat_both (flat_named h0) (flat_token t (plain_is t h1 refl) none_flat))
flat_statement (s.if t closing h0 h1 h2 h3) simple = absurd simple
flat_statement (s.do_ t closing h0 h1 h2 h3) simple = absurd simple
flat_statement (s.for_all t arrow closing h0 h1 h2 h3 h4) simple = absurd simple
flat_statement (s.in_ t closing h0 h1 h2 h3 h4) simple = absurd simple
flat_statement (s.co t closing h0 h1 h2 h3) simple = absurd simple
flat_statement (s.destroy t h0 h1) simple = (flat_token t (plain_is t h0 refl) (flat_primary h1))
flat_statement (s.create h0) simple = (flat_create h0)

pub ends_statement : {x : Statement} {u : List Token} (d : SpellsStatement x u) → IsSimple d → Ends u
ends_statement (s.skip t h0) simple = (ends_with t (may_end_is t h0 refl) keeps_none)
ends_statement (s.exit t h0) simple = (ends_with t (may_end_is t h0 refl) keeps_none)
ends_statement (s.next t h0) simple = (ends_with t (may_end_is t h0 refl) keeps_none)
ends_statement (s.returns t h0) simple = (ends_with t (may_end_is t h0 refl) keeps_none)
ends_statement (s.reply t h0) simple = (ends_with t (may_end_is t h0 refl) keeps_none)
ends_statement (s.stop t h0 h1) simple = (ends_with t (may_end_is t h0 refl) (keeps_status h1))
ends_statement (s.call t h0 h1) simple = (ends_skip t (ends_invocation h1))
ends_statement (s.invoke h0) simple = (ends_named h0)
ends_statement (s.send t h0 h1) simple = (ends_skip t (ends_invocation h1))
ends_statement (s.forward t h0 h1) simple = (ends_skip t (ends_invocation h1))
ends_statement (s.receive {u = u} t n opening closing h0 h1 h2 h3 h4) simple = (ends_skip t (ends_skip n (ends_skip opening (ends_after u (ends_with closing (may_end_is closing h4 refl) keeps_none)))))
ends_statement (s.assign {u = u} becomes h0 h1 h2) simple = (ends_after u (ends_skip becomes (ends_expr h2)))
ends_statement (s.exchange {u = u} t h0 h1 h2) simple = (ends_after u (ends_skip t (ends_primary h2)))
ends_statement (s.increment {u = u} t h0 h1) simple = (ends_after u (ends_with t (may_end_is t h1 refl) keeps_none))
ends_statement (s.decrement {u = u} t h0 h1) simple = (ends_after u (ends_with t (may_end_is t h1 refl) keeps_none))
ends_statement (s.if t closing h0 h1 h2 h3) simple = absurd simple
ends_statement (s.do_ t closing h0 h1 h2 h3) simple = absurd simple
ends_statement (s.for_all t arrow closing h0 h1 h2 h3 h4) simple = absurd simple
ends_statement (s.in_ t closing h0 h1 h2 h3 h4) simple = absurd simple
ends_statement (s.co t closing h0 h1 h2 h3) simple = absurd simple
ends_statement (s.destroy t h0 h1) simple = (ends_skip t (ends_primary h1))
ends_statement (s.create h0) simple = (ends_create h0)
