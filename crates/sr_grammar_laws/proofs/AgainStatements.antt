-- Tokens that are told again spell the same statements and blocks.
use Rattle.std.proofs.Common.{Bool, true, false, List, [], ◌∷◌, ◌++◌, map, ap, sym, subst, ◌∙◌, Option, Some, None}
use Rattle.std.proofs.lemmas.List.{map-append}
use Rattle.sr_tree.specs.declared.token.Token.{Token}
use Rattle.sr_tree.specs.declared.expr.Expr.TheVariants as expr
use Rattle.sr_tree.specs.declared.statement.Statement.{Statement}
use Rattle.sr_tree.specs.declared.statement.Statement.TheVariants as statement
use Rattle.sr_tree.specs.declared.statement.BlockItem.{BlockItem}
use Rattle.sr_tree.specs.declared.statement.BlockItem.TheVariants as item
use Rattle.sr_tree.specs.declared.statement.Branch.{Branch, roll-Branch}
use Rattle.sr_tree.specs.declared.statement.Arm.{Arm, roll-Arm}
use Rattle.sr_tree.specs.declared.statement.CoArm.{CoArm, roll-CoArm}
use Rattle.sr_tree.specs.Expressions.{expr_span, create_span}
use Rattle.sr_tree.specs.Statements as s
use Rattle.sr_tree.specs.Statements.{SpellsNamed, SpellsStatement, SpellsBranch, SpellsMoreBranches, SpellsBranches, SpellsOtherwise, SpellsArm, SpellsMoreArms, SpellsCoBlock, SpellsCoArm, SpellsMoreCoArms, SpellsBlockItem, SpellsItems, SpellsBlock, first_span}
use Rattle.sr_tree.specs.Tables.{name_of}
use Rattle.sr_grammar_laws.specs.SameExpressions as same_exprs
use Rattle.sr_grammar_laws.specs.SameStatements as same_stmts
use Rattle.sr_grammar_laws.specs.SameStatements.{SameArm, SameArms, SameBlockItem, SameBlockItems, SameBranch, SameBranches, SameCoArm, SameCoArms, SameOptionalBlock, SameStatement}
use Rattle.sr_grammar_laws.specs.Retelling.{Keeps}
use Rattle.sr_grammar_laws.proofs.Retold.{same_name}
use Rattle.sr_grammar_laws.proofs.AgainExpressions.{again_expr, again_create, again_primary, call_back, call_is}
use Rattle.sr_grammar_laws.proofs.AgainDeclarations.{again_const, again_var}
use Rattle.sr_grammar_laws.proofs.AgainParts.{again_named, again_invocation, again_status, again_places, again_by, again_quantifiers, again_optional_names, again_returned_name, again_condition, again_co_call}

module _ (retell : Token → Token) (keeps : Keeps retell) where
  mutual
    pub again_statement : {x : Statement} {u : List Token} → SpellsStatement x u → (x' : Statement) × SpellsStatement x' (map retell u) × SameStatement x x'
    again_statement (s.skip t h0) = ((statement.Skip (retell t).span), s.skip (retell t) (keeps.kind t ∙ h0), same_stmts.skip)
    again_statement (s.exit t h0) = ((statement.Exit (retell t).span), s.exit (retell t) (keeps.kind t ∙ h0), same_stmts.exit)
    again_statement (s.next t h0) = ((statement.Next (retell t).span), s.next (retell t) (keeps.kind t ∙ h0), same_stmts.next)
    again_statement (s.returns t h0) = ((statement.Return (retell t).span), s.returns (retell t) (keeps.kind t ∙ h0), same_stmts.return)
    again_statement (s.reply t h0) = ((statement.Reply (retell t).span), s.reply (retell t) (keeps.kind t ∙ h0), same_stmts.reply)
    again_statement (s.stop {u = u} t h0 h1) =
        let r2 = again_status retell keeps h1 in
        ((statement.Stop (retell t).span r2.0), s.stop (retell t) (keeps.kind t ∙ h0) r2.1, (same_stmts.stop r2.2))
    again_statement (s.call {u = u} t h0 h1) =
        let r2 = again_invocation retell keeps h1 in
        ((statement.Call (retell t).span true r2.0), s.call (retell t) (keeps.kind t ∙ h0) r2.1, (same_stmts.call r2.2))
    again_statement (s.invoke {i = i} {u = u} h0) =
        let r1 = again_named retell keeps h0 in
        let k1 = call_back r1.2 i (call_is i) in
        ((statement.Call (expr_span (expr.Call k1.0)) false k1.0), s.invoke (subst (λ z. SpellsNamed z (map retell u)) k1.1 r1.1), (same_stmts.call k1.2))
    again_statement (s.send {u = u} t h0 h1) =
        let r2 = again_invocation retell keeps h1 in
        ((statement.Send (retell t).span r2.0), s.send (retell t) (keeps.kind t ∙ h0) r2.1, (same_stmts.send r2.2))
    again_statement (s.forward {u = u} t h0 h1) =
        let r2 = again_invocation retell keeps h1 in
        ((statement.Forward (retell t).span r2.0), s.forward (retell t) (keeps.kind t ∙ h0) r2.1, (same_stmts.forward r2.2))
    again_statement (s.receive {u = u} t n opening closing h0 h1 h2 h3 h4) =
        let r4 = again_places retell keeps h3 in
        ((statement.Receive (retell t).span (name_of (retell n)) r4.0), subst (λ z. SpellsStatement (statement.Receive (retell t).span (name_of (retell n)) r4.0) z) (sym (ap (λ z. retell t ∷ z) (ap (λ z. retell n ∷ z) (ap (λ z. retell opening ∷ z) (map-append retell u (closing ∷ [])))))) (s.receive (retell t) (retell n) (retell opening) (retell closing) (keeps.kind t ∙ h0) (keeps.kind n ∙ h1) (keeps.kind opening ∙ h2) r4.1 (keeps.kind closing ∙ h4)), (same_stmts.receive (same_name retell keeps n h1) r4.2))
    again_statement (s.assign {u = u} {v = v} becomes h0 h1 h2) =
        let r1 = again_named retell keeps h0 in
        let r3 = again_expr retell keeps h2 in
        ((statement.Assign (expr_span r1.0) r1.0 r3.0), subst (λ z. SpellsStatement (statement.Assign (expr_span r1.0) r1.0 r3.0) z) (sym (map-append retell u (becomes ∷ v))) (s.assign (retell becomes) r1.1 (keeps.kind becomes ∙ h1) r3.1), (same_stmts.assign r1.2 r3.2))
    again_statement (s.exchange {u = u} {v = v} t h0 h1 h2) =
        let r1 = again_named retell keeps h0 in
        let r3 = again_primary retell keeps h2 in
        ((statement.Exchange (expr_span r1.0) r1.0 r3.0), subst (λ z. SpellsStatement (statement.Exchange (expr_span r1.0) r1.0 r3.0) z) (sym (map-append retell u (t ∷ v))) (s.exchange (retell t) r1.1 (keeps.kind t ∙ h1) r3.1), (same_stmts.exchange r1.2 r3.2))
    again_statement (s.increment {u = u} t h0 h1) =
        let r1 = again_named retell keeps h0 in
        ((statement.Increment (expr_span r1.0) r1.0), subst (λ z. SpellsStatement (statement.Increment (expr_span r1.0) r1.0) z) (sym (map-append retell u (t ∷ []))) (s.increment (retell t) r1.1 (keeps.kind t ∙ h1)), (same_stmts.increment r1.2))
    again_statement (s.decrement {u = u} t h0 h1) =
        let r1 = again_named retell keeps h0 in
        ((statement.Decrement (expr_span r1.0) r1.0), subst (λ z. SpellsStatement (statement.Decrement (expr_span r1.0) r1.0) z) (sym (map-append retell u (t ∷ []))) (s.decrement (retell t) r1.1 (keeps.kind t ∙ h1)), (same_stmts.decrement r1.2))
    again_statement (s.if {u = u} {v = v} t closing h0 h1 h2 h3) =
        let r2 = again_branches h1 in
        let r3 = again_otherwise h2 in
        ((statement.If (retell t).span r2.0 r3.0), subst (λ z. SpellsStatement (statement.If (retell t).span r2.0 r3.0) z) (sym (ap (λ z. retell t ∷ z) (map-append retell u (v ++ closing ∷ []) ∙ ap (λ z. map retell u ++ z) (map-append retell v (closing ∷ []))))) (s.if (retell t) (retell closing) (keeps.kind t ∙ h0) r2.1 r3.1 (keeps.kind closing ∙ h3)), (same_stmts.if_ r2.2 r3.2))
    again_statement (s.do_ {u = u} {v = v} t closing h0 h1 h2 h3) =
        let r2 = again_branches h1 in
        let r3 = again_otherwise h2 in
        ((statement.Do (retell t).span r2.0 r3.0), subst (λ z. SpellsStatement (statement.Do (retell t).span r2.0 r3.0) z) (sym (ap (λ z. retell t ∷ z) (map-append retell u (v ++ closing ∷ []) ∙ ap (λ z. map retell u ++ z) (map-append retell v (closing ∷ []))))) (s.do_ (retell t) (retell closing) (keeps.kind t ∙ h0) r2.1 r3.1 (keeps.kind closing ∙ h3)), (same_stmts.do_ r2.2 r3.2))
    again_statement (s.for_all {u = u} {v = v} t arrow closing h0 h1 h2 h3 h4) =
        let r2 = again_quantifiers retell keeps h1 in
        let r4 = again_block h3 in
        ((statement.ForAll (retell t).span r2.0 r4.0), subst (λ z. SpellsStatement (statement.ForAll (retell t).span r2.0 r4.0) z) (sym (ap (λ z. retell t ∷ z) (map-append retell u (arrow ∷ (v ++ closing ∷ [])) ∙ ap (λ z. map retell u ++ z) (ap (λ z. retell arrow ∷ z) (map-append retell v (closing ∷ [])))))) (s.for_all (retell t) (retell arrow) (retell closing) (keeps.kind t ∙ h0) r2.1 (keeps.kind arrow ∙ h2) r4.1 (keeps.kind closing ∙ h4)), (same_stmts.for_all r2.2 r4.2))
    again_statement (s.in_ {u = u} {v = v} {x = x} t closing h0 h1 h2 h3 h4) =
        let r2 = again_arm h1 in
        let r3 = again_more_arms h2 in
        let r4 = again_otherwise h3 in
        ((statement.In (retell t).span (r2.0 ∷ r3.0) r4.0), subst (λ z. SpellsStatement (statement.In (retell t).span (r2.0 ∷ r3.0) r4.0) z) (sym (ap (λ z. retell t ∷ z) (map-append retell u (v ++ (x ++ closing ∷ [])) ∙ ap (λ z. map retell u ++ z) (map-append retell v (x ++ closing ∷ []) ∙ ap (λ z. map retell v ++ z) (map-append retell x (closing ∷ [])))))) (s.in_ (retell t) (retell closing) (keeps.kind t ∙ h0) r2.1 r3.1 r4.1 (keeps.kind closing ∙ h4)), (same_stmts.in_ (same_stmts.more_arms r2.2 r3.2) r4.2))
    again_statement (s.co {u = u} {v = v} t closing h0 h1 h2 h3) =
        let r2 = again_co_arm h1 in
        let r3 = again_more_co_arms h2 in
        ((statement.Co (retell t).span (r2.0 ∷ r3.0)), subst (λ z. SpellsStatement (statement.Co (retell t).span (r2.0 ∷ r3.0)) z) (sym (ap (λ z. retell t ∷ z) (map-append retell u (v ++ closing ∷ []) ∙ ap (λ z. map retell u ++ z) (map-append retell v (closing ∷ []))))) (s.co (retell t) (retell closing) (keeps.kind t ∙ h0) r2.1 r3.1 (keeps.kind closing ∙ h3)), (same_stmts.co (same_stmts.more_co_arms r2.2 r3.2)))
    again_statement (s.destroy {u = u} t h0 h1) =
        let r2 = again_primary retell keeps h1 in
        ((statement.Destroy (retell t).span r2.0), s.destroy (retell t) (keeps.kind t ∙ h0) r2.1, (same_stmts.destroy r2.2))
    again_statement (s.create {u = u} h0) =
        let r1 = again_create retell keeps h0 in
        ((statement.Create (create_span r1.0) r1.0), s.create r1.1, (same_stmts.create r1.2))

    pub again_branch : {x : Branch} {u : List Token} → SpellsBranch x u → (x' : Branch) × SpellsBranch x' (map retell u) × SameBranch x x'
    again_branch (s.branch {u = u} {v = v} arrow h0 h1 h2) =
        let r1 = again_expr retell keeps h0 in
        let r3 = again_block h2 in
        ((roll-Branch (record { span = expr_span r1.0; guard = r1.0; block = r3.0 })), subst (λ z. SpellsBranch (roll-Branch (record { span = expr_span r1.0; guard = r1.0; block = r3.0 })) z) (sym (map-append retell u (arrow ∷ v))) (s.branch (retell arrow) r1.1 (keeps.kind arrow ∙ h1) r3.1), (same_stmts.branch r1.2 r3.2))

    pub again_more_branches : {x : List Branch} {u : List Token} → SpellsMoreBranches x u → (x' : List Branch) × SpellsMoreBranches x' (map retell u) × SameBranches x x'
    again_more_branches (s.no_more_branches) = ([], s.no_more_branches, same_stmts.no_branches)
    again_more_branches (s.one_more_branch {u = u} {v = v} t h0 h1 h2) =
        let r2 = again_branch h1 in
        let r3 = again_more_branches h2 in
        ((r2.0 ∷ r3.0), subst (λ z. SpellsMoreBranches (r2.0 ∷ r3.0) z) (sym (ap (λ z. retell t ∷ z) (map-append retell u (v)))) (s.one_more_branch (retell t) (keeps.kind t ∙ h0) r2.1 r3.1), (same_stmts.more_branches r2.2 r3.2))

    pub again_branches : {x : List Branch} {u : List Token} → SpellsBranches x u → (x' : List Branch) × SpellsBranches x' (map retell u) × SameBranches x x'
    again_branches (s.branches {u = u} {v = v} h0 h1) =
        let r1 = again_branch h0 in
        let r2 = again_more_branches h1 in
        ((r1.0 ∷ r2.0), subst (λ z. SpellsBranches (r1.0 ∷ r2.0) z) (sym (map-append retell u (v))) (s.branches r1.1 r2.1), (same_stmts.more_branches r1.2 r2.2))

    pub again_otherwise : {x : Option (List BlockItem)} {u : List Token} → SpellsOtherwise x u → (x' : Option (List BlockItem)) × SpellsOtherwise x' (map retell u) × SameOptionalBlock x x'
    again_otherwise (s.no_otherwise) = (None, s.no_otherwise, same_stmts.no_block)
    again_otherwise (s.otherwise {u = u} t otherwise arrow h0 h1 h2 h3) =
        let r4 = again_block h3 in
        ((Some r4.0), s.otherwise (retell t) (retell otherwise) (retell arrow) (keeps.kind t ∙ h0) (keeps.kind otherwise ∙ h1) (keeps.kind arrow ∙ h2) r4.1, (same_stmts.some_block r4.2))

    pub again_arm : {x : Arm} {u : List Token} → SpellsArm x u → (x' : Arm) × SpellsArm x' (map retell u) × SameArm x x'
    again_arm (s.arm {u = u} {v = v} {x = x} {y = y} {z = z} n opening closing arrow h0 h1 h2 h3 h4 h5 h6 h7 h8) =
        let r3 = again_optional_names retell keeps h2 in
        let r5 = again_returned_name retell keeps h4 in
        let r6 = again_condition retell keeps h5 in
        let r7 = again_by retell keeps h6 in
        let r9 = again_block h8 in
        ((roll-Arm (record { span = (retell n).span; operation = name_of (retell n); formals = r3.0; returned = r5.0; condition = r6.0; order = r7.0; block = r9.0 })), subst (λ z. SpellsArm (roll-Arm (record { span = (retell n).span; operation = name_of (retell n); formals = r3.0; returned = r5.0; condition = r6.0; order = r7.0; block = r9.0 })) z) (sym (ap (λ z. retell n ∷ z) (ap (λ z. retell opening ∷ z) (map-append retell u (closing ∷ (v ++ (x ++ (y ++ arrow ∷ z)))) ∙ ap (λ z. map retell u ++ z) (ap (λ z. retell closing ∷ z) (map-append retell v (x ++ (y ++ arrow ∷ z)) ∙ ap (λ z. map retell v ++ z) (map-append retell x (y ++ arrow ∷ z) ∙ ap (λ z. map retell x ++ z) (map-append retell y (arrow ∷ z))))))))) (s.arm (retell n) (retell opening) (retell closing) (retell arrow) (keeps.kind n ∙ h0) (keeps.kind opening ∙ h1) r3.1 (keeps.kind closing ∙ h3) r5.1 r6.1 r7.1 (keeps.kind arrow ∙ h7) r9.1), (same_stmts.arm (same_name retell keeps n h0) r3.2 r5.2 r6.2 r7.2 r9.2))

    pub again_more_arms : {x : List Arm} {u : List Token} → SpellsMoreArms x u → (x' : List Arm) × SpellsMoreArms x' (map retell u) × SameArms x x'
    again_more_arms (s.no_more_arms) = ([], s.no_more_arms, same_stmts.no_arms)
    again_more_arms (s.one_more_arm {u = u} {v = v} t h0 h1 h2) =
        let r2 = again_arm h1 in
        let r3 = again_more_arms h2 in
        ((r2.0 ∷ r3.0), subst (λ z. SpellsMoreArms (r2.0 ∷ r3.0) z) (sym (ap (λ z. retell t ∷ z) (map-append retell u (v)))) (s.one_more_arm (retell t) (keeps.kind t ∙ h0) r2.1 r3.1), (same_stmts.more_arms r2.2 r3.2))

    pub again_co_block : {x : Option (List BlockItem)} {u : List Token} → SpellsCoBlock x u → (x' : Option (List BlockItem)) × SpellsCoBlock x' (map retell u) × SameOptionalBlock x x'
    again_co_block (s.no_co_block) = (None, s.no_co_block, same_stmts.no_block)
    again_co_block (s.co_block {u = u} arrow h0 h1) =
        let r2 = again_block h1 in
        ((Some r2.0), s.co_block (retell arrow) (keeps.kind arrow ∙ h0) r2.1, (same_stmts.some_block r2.2))

    pub again_co_arm : {x : CoArm} {u : List Token} → SpellsCoArm x u → (x' : CoArm) × SpellsCoArm x' (map retell u) × SameCoArm x x'
    again_co_arm (s.co_arm {with_call = with_call} {u = u} {v = v} h0 h1) =
        let r1 = again_co_call retell keeps h0 in
        let r2 = again_co_block h1 in
        ((roll-CoArm (record { span = first_span (map retell u); quantifiers = []; target = r1.0; with_call = with_call; invocation = r1.1; block = r2.0 })), subst (λ z. SpellsCoArm (roll-CoArm (record { span = first_span (map retell u); quantifiers = []; target = r1.0; with_call = with_call; invocation = r1.1; block = r2.0 })) z) (sym (map-append retell u (v))) (s.co_arm r1.2 r2.1), (same_stmts.co_arm same_exprs.none_left r1.3 r1.4 r2.2))
    again_co_arm (s.quantified {with_call = with_call} {u = u} {v = v} {x = x} opening closing h0 h1 h2 h3 h4) =
        let r2 = again_quantifiers retell keeps h1 in
        let r4 = again_co_call retell keeps h3 in
        let r5 = again_co_block h4 in
        ((roll-CoArm (record { span = (retell opening).span; quantifiers = r2.0; target = r4.0; with_call = with_call; invocation = r4.1; block = r5.0 })), subst (λ z. SpellsCoArm (roll-CoArm (record { span = (retell opening).span; quantifiers = r2.0; target = r4.0; with_call = with_call; invocation = r4.1; block = r5.0 })) z) (sym (ap (λ z. retell opening ∷ z) (map-append retell u (closing ∷ (v ++ x)) ∙ ap (λ z. map retell u ++ z) (ap (λ z. retell closing ∷ z) (map-append retell v (x)))))) (s.quantified (retell opening) (retell closing) (keeps.kind opening ∙ h0) r2.1 (keeps.kind closing ∙ h2) r4.2 r5.1), (same_stmts.co_arm r2.2 r4.3 r4.4 r5.2))

    pub again_more_co_arms : {x : List CoArm} {u : List Token} → SpellsMoreCoArms x u → (x' : List CoArm) × SpellsMoreCoArms x' (map retell u) × SameCoArms x x'
    again_more_co_arms (s.no_more_co_arms) = ([], s.no_more_co_arms, same_stmts.no_co_arms)
    again_more_co_arms (s.one_more_co_arm {u = u} {v = v} t h0 h1 h2) =
        let r2 = again_co_arm h1 in
        let r3 = again_more_co_arms h2 in
        ((r2.0 ∷ r3.0), subst (λ z. SpellsMoreCoArms (r2.0 ∷ r3.0) z) (sym (ap (λ z. retell t ∷ z) (map-append retell u (v)))) (s.one_more_co_arm (retell t) (keeps.kind t ∙ h0) r2.1 r3.1), (same_stmts.more_co_arms r2.2 r3.2))

    pub again_block_item : {x : BlockItem} {u : List Token} → SpellsBlockItem x u → (x' : BlockItem) × SpellsBlockItem x' (map retell u) × SameBlockItem x x'
    again_block_item (s.a_constant {u = u} h0) =
        let r1 = again_const retell keeps h0 in
        ((item.Const r1.0), s.a_constant r1.1, (same_stmts.const r1.2))
    again_block_item (s.some_variables {u = u} h0) =
        let r1 = again_var retell keeps h0 in
        ((item.Var r1.0), s.some_variables r1.1, (same_stmts.var r1.2))
    again_block_item (s.a_statement {u = u} h0) =
        let r1 = again_statement h0 in
        ((item.Statement r1.0), s.a_statement r1.1, (same_stmts.statement r1.2))

    pub again_items : {b : Bool} {x : List BlockItem} {u : List Token} → SpellsItems b x u → (x' : List BlockItem) × SpellsItems b x' (map retell u) × SameBlockItems x x'
    again_items (s.stop_here {may_begin = may_begin}) = ([], s.stop_here, same_stmts.no_block_items)
    again_items (s.separator {may_begin = may_begin} {u = u} t h0 h1) =
        let r2 = again_items h1 in
        (r2.0, s.separator (retell t) (keeps.kind t ∙ h0) r2.1, r2.2)
    again_items (s.one {u = u} {v = v} h0 h1) =
        let r1 = again_block_item h0 in
        let r2 = again_items h1 in
        ((r1.0 ∷ r2.0), subst (λ z. SpellsItems true (r1.0 ∷ r2.0) z) (sym (map-append retell u (v))) (s.one r1.1 r2.1), (same_stmts.more_block_items r1.2 r2.2))

    pub again_block : {x : List BlockItem} {u : List Token} → SpellsBlock x u → (x' : List BlockItem) × SpellsBlock x' (map retell u) × SameBlockItems x x'
    again_block (s.block {u = u} h0) =
        let r1 = again_items h0 in
        (r1.0, s.block r1.1, r1.2)
