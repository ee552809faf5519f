-- Statements that stand on one line, told again.
use Rattle.std.proofs.Common.{◌≡◌, Bool, true, false, not, ◌&&◌, List, [], ◌∷◌, ◌++◌, map, refl, ap, sym, subst, ◌∙◌, Option, Some}
use Rattle.std.proofs.lemmas.List.{map-append}
use Rattle.sr_value.specs.declared.place.Span.{Span}
use Rattle.sr_tree.specs.declared.token.Token.{Token}
use Rattle.sr_tree.specs.declared.token.TokenKind.{TokenKind}
use Rattle.sr_tree.specs.declared.expr.Expr.{Expr}
use Rattle.sr_tree.specs.declared.expr.Expr.TheVariants as expr
use Rattle.sr_tree.specs.Expressions as g
use Rattle.sr_tree.specs.Expressions.{SpellsCreate, expr_span, create_span}
use Rattle.sr_tree.specs.Statements as s
use Rattle.sr_tree.specs.Statements.{SpellsNamed, SpellsStatement}
use Rattle.sr_tree.specs.Tables.{name_of}
use Rattle.sr_grammar_laws.specs.SameStatements as same_stmts
use Rattle.sr_grammar_laws.specs.SameStatements.{SameStatement}
use Rattle.sr_grammar_laws.proofs.AgainExpressions.{again_expr, again_create, again_primary, call_back, call_is}
use Rattle.sr_grammar_laws.proofs.AgainParts.{again_named, again_invocation, again_status, again_places}
use Rattle.sr_grammar_laws.specs.Retelling.{Keeps}
use Rattle.sr_grammar_laws.proofs.Retold.{same_name}
use Rattle.sr_tree.proofs.StatementFolds.{from_statement, statement_folds}
use Rattle.sr_order.specs.Spans.{spans_in}
use Rattle.sr_order.proofs.NameFolds.{spanning}
use Rattle.sr_program_reader.proofs.StatementStarts.{first-span}
use Rattle.sr_lexer.specs.Roles.{continues_line}
use Rattle.sr_tree.specs.declared.statement.BlockItem.TheOpen.{Statement-F}
use Rattle.sr_comes_back.proofs.Flat.{in_plain, flat_after, Flat, same_depth}
use Rattle.sr_comes_back.proofs.Ending.{Ends}
use Rattle.sr_comes_back.proofs.Lines.{mark, unmarked, flat_test, flat_again, tokens_unmarked, picked_unmarked, lines_flat}
use Rattle.sr_comes_back.proofs.Telling.{Breaks, told, ToldItem}
use Rattle.sr_comes_back.proofs.Simple.{IsSimple, flat_statement, ends_statement}
use Rattle.sr_comes_back.proofs.FlatExpressions.{flat_create}
use Rattle.sr_comes_back.proofs.EndsExpressions.{ends_create}
use Rattle.sr_tree.specs.declared.statement.Arm.{Arm}
use Rattle.sr_tree.specs.declared.statement.BlockItem.{BlockItem}
use Rattle.sr_tree.specs.declared.statement.Branch.{Branch}
use Rattle.sr_tree.specs.declared.statement.CoArm.{CoArm}
use Rattle.sr_tree.specs.declared.statement.Statement.{Statement, roll-Statement}
use Rattle.sr_tree.specs.declared.expr.Create.{Create, out-Create}
use Rattle.sr_tree.specs.declared.statement.Statement.TheVariants as statement

both_parts : (a b : Bool) → (a && b) ≡ true → (a ≡ true) × (b ≡ true)
both_parts true b e = (refl, e)
both_parts false b e = absurd (cc)

not_true : (b : Bool) → not b ≡ true → b ≡ false
not_true true e = absurd (cc)
not_true false e = refl

-- ---- the first token of a statement

named_span : {e : Expr} {n : Token} {w : List Token} → SpellsNamed e (n ∷ w) → expr_span e ≡ n.span
named_span (s.named n h p) = first-span p []

create_is : {c : Create} {t : Token} {v : List Token} → SpellsCreate c (t ∷ v) → create_span c ≡ t.span
unfolding out-Create denote.Hole.Carrier.out
create_is (g.resource t opening closing h0 h1 h2 h3 h4 h5) = refl
create_is (g.machine t vm opening closing h0 h1 h2 h3) = refl

-- ---- the statements of a statement

pub statement_is : {tree : Statement} (x : Statement-F BlockItem Statement Arm Branch CoArm) → roll-Statement x ≡ tree → spans_in tree ≡ from_statement spanning x
statement_is x rolls = ap spans_in (sym rolls) ∙ sym (statement_folds spanning x)

head_is : {kind : TokenKind} (t : Token) → t.kind ≡ kind → (in_plain kind && not (continues_line kind)) ≡ true → (in_plain t.kind && not (continues_line t.kind)) ≡ true
head_is t h e = ap (λ k. in_plain k && not (continues_line k)) h ∙ e

module _ (retell : Token → Token) (keeps : Keeps retell) (breaks : Option TokenKind → Token → List Token) (law : Breaks breaks) (respan : Span → Span) (moves : (t : Token) → (retell t).span ≡ respan t.span) where
  rest_told : (t : Token) (v : List Token) (last : Option TokenKind) → in_plain t.kind ≡ true → Flat (t ∷ v) → told retell breaks last (unmarked v) ≡ map retell v
  rest_told t v last plain flat =
      flat_again retell breaks v 0 0 last (ap (λ d. flat_after d v) (sym (same_depth t.kind 0 plain)) ∙ (flat_test t v 0 0 (flat.at 0)).1)

  -- a statement on one line, whose first token is known
  on_one_line : {x other : Statement} (t : Token) (v : List Token) → Flat (t ∷ v) → Ends (t ∷ v) → (in_plain t.kind && not (continues_line t.kind)) ≡ true
      → SpellsStatement other (map retell (t ∷ v)) → SameStatement x other → spans_in x ≡ t.span ∷ [] → spans_in other ≡ (retell t).span ∷ []
      → ToldItem retell breaks law respan SpellsStatement SameStatement spans_in x (t ∷ v)
  on_one_line {x = x} {other = other} t v flat ends e spelled same here there =
      let kind = both_parts (in_plain t.kind) (not (continues_line t.kind)) e in
      let lines = lines_flat flat in
      record {
        head = mark true t;
        rest = unmarked v;
        lines = record { kept = lines.kept; level = lines.level; shown = lines.shown; picks = ap (λ z. t.span ∷ z) (picked_unmarked v) ∙ sym here };
        starts = refl;
        level = kind.0;
        new = not_true (continues_line t.kind) kind.1;
        ends = subst Ends (ap (λ z. t ∷ z) (sym (tokens_unmarked v))) ends;
        other = other;
        spelled = subst (λ z. SpellsStatement other (retell t ∷ z)) (sym (rest_told t v (Some t.kind) kind.0 flat)) spelled;
        same = same;
        again = there ∙ ap (λ z. z ∷ []) (moves t) ∙ ap (map respan) (sym here);
      }

  pub told_simple : {x : Statement} {u : List Token} (d : SpellsStatement x u) → IsSimple d → ToldItem retell breaks law respan SpellsStatement SameStatement spans_in x u
  told_simple (s.skip t h0) simple =
      on_one_line t ([]) (flat_statement (s.skip t h0) tt) (ends_statement (s.skip t h0) tt) (head_is t h0 refl)
      (s.skip (retell t) (keeps.kind t ∙ h0))
      same_stmts.skip
      (statement_is (Statement-F.Skip t.span) (statement.rolls-Skip t.span))
      (statement_is (Statement-F.Skip (retell t).span) (statement.rolls-Skip (retell t).span))
  told_simple (s.exit t h0) simple =
      on_one_line t ([]) (flat_statement (s.exit t h0) tt) (ends_statement (s.exit t h0) tt) (head_is t h0 refl)
      (s.exit (retell t) (keeps.kind t ∙ h0))
      same_stmts.exit
      (statement_is (Statement-F.Exit t.span) (statement.rolls-Exit t.span))
      (statement_is (Statement-F.Exit (retell t).span) (statement.rolls-Exit (retell t).span))
  told_simple (s.next t h0) simple =
      on_one_line t ([]) (flat_statement (s.next t h0) tt) (ends_statement (s.next t h0) tt) (head_is t h0 refl)
      (s.next (retell t) (keeps.kind t ∙ h0))
      same_stmts.next
      (statement_is (Statement-F.Next t.span) (statement.rolls-Next t.span))
      (statement_is (Statement-F.Next (retell t).span) (statement.rolls-Next (retell t).span))
  told_simple (s.returns t h0) simple =
      on_one_line t ([]) (flat_statement (s.returns t h0) tt) (ends_statement (s.returns t h0) tt) (head_is t h0 refl)
      (s.returns (retell t) (keeps.kind t ∙ h0))
      same_stmts.return
      (statement_is (Statement-F.Return t.span) (statement.rolls-Return t.span))
      (statement_is (Statement-F.Return (retell t).span) (statement.rolls-Return (retell t).span))
  told_simple (s.reply t h0) simple =
      on_one_line t ([]) (flat_statement (s.reply t h0) tt) (ends_statement (s.reply t h0) tt) (head_is t h0 refl)
      (s.reply (retell t) (keeps.kind t ∙ h0))
      same_stmts.reply
      (statement_is (Statement-F.Reply t.span) (statement.rolls-Reply t.span))
      (statement_is (Statement-F.Reply (retell t).span) (statement.rolls-Reply (retell t).span))
  told_simple (s.stop {e = e} {u = u} t h0 h1) simple =
      let r2 = again_status retell keeps h1 in
      on_one_line t (u) (flat_statement (s.stop t h0 h1) tt) (ends_statement (s.stop t h0 h1) tt) (head_is t h0 refl)
      (s.stop (retell t) (keeps.kind t ∙ h0) r2.1)
      (same_stmts.stop r2.2)
      (statement_is (Statement-F.Stop t.span e) (statement.rolls-Stop t.span e))
      (statement_is (Statement-F.Stop (retell t).span r2.0) (statement.rolls-Stop (retell t).span r2.0))
  told_simple (s.call {i = i} {u = u} t h0 h1) simple =
      let r2 = again_invocation retell keeps h1 in
      on_one_line t (u) (flat_statement (s.call t h0 h1) tt) (ends_statement (s.call t h0 h1) tt) (head_is t h0 refl)
      (s.call (retell t) (keeps.kind t ∙ h0) r2.1)
      (same_stmts.call r2.2)
      (statement_is (Statement-F.Call t.span true i) (statement.rolls-Call t.span true i))
      (statement_is (Statement-F.Call (retell t).span true r2.0) (statement.rolls-Call (retell t).span true r2.0))
  told_simple (s.invoke {i = i} (s.named {u = w} n hn hp)) simple =
      let r1 = again_named retell keeps (s.named n hn hp) in
      let k1 = call_back r1.2 i (call_is i) in
      on_one_line n (w) (flat_statement (s.invoke (s.named n hn hp)) tt) (ends_statement (s.invoke (s.named n hn hp)) tt) (head_is n hn refl)
      (s.invoke (subst (λ z. SpellsNamed z (map retell (n ∷ w))) k1.1 r1.1))
      (same_stmts.call k1.2)
      (statement_is (Statement-F.Call (expr_span (expr.Call i)) false i) (statement.rolls-Call (expr_span (expr.Call i)) false i) ∙ ap (λ z. z ∷ []) (named_span (s.named n hn hp)))
      (statement_is (Statement-F.Call (expr_span (expr.Call k1.0)) false k1.0) (statement.rolls-Call (expr_span (expr.Call k1.0)) false k1.0) ∙ ap (λ z. z ∷ []) (named_span (subst (λ z. SpellsNamed z (map retell (n ∷ w))) k1.1 r1.1)))
  told_simple (s.send {i = i} {u = u} t h0 h1) simple =
      let r2 = again_invocation retell keeps h1 in
      on_one_line t (u) (flat_statement (s.send t h0 h1) tt) (ends_statement (s.send t h0 h1) tt) (head_is t h0 refl)
      (s.send (retell t) (keeps.kind t ∙ h0) r2.1)
      (same_stmts.send r2.2)
      (statement_is (Statement-F.Send t.span i) (statement.rolls-Send t.span i))
      (statement_is (Statement-F.Send (retell t).span r2.0) (statement.rolls-Send (retell t).span r2.0))
  told_simple (s.forward {i = i} {u = u} t h0 h1) simple =
      let r2 = again_invocation retell keeps h1 in
      on_one_line t (u) (flat_statement (s.forward t h0 h1) tt) (ends_statement (s.forward t h0 h1) tt) (head_is t h0 refl)
      (s.forward (retell t) (keeps.kind t ∙ h0) r2.1)
      (same_stmts.forward r2.2)
      (statement_is (Statement-F.Forward t.span i) (statement.rolls-Forward t.span i))
      (statement_is (Statement-F.Forward (retell t).span r2.0) (statement.rolls-Forward (retell t).span r2.0))
  told_simple (s.receive {es = es} {u = u} t n opening closing h0 h1 h2 h3 h4) simple =
      let r4 = again_places retell keeps h3 in
      on_one_line t (n ∷ opening ∷ (u ++ closing ∷ [])) (flat_statement (s.receive t n opening closing h0 h1 h2 h3 h4) tt) (ends_statement (s.receive t n opening closing h0 h1 h2 h3 h4) tt) (head_is t h0 refl)
      (subst (λ z. SpellsStatement (statement.Receive (retell t).span (name_of (retell n)) r4.0) z) (sym (ap (λ z. retell t ∷ z) (ap (λ z. retell n ∷ z) (ap (λ z. retell opening ∷ z) (map-append retell u (closing ∷ [])))))) (s.receive (retell t) (retell n) (retell opening) (retell closing) (keeps.kind t ∙ h0) (keeps.kind n ∙ h1) (keeps.kind opening ∙ h2) r4.1 (keeps.kind closing ∙ h4)))
      (same_stmts.receive (same_name retell keeps n h1) r4.2)
      (statement_is (Statement-F.Receive t.span (name_of n) es) (statement.rolls-Receive t.span (name_of n) es))
      (statement_is (Statement-F.Receive (retell t).span (name_of (retell n)) r4.0) (statement.rolls-Receive (retell t).span (name_of (retell n)) r4.0))
  told_simple (s.assign {a = a} {e = e} {v = v} becomes (s.named {u = w} n hn hp) h1 h2) simple =
      let r1 = again_named retell keeps (s.named n hn hp) in
      let r3 = again_expr retell keeps h2 in
      on_one_line n (w ++ becomes ∷ v) (flat_statement (s.assign becomes (s.named n hn hp) h1 h2) tt) (ends_statement (s.assign becomes (s.named n hn hp) h1 h2) tt) (head_is n hn refl)
      (subst (λ z. SpellsStatement (statement.Assign (expr_span r1.0) r1.0 r3.0) z) (sym (map-append retell (n ∷ w) (becomes ∷ v))) (s.assign (retell becomes) r1.1 (keeps.kind becomes ∙ h1) r3.1))
      (same_stmts.assign r1.2 r3.2)
      (statement_is (Statement-F.Assign (expr_span a) a e) (statement.rolls-Assign (expr_span a) a e) ∙ ap (λ z. z ∷ []) (named_span (s.named n hn hp)))
      (statement_is (Statement-F.Assign (expr_span r1.0) r1.0 r3.0) (statement.rolls-Assign (expr_span r1.0) r1.0 r3.0) ∙ ap (λ z. z ∷ []) (named_span r1.1))
  told_simple (s.exchange {a = a} {b = b} {v = v} t (s.named {u = w} n hn hp) h1 h2) simple =
      let r1 = again_named retell keeps (s.named n hn hp) in
      let r3 = again_primary retell keeps h2 in
      on_one_line n (w ++ t ∷ v) (flat_statement (s.exchange t (s.named n hn hp) h1 h2) tt) (ends_statement (s.exchange t (s.named n hn hp) h1 h2) tt) (head_is n hn refl)
      (subst (λ z. SpellsStatement (statement.Exchange (expr_span r1.0) r1.0 r3.0) z) (sym (map-append retell (n ∷ w) (t ∷ v))) (s.exchange (retell t) r1.1 (keeps.kind t ∙ h1) r3.1))
      (same_stmts.exchange r1.2 r3.2)
      (statement_is (Statement-F.Exchange (expr_span a) a b) (statement.rolls-Exchange (expr_span a) a b) ∙ ap (λ z. z ∷ []) (named_span (s.named n hn hp)))
      (statement_is (Statement-F.Exchange (expr_span r1.0) r1.0 r3.0) (statement.rolls-Exchange (expr_span r1.0) r1.0 r3.0) ∙ ap (λ z. z ∷ []) (named_span r1.1))
  told_simple (s.increment {a = a} t (s.named {u = w} n hn hp) h1) simple =
      let r1 = again_named retell keeps (s.named n hn hp) in
      on_one_line n (w ++ t ∷ []) (flat_statement (s.increment t (s.named n hn hp) h1) tt) (ends_statement (s.increment t (s.named n hn hp) h1) tt) (head_is n hn refl)
      (subst (λ z. SpellsStatement (statement.Increment (expr_span r1.0) r1.0) z) (sym (map-append retell (n ∷ w) (t ∷ []))) (s.increment (retell t) r1.1 (keeps.kind t ∙ h1)))
      (same_stmts.increment r1.2)
      (statement_is (Statement-F.Increment (expr_span a) a) (statement.rolls-Increment (expr_span a) a) ∙ ap (λ z. z ∷ []) (named_span (s.named n hn hp)))
      (statement_is (Statement-F.Increment (expr_span r1.0) r1.0) (statement.rolls-Increment (expr_span r1.0) r1.0) ∙ ap (λ z. z ∷ []) (named_span r1.1))
  told_simple (s.decrement {a = a} t (s.named {u = w} n hn hp) h1) simple =
      let r1 = again_named retell keeps (s.named n hn hp) in
      on_one_line n (w ++ t ∷ []) (flat_statement (s.decrement t (s.named n hn hp) h1) tt) (ends_statement (s.decrement t (s.named n hn hp) h1) tt) (head_is n hn refl)
      (subst (λ z. SpellsStatement (statement.Decrement (expr_span r1.0) r1.0) z) (sym (map-append retell (n ∷ w) (t ∷ []))) (s.decrement (retell t) r1.1 (keeps.kind t ∙ h1)))
      (same_stmts.decrement r1.2)
      (statement_is (Statement-F.Decrement (expr_span a) a) (statement.rolls-Decrement (expr_span a) a) ∙ ap (λ z. z ∷ []) (named_span (s.named n hn hp)))
      (statement_is (Statement-F.Decrement (expr_span r1.0) r1.0) (statement.rolls-Decrement (expr_span r1.0) r1.0) ∙ ap (λ z. z ∷ []) (named_span r1.1))
  told_simple (s.if t closing h0 h1 h2 h3) simple = absurd simple
  told_simple (s.do_ t closing h0 h1 h2 h3) simple = absurd simple
  told_simple (s.for_all t arrow closing h0 h1 h2 h3 h4) simple = absurd simple
  told_simple (s.in_ t closing h0 h1 h2 h3 h4) simple = absurd simple
  told_simple (s.co t closing h0 h1 h2 h3) simple = absurd simple
  told_simple (s.destroy {e = e} {u = u} t h0 h1) simple =
      let r2 = again_primary retell keeps h1 in
      on_one_line t (u) (flat_statement (s.destroy t h0 h1) tt) (ends_statement (s.destroy t h0 h1) tt) (head_is t h0 refl)
      (s.destroy (retell t) (keeps.kind t ∙ h0) r2.1)
      (same_stmts.destroy r2.2)
      (statement_is (Statement-F.Destroy t.span e) (statement.rolls-Destroy t.span e))
      (statement_is (Statement-F.Destroy (retell t).span r2.0) (statement.rolls-Destroy (retell t).span r2.0))
  told_simple (s.create {c = c} (g.resource {u = u} {v = v} {w = w} t opening closing h0 h1 h2 h3 h4 h5)) simple =
      let d = g.resource t opening closing h0 h1 h2 h3 h4 h5 in
      let r = again_create retell keeps d in
      on_one_line t (u ++ opening ∷ (v ++ closing ∷ w)) (flat_create d) (ends_create d) (head_is t h0 refl) (s.create r.1) (same_stmts.create r.2)
      (statement_is (Statement-F.Create (create_span c) c) (statement.rolls-Create (create_span c) c) ∙ ap (λ z. z ∷ []) (create_is d))
      (statement_is (Statement-F.Create (create_span r.0) r.0) (statement.rolls-Create (create_span r.0) r.0) ∙ ap (λ z. z ∷ []) (create_is r.1))
  told_simple (s.create {c = c} (g.machine t vm opening closing h0 h1 h2 h3)) simple =
      let d = g.machine t vm opening closing h0 h1 h2 h3 in
      let r = again_create retell keeps d in
      on_one_line t (vm ∷ opening ∷ closing ∷ []) (flat_create d) (ends_create d) (head_is t h0 refl) (s.create r.1) (same_stmts.create r.2)
      (statement_is (Statement-F.Create (create_span c) c) (statement.rolls-Create (create_span c) c) ∙ ap (λ z. z ∷ []) (create_is d))
      (statement_is (Statement-F.Create (create_span r.0) r.0) (statement.rolls-Create (create_span r.0) r.0) ∙ ap (λ z. z ∷ []) (create_is r.1))
