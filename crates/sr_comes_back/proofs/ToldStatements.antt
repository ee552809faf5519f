-- Statements and blocks told again.
use Rattle.std.proofs.Common.{◌≡◌, Bool, true, false, not, ◌&&◌, ◌||◌, List, [], ◌∷◌, ◌++◌, map, refl, ap, sym, subst, ◌∙◌, append_assoc, Option, Some, None, inl}
use Rattle.std.proofs.lemmas.List.{append-nil, map-append}
use Rattle.sr_value.specs.declared.place.Span.{Span}
use Rattle.sr_tree.specs.declared.expr.Expr.{Expr}
use Rattle.sr_tree.specs.declared.expr.Invocation.{Invocation}
use Rattle.sr_tree.specs.declared.statement.Arm.{Arm, roll-Arm}
use Rattle.sr_tree.specs.declared.statement.BlockItem.{BlockItem, roll-BlockItem}
use Rattle.sr_tree.specs.declared.statement.BlockItem.TheOpen.{BlockItem-F, Statement-F}
use Rattle.sr_tree.specs.declared.statement.BlockItem.TheVariants as item
use Rattle.sr_tree.specs.declared.statement.Branch.{Branch, roll-Branch}
use Rattle.sr_tree.specs.declared.statement.CoArm.{CoArm, roll-CoArm}
use Rattle.sr_tree.specs.declared.statement.Quantifier.{Quantifier}
use Rattle.sr_tree.specs.declared.statement.Statement.{Statement}
use Rattle.sr_tree.specs.declared.statement.Statement.TheVariants as statement
use Rattle.sr_tree.specs.declared.token.Token.{Token}
use Rattle.sr_tree.specs.declared.token.TokenKind.{TokenKind}
use Rattle.sr_tree.specs.Expressions.{expr_span}
use Rattle.sr_tree.specs.Statements as s
use Rattle.sr_tree.specs.Statements.{SpellsStatement, SpellsBranch, SpellsMoreBranches, SpellsBranches, SpellsOtherwise, SpellsArm, SpellsMoreArms, SpellsCoBlock, SpellsCoArm, SpellsMoreCoArms, SpellsBlockItem, SpellsItems, SpellsBlock, first_span}
use Rattle.sr_tree.specs.Tables.{name_of}
use Rattle.sr_tree.specs.Tokens.{is_separator}
use Rattle.sr_tree.proofs.StatementFolds.{from_item, item_folds, branch_folds, arm_folds, co_arm_folds}
use Rattle.sr_lexer.specs.Roles.{may_end_line, continues_line}
use Rattle.sr_order.specs.Spans.{joined, spans_in, block_item_spans, branch_spans, arm_spans, co_arm_spans}
use Rattle.sr_order.proofs.NameFolds.{spanning}
use Rattle.sr_fmt.specs.Layout.{begins_line}
use Rattle.sr_fmt.specs.Roles.{always_begins_line}
use Rattle.sr_grammar_laws.specs.Retelling.{Keeps}
use Rattle.sr_grammar_laws.specs.SameExpressions as same_exprs
use Rattle.sr_grammar_laws.specs.SameStatements as same_stmts
use Rattle.sr_grammar_laws.specs.SameStatements.{SameStatement, SameBlockItem, SameBranch, SameArm, SameCoArm, SameBranches, SameArms, SameCoArms, SameBlockItems, SameOptionalBlock}
use Rattle.sr_grammar_laws.proofs.AgainDeclarations.{again_const, again_var}
use Rattle.sr_grammar_laws.proofs.AgainExpressions.{again_expr}
use Rattle.sr_grammar_laws.proofs.AgainParts.{again_by, again_quantifiers, again_optional_names, again_returned_name, again_condition, again_co_call}
use Rattle.sr_grammar_laws.proofs.Retold.{same_name}
use Rattle.sr_grammar_laws.proofs.Trailing.{trail_otherwise, trail_block, trail_in}
use Rattle.sr_comes_back.proofs.Ending.{Ends, keeps_none, ends_skip, ends_with, ends_after}
use Rattle.sr_comes_back.proofs.EndsDeclarations.{ends_const, ends_var}
use Rattle.sr_comes_back.proofs.Flat.{in_plain, Headed, flat_token, flat_both, flat_open, shut_both, shut_flat, inner_of, plain_is}
use Rattle.sr_comes_back.proofs.FlatDeclarations.{headed_const, headed_var}
use Rattle.sr_comes_back.proofs.FlatExpressions.{flat_expr}
use Rattle.sr_comes_back.proofs.FlatParts.{flat_by, flat_quantifiers, flat_optional_names, flat_returned_name, flat_condition, flat_co_call}
use Rattle.sr_comes_back.proofs.Lines.{Marked, mark, unmarked, tokens_in, tokens_in-append, tokens_unmarked, last_of, AreLines, lines_none, lines_flat, lines_both, lines_token, lines_spans, tell_flat}
use Rattle.sr_comes_back.proofs.Telling.{Breaks, items_list, told, told_both, token_told, line_told, flat_told, goes_on, ToldItem, ToldPart, ToldList, list_none, list_separator, list_one}
use Rattle.sr_comes_back.proofs.ToldSimple.{statement_is, told_simple}

-- ---- the statements in parts

abbrev pub block_spans : List BlockItem → List Span
block_spans is = joined (map block_item_spans is)

abbrev pub otherwise_spans : Option (List BlockItem) → List Span
otherwise_spans None = []
otherwise_spans (Some is) = block_spans is

item_is : {tree : BlockItem} (x : BlockItem-F BlockItem Statement Arm Branch CoArm) → roll-BlockItem x ≡ tree → block_item_spans tree ≡ from_item spanning x
item_is x rolls = ap block_item_spans (sym rolls) ∙ sym (item_folds spanning x)

joined-append : {A : Type 0} (f : A → List Span) (xs ys : List A) → joined (map f (xs ++ ys)) ≡ joined (map f xs) ++ joined (map f ys)
joined-append f [] ys = refl
joined-append f (x ∷ xs) ys = ap (λ z. f x ++ z) (joined-append f xs ys) ∙ sym (append_assoc (f x) (joined (map f xs)) (joined (map f ys)))

both_parts : (a b : Bool) → (a && b) ≡ true → (a ≡ true) × (b ≡ true)
both_parts true b e = (refl, e)
both_parts false b e = absurd (cc)

not_true : (b : Bool) → not b ≡ true → b ≡ false
not_true true e = absurd (cc)
not_true false e = refl

neither : (a b : Bool) → (a || b) ≡ false → (a ≡ false) × (b ≡ false)
neither true b e = absurd (cc)
neither false b e = (refl, e)

-- four parts and a rest
four_parts : (u v x y : List Token) (closing : Token) (w : List Token) → (u ++ closing ∷ (v ++ (x ++ y))) ++ w ≡ u ++ closing ∷ (v ++ (x ++ (y ++ w)))
four_parts u v x y closing w =
    append_assoc u (closing ∷ (v ++ (x ++ y))) w ∙ ap (λ z. u ++ closing ∷ z) (append_assoc v (x ++ y) w ∙ ap (λ z. v ++ z) (append_assoc x y w))

if_is : (span : Span) (bs : List Branch) (o : Option (List BlockItem)) → spans_in (statement.If span bs o) ≡ span ∷ (joined (map branch_spans bs) ++ otherwise_spans o)
if_is span bs None = statement_is (Statement-F.If span bs None) (statement.rolls-If span bs None)
if_is span bs (Some is) = statement_is (Statement-F.If span bs (Some is)) (statement.rolls-If span bs (Some is))

do_is : (span : Span) (bs : List Branch) (o : Option (List BlockItem)) → spans_in (statement.Do span bs o) ≡ span ∷ (joined (map branch_spans bs) ++ otherwise_spans o)
do_is span bs None = statement_is (Statement-F.Do span bs None) (statement.rolls-Do span bs None)
do_is span bs (Some is) = statement_is (Statement-F.Do span bs (Some is)) (statement.rolls-Do span bs (Some is))

in_is : (span : Span) (arms : List Arm) (o : Option (List BlockItem)) → spans_in (statement.In span arms o) ≡ span ∷ (joined (map arm_spans arms) ++ otherwise_spans o)
in_is span arms None = statement_is (Statement-F.In span arms None) (statement.rolls-In span arms None)
in_is span arms (Some is) = statement_is (Statement-F.In span arms (Some is)) (statement.rolls-In span arms (Some is))

co_is : (span : Span) (arms : List CoArm) → spans_in (statement.Co span arms) ≡ span ∷ joined (map co_arm_spans arms)
co_is span arms = statement_is (Statement-F.Co span arms) (statement.rolls-Co span arms)

co_arm_is : (span : Span) (qs : List Quantifier) (target : Option Expr) (with_call : Bool) (i : Invocation) (o : Option (List BlockItem))
    → co_arm_spans (roll-CoArm (record { span = span; quantifiers = qs; target = target; with_call = with_call; invocation = i; block = o })) ≡ otherwise_spans o
co_arm_is span qs target with_call i None = sym (co_arm_folds spanning (record { span = span; quantifiers = qs; target = target; with_call = with_call; invocation = i; block = None }))
co_arm_is span qs target with_call i (Some is) = sym (co_arm_folds spanning (record { span = span; quantifiers = qs; target = target; with_call = with_call; invocation = i; block = Some is }))

-- a token of a kind that is no bracket and no separator
pub kind_lines : {u : List Token} {ms : List Marked} {a : List Span} {kind : TokenKind} (t : Token) → t.kind ≡ kind → (in_plain kind && not (is_separator kind)) ≡ true → AreLines u ms a → AreLines (t ∷ u) (mark false t ∷ ms) a
kind_lines t h e f = lines_token t false (ap (λ k. in_plain k && not (is_separator k)) h ∙ e) f

module _ (retell : Token → Token) (keeps : Keeps retell) (breaks : Option TokenKind → Token → List Token) (law : Breaks breaks) (respan : Span → Span) (moves : (t : Token) → (retell t).span ≡ respan t.span) where
  -- ---- items

  -- a declaration on one line
  pub headed_item : {X : Type 0} {Spelling : X → List Token → Type 0} {Same : X → X → Type 0} {spans : X → List Span} {x : X} {u : List Token} (other : X) → Headed u → Ends u → Spelling other (map retell u) → Same x other → spans x ≡ [] → spans other ≡ []
      → ToldItem retell breaks law respan Spelling Same spans x u
  headed_item {Spelling = Spelling} {u = u} other h ends spelled same here there =
      let one = both_parts (always_begins_line h.head.kind) (in_plain h.head.kind && not (is_separator h.head.kind || continues_line h.head.kind)) h.heads in
      let two = both_parts (in_plain h.head.kind) (not (is_separator h.head.kind || continues_line h.head.kind)) one.1 in
      let three = neither (is_separator h.head.kind) (continues_line h.head.kind) (not_true (is_separator h.head.kind || continues_line h.head.kind) two.1) in
      let kept : (in_plain h.head.kind && not (is_separator h.head.kind)) ≡ true = ap (λ b. b && not (is_separator h.head.kind)) two.0 ∙ ap not three.0 in
      record {
        head = mark false h.head;
        rest = unmarked h.rest;
        lines = lines_spans (sym here) (subst (λ z. AreLines z (mark false h.head ∷ unmarked h.rest) []) (sym h.splits) (lines_token h.head false kept (lines_flat h.flat)));
        starts = one.0;
        level = two.0;
        new = three.1;
        ends = subst Ends (h.splits ∙ ap (λ z. h.head ∷ z) (sym (tokens_unmarked h.rest))) ends;
        other = other;
        spelled = subst (λ z. Spelling other (retell h.head ∷ z)) (sym (tell_flat retell breaks (Some h.head.kind) h.flat)) (subst (λ z. Spelling other (map retell z)) h.splits spelled);
        same = same;
        again = there ∙ ap (map respan) (sym here);
      }

  -- one that is a statement, or another item
  pub lift_item : {X Y : Type 0} {Spelling : X → List Token → Type 0} {Same : X → X → Type 0} {spans : X → List Span} (Lifted : Y → List Token → Type 0) (SameLifted : Y → Y → Type 0) (lifted_spans : Y → List Span) (f : X → Y)
      → ((x : X) (u : List Token) → Spelling x u → Lifted (f x) u) → ((x y : X) → Same x y → SameLifted (f x) (f y)) → ((x : X) → lifted_spans (f x) ≡ spans x)
      → {x : X} {u : List Token} → ToldItem retell breaks law respan Spelling Same spans x u → ToldItem retell breaks law respan Lifted SameLifted lifted_spans (f x) u
  lift_item Lifted SameLifted lifted_spans f up same are {x = x} i = record {
    head = i.head;
    rest = i.rest;
    lines = lines_spans (sym (are x)) i.lines;
    starts = i.starts;
    level = i.level;
    new = i.new;
    ends = i.ends;
    other = f i.other;
    spelled = up i.other (retell i.head.token ∷ told retell breaks (Some i.head.token.kind) i.rest) i.spelled;
    same = same x i.other i.same;
    again = are i.other ∙ i.again ∙ ap (map respan) (sym (are x));
  }

  -- a statement that ends with a word of its own
  closed : {x other : Statement} {ms : List Marked} {a : List Span} {first last : TokenKind} (t closing : Token) (u : List Token) → t.kind ≡ first → closing.kind ≡ last
      → ((in_plain first && not (is_separator first)) && not (continues_line first)) ≡ true
      → ((begins_line 0 false last && in_plain last) && (not (is_separator last) && may_end_line last)) ≡ true
      → AreLines u ms a
      → ((before : Option TokenKind) → SpellsStatement other (retell t ∷ (told retell breaks (Some t.kind) ms ++ (breaks before closing ++ retell closing ∷ []))))
      → SameStatement x other → spans_in x ≡ t.span ∷ a → spans_in other ≡ (retell t).span ∷ map respan a
      → ToldItem retell breaks law respan SpellsStatement SameStatement spans_in x (t ∷ (u ++ closing ∷ []))
  closed {x = x} {other = other} {ms = ms} {a = a} {first = first} {last = last} t closing u h k e f lines spelled same here there =
      let one = both_parts (in_plain first && not (is_separator first)) (not (continues_line first)) e in
      let plain = both_parts (in_plain first) (not (is_separator first)) one.0 in
      let two = both_parts (begins_line 0 false last && in_plain last) (not (is_separator last) && may_end_line last) f in
      let line = both_parts (begins_line 0 false last) (in_plain last) two.0 in
      let ending = both_parts (not (is_separator last)) (may_end_line last) two.1 in
      let kept : (in_plain last && not (is_separator last)) ≡ true = ap (λ b. b && not (is_separator last)) line.1 ∙ ending.0 in
      let all = ms ++ mark false closing ∷ [] in
      let inner : AreLines (u ++ closing ∷ []) all a = lines_spans (append-nil a) (lines_both lines (kind_lines closing k kept lines_none)) in
      let tail : told retell breaks (Some t.kind) all ≡ told retell breaks (Some t.kind) ms ++ (breaks (last_of (Some t.kind) (tokens_in ms)) closing ++ retell closing ∷ []) =
      told_both retell breaks lines (mark false closing ∷ []) (Some t.kind)
      ∙ ap (λ z. told retell breaks (Some t.kind) ms ++ z) (line_told retell breaks closing k two.0 [] (last_of (Some t.kind) (tokens_in ms))) in
      record {
        head = mark true t;
        rest = all;
        lines = lines_spans (sym here) (lines_token t true (ap (λ z. in_plain z && not (is_separator z)) h ∙ one.0) inner);
        starts = refl;
        level = ap in_plain h ∙ plain.0;
        new = ap continues_line h ∙ not_true (continues_line first) one.1;
        ends = subst Ends (ap (λ z. t ∷ z) (sym (tokens_in-append ms (mark false closing ∷ [])))) (ends_skip t (ends_after (tokens_in ms) (ends_with closing (ap may_end_line k ∙ ending.1) keeps_none)));
        other = other;
        spelled = subst (λ z. SpellsStatement other (retell t ∷ z)) (sym tail) (spelled (last_of (Some t.kind) (tokens_in ms)));
        same = same;
        again = there ∙ ap (λ z. z ∷ map respan a) (moves t) ∙ ap (map respan) (sym here);
      }

  -- two parts and separators before a closing token
  regroup : (first second w x seps rest : List Token) → first ++ second ≡ (w ++ x) ++ seps → first ++ (second ++ rest) ≡ (w ++ x) ++ (seps ++ rest)
  regroup first second w x seps rest e = sym (append_assoc first second rest) ∙ ap (λ z. z ++ rest) e ∙ append_assoc (w ++ x) seps rest

  -- ---- the statements of parts

  two_again : (a b c d : List Span) → a ≡ map respan c → b ≡ map respan d → a ++ b ≡ map respan (c ++ d)
  two_again a b c d e f = ap (λ z. z ++ b) e ∙ ap (λ z. map respan c ++ z) f ∙ sym (map-append respan c d)

  map_parts : (u v x y : List Token) (closing : Token) → map retell (u ++ closing ∷ (v ++ (x ++ y))) ≡ map retell u ++ retell closing ∷ (map retell v ++ (map retell x ++ map retell y))
  map_parts u v x y closing =
      map-append retell u (closing ∷ (v ++ (x ++ y))) ∙ ap (λ z. map retell u ++ retell closing ∷ z) (map-append retell v (x ++ y) ∙ ap (λ z. map retell v ++ z) (map-append retell x y))

  mutual
    pub told_items : {may_begin : Bool} {is : List BlockItem} {u : List Token} → SpellsItems may_begin is u → ToldList retell breaks law respan SpellsItems SameBlockItems block_spans is u
    told_items s.stop_here = list_none retell breaks law respan items_list SameBlockItem SameBlockItems block_item_spans block_spans (λ x y xs ys same more. same_stmts.more_block_items same more) (λ x xs. refl) same_stmts.no_block_items refl
    told_items (s.separator {is = is} {u = u} t h d) = list_separator retell breaks law respan items_list SameBlockItem SameBlockItems block_item_spans block_spans (λ x y xs ys same more. same_stmts.more_block_items same more) (λ x xs. refl) is u t h (told_items d)
    told_items (s.one {i = i} {is = is} {u = u} {v = v} d more) = list_one retell breaks law respan items_list SameBlockItem SameBlockItems block_item_spans block_spans (λ x y xs ys same more. same_stmts.more_block_items same more) (λ x xs. refl) i is u v (told_block_item d) (told_items more)

    pub told_block_item : {i : BlockItem} {u : List Token} → SpellsBlockItem i u → ToldItem retell breaks law respan SpellsBlockItem SameBlockItem block_item_spans i u
    told_block_item (s.a_constant {c = c} d) =
        let r = again_const retell keeps d in
        headed_item (item.Const r.0) (headed_const d) (ends_const d) (s.a_constant r.1) (same_stmts.const r.2) (item_is (BlockItem-F.Const c) (item.rolls-Const c)) (item_is (BlockItem-F.Const r.0) (item.rolls-Const r.0))
    told_block_item (s.some_variables {d = v} d) =
        let r = again_var retell keeps d in
        headed_item (item.Var r.0) (headed_var d) (ends_var d) (s.some_variables r.1) (same_stmts.var r.2) (item_is (BlockItem-F.Var v) (item.rolls-Var v)) (item_is (BlockItem-F.Var r.0) (item.rolls-Var r.0))
    told_block_item (s.a_statement d) =
        lift_item SpellsBlockItem SameBlockItem block_item_spans item.Statement (λ x u d. s.a_statement d) (λ x y same. same_stmts.statement same) (λ x. item_is (BlockItem-F.Statement x) (item.rolls-Statement x)) (told_statement d)

    pub told_block : {is : List BlockItem} {u : List Token} → SpellsBlock is u → ToldPart retell breaks law respan SpellsBlock SameBlockItems block_spans is u
    told_block (s.block d) =
        let r = told_items d in
        record { marked = r.marked; lines = r.lines; other = r.other; spelled = λ last. s.block (r.spelled last true (inl refl)); same = r.same; again = r.again }

    pub told_branch : {b : Branch} {u : List Token} → SpellsBranch b u → ToldPart retell breaks law respan SpellsBranch SameBranch branch_spans b u
    told_branch (s.branch {e = e} {is = is} {u = u} {v = v} arrow h0 h1 h2) =
        let guard = again_expr retell keeps h0 in
        let flat = flat_expr h0 in
        let block = told_block h2 in
        let other = roll-Branch (record { span = expr_span guard.0; guard = guard.0; block = block.other }) in
        let here = sym (branch_folds spanning (record { span = expr_span e; guard = e; block = is })) in
        let there = sym (branch_folds spanning (record { span = expr_span guard.0; guard = guard.0; block = block.other })) in
        record {
          marked = unmarked u ++ mark false arrow ∷ block.marked;
          lines = lines_spans (sym here) (lines_both (lines_flat flat) (kind_lines arrow h1 refl block.lines));
          other = other;
          spelled = λ last.
              let before = last_of last (tokens_in (unmarked u)) in
              subst (λ z. SpellsBranch other z) (sym (flat_told retell breaks flat (mark false arrow ∷ block.marked) last ∙ ap (λ z. map retell u ++ z) (token_told retell breaks arrow h1 refl block.marked before)))
              (s.branch (retell arrow) guard.1 (keeps.kind arrow ∙ h1) (block.spelled (Some arrow.kind)));
          same = same_stmts.branch guard.2 block.same;
          again = there ∙ block.again ∙ ap (map respan) (sym here);
        }

    pub told_more_branches : {bs : List Branch} {u : List Token} → SpellsMoreBranches bs u → ToldPart retell breaks law respan SpellsMoreBranches SameBranches (λ bs. joined (map branch_spans bs)) bs u
    told_more_branches s.no_more_branches = record { marked = []; lines = lines_none; other = []; spelled = λ last. s.no_more_branches; same = same_stmts.no_branches; again = refl }
    told_more_branches (s.one_more_branch {b = b} {bs = bs} t h d more) =
        let one = told_branch d in
        let rest = told_more_branches more in
        record {
          marked = mark false t ∷ (one.marked ++ rest.marked);
          lines = kind_lines t h refl (lines_both one.lines rest.lines);
          other = one.other ∷ rest.other;
          spelled = λ last.
              subst (λ z. SpellsMoreBranches (one.other ∷ rest.other) z)
              (sym (goes_on retell breaks law respan t h refl (one.marked ++ rest.marked) last ∙ ap (λ z. retell t ∷ z) (told_both retell breaks one.lines rest.marked (Some t.kind))))
              (s.one_more_branch (retell t) (keeps.kind t ∙ h) (one.spelled (Some t.kind)) (rest.spelled (last_of (Some t.kind) (tokens_in one.marked))));
          same = same_stmts.more_branches one.same rest.same;
          again = ap (λ z. z ++ joined (map branch_spans rest.other)) one.again ∙ ap (λ z. map respan (branch_spans b) ++ z) rest.again ∙ sym (map-append respan (branch_spans b) (joined (map branch_spans bs)));
        }

    pub told_branches : {bs : List Branch} {u : List Token} → SpellsBranches bs u → ToldPart retell breaks law respan SpellsBranches SameBranches (λ bs. joined (map branch_spans bs)) bs u
    told_branches (s.branches {b = b} {bs = bs} d more) =
        let one = told_branch d in
        let rest = told_more_branches more in
        record {
          marked = one.marked ++ rest.marked;
          lines = lines_both one.lines rest.lines;
          other = one.other ∷ rest.other;
          spelled = λ last.
              subst (λ z. SpellsBranches (one.other ∷ rest.other) z) (sym (told_both retell breaks one.lines rest.marked last))
              (s.branches (one.spelled last) (rest.spelled (last_of last (tokens_in one.marked))));
          same = same_stmts.more_branches one.same rest.same;
          again = ap (λ z. z ++ joined (map branch_spans rest.other)) one.again ∙ ap (λ z. map respan (branch_spans b) ++ z) rest.again ∙ sym (map-append respan (branch_spans b) (joined (map branch_spans bs)));
        }

    pub told_otherwise : {o : Option (List BlockItem)} {u : List Token} → SpellsOtherwise o u → ToldPart retell breaks law respan SpellsOtherwise SameOptionalBlock otherwise_spans o u
    told_otherwise s.no_otherwise = record { marked = []; lines = lines_none; other = None; spelled = λ last. s.no_otherwise; same = same_stmts.no_block; again = refl }
    told_otherwise (s.otherwise t o arrow h0 h1 h2 d) =
        let block = told_block d in
        record {
          marked = mark false t ∷ mark false o ∷ mark false arrow ∷ block.marked;
          lines = kind_lines t h0 refl (kind_lines o h1 refl (kind_lines arrow h2 refl block.lines));
          other = Some block.other;
          spelled = λ last.
              subst (λ z. SpellsOtherwise (Some block.other) z)
              (sym (goes_on retell breaks law respan t h0 refl (mark false o ∷ mark false arrow ∷ block.marked) last
              ∙ ap (λ z. retell t ∷ z) (token_told retell breaks o h1 refl (mark false arrow ∷ block.marked) (Some t.kind))
              ∙ ap (λ z. retell t ∷ retell o ∷ z) (token_told retell breaks arrow h2 refl block.marked (Some o.kind))))
              (s.otherwise (retell t) (retell o) (retell arrow) (keeps.kind t ∙ h0) (keeps.kind o ∙ h1) (keeps.kind arrow ∙ h2) (block.spelled (Some arrow.kind)));
          same = same_stmts.some_block block.same;
          again = block.again;
        }

    pub told_arm : {a : Arm} {u : List Token} → SpellsArm a u → ToldPart retell breaks law respan SpellsArm SameArm arm_spans a u
    told_arm (s.arm {ns = ns} {r = r} {c = c} {o = o} {is = is} {u = u} {v = v} {x = x} {y = y} {z = w} n opening closing arrow h0 h1 h2 h3 h4 h5 h6 h7 h8) =
        let names = again_optional_names retell keeps h2 in
        let returned = again_returned_name retell keeps h4 in
        let condition = again_condition retell keeps h5 in
        let order = again_by retell keeps h6 in
        let block = told_block h8 in
        let front = n ∷ opening ∷ (u ++ closing ∷ (v ++ (x ++ y))) in
        let flat = flat_token n (plain_is n h0 refl) (flat_open opening h1 refl (shut_both (inner_of (flat_optional_names h2)) (shut_flat closing h3 refl (flat_both (flat_returned_name h4) (flat_both (flat_condition h5) (flat_by h6)))))) in
        let other = roll-Arm (record { span = (retell n).span; operation = name_of (retell n); formals = names.0; returned = returned.0; condition = condition.0; order = order.0; block = block.other }) in
        let here = sym (arm_folds spanning (record { span = n.span; operation = name_of n; formals = ns; returned = r; condition = c; order = o; block = is })) in
        let there = sym (arm_folds spanning (record { span = (retell n).span; operation = name_of (retell n); formals = names.0; returned = returned.0; condition = condition.0; order = order.0; block = block.other })) in
        record {
          marked = unmarked front ++ mark false arrow ∷ block.marked;
          lines = lines_spans (sym here) (subst (λ z. AreLines (n ∷ opening ∷ z) (unmarked front ++ mark false arrow ∷ block.marked) (block_spans is)) (four_parts u v x y closing (arrow ∷ w)) (lines_both (lines_flat flat) (kind_lines arrow h7 refl block.lines)));
          other = other;
          spelled = λ last.
              let before = last_of last (tokens_in (unmarked front)) in
              subst (λ z. SpellsArm other z)
              (sym (flat_told retell breaks flat (mark false arrow ∷ block.marked) last
              ∙ ap (λ z. map retell front ++ z) (token_told retell breaks arrow h7 refl block.marked before)
              ∙ ap (λ z. retell n ∷ retell opening ∷ (z ++ retell arrow ∷ told retell breaks (Some arrow.kind) block.marked)) (map_parts u v x y closing)
              ∙ ap (λ z. retell n ∷ retell opening ∷ z) (four_parts (map retell u) (map retell v) (map retell x) (map retell y) (retell closing) (retell arrow ∷ told retell breaks (Some arrow.kind) block.marked))))
              (s.arm (retell n) (retell opening) (retell closing) (retell arrow) (keeps.kind n ∙ h0) (keeps.kind opening ∙ h1) names.1 (keeps.kind closing ∙ h3) returned.1 condition.1 order.1 (keeps.kind arrow ∙ h7) (block.spelled (Some arrow.kind)));
          same = same_stmts.arm (same_name retell keeps n h0) names.2 returned.2 condition.2 order.2 block.same;
          again = there ∙ block.again ∙ ap (map respan) (sym here);
        }

    pub told_more_arms : {others : List Arm} {u : List Token} → SpellsMoreArms others u → ToldPart retell breaks law respan SpellsMoreArms SameArms (λ xs. joined (map arm_spans xs)) others u
    told_more_arms s.no_more_arms = record { marked = []; lines = lines_none; other = []; spelled = λ last. s.no_more_arms; same = same_stmts.no_arms; again = refl }
    told_more_arms (s.one_more_arm {a = a} {more = xs} t h d more) =
        let one = told_arm d in
        let rest = told_more_arms more in
        record {
          marked = mark false t ∷ (one.marked ++ rest.marked);
          lines = kind_lines t h refl (lines_both one.lines rest.lines);
          other = one.other ∷ rest.other;
          spelled = λ last.
              subst (λ z. SpellsMoreArms (one.other ∷ rest.other) z)
              (sym (goes_on retell breaks law respan t h refl (one.marked ++ rest.marked) last ∙ ap (λ z. retell t ∷ z) (told_both retell breaks one.lines rest.marked (Some t.kind))))
              (s.one_more_arm (retell t) (keeps.kind t ∙ h) (one.spelled (Some t.kind)) (rest.spelled (last_of (Some t.kind) (tokens_in one.marked))));
          same = same_stmts.more_arms one.same rest.same;
          again = ap (λ z. z ++ joined (map arm_spans rest.other)) one.again ∙ ap (λ z. map respan (arm_spans a) ++ z) rest.again ∙ sym (map-append respan (arm_spans a) (joined (map arm_spans xs)));
        }

    pub told_co_block : {o : Option (List BlockItem)} {u : List Token} → SpellsCoBlock o u → ToldPart retell breaks law respan SpellsCoBlock SameOptionalBlock otherwise_spans o u
    told_co_block s.no_co_block = record { marked = []; lines = lines_none; other = None; spelled = λ last. s.no_co_block; same = same_stmts.no_block; again = refl }
    told_co_block (s.co_block arrow h d) =
        let block = told_block d in
        record {
          marked = mark false arrow ∷ block.marked;
          lines = kind_lines arrow h refl block.lines;
          other = Some block.other;
          spelled = λ last.
              subst (λ z. SpellsCoBlock (Some block.other) z) (sym (token_told retell breaks arrow h refl block.marked last))
              (s.co_block (retell arrow) (keeps.kind arrow ∙ h) (block.spelled (Some arrow.kind)));
          same = same_stmts.some_block block.same;
          again = block.again;
        }

    pub told_co_arm : {a : CoArm} {u : List Token} → SpellsCoArm a u → ToldPart retell breaks law respan SpellsCoArm SameCoArm co_arm_spans a u
    told_co_arm (s.co_arm {place = place} {with_call = with_call} {i = i} {block = o} {u = u} h0 h1) =
        let call = again_co_call retell keeps h0 in
        let flat = flat_co_call h0 in
        let block = told_co_block h1 in
        let other = roll-CoArm (record { span = first_span (map retell u); quantifiers = []; target = call.0; with_call = with_call; invocation = call.1; block = block.other }) in
        let here = co_arm_is (first_span u) [] place with_call i o in
        let there = co_arm_is (first_span (map retell u)) [] call.0 with_call call.1 block.other in
        record {
          marked = unmarked u ++ block.marked;
          lines = lines_spans (sym here) (lines_both (lines_flat flat) block.lines);
          other = other;
          spelled = λ last. subst (λ z. SpellsCoArm other z) (sym (flat_told retell breaks flat block.marked last)) (s.co_arm call.2 (block.spelled (last_of last (tokens_in (unmarked u)))));
          same = same_stmts.co_arm same_exprs.none_left call.3 call.4 block.same;
          again = there ∙ block.again ∙ ap (map respan) (sym here);
        }
    told_co_arm (s.quantified {qs = qs} {place = place} {with_call = with_call} {i = i} {block = o} {u = u} {v = v} {x = x} opening closing h0 h1 h2 h3 h4) =
        let quantifiers = again_quantifiers retell keeps h1 in
        let call = again_co_call retell keeps h3 in
        let front = opening ∷ (u ++ closing ∷ v) in
        let flat = flat_open opening h0 refl (shut_both (inner_of (flat_quantifiers h1)) (shut_flat closing h2 refl (flat_co_call h3))) in
        let block = told_co_block h4 in
        let other = roll-CoArm (record { span = (retell opening).span; quantifiers = quantifiers.0; target = call.0; with_call = with_call; invocation = call.1; block = block.other }) in
        let here = co_arm_is opening.span qs place with_call i o in
        let there = co_arm_is (retell opening).span quantifiers.0 call.0 with_call call.1 block.other in
        record {
          marked = unmarked front ++ block.marked;
          lines = lines_spans (sym here) (subst (λ z. AreLines (opening ∷ z) (unmarked front ++ block.marked) (otherwise_spans o)) (append_assoc u (closing ∷ v) x) (lines_both (lines_flat flat) block.lines));
          other = other;
          spelled = λ last.
              let next = told retell breaks (last_of last (tokens_in (unmarked front))) block.marked in
              subst (λ z. SpellsCoArm other z)
              (sym (flat_told retell breaks flat block.marked last ∙ ap (λ z. retell opening ∷ (z ++ next)) (map-append retell u (closing ∷ v)) ∙ ap (λ z. retell opening ∷ z) (append_assoc (map retell u) (retell closing ∷ map retell v) next)))
              (s.quantified (retell opening) (retell closing) (keeps.kind opening ∙ h0) quantifiers.1 (keeps.kind closing ∙ h2) call.2 (block.spelled (last_of last (tokens_in (unmarked front)))));
          same = same_stmts.co_arm quantifiers.2 call.3 call.4 block.same;
          again = there ∙ block.again ∙ ap (map respan) (sym here);
        }

    pub told_more_co_arms : {others : List CoArm} {u : List Token} → SpellsMoreCoArms others u → ToldPart retell breaks law respan SpellsMoreCoArms SameCoArms (λ xs. joined (map co_arm_spans xs)) others u
    told_more_co_arms s.no_more_co_arms = record { marked = []; lines = lines_none; other = []; spelled = λ last. s.no_more_co_arms; same = same_stmts.no_co_arms; again = refl }
    told_more_co_arms (s.one_more_co_arm {a = a} {more = xs} t h d more) =
        let one = told_co_arm d in
        let rest = told_more_co_arms more in
        record {
          marked = mark false t ∷ (one.marked ++ rest.marked);
          lines = kind_lines t h refl (lines_both one.lines rest.lines);
          other = one.other ∷ rest.other;
          spelled = λ last.
              subst (λ z. SpellsMoreCoArms (one.other ∷ rest.other) z)
              (sym (goes_on retell breaks law respan t h refl (one.marked ++ rest.marked) last ∙ ap (λ z. retell t ∷ z) (told_both retell breaks one.lines rest.marked (Some t.kind))))
              (s.one_more_co_arm (retell t) (keeps.kind t ∙ h) (one.spelled (Some t.kind)) (rest.spelled (last_of (Some t.kind) (tokens_in one.marked))));
          same = same_stmts.more_co_arms one.same rest.same;
          again = ap (λ z. z ++ joined (map co_arm_spans rest.other)) one.again ∙ ap (λ z. map respan (co_arm_spans a) ++ z) rest.again ∙ sym (map-append respan (co_arm_spans a) (joined (map co_arm_spans xs)));
        }

    pub told_statement : {x : Statement} {u : List Token} → SpellsStatement x u → ToldItem retell breaks law respan SpellsStatement SameStatement spans_in x u
    told_statement (s.if {bs = bs} {o = o} {u = u} {v = v} t closing h0 h1 h2 h3) =
        let guards = told_branches h1 in
        let last = told_otherwise h2 in
        subst (λ z. ToldItem retell breaks law respan SpellsStatement SameStatement spans_in (statement.If t.span bs o) (t ∷ z)) (append_assoc u v (closing ∷ []))
        (closed t closing (u ++ v) h0 h3 refl refl (lines_both guards.lines last.lines)
        (λ before.
        let one = guards.spelled (Some t.kind) in
        let two = last.spelled (last_of (Some t.kind) (tokens_in guards.marked)) in
        let r = trail_otherwise (breaks before closing) (law.seps before closing) one two in
        subst (λ z. SpellsStatement (statement.If (retell t).span guards.other last.other) (retell t ∷ z))
        (regroup r.first r.second (told retell breaks (Some t.kind) guards.marked) (told retell breaks (last_of (Some t.kind) (tokens_in guards.marked)) last.marked) (breaks before closing) (retell closing ∷ []) r.is
        ∙ ap (λ z. z ++ (breaks before closing ++ retell closing ∷ [])) (sym (told_both retell breaks guards.lines last.marked (Some t.kind))))
        (s.if (retell t) (retell closing) (keeps.kind t ∙ h0) r.one r.other (keeps.kind closing ∙ h3)))
        (same_stmts.if_ guards.same last.same)
        (if_is t.span bs o)
        (if_is (retell t).span guards.other last.other ∙ ap (λ z. (retell t).span ∷ z) (two_again (joined (map branch_spans guards.other)) (otherwise_spans last.other) (joined (map branch_spans bs)) (otherwise_spans o) guards.again last.again)))
    told_statement (s.do_ {bs = bs} {o = o} {u = u} {v = v} t closing h0 h1 h2 h3) =
        let guards = told_branches h1 in
        let last = told_otherwise h2 in
        subst (λ z. ToldItem retell breaks law respan SpellsStatement SameStatement spans_in (statement.Do t.span bs o) (t ∷ z)) (append_assoc u v (closing ∷ []))
        (closed t closing (u ++ v) h0 h3 refl refl (lines_both guards.lines last.lines)
        (λ before.
        let one = guards.spelled (Some t.kind) in
        let two = last.spelled (last_of (Some t.kind) (tokens_in guards.marked)) in
        let r = trail_otherwise (breaks before closing) (law.seps before closing) one two in
        subst (λ z. SpellsStatement (statement.Do (retell t).span guards.other last.other) (retell t ∷ z))
        (regroup r.first r.second (told retell breaks (Some t.kind) guards.marked) (told retell breaks (last_of (Some t.kind) (tokens_in guards.marked)) last.marked) (breaks before closing) (retell closing ∷ []) r.is
        ∙ ap (λ z. z ++ (breaks before closing ++ retell closing ∷ [])) (sym (told_both retell breaks guards.lines last.marked (Some t.kind))))
        (s.do_ (retell t) (retell closing) (keeps.kind t ∙ h0) r.one r.other (keeps.kind closing ∙ h3)))
        (same_stmts.do_ guards.same last.same)
        (do_is t.span bs o)
        (do_is (retell t).span guards.other last.other ∙ ap (λ z. (retell t).span ∷ z) (two_again (joined (map branch_spans guards.other)) (otherwise_spans last.other) (joined (map branch_spans bs)) (otherwise_spans o) guards.again last.again)))
    told_statement (s.for_all {qs = qs} {is = is} {u = u} {v = v} t arrow closing h0 h1 h2 h3 h4) =
        let quantifiers = again_quantifiers retell keeps h1 in
        let flat = flat_quantifiers h1 in
        let block = told_block h3 in
        let inside = unmarked u ++ mark false arrow ∷ block.marked in
        let next = told retell breaks (Some arrow.kind) block.marked in
        subst (λ z. ToldItem retell breaks law respan SpellsStatement SameStatement spans_in (statement.ForAll t.span qs is) (t ∷ z)) (append_assoc u (arrow ∷ v) (closing ∷ []))
        (closed t closing (u ++ arrow ∷ v) h0 h4 refl refl (lines_both (lines_flat flat) (kind_lines arrow h2 refl block.lines))
        (λ before.
        let seps = breaks before closing in
        let e : told retell breaks (Some t.kind) inside ≡ map retell u ++ retell arrow ∷ next =
        flat_told retell breaks flat (mark false arrow ∷ block.marked) (Some t.kind) ∙ ap (λ z. map retell u ++ z) (token_told retell breaks arrow h2 refl block.marked (last_of (Some t.kind) (tokens_in (unmarked u)))) in
        subst (λ z. SpellsStatement (statement.ForAll (retell t).span quantifiers.0 block.other) (retell t ∷ z))
        (ap (λ z. map retell u ++ retell arrow ∷ z) (append_assoc next seps (retell closing ∷ [])) ∙ sym (append_assoc (map retell u) (retell arrow ∷ next) (seps ++ retell closing ∷ [])) ∙ ap (λ z. z ++ (seps ++ retell closing ∷ [])) (sym e))
        (s.for_all (retell t) (retell arrow) (retell closing) (keeps.kind t ∙ h0) quantifiers.1 (keeps.kind arrow ∙ h2) (trail_block seps (law.seps before closing) (block.spelled (Some arrow.kind))) (keeps.kind closing ∙ h4)))
        (same_stmts.for_all quantifiers.2 block.same)
        (statement_is (Statement-F.ForAll t.span qs is) (statement.rolls-ForAll t.span qs is))
        (statement_is (Statement-F.ForAll (retell t).span quantifiers.0 block.other) (statement.rolls-ForAll (retell t).span quantifiers.0 block.other) ∙ ap (λ z. (retell t).span ∷ z) block.again))
    told_statement (s.in_ {a = a} {more = xs} {o = o} {u = u} {v = v} {x = x} t closing h0 h1 h2 h3 h4) =
        let one = told_arm h1 in
        let more = told_more_arms h2 in
        let last = told_otherwise h3 in
        subst (λ z. ToldItem retell breaks law respan SpellsStatement SameStatement spans_in (statement.In t.span (a ∷ xs) o) (t ∷ z)) (append_assoc (u ++ v) x (closing ∷ []) ∙ append_assoc u v (x ++ closing ∷ []))
        (closed t closing ((u ++ v) ++ x) h0 h4 refl refl (lines_both (lines_both one.lines more.lines) last.lines)
        (λ before.
        let first = told retell breaks (Some t.kind) one.marked in
        let next = last_of (Some t.kind) (tokens_in one.marked) in
        let second = told retell breaks next more.marked in
        let after = last_of (Some t.kind) (tokens_in (one.marked ++ more.marked)) in
        let third = told retell breaks after last.marked in
        let seps = breaks before closing in
        let r = trail_in seps (law.seps before closing) (one.spelled (Some t.kind)) (more.spelled next) (last.spelled after) in
        subst (λ z. SpellsStatement (statement.In (retell t).span (one.other ∷ more.other) last.other) (retell t ∷ z))
        (r.is (retell closing ∷ []) ∙ ap (λ z. z ++ (seps ++ retell closing ∷ []))
        (ap (λ z. z ++ third) (sym (told_both retell breaks one.lines more.marked (Some t.kind))) ∙ sym (told_both retell breaks (lines_both one.lines more.lines) last.marked (Some t.kind))))
        (s.in_ (retell t) (retell closing) (keeps.kind t ∙ h0) r.arm r.more r.otherwise (keeps.kind closing ∙ h4)))
        (same_stmts.in_ (same_stmts.more_arms one.same more.same) last.same)
        (in_is t.span (a ∷ xs) o)
        (in_is (retell t).span (one.other ∷ more.other) last.other
        ∙ ap (λ z. (retell t).span ∷ z) (two_again (arm_spans one.other ++ joined (map arm_spans more.other)) (otherwise_spans last.other) (arm_spans a ++ joined (map arm_spans xs)) (otherwise_spans o)
        (two_again (arm_spans one.other) (joined (map arm_spans more.other)) (arm_spans a) (joined (map arm_spans xs)) one.again more.again) last.again)))
    told_statement (s.co {a = a} {more = xs} {u = u} {v = v} t closing h0 h1 h2 h3) =
        let one = told_co_arm h1 in
        let more = told_more_co_arms h2 in
        subst (λ z. ToldItem retell breaks law respan SpellsStatement SameStatement spans_in (statement.Co t.span (a ∷ xs)) (t ∷ z)) (append_assoc u v (closing ∷ []))
        (closed t closing (u ++ v) h0 h3 refl refl (lines_both one.lines more.lines)
        (λ before.
        let first = told retell breaks (Some t.kind) one.marked in
        let second = told retell breaks (last_of (Some t.kind) (tokens_in one.marked)) more.marked in
        subst (λ z. SpellsStatement (statement.Co (retell t).span (one.other ∷ more.other)) (retell t ∷ z))
        (sym (append_assoc first second (retell closing ∷ []))
        ∙ ap (λ z. z ++ retell closing ∷ []) (sym (told_both retell breaks one.lines more.marked (Some t.kind)))
        ∙ ap (λ z. told retell breaks (Some t.kind) (one.marked ++ more.marked) ++ (z ++ retell closing ∷ [])) (sym (law.none before closing (ap continues_line h3))))
        (s.co (retell t) (retell closing) (keeps.kind t ∙ h0) (one.spelled (Some t.kind)) (more.spelled (last_of (Some t.kind) (tokens_in one.marked))) (keeps.kind closing ∙ h3)))
        (same_stmts.co (same_stmts.more_co_arms one.same more.same))
        (co_is t.span (a ∷ xs))
        (co_is (retell t).span (one.other ∷ more.other) ∙ ap (λ z. (retell t).span ∷ z) (two_again (co_arm_spans one.other) (joined (map co_arm_spans more.other)) (co_arm_spans a) (joined (map co_arm_spans xs)) one.again more.again)))
    told_statement d = told_simple retell keeps breaks law respan moves d tt
