-- Components and files told again.
use Rattle.std.proofs.Common.{◌≡◌, Bool, true, false, not, ◌&&◌, List, [], ◌∷◌, ◌++◌, map, flat_map, refl, ap, sym, subst, ◌∙◌, append_assoc, Option, Some, None, inl}
use Rattle.std.proofs.lemmas.List.{append-nil, map-append}
use Rattle.sr_value.specs.declared.place.Span.{Span}
use Rattle.sr_tree.specs.declared.component.Component.{Component}
use Rattle.sr_tree.specs.declared.component.Component.TheVariants.{Resource, SplitResource, Global}
use Rattle.sr_tree.specs.declared.component.File.{File}
use Rattle.sr_tree.specs.declared.component.FinalCode.{FinalCode}
use Rattle.sr_tree.specs.declared.component.Item.{Item}
use Rattle.sr_tree.specs.declared.component.Item.TheVariants as item
use Rattle.sr_tree.specs.declared.component.Proc.{Proc}
use Rattle.sr_tree.specs.declared.component.ProcItem.{ProcItem}
use Rattle.sr_tree.specs.declared.component.ProcItem.TheVariants as proc_item
use Rattle.sr_tree.specs.declared.component.Procedure.{Procedure}
use Rattle.sr_tree.specs.declared.component.Process.{Process}
use Rattle.sr_tree.specs.declared.component.SpecItem.{SpecItem}
use Rattle.sr_tree.specs.declared.component.SpecItem.TheVariants as spec_item
use Rattle.sr_tree.specs.declared.name.Name.{Name}
use Rattle.sr_tree.specs.declared.types.Formal.{Formal}
use Rattle.sr_tree.specs.declared.token.Token.{Token}
use Rattle.sr_tree.specs.declared.token.TokenKind.{TokenKind}
use Rattle.sr_tree.specs.declared.token.Word.TheVariants as word
use Rattle.sr_tree.specs.Components as c
use Rattle.sr_tree.specs.Components.{SpellsList, SpellsEndName, SpellsEnd, SpellsSpecItem, SpellsProcItem, SpellsProc, SpellsProcedure, SpellsProcess, SpellsFinal, SpellsItem, SpellsOptionalFormals, SpellsComponent, Spells}
use Rattle.sr_tree.specs.Tables.{IsWord, IsName, name_of}
use Rattle.sr_tree.specs.Tokens.{is_separator}
use Rattle.sr_lexer.specs.Roles.{continues_line}
use Rattle.sr_order.specs.Spans.{inner_statements, block_statements, item_statements, component_statements, statement_spans}
use Rattle.sr_fmt.specs.Layout.{begins_line}
use Rattle.sr_grammar_laws.specs.Retelling.{Keeps}
use Rattle.sr_grammar_laws.specs.SameExpressions as same_exprs
use Rattle.sr_grammar_laws.specs.SameExpressions.{SameList, SameName}
use Rattle.sr_grammar_laws.specs.SameComponents as same_comps
use Rattle.sr_grammar_laws.specs.SameComponents.{SameSpecItem, SameProcItem, SameProc, SameProcedure, SameProcess, SameFinalCode, SameItem, SameComponent, SameFile}
use Rattle.sr_grammar_laws.proofs.AgainDeclarations.{again_import, again_const, again_type_decl, again_op_type, again_op, again_var, again_sem}
use Rattle.sr_grammar_laws.proofs.AgainParts.{again_optional_names, again_returned_name, again_optional_quantifiers}
use Rattle.sr_grammar_laws.proofs.AgainComponents.{again_optional_formals, by_value_same, finals_same, finals_same_by, of_resource_same}
use Rattle.sr_grammar_laws.proofs.AgainTypes.{again_formals, again_signature}
use Rattle.sr_grammar_laws.proofs.Retold.{same_name, name_text}
use Rattle.sr_grammar_laws.proofs.Trailing.{trail_list}
use Rattle.sr_comes_back.proofs.Ending.{Ends, KeepsEnd, keeps_none, keeps_of, ends_skip, ends_with, ends_after, may_end_is}
use Rattle.sr_comes_back.proofs.EndsDeclarations.{ends_import, ends_const, ends_type_decl, ends_op_type, ends_op, ends_var, ends_sem}
use Rattle.sr_comes_back.proofs.Flat.{in_plain, Flat, none_flat, flat_token, flat_open, shut_both, shut_flat, inner_of, plain_is}
use Rattle.sr_comes_back.proofs.FlatDeclarations.{headed_import, headed_const, headed_type_decl, headed_op_type, headed_op, headed_var, headed_sem}
use Rattle.sr_comes_back.proofs.FlatParts.{flat_optional_names, flat_returned_name, flat_optional_quantifiers}
use Rattle.sr_comes_back.proofs.FlatTypes.{flat_formals, flat_signature}
use Rattle.sr_comes_back.proofs.Lines.{Marked, mark, unmarked, tokens_in, tokens_in-append, tokens_unmarked, last_of, AreLines, lines_flat, lines_both, lines_spans, tell_flat}
use Rattle.sr_comes_back.proofs.Telling.{Breaks, any_list, told, told_both, token_told, line_told, flat_told, ToldItem, ToldList, list_none, list_separator, list_one}
use Rattle.sr_comes_back.proofs.ToldStatements.{kind_lines, headed_item, lift_item, told_statement}

both_parts : (a b : Bool) → (a && b) ≡ true → (a ≡ true) × (b ≡ true)
both_parts true b e = (refl, e)
both_parts false b e = absurd (cc)

not_true : (b : Bool) → not b ≡ true → b ≡ false
not_true true e = absurd (cc)
not_true false e = refl

flat_optional_formals : {fs : List Formal} {u : List Token} → SpellsOptionalFormals fs u → Flat u
flat_optional_formals c.no_formals = none_flat
flat_optional_formals (c.some_formals d) = flat_formals d

-- the name at the end
end_flat : {name : Name} {u : List Token} → SpellsEndName name u → Flat u
end_flat c.unnamed = none_flat
end_flat (c.ends n h e) = flat_token n (plain_is n h refl) none_flat

end_keeps : {name : Name} {u : List Token} → SpellsEndName name u → KeepsEnd u
end_keeps c.unnamed = keeps_none
end_keeps (c.ends n h e) = keeps_of (ends_with n (may_end_is n h refl) keeps_none)

abbrev no_spans : List Span
no_spans = []

-- a word with which such a component or proc begins
abbrev opens_block : TokenKind → Bool
opens_block kind = (begins_line 0 false kind && in_plain kind) && (not (is_separator kind) && not (continues_line kind))

module _ (retell : Token → Token) (keeps : Keeps retell) (breaks : Option TokenKind → Token → List Token) (law : Breaks breaks) (respan : Span → Span) (moves : (t : Token) → (retell t).span ≡ respan t.span) where
  again_end_name : {name name' : Name} {u : List Token} → SameName name name' → SpellsEndName name u → SpellsEndName name' (map retell u)
  again_end_name same c.unnamed = c.unnamed
  again_end_name same (c.ends n h e) = c.ends (retell n) (keeps.kind n ∙ h) (name_text retell keeps n h ∙ e ∙ same)

  -- ---- lists

  pub told_listed : {X : Type 0} {S : X → List Token → Type 0} (Same : X → X → Type 0) (spans : X → List Span) → ((x : X) (u : List Token) → S x u → ToldItem retell breaks law respan S Same spans x u)
      → {b : Bool} {xs : List X} {u : List Token} → SpellsList S b xs u → ToldList retell breaks law respan (λ b. SpellsList S b) (SameList Same) (flat_map spans) xs u
  told_listed {S = S} Same spans each c.stop_here = list_none retell breaks law respan (any_list S) Same (SameList Same) spans (flat_map spans) (λ x y xs ys same more. same_exprs.one_more same more) (λ x xs. refl) same_exprs.none_left refl
  told_listed {S = S} Same spans each (c.separator {is = xs} {u = u} t h d) =
      list_separator retell breaks law respan (any_list S) Same (SameList Same) spans (flat_map spans) (λ x y xs ys same more. same_exprs.one_more same more) (λ x xs. refl) xs u t h (told_listed Same spans each d)
  told_listed {S = S} Same spans each (c.one {i = x} {is = xs} {u = u} {v = v} d more) =
      list_one retell breaks law respan (any_list S) Same (SameList Same) spans (flat_map spans) (λ x y xs ys same more. same_exprs.one_more same more) (λ x xs. refl) x xs u v (each x u d) (told_listed Same spans each more)

  -- ---- a word, tokens of its line, a list of items, and `end` with a name

  block_item : {P X : Type 0} {S : X → List Token → Type 0} {SameX : X → X → Type 0} (item_spans : X → List Span) {Spelling : P → List Token → Type 0} {Same : P → P → Type 0} {spans : P → List Span} {x : P} {xs : List X} {kind : TokenKind} (other : P) (t e : Token) (front items w : List Token)
      → t.kind ≡ kind → opens_block kind ≡ true → IsWord word.End e → Flat front → Flat w → KeepsEnd w
      → (r : ToldList retell breaks law respan (λ b. SpellsList S b) (SameList SameX) (flat_map item_spans) xs items)
      → ((inside : List Token) → SpellsList S true r.other inside → Spelling other (retell t ∷ (map retell front ++ (inside ++ retell e ∷ map retell w))))
      → Same x other → spans x ≡ flat_map item_spans xs → spans other ≡ flat_map item_spans r.other
      → ToldItem retell breaks law respan Spelling Same spans x (t ∷ (front ++ (items ++ e ∷ w)))
  block_item item_spans {Spelling = Spelling} {xs = xs} {kind = kind} other t e front items w h opens k flat end_flat end_keeps r spelled same here there =
      let two = both_parts (begins_line 0 false kind && in_plain kind) (not (is_separator kind) && not (continues_line kind)) opens in
      let line = both_parts (begins_line 0 false kind) (in_plain kind) two.0 in
      let plain = both_parts (not (is_separator kind)) (not (continues_line kind)) two.1 in
      let kept : (in_plain kind && not (is_separator kind)) ≡ true = ap (λ b. b && not (is_separator kind)) line.1 ∙ plain.0 in
      let last = mark false e ∷ unmarked w in
      let rest = unmarked front ++ (r.marked ++ last) in
      let after_front = last_of (Some t.kind) (tokens_in (unmarked front)) in
      let after_items = last_of after_front (tokens_in r.marked) in
      let inside = told retell breaks after_front r.marked in
      let seps = breaks after_items e in
      let tail : told retell breaks (Some t.kind) rest ≡ map retell front ++ ((inside ++ seps) ++ retell e ∷ map retell w) =
      flat_told retell breaks flat (r.marked ++ last) (Some t.kind)
      ∙ ap (λ z. map retell front ++ z)
      (told_both retell breaks r.lines last after_front
      ∙ ap (λ z. inside ++ z) (line_told retell breaks e k refl (unmarked w) after_items ∙ ap (λ z. seps ++ retell e ∷ z) (tell_flat retell breaks (Some e.kind) end_flat))
      ∙ sym (append_assoc inside seps (retell e ∷ map retell w))) in
      let ends_rest : Ends (e ∷ w) = ends_with e (may_end_is e k refl) end_keeps in
      let ends_marked : Ends (tokens_in last) = subst Ends (ap (λ z. e ∷ z) (sym (tokens_unmarked w))) ends_rest in
      record {
        head = mark false t;
        rest = rest;
        lines = lines_spans (append-nil (flat_map item_spans xs) ∙ sym here)
            (kind_lines t h kept (lines_both (lines_flat flat) (lines_both r.lines (kind_lines e k refl (lines_flat end_flat)))));
        starts = ap (begins_line 0 false) h ∙ line.0;
        level = ap in_plain h ∙ line.1;
        new = ap continues_line h ∙ not_true (continues_line kind) plain.1;
        ends = subst Ends (ap (λ z. t ∷ z) (sym (tokens_in-append (unmarked front) (r.marked ++ last) ∙ ap (λ z. tokens_in (unmarked front) ++ z) (tokens_in-append r.marked last))))
            (ends_skip t (ends_after (tokens_in (unmarked front)) (ends_after (tokens_in r.marked) ends_marked)));
        other = other;
        spelled = subst (λ z. Spelling other (retell t ∷ z)) (sym tail) (spelled (inside ++ seps) (trail_list seps (law.seps after_items e) (r.spelled after_front true (inl refl))));
        same = same;
        again = there ∙ r.again ∙ ap (map respan) (sym here);
      }

  -- ---- items

  pub told_spec_item : (i : SpecItem) (u : List Token) → SpellsSpecItem i u → ToldItem retell breaks law respan SpellsSpecItem SameSpecItem (λ i. no_spans) i u
  told_spec_item i u (c.imports d) = let r = again_import retell keeps d in headed_item retell keeps breaks law respan moves (spec_item.Import r.0) (headed_import d) (ends_import d) (c.imports r.1) (same_comps.import r.2) refl refl
  told_spec_item i u (c.constant d) = let r = again_const retell keeps d in headed_item retell keeps breaks law respan moves (spec_item.Const r.0) (headed_const d) (ends_const d) (c.constant r.1) (same_comps.const r.2) refl refl
  told_spec_item i u (c.type_decl d) = let r = again_type_decl retell keeps d in headed_item retell keeps breaks law respan moves (spec_item.Type r.0) (headed_type_decl d) (ends_type_decl d) (c.type_decl r.1) (same_comps.type_ r.2) refl refl
  told_spec_item i u (c.optype d) = let r = again_op_type retell keeps d in headed_item retell keeps breaks law respan moves (spec_item.OpType r.0) (headed_op_type d) (ends_op_type d) (c.optype r.1) (same_comps.op_type r.2) refl refl
  told_spec_item i u (c.op d) = let r = again_op retell keeps d in headed_item retell keeps breaks law respan moves (spec_item.Op r.0) (headed_op d) (ends_op d) (c.op r.1) (same_comps.op r.2) refl refl
  told_spec_item i u (c.variables d) = let r = again_var retell keeps d in headed_item retell keeps breaks law respan moves (spec_item.Var r.0) (headed_var d) (ends_var d) (c.variables r.1) (same_comps.var r.2) refl refl
  told_spec_item i u (c.semaphores d) = let r = again_sem retell keeps d in headed_item retell keeps breaks law respan moves (spec_item.Sem r.0) (headed_sem d) (ends_sem d) (c.semaphores r.1) (same_comps.sem r.2) refl refl

  pub told_proc_item : (i : ProcItem) (u : List Token) → SpellsProcItem i u → ToldItem retell breaks law respan SpellsProcItem SameProcItem inner_statements i u
  told_proc_item i u (c.constant d) = let r = again_const retell keeps d in headed_item retell keeps breaks law respan moves (proc_item.Const r.0) (headed_const d) (ends_const d) (c.constant r.1) (same_comps.const r.2) refl refl
  told_proc_item i u (c.variables d) = let r = again_var retell keeps d in headed_item retell keeps breaks law respan moves (proc_item.Var r.0) (headed_var d) (ends_var d) (c.variables r.1) (same_comps.var r.2) refl refl
  told_proc_item i u (c.op d) = let r = again_op retell keeps d in headed_item retell keeps breaks law respan moves (proc_item.Op r.0) (headed_op d) (ends_op d) (c.op r.1) (same_comps.op r.2) refl refl
  told_proc_item i u (c.semaphores d) = let r = again_sem retell keeps d in headed_item retell keeps breaks law respan moves (proc_item.Sem r.0) (headed_sem d) (ends_sem d) (c.semaphores r.1) (same_comps.sem r.2) refl refl
  told_proc_item i u (c.a_statement d) =
      lift_item retell keeps breaks law respan moves SpellsProcItem SameProcItem inner_statements proc_item.Statement (λ x u d. c.a_statement d) (λ x y same. same_comps.statement same) (λ x. refl) (told_statement retell keeps breaks law respan moves d)

  pub told_block_list : {b : Bool} {is : List ProcItem} {u : List Token} → SpellsList SpellsProcItem b is u → ToldList retell breaks law respan (λ b. SpellsList SpellsProcItem b) (SameList SameProcItem) (flat_map inner_statements) is u
  told_block_list d = told_listed SameProcItem inner_statements told_proc_item d

  told_proc : {p : Proc} {u : List Token} → SpellsProc p u → ToldItem retell breaks law respan SpellsProc SameProc (λ p. block_statements p.block) p u
  told_proc (c.proc {ns = ns} {r = r} {is = is} {u = u} {v = v} {x = x} t n opening closing h0 h1 h2 h3 h4 h5 h6 (c.end_ {u = w} e k name)) =
      let this : Proc = record { span = t.span; name = name_of n; formals = ns; returned = r; block = is } in
      let names = again_optional_names retell keeps h3 in
      let returned = again_returned_name retell keeps h5 in
      let block = told_block_list h6 in
      let front = n ∷ opening ∷ (u ++ closing ∷ v) in
      let other : Proc = record { span = (retell t).span; name = name_of (retell n); formals = names.0; returned = returned.0; block = block.other } in
      subst (λ z. ToldItem retell breaks law respan SpellsProc SameProc (λ p. block_statements p.block) this (t ∷ n ∷ opening ∷ z)) (append_assoc u (closing ∷ v) (x ++ e ∷ w))
      (block_item inner_statements other t e front x w h0 refl k
      (flat_token n (plain_is n h1 refl) (flat_open opening h2 refl (shut_both (inner_of (flat_optional_names h3)) (shut_flat closing h4 refl (flat_returned_name h5)))))
      (end_flat name) (end_keeps name) block
      (λ inside d.
      subst (λ z. SpellsProc other (retell t ∷ retell n ∷ retell opening ∷ z))
      (sym (ap (λ z. z ++ (inside ++ retell e ∷ map retell w)) (map-append retell u (closing ∷ v)) ∙ append_assoc (map retell u) (retell closing ∷ map retell v) (inside ++ retell e ∷ map retell w)))
      (c.proc (retell t) (retell n) (retell opening) (retell closing) (keeps.kind t ∙ h0) (keeps.kind n ∙ h1) (keeps.kind opening ∙ h2) names.1 (keeps.kind closing ∙ h4) returned.1 d (c.end_ (retell e) (keeps.kind e ∙ k) (again_end_name (same_name retell keeps n h1) name))))
      (same_comps.proc (same_name retell keeps n h1) names.2 returned.2 block.same) refl refl)

  told_procedure : {p : Procedure} {u : List Token} → SpellsProcedure p u → ToldItem retell breaks law respan SpellsProcedure SameProcedure (λ p. block_statements p.block) p u
  told_procedure (c.procedure {u = u} {v = v} t n h0 h1 h2 h3 (c.end_ {u = w} e k name)) =
      let signature = again_signature retell keeps h2 in
      let block = told_block_list h3 in
      let other : Procedure = record { span = (retell t).span; name = name_of (retell n); signature = signature.0; block = block.other } in
      block_item inner_statements other t e (n ∷ u) v w h0 refl k (flat_token n (plain_is n h1 refl) (flat_signature h2)) (end_flat name) (end_keeps name) block
      (λ inside d. c.procedure (retell t) (retell n) (keeps.kind t ∙ h0) (keeps.kind n ∙ h1) signature.1 d (c.end_ (retell e) (keeps.kind e ∙ k) (again_end_name (same_name retell keeps n h1) name)))
      (same_comps.procedure (same_name retell keeps n h1) signature.2 block.same) refl refl

  told_process : {p : Process} {u : List Token} → SpellsProcess p u → ToldItem retell breaks law respan SpellsProcess SameProcess (λ p. block_statements p.block) p u
  told_process (c.process {u = u} {v = v} t n h0 h1 h2 h3 (c.end_ {u = w} e k name)) =
      let quantifiers = again_optional_quantifiers retell keeps h2 in
      let block = told_block_list h3 in
      let other : Process = record { span = (retell t).span; name = name_of (retell n); quantifiers = quantifiers.0; block = block.other } in
      block_item inner_statements other t e (n ∷ u) v w h0 refl k (flat_token n (plain_is n h1 refl) (flat_optional_quantifiers h2)) (end_flat name) (end_keeps name) block
      (λ inside d. c.process (retell t) (retell n) (keeps.kind t ∙ h0) (keeps.kind n ∙ h1) quantifiers.1 d (c.end_ (retell e) (keeps.kind e ∙ k) (again_end_name (same_name retell keeps n h1) name)))
      (same_comps.process (same_name retell keeps n h1) quantifiers.2 block.same) refl refl

  told_final : {p : FinalCode} {u : List Token} → SpellsFinal p u → ToldItem retell breaks law respan SpellsFinal SameFinalCode (λ p. block_statements p.block) p u
  told_final (c.final {u = u} t e h0 h1 k) =
      let block = told_block_list h1 in
      let other : FinalCode = record { span = (retell t).span; block = block.other } in
      block_item inner_statements other t e [] u [] h0 refl k none_flat none_flat keeps_none block
      (λ inside d. c.final (retell t) (retell e) (keeps.kind t ∙ h0) d (keeps.kind e ∙ k))
      (same_comps.final_code block.same) refl refl

  pub told_item : (i : Item) (u : List Token) → SpellsItem i u → ToldItem retell breaks law respan SpellsItem SameItem item_statements i u
  told_item i u (c.spec d) = lift_item retell keeps breaks law respan moves SpellsItem SameItem item_statements item.Spec (λ x u d. c.spec d) (λ x y same. same_comps.spec same) (λ x. refl) (told_spec_item _ _ d)
  told_item i u (c.proc d) = lift_item retell keeps breaks law respan moves SpellsItem SameItem item_statements item.Proc (λ x u d. c.proc d) (λ x y same. same_comps.proc same) (λ x. refl) (told_proc d)
  told_item i u (c.procedure d) = lift_item retell keeps breaks law respan moves SpellsItem SameItem item_statements item.Procedure (λ x u d. c.procedure d) (λ x y same. same_comps.procedure same) (λ x. refl) (told_procedure d)
  told_item i u (c.process d) = lift_item retell keeps breaks law respan moves SpellsItem SameItem item_statements item.Process (λ x u d. c.process d) (λ x y same. same_comps.process same) (λ x. refl) (told_process d)
  told_item i u (c.final d) = lift_item retell keeps breaks law respan moves SpellsItem SameItem item_statements item.Final (λ x u d. c.final d) (λ x y same. same_comps.final same) (λ x. refl) (told_final d)
  told_item i u (c.a_statement d) = lift_item retell keeps breaks law respan moves SpellsItem SameItem item_statements item.Statement (λ x u d. c.a_statement d) (λ x y same. same_comps.statement same) (λ x. refl) (told_statement retell keeps breaks law respan moves d)

  -- ---- components

  none_joined : {X : Type 0} (xs : List X) → flat_map (λ (x : X). no_spans) xs ≡ []
  none_joined [] = refl
  none_joined (x ∷ xs) = none_joined xs

  -- from `body` on
  record Tail (items_after : List Item) (b e : Token) (front items w : List Token) : Type 0 where
    marked : List Marked
    lines : AreLines (b ∷ (front ++ (items ++ e ∷ w))) marked (flat_map item_statements items_after)
    other : List Item
    inside : List Token
    listed : SpellsList SpellsItem true other inside
    is_told : (last : Option TokenKind) → told retell breaks last marked ≡ breaks last b ++ retell b ∷ (map retell front ++ (inside ++ retell e ∷ map retell w))
    ends : Ends (tokens_in marked)
    same : SameList SameItem items_after other
    again : flat_map item_statements other ≡ map respan (flat_map item_statements items_after)

  tail : {xs : List Item} {items w : List Token} (b e : Token) (front : List Token) → IsWord word.Body b → IsWord word.End e → Flat front → Flat w → KeepsEnd w → SpellsList SpellsItem true xs items → Tail xs b e front items w
  tail {xs = xs} {items = items} {w = w} b e front h k flat end_flat end_keeps d =
      let r = told_listed SameItem item_statements told_item d in
      let last = mark false e ∷ unmarked w in
      let after_front = last_of (Some b.kind) (tokens_in (unmarked front)) in
      let after_items = last_of after_front (tokens_in r.marked) in
      let inside = told retell breaks after_front r.marked in
      let seps = breaks after_items e in
      let rest = unmarked front ++ (r.marked ++ last) in
      let ends_marked : Ends (tokens_in last) = subst Ends (ap (λ z. e ∷ z) (sym (tokens_unmarked w))) (ends_with e (may_end_is e k refl) end_keeps) in
      record {
        marked = mark false b ∷ rest;
        lines = lines_spans (append-nil (flat_map item_statements xs)) (kind_lines b h refl (lines_both (lines_flat flat) (lines_both r.lines (kind_lines e k refl (lines_flat end_flat)))));
        other = r.other;
        inside = inside ++ seps;
        listed = trail_list seps (law.seps after_items e) (r.spelled after_front true (inl refl));
        is_told = λ before.
            line_told retell breaks b h refl rest before
            ∙ ap (λ z. breaks before b ++ retell b ∷ z)
            (flat_told retell breaks flat (r.marked ++ last) (Some b.kind)
            ∙ ap (λ z. map retell front ++ z)
            (told_both retell breaks r.lines last after_front
            ∙ ap (λ z. inside ++ z) (line_told retell breaks e k refl (unmarked w) after_items ∙ ap (λ z. seps ++ retell e ∷ z) (tell_flat retell breaks (Some e.kind) end_flat))
            ∙ sym (append_assoc inside seps (retell e ∷ map retell w))));
        ends = subst Ends (ap (λ z. b ∷ z) (sym (tokens_in-append (unmarked front) (r.marked ++ last) ∙ ap (λ z. tokens_in (unmarked front) ++ z) (tokens_in-append r.marked last))))
            (ends_skip b (ends_after (tokens_in (unmarked front)) (ends_after (tokens_in r.marked) ends_marked)));
        same = r.same;
        again = r.again;
      }

  -- a component with a spec and a body
  two_lists : {x : Component} {ss : List SpecItem} {xs : List Item} {kind : TokenKind} (other : Component) (t n b e : Token) (u front items w : List Token)
      → t.kind ≡ kind → opens_block kind ≡ true → IsName n
      → (r : ToldList retell breaks law respan (λ b. SpellsList SpellsSpecItem b) (SameList SameSpecItem) (flat_map (λ i. no_spans)) ss u) (after : Tail xs b e front items w)
      → ((specs : List Token) → SpellsList SpellsSpecItem true r.other specs → SpellsComponent other (retell t ∷ retell n ∷ (specs ++ retell b ∷ (map retell front ++ (after.inside ++ retell e ∷ map retell w)))))
      → SameComponent x other → component_statements x ≡ flat_map item_statements xs → component_statements other ≡ flat_map item_statements after.other
      → ToldItem retell breaks law respan SpellsComponent SameComponent component_statements x (t ∷ n ∷ (u ++ b ∷ (front ++ (items ++ e ∷ w))))
  two_lists {ss = ss} {xs = xs} {kind = kind} other t n b e u front items w h opens hn r after spelled same here there =
      let two = both_parts (begins_line 0 false kind && in_plain kind) (not (is_separator kind) && not (continues_line kind)) opens in
      let line = both_parts (begins_line 0 false kind) (in_plain kind) two.0 in
      let plain = both_parts (not (is_separator kind)) (not (continues_line kind)) two.1 in
      let kept : (in_plain kind && not (is_separator kind)) ≡ true = ap (λ b. b && not (is_separator kind)) line.1 ∙ plain.0 in
      let before_body = last_of (Some n.kind) (tokens_in r.marked) in
      let specs = told retell breaks (Some n.kind) r.marked in
      let seps = breaks before_body b in
      let close = retell b ∷ (map retell front ++ (after.inside ++ retell e ∷ map retell w)) in
      let tail_is : told retell breaks (Some t.kind) (mark false n ∷ (r.marked ++ after.marked)) ≡ retell n ∷ ((specs ++ seps) ++ close) =
      token_told retell breaks n hn refl (r.marked ++ after.marked) (Some t.kind)
      ∙ ap (λ z. retell n ∷ z) (told_both retell breaks r.lines after.marked (Some n.kind) ∙ ap (λ z. specs ++ z) (after.is_told before_body) ∙ sym (append_assoc specs seps close)) in
      record {
        head = mark false t;
        rest = mark false n ∷ (r.marked ++ after.marked);
        lines = lines_spans (ap (λ z. z ++ flat_map item_statements xs) (none_joined ss) ∙ sym here) (kind_lines t h kept (kind_lines n hn refl (lines_both r.lines after.lines)));
        starts = ap (begins_line 0 false) h ∙ line.0;
        level = ap in_plain h ∙ line.1;
        new = ap continues_line h ∙ not_true (continues_line kind) plain.1;
        ends = subst Ends (ap (λ z. t ∷ n ∷ z) (sym (tokens_in-append r.marked after.marked))) (ends_skip t (ends_skip n (ends_after (tokens_in r.marked) after.ends)));
        other = other;
        spelled = subst (λ z. SpellsComponent other (retell t ∷ z)) (sym tail_is) (spelled (specs ++ seps) (trail_list seps (law.seps before_body b) (r.spelled (Some n.kind) true (inl refl))));
        same = same;
        again = there ∙ after.again ∙ ap (map respan) (sym here);
      }

  told_specs : {b : Bool} {ss : List SpecItem} {u : List Token} → SpellsList SpellsSpecItem b ss u → ToldList retell breaks law respan (λ b. SpellsList SpellsSpecItem b) (SameList SameSpecItem) (flat_map (λ i. no_spans)) ss u
  told_specs d = told_listed SameSpecItem (λ i. no_spans) told_spec_item d

  pub told_component : (x : Component) (u : List Token) → SpellsComponent x u → ToldItem retell breaks law respan SpellsComponent SameComponent component_statements x u
  told_component x z (c.resource {u = u} {v = v} t n h0 h1 h2 h3 h4 h5 (c.end_ {u = w} e k name)) =
      let formals = again_formals retell keeps h2 in
      let items = told_listed SameItem item_statements told_item h4 in
      let other = Resource (retell t).span (name_of (retell n)) formals.0 items.other in
      block_item item_statements other t e (n ∷ u) v w h0 refl k (flat_token n (plain_is n h1 refl) (flat_formals h2)) (end_flat name) (end_keeps name) items
      (λ inside d. c.resource (retell t) (retell n) (keeps.kind t ∙ h0) (keeps.kind n ∙ h1) formals.1 (by_value_same formals.2 h3) d (finals_same_by items.same h5) (c.end_ (retell e) (keeps.kind e ∙ k) (again_end_name (same_name retell keeps n h1) name)))
      (same_comps.resource (same_name retell keeps n h1) formals.2 items.same) refl refl
  told_component x z (c.split_resource {u = u} {v = v} {x = items} t n b m h0 h1 h2 h3 h4 h5 h6 h7 h8 h9 h10 (c.end_ {u = w} e k name)) =
      let specs = told_specs h2 in
      let formals = again_optional_formals retell keeps h7 in
      let after = tail b e (m ∷ v) h4 k (flat_token m (plain_is m h5 refl) (flat_optional_formals h7)) (end_flat name) (end_keeps name) h9 in
      let other = SplitResource (retell t).span (name_of (retell n)) specs.other formals.0 after.other in
      two_lists other t n b e u (m ∷ v) items w h0 refl h1 specs after
      (λ inside d. c.split_resource (retell t) (retell n) (retell b) (retell m) (keeps.kind t ∙ h0) (keeps.kind n ∙ h1) d (of_resource_same specs.same h3) (keeps.kind b ∙ h4) (keeps.kind m ∙ h5) (name_text retell keeps m h5 ∙ h6 ∙ same_name retell keeps n h1) formals.1 (by_value_same formals.2 h8) after.listed (finals_same_by after.same h10) (c.end_ (retell e) (keeps.kind e ∙ k) (again_end_name (same_name retell keeps n h1) name)))
      (same_comps.split_resource (same_name retell keeps n h1) specs.same formals.2 after.same) refl refl
  told_component x z (c.global {ss = ss} {u = u} t n h0 h1 h2 c.no_body (c.end_ {u = w} e k name)) =
      let specs = told_specs h2 in
      let other = Global (retell t).span (name_of (retell n)) specs.other None in
      block_item (λ i. no_spans) other t e (n ∷ []) u w h0 refl k (flat_token n (plain_is n h1 refl) none_flat) (end_flat name) (end_keeps name) specs
      (λ inside d. c.global (retell t) (retell n) (keeps.kind t ∙ h0) (keeps.kind n ∙ h1) d c.no_body (c.end_ (retell e) (keeps.kind e ∙ k) (again_end_name (same_name retell keeps n h1) name)))
      (same_comps.global (same_name retell keeps n h1) specs.same same_exprs.none) (sym (none_joined ss)) (sym (none_joined specs.other))
  told_component x z (c.global {ss = ss} {u = u} t n h0 h1 h2 (c.body {is = is} {u = items} b m h3 h4 h5 h6 h7) (c.end_ {u = w} e k name)) =
      let specs = told_specs h2 in
      let after = tail b e (m ∷ []) h3 k (flat_token m (plain_is m h4 refl) none_flat) (end_flat name) (end_keeps name) h6 in
      let other = Global (retell t).span (name_of (retell n)) specs.other (Some after.other) in
      two_lists other t n b e u (m ∷ []) items w h0 refl h1 specs after
      (λ inside d. c.global (retell t) (retell n) (keeps.kind t ∙ h0) (keeps.kind n ∙ h1) d (c.body (retell b) (retell m) (keeps.kind b ∙ h3) (keeps.kind m ∙ h4) (name_text retell keeps m h4 ∙ h5 ∙ same_name retell keeps n h1) after.listed (finals_same after.same ∙ h7)) (c.end_ (retell e) (keeps.kind e ∙ k) (again_end_name (same_name retell keeps n h1) name)))
      (same_comps.global (same_name retell keeps n h1) specs.same (same_exprs.some after.same)) refl refl

  -- ---- files

  -- a file told again: before its first line no item stands
  pub told_file : {tree : File} {u : List Token} → Spells u tree → (marked : List Marked) × AreLines u marked (statement_spans tree) × (other : File) × Spells (told retell breaks None marked) other × SameFile tree other × (statement_spans other ≡ map respan (statement_spans tree))
  told_file (c.file d) =
      let r = told_listed SameComponent component_statements told_component d in
      (r.marked, r.lines, record { components = r.other }, c.file (r.spelled None true (inl refl)), same_comps.file r.same, r.again)
