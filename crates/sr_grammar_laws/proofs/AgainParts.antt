-- Tokens that are told again spell the same parts of statements.
use Rattle.std.proofs.Common.{Bool, List, [], ◌∷◌, ◌++◌, map, ap, sym, subst, ◌∙◌, Option, Some, None}
use Rattle.std.proofs.lemmas.List.{map-append}
use Rattle.sr_tree.specs.declared.token.Token.{Token}
use Rattle.sr_tree.specs.declared.name.Name.{Name}
use Rattle.sr_tree.specs.declared.expr.Expr.{Expr}
use Rattle.sr_tree.specs.declared.expr.Invocation.{Invocation}
use Rattle.sr_tree.specs.declared.statement.Quantifier.{Quantifier}
use Rattle.sr_tree.specs.declared.statement.ArmCondition.{ArmCondition}
use Rattle.sr_tree.specs.Expressions.{SpellsPrimary}
use Rattle.sr_tree.specs.Statements as s
use Rattle.sr_tree.specs.Statements.{SpellsNamed, SpellsInvocation, SpellsStatus, SpellsMorePlaces, SpellsPlaces, SpellsBy, SpellsSuchThat, SpellsQuantifier, SpellsMoreQuantifiers, SpellsQuantifiers, SpellsOptionalNames, SpellsReturnedName, SpellsCondition, SpellsCallWord, SpellsOptionalQuantifiers, SpellsCoStart, SpellsCoCall}
use Rattle.sr_tree.specs.Tables.{name_of}
use Rattle.sr_grammar_laws.specs.SameExpressions as same_exprs
use Rattle.sr_grammar_laws.specs.SameExpressions.{SameExpr, SameExprs, SameInvocation, SameList, SameName, SameOption, SameOptionalExpr}
use Rattle.sr_grammar_laws.specs.SameStatements as same_stmts
use Rattle.sr_grammar_laws.specs.SameStatements.{SameArmCondition, SameQuantifier}
use Rattle.sr_grammar_laws.specs.Retelling.{Keeps}
use Rattle.sr_grammar_laws.proofs.Retold.{same_name}
use Rattle.sr_grammar_laws.proofs.AgainExpressions.{again_expr, again_primary, call_back, call_is}
use Rattle.sr_grammar_laws.proofs.AgainTypes.{again_names}

module _ (retell : Token → Token) (keeps : Keeps retell) where
  pub again_named : {x : Expr} {u : List Token} → SpellsNamed x u → (x' : Expr) × SpellsNamed x' (map retell u) × SameExpr x x'
  again_named (s.named {u = u} n h0 h1) =
      let r2 = again_primary retell keeps h1 in
      (r2.0, s.named (retell n) (keeps.kind n ∙ h0) r2.1, r2.2)

  pub again_invocation : {x : Invocation} {u : List Token} → SpellsInvocation x u → (x' : Invocation) × SpellsInvocation x' (map retell u) × SameInvocation x x'
  again_invocation (s.invocation {i = i} {u = u} h0) =
      let r1 = again_primary retell keeps h0 in
      let k1 = call_back r1.2 i (call_is i) in
      (k1.0, s.invocation (subst (λ z. SpellsPrimary z (map retell u)) k1.1 r1.1), k1.2)

  pub again_status : {x : Option Expr} {u : List Token} → SpellsStatus x u → (x' : Option Expr) × SpellsStatus x' (map retell u) × SameOptionalExpr x x'
  again_status (s.no_status) = (None, s.no_status, same_exprs.no_expr)
  again_status (s.status {u = u} opening closing h0 h1 h2) =
      let r2 = again_expr retell keeps h1 in
      ((Some r2.0), subst (λ z. SpellsStatus (Some r2.0) z) (sym (ap (λ z. retell opening ∷ z) (map-append retell u (closing ∷ [])))) (s.status (retell opening) (retell closing) (keeps.kind opening ∙ h0) r2.1 (keeps.kind closing ∙ h2)), (same_exprs.some_expr r2.2))

  pub again_more_places : {x : List Expr} {u : List Token} → SpellsMorePlaces x u → (x' : List Expr) × SpellsMorePlaces x' (map retell u) × SameExprs x x'
  again_more_places (s.no_more_places) = ([], s.no_more_places, same_exprs.no_exprs)
  again_more_places (s.one_more_place {u = u} {v = v} comma h0 h1 h2) =
      let r2 = again_primary retell keeps h1 in
      let r3 = again_more_places h2 in
      ((r2.0 ∷ r3.0), subst (λ z. SpellsMorePlaces (r2.0 ∷ r3.0) z) (sym (ap (λ z. retell comma ∷ z) (map-append retell u (v)))) (s.one_more_place (retell comma) (keeps.kind comma ∙ h0) r2.1 r3.1), (same_exprs.more_exprs r2.2 r3.2))

  pub again_places : {x : List Expr} {u : List Token} → SpellsPlaces x u → (x' : List Expr) × SpellsPlaces x' (map retell u) × SameExprs x x'
  again_places (s.no_places) = ([], s.no_places, same_exprs.no_exprs)
  again_places (s.places {u = u} {v = v} h0 h1) =
      let r1 = again_primary retell keeps h0 in
      let r2 = again_more_places h1 in
      ((r1.0 ∷ r2.0), subst (λ z. SpellsPlaces (r1.0 ∷ r2.0) z) (sym (map-append retell u (v))) (s.places r1.1 r2.1), (same_exprs.more_exprs r1.2 r2.2))

  pub again_by : {x : Option Expr} {u : List Token} → SpellsBy x u → (x' : Option Expr) × SpellsBy x' (map retell u) × SameOptionalExpr x x'
  again_by (s.no_by) = (None, s.no_by, same_exprs.no_expr)
  again_by (s.by {u = u} t h0 h1) =
      let r2 = again_expr retell keeps h1 in
      ((Some r2.0), s.by (retell t) (keeps.kind t ∙ h0) r2.1, (same_exprs.some_expr r2.2))

  pub again_such_that : {x : Option Expr} {u : List Token} → SpellsSuchThat x u → (x' : Option Expr) × SpellsSuchThat x' (map retell u) × SameOptionalExpr x x'
  again_such_that (s.no_such_that) = (None, s.no_such_that, same_exprs.no_expr)
  again_such_that (s.such_that {u = u} t h0 h1) =
      let r2 = again_expr retell keeps h1 in
      ((Some r2.0), s.such_that (retell t) (keeps.kind t ∙ h0) r2.1, (same_exprs.some_expr r2.2))

  pub again_quantifier : {x : Quantifier} {u : List Token} → SpellsQuantifier x u → (x' : Quantifier) × SpellsQuantifier x' (map retell u) × SameQuantifier x x'
  again_quantifier (s.quantifier {u = u} {v = v} {x = x} {y = y} n becomes t w d h0 h1 h2 h3 h4 h5 h6 h7) =
      let r3 = again_expr retell keeps h2 in
      let r6 = again_expr retell keeps h5 in
      let r7 = again_by h6 in
      let r8 = again_such_that h7 in
      ((record { span = (retell n).span; name = name_of (retell n); first = r3.0; direction = d; last = r6.0; step = r7.0; such_that = r8.0 }), subst (λ z. SpellsQuantifier (record { span = (retell n).span; name = name_of (retell n); first = r3.0; direction = d; last = r6.0; step = r7.0; such_that = r8.0 }) z) (sym (ap (λ z. retell n ∷ z) (ap (λ z. retell becomes ∷ z) (map-append retell u (t ∷ (v ++ (x ++ y))) ∙ ap (λ z. map retell u ++ z) (ap (λ z. retell t ∷ z) (map-append retell v (x ++ y) ∙ ap (λ z. map retell v ++ z) (map-append retell x (y)))))))) (s.quantifier (retell n) (retell becomes) (retell t) w d (keeps.kind n ∙ h0) (keeps.kind becomes ∙ h1) r3.1 (keeps.kind t ∙ h3) h4 r6.1 r7.1 r8.1), (same_stmts.quantifier (same_name retell keeps n h0) r3.2 r6.2 r7.2 r8.2))

  pub again_more_quantifiers : {x : List Quantifier} {u : List Token} → SpellsMoreQuantifiers x u → (x' : List Quantifier) × SpellsMoreQuantifiers x' (map retell u) × SameList SameQuantifier x x'
  again_more_quantifiers (s.no_more_quantifiers) = ([], s.no_more_quantifiers, same_exprs.none_left)
  again_more_quantifiers (s.one_more_quantifier {u = u} {v = v} comma h0 h1 h2) =
      let r2 = again_quantifier h1 in
      let r3 = again_more_quantifiers h2 in
      ((r2.0 ∷ r3.0), subst (λ z. SpellsMoreQuantifiers (r2.0 ∷ r3.0) z) (sym (ap (λ z. retell comma ∷ z) (map-append retell u (v)))) (s.one_more_quantifier (retell comma) (keeps.kind comma ∙ h0) r2.1 r3.1), (same_exprs.one_more r2.2 r3.2))

  pub again_quantifiers : {x : List Quantifier} {u : List Token} → SpellsQuantifiers x u → (x' : List Quantifier) × SpellsQuantifiers x' (map retell u) × SameList SameQuantifier x x'
  again_quantifiers (s.quantifiers {u = u} {v = v} h0 h1) =
      let r1 = again_quantifier h0 in
      let r2 = again_more_quantifiers h1 in
      ((r1.0 ∷ r2.0), subst (λ z. SpellsQuantifiers (r1.0 ∷ r2.0) z) (sym (map-append retell u (v))) (s.quantifiers r1.1 r2.1), (same_exprs.one_more r1.2 r2.2))

  pub again_optional_names : {x : List Name} {u : List Token} → SpellsOptionalNames x u → (x' : List Name) × SpellsOptionalNames x' (map retell u) × SameList SameName x x'
  again_optional_names (s.no_names) = ([], s.no_names, same_exprs.none_left)
  again_optional_names (s.some_names {u = u} h0) =
      let r1 = again_names retell keeps h0 in
      (r1.0, s.some_names r1.1, r1.2)

  pub again_returned_name : {x : Option Name} {u : List Token} → SpellsReturnedName x u → (x' : Option Name) × SpellsReturnedName x' (map retell u) × SameOption SameName x x'
  again_returned_name (s.no_returned_name) = (None, s.no_returned_name, same_exprs.none)
  again_returned_name (s.returned_name t n h0 h1) = ((Some (name_of (retell n))), s.returned_name (retell t) (retell n) (keeps.kind t ∙ h0) (keeps.kind n ∙ h1), (same_exprs.some (same_name retell keeps n h1)))

  pub again_condition : {x : Option ArmCondition} {u : List Token} → SpellsCondition x u → (x' : Option ArmCondition) × SpellsCondition x' (map retell u) × SameOption SameArmCondition x x'
  again_condition (s.no_condition) = (None, s.no_condition, same_exprs.none)
  again_condition (s.on_condition {u = u} t w c h0 h1 h2) =
      let r3 = again_expr retell keeps h2 in
      ((Some (record { span = (retell t).span; word = c; condition = r3.0 })), s.on_condition (retell t) w c (keeps.kind t ∙ h0) h1 r3.1, (same_exprs.some (same_stmts.arm_condition r3.2)))

  pub again_call_word : {b : Bool} {u : List Token} → SpellsCallWord b u → SpellsCallWord b (map retell u)
  again_call_word (s.no_call_word) = s.no_call_word
  again_call_word (s.call_word t h0) = s.call_word (retell t) (keeps.kind t ∙ h0)

  pub again_optional_quantifiers : {x : List Quantifier} {u : List Token} → SpellsOptionalQuantifiers x u → (x' : List Quantifier) × SpellsOptionalQuantifiers x' (map retell u) × SameList SameQuantifier x x'
  again_optional_quantifiers (s.no_quantifiers) = ([], s.no_quantifiers, same_exprs.none_left)
  again_optional_quantifiers (s.some_quantifiers {u = u} opening closing h0 h1 h2) =
      let r2 = again_quantifiers h1 in
      (r2.0, subst (λ z. SpellsOptionalQuantifiers r2.0 z) (sym (ap (λ z. retell opening ∷ z) (map-append retell u (closing ∷ [])))) (s.some_quantifiers (retell opening) (retell closing) (keeps.kind opening ∙ h0) r2.1 (keeps.kind closing ∙ h2)), r2.2)

  pub again_co_start : {b : Bool} {x : Expr} {u : List Token} → SpellsCoStart b x u → (x' : Expr) × SpellsCoStart b x' (map retell u) × SameExpr x x'
  again_co_start (s.begins_arm {u = u} h0) =
      let r1 = again_named h0 in
      (r1.0, s.begins_arm r1.1, r1.2)
  again_co_start (s.after_quantifiers {u = u} h0) =
      let r1 = again_primary retell keeps h0 in
      (r1.0, s.after_quantifiers r1.1, r1.2)

  pub again_co_call : {quantified : Bool} {x : Option Expr} {b : Bool} {x1 : Invocation} {u : List Token} → SpellsCoCall quantified x b x1 u → (x' : Option Expr) × (x1' : Invocation) × SpellsCoCall quantified x' b x1' (map retell u) × SameOptionalExpr x x' × SameInvocation x1 x1'
  again_co_call {quantified = quantified} (s.plain {i = i} {u = u} h0) =
      let r1 = again_co_start h0 in
      let k1 = call_back r1.2 i (call_is i) in
      (None, k1.0, s.plain (subst (λ z. SpellsCoStart quantified z (map retell u)) k1.1 r1.1), same_exprs.no_expr, k1.2)
  again_co_call {quantified = quantified} (s.called {u = u} t h0 h1) =
      let r2 = again_invocation h1 in
      (None, r2.0, s.called (retell t) (keeps.kind t ∙ h0) r2.1, same_exprs.no_expr, r2.2)
  again_co_call {quantified = quantified} (s.stored {with_call = with_call} {u = u} {v = v} {w = w} becomes h0 h1 h2 h3) =
      let r1 = again_co_start h0 in
      let r3 = again_call_word h2 in
      let r4 = again_invocation h3 in
      ((Some r1.0), r4.0, subst (λ z. SpellsCoCall quantified (Some r1.0) with_call r4.0 z) (sym (map-append retell u (becomes ∷ (v ++ w)) ∙ ap (λ z. map retell u ++ z) (ap (λ z. retell becomes ∷ z) (map-append retell v (w))))) (s.stored (retell becomes) r1.1 (keeps.kind becomes ∙ h1) r3 r4.1), (same_exprs.some_expr r1.2), r4.2)
