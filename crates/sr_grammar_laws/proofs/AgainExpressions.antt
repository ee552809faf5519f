-- Tokens that are told again spell the same expressions.
use Rattle.std.proofs.Common.{◌≡◌, ℕ, List, [], ◌∷◌, ◌++◌, map, refl, ap, sym, subst, ◌∙◌, Option, Some, None, is_some}
use Rattle.std.proofs.lemmas.List.{map-append}
use Rattle.sr_tree.specs.declared.token.Token.{Token}
use Rattle.sr_tree.specs.declared.name.QualifiedName.{QualifiedName}
use Rattle.sr_tree.specs.declared.expr.Expr.{Expr, out-Expr}
use Rattle.sr_tree.specs.declared.expr.Expr.TheVariants as expr
use Rattle.sr_tree.specs.declared.expr.Part.{Part, out-Part}
use Rattle.sr_tree.specs.declared.expr.Invocation.{Invocation}
use Rattle.sr_tree.specs.declared.expr.Create.{Create}
use Rattle.sr_tree.specs.declared.expr.Create.TheVariants as create
use Rattle.sr_tree.specs.declared.expr.Create.TheOpen.{Expr-F}
use Rattle.sr_tree.specs.declared.expr.Expr.{out-roll-Expr}
use Rattle.sr_tree.specs.Expressions as g
use Rattle.sr_tree.specs.Expressions.{SpellsQualifiedName, SpellsExpr, SpellsFactor, SpellsCreate, SpellsOn, SpellsPrimary, SpellsSecond, SpellsPart, SpellsMoreParts, SpellsArguments, SpellsMoreExprs, expr_span, part, invocation, is_array, is_conversion_word}
use Rattle.sr_tree.specs.Tables.{name_of, basic_of, conversion_of, unary_of, binary_of}
use Rattle.sr_grammar_laws.specs.SameExpressions as same_exprs
use Rattle.sr_grammar_laws.specs.SameExpressions.{SameCreate, SameExpr, SameExprs, SameInvocation, SameOptionalExpr, SamePart, SameParts, SameQualifiedName}
use Rattle.sr_grammar_laws.specs.Retelling.{Keeps}
use Rattle.sr_grammar_laws.proofs.Retold.{same_name, literal_again}

-- ---- what trees that are the same have in common

count_same : {p q : Part} → SamePart p q → is_some (out-Part q).count ≡ is_some (out-Part p).count
unfolding denote.Hole.Carrier.out denote.Hole.Carrier.roll
count_same (same_exprs.part same_exprs.no_expr value) = refl
count_same (same_exprs.part (same_exprs.some_expr count) value) = refl

pub array_same : {p q : Part} {ps qs : List Part} → SamePart p q → SameParts ps qs → is_array q qs ≡ is_array p ps
array_same one same_exprs.no_parts = count_same one
array_same one (same_exprs.more_parts next more) = refl

pub conversion_same : {a b : Expr} → SameExpr a b → is_conversion_word b ≡ is_conversion_word a
unfolding out-Expr denote.Hole.Carrier.out
conversion_same same_exprs.literal = refl
conversion_same (same_exprs.name x) = refl
conversion_same same_exprs.basic_type = refl
conversion_same (same_exprs.conversion x) = refl
conversion_same (same_exprs.group x) = refl
conversion_same (same_exprs.parts x) = refl
conversion_same (same_exprs.field x y) = refl
conversion_same (same_exprs.index x y z) = refl
conversion_same (same_exprs.call x) = refl
conversion_same (same_exprs.create x) = refl
conversion_same (same_exprs.unary x) = refl
conversion_same (same_exprs.pending x) = refl
conversion_same (same_exprs.binary x y) = refl

-- the call that an expression is
abbrev pub invocation_of : Expr → Option Invocation
invocation_of e = elim (out-Expr e) [ Expr-F.Call invocation ↦ Some invocation | _ ↦ None ]

pub call_is : (i : Invocation) → invocation_of (expr.Call i) ≡ Some i
call_is i = ap (λ layer. elim layer [ Expr-F.Call invocation ↦ Some invocation | _ ↦ None ]) (ap out-Expr (sym (expr.rolls-Call i)) ∙ out-roll-Expr (Expr-F.Call i))

none_is_some : {A : Type 0} {x : A} → None ≡ Some x → ⊥
none_is_some e = cc

some_is : {A : Type 0} {x y : A} → Some x ≡ Some y → x ≡ y
some_is e = cc

pub call_back : {a b : Expr} → SameExpr a b → (i : Invocation) → invocation_of a ≡ Some i → (j : Invocation) × (b ≡ expr.Call j) × SameInvocation i j
unfolding out-Expr denote.Hole.Carrier.out
call_back (same_exprs.call {it = k} {it' = j} same) i e = (j, refl, subst (λ z. SameInvocation z j) (some_is (sym (call_is k) ∙ e)) same)
call_back same_exprs.literal i e = absurd (none_is_some e)
call_back (same_exprs.name x) i e = absurd (none_is_some e)
call_back same_exprs.basic_type i e = absurd (none_is_some e)
call_back (same_exprs.conversion x) i e = absurd (none_is_some e)
call_back (same_exprs.group x) i e = absurd (none_is_some e)
call_back (same_exprs.parts x) i e = absurd (none_is_some e)
call_back (same_exprs.field x y) i e = absurd (none_is_some e)
call_back (same_exprs.index x y z) i e = absurd (none_is_some e)
call_back (same_exprs.create x) i e = absurd (none_is_some e)
call_back (same_exprs.unary x) i e = absurd (none_is_some e)
call_back (same_exprs.pending x) i e = absurd (none_is_some e)
call_back (same_exprs.binary x y) i e = absurd (none_is_some e)

module _ (retell : Token → Token) (keeps : Keeps retell) where
  pub again_qualified_name : {x : QualifiedName} {u : List Token} → SpellsQualifiedName x u → (x' : QualifiedName) × SpellsQualifiedName x' (map retell u) × SameQualifiedName x x'
  again_qualified_name (g.plain n h0) = ((record { span = (retell n).span; first = name_of (retell n); second = None }), g.plain (retell n) (keeps.kind n ∙ h0), (same_exprs.qualified_name (same_name retell keeps n h0) same_exprs.none))
  again_qualified_name (g.qualified n p m h0 h1 h2) = ((record { span = (retell n).span; first = name_of (retell n); second = Some (name_of (retell m)) }), g.qualified (retell n) (retell p) (retell m) (keeps.kind n ∙ h0) (keeps.kind p ∙ h1) (keeps.kind m ∙ h2), (same_exprs.qualified_name (same_name retell keeps n h0) (same_exprs.some (same_name retell keeps m h2))))

  mutual
    pub again_expr : {n : ℕ} {x : Expr} {u : List Token} → SpellsExpr n x u → (x' : Expr) × SpellsExpr n x' (map retell u) × SameExpr x x'
    again_expr (g.factor {level = level} {u = u} h0) =
        let r1 = again_factor h0 in
        (r1.0, g.factor r1.1, r1.2)
    again_expr (g.binary {level = level} {u = u} {v = v} t o h0 h1 h2 h3) =
        let r3 = again_expr h2 in
        let r4 = again_expr h3 in
        ((expr.Binary (expr_span r3.0) r3.0 o r4.0), subst (λ z. SpellsExpr level (expr.Binary (expr_span r3.0) r3.0 o r4.0) z) (sym (map-append retell u (t ∷ v))) (g.binary (retell t) o (ap binary_of (keeps.kind t) ∙ h0) h1 r3.1 r4.1), (same_exprs.binary r3.2 r4.2))

    pub again_factor : {x : Expr} {u : List Token} → SpellsFactor x u → (x' : Expr) × SpellsFactor x' (map retell u) × SameExpr x x'
    again_factor (g.creates {u = u} h0) =
        let r1 = again_create h0 in
        ((expr.Create r1.0), g.creates r1.1, (same_exprs.create r1.2))
    again_factor (g.primary {u = u} h0) =
        let r1 = again_primary h0 in
        (r1.0, g.primary r1.1, r1.2)
    again_factor (g.unary {u = u} t o h0 h1) =
        let r2 = again_factor h1 in
        ((expr.Unary (retell t).span o r2.0), g.unary (retell t) o (ap unary_of (keeps.kind t) ∙ h0) r2.1, (same_exprs.unary r2.2))
    again_factor (g.pending t n h0 h1) = ((expr.Pending (retell t).span (name_of (retell n))), g.pending (retell t) (retell n) (keeps.kind t ∙ h0) (keeps.kind n ∙ h1), (same_exprs.pending (same_name retell keeps n h1)))

    pub again_create : {x : Create} {u : List Token} → SpellsCreate x u → (x' : Create) × SpellsCreate x' (map retell u) × SameCreate x x'
    again_create (g.resource {u = u} {v = v} {w = w} t opening closing h0 h1 h2 h3 h4 h5) =
        let r2 = again_qualified_name h1 in
        let r4 = again_arguments h3 in
        let r6 = again_on h5 in
        ((create.Resource (retell t).span r2.0 r4.0 r6.0), subst (λ z. SpellsCreate (create.Resource (retell t).span r2.0 r4.0 r6.0) z) (sym (ap (λ z. retell t ∷ z) (map-append retell u (opening ∷ (v ++ closing ∷ w)) ∙ ap (λ z. map retell u ++ z) (ap (λ z. retell opening ∷ z) (map-append retell v (closing ∷ w)))))) (g.resource (retell t) (retell opening) (retell closing) (keeps.kind t ∙ h0) r2.1 (keeps.kind opening ∙ h2) r4.1 (keeps.kind closing ∙ h4) r6.1), (same_exprs.resource r2.2 r4.2 r6.2))
    again_create (g.machine t vm opening closing h0 h1 h2 h3) = ((create.Machine (retell t).span), g.machine (retell t) (retell vm) (retell opening) (retell closing) (keeps.kind t ∙ h0) (keeps.kind vm ∙ h1) (keeps.kind opening ∙ h2) (keeps.kind closing ∙ h3), same_exprs.machine)

    pub again_on : {x : Option Expr} {u : List Token} → SpellsOn x u → (x' : Option Expr) × SpellsOn x' (map retell u) × SameOptionalExpr x x'
    again_on (g.not_on) = (None, g.not_on, same_exprs.no_expr)
    again_on (g.on_machine {u = u} t h0 h1) =
        let r2 = again_primary h1 in
        ((Some r2.0), g.on_machine (retell t) (keeps.kind t ∙ h0) r2.1, (same_exprs.some_expr r2.2))

    pub again_primary : {x : Expr} {u : List Token} → SpellsPrimary x u → (x' : Expr) × SpellsPrimary x' (map retell u) × SameExpr x x'
    again_primary (g.literal t l h0) = ((expr.Literal (retell t).span l), g.literal (retell t) l (literal_again retell keeps t l h0), same_exprs.literal)
    again_primary (g.name t h0) = ((expr.Name (name_of (retell t))), g.name (retell t) (keeps.kind t ∙ h0), (same_exprs.name (same_name retell keeps t h0)))
    again_primary (g.basic_type t b h0) = ((expr.BasicType (retell t).span b), g.basic_type (retell t) b (ap basic_of (keeps.kind t) ∙ h0), same_exprs.basic_type)
    again_primary (g.conversion {u = u} t opening closing c h0 h1 h2 h3) =
        let r3 = again_expr h2 in
        ((expr.Conversion (retell t).span c r3.0), subst (λ z. SpellsPrimary (expr.Conversion (retell t).span c r3.0) z) (sym (ap (λ z. retell t ∷ z) (ap (λ z. retell opening ∷ z) (map-append retell u (closing ∷ []))))) (g.conversion (retell t) (retell opening) (retell closing) c (ap conversion_of (keeps.kind t) ∙ h0) (keeps.kind opening ∙ h1) r3.1 (keeps.kind closing ∙ h3)), (same_exprs.conversion r3.2))
    again_primary (g.group {u = u} opening closing h0 h1 h2) =
        let r2 = again_expr h1 in
        ((expr.Group (retell opening).span r2.0), subst (λ z. SpellsPrimary (expr.Group (retell opening).span r2.0) z) (sym (ap (λ z. retell opening ∷ z) (map-append retell u (closing ∷ [])))) (g.group (retell opening) (retell closing) (keeps.kind opening ∙ h0) r2.1 (keeps.kind closing ∙ h2)), (same_exprs.group r2.2))
    again_primary (g.parts {u = u} {v = v} opening closing h0 h1 h2 h3 h4) =
        let r2 = again_part h1 in
        let r3 = again_more_parts h2 in
        ((expr.Parts (retell opening).span (r2.0 ∷ r3.0)), subst (λ z. SpellsPrimary (expr.Parts (retell opening).span (r2.0 ∷ r3.0)) z) (sym (ap (λ z. retell opening ∷ z) (map-append retell u (v ++ closing ∷ []) ∙ ap (λ z. map retell u ++ z) (map-append retell v (closing ∷ []))))) (g.parts (retell opening) (retell closing) (keeps.kind opening ∙ h0) r2.1 r3.1 (array_same r2.2 r3.2 ∙ h3) (keeps.kind closing ∙ h4)), (same_exprs.parts (same_exprs.more_parts r2.2 r3.2)))
    again_primary (g.field {u = u} point n h0 h1 h2) =
        let r1 = again_primary h0 in
        ((expr.Field (expr_span r1.0) r1.0 (name_of (retell n))), subst (λ z. SpellsPrimary (expr.Field (expr_span r1.0) r1.0 (name_of (retell n))) z) (sym (map-append retell u (point ∷ n ∷ []))) (g.field (retell point) (retell n) r1.1 (keeps.kind point ∙ h1) (keeps.kind n ∙ h2)), (same_exprs.field r1.2 (same_name retell keeps n h2)))
    again_primary (g.index {u = u} {v = v} {w = w} opening closing h0 h1 h2 h3 h4) =
        let r1 = again_primary h0 in
        let r3 = again_expr h2 in
        let r4 = again_second h3 in
        ((expr.Index (expr_span r1.0) r1.0 r3.0 r4.0), subst (λ z. SpellsPrimary (expr.Index (expr_span r1.0) r1.0 r3.0 r4.0) z) (sym (map-append retell u (opening ∷ (v ++ (w ++ closing ∷ []))) ∙ ap (λ z. map retell u ++ z) (ap (λ z. retell opening ∷ z) (map-append retell v (w ++ closing ∷ []) ∙ ap (λ z. map retell v ++ z) (map-append retell w (closing ∷ [])))))) (g.index (retell opening) (retell closing) r1.1 (keeps.kind opening ∙ h1) r3.1 r4.1 (keeps.kind closing ∙ h4)), (same_exprs.index r1.2 r3.2 r4.2))
    again_primary (g.call {u = u} {v = v} opening closing h0 h1 h2 h3 h4) =
        let r1 = again_primary h0 in
        let r4 = again_arguments h3 in
        ((expr.Call (invocation r1.0 r4.0)), subst (λ z. SpellsPrimary (expr.Call (invocation r1.0 r4.0)) z) (sym (map-append retell u (opening ∷ (v ++ closing ∷ [])) ∙ ap (λ z. map retell u ++ z) (ap (λ z. retell opening ∷ z) (map-append retell v (closing ∷ []))))) (g.call (retell opening) (retell closing) r1.1 (conversion_same r1.2 ∙ h1) (keeps.kind opening ∙ h2) r4.1 (keeps.kind closing ∙ h4)), (same_exprs.call (same_exprs.invocation r1.2 r4.2)))

    pub again_second : {x : Option Expr} {u : List Token} → SpellsSecond x u → (x' : Option Expr) × SpellsSecond x' (map retell u) × SameOptionalExpr x x'
    again_second (g.no_second) = (None, g.no_second, same_exprs.no_expr)
    again_second (g.second {u = u} comma h0 h1) =
        let r2 = again_expr h1 in
        ((Some r2.0), g.second (retell comma) (keeps.kind comma ∙ h0) r2.1, (same_exprs.some_expr r2.2))

    pub again_part : {x : Part} {u : List Token} → SpellsPart x u → (x' : Part) × SpellsPart x' (map retell u) × SamePart x x'
    again_part (g.once {u = u} h0) =
        let r1 = again_expr h0 in
        ((part (expr_span r1.0) None r1.0), g.once r1.1, (same_exprs.part same_exprs.no_expr r1.2))
    again_part (g.repeated {u = u} {v = v} opening closing h0 h1 h2 h3) =
        let r2 = again_expr h1 in
        let r4 = again_expr h3 in
        ((part (retell opening).span (Some r2.0) r4.0), subst (λ z. SpellsPart (part (retell opening).span (Some r2.0) r4.0) z) (sym (ap (λ z. retell opening ∷ z) (map-append retell u (closing ∷ v)))) (g.repeated (retell opening) (retell closing) (keeps.kind opening ∙ h0) r2.1 (keeps.kind closing ∙ h2) r4.1), (same_exprs.part (same_exprs.some_expr r2.2) r4.2))

    pub again_more_parts : {x : List Part} {u : List Token} → SpellsMoreParts x u → (x' : List Part) × SpellsMoreParts x' (map retell u) × SameParts x x'
    again_more_parts (g.no_more_parts) = ([], g.no_more_parts, same_exprs.no_parts)
    again_more_parts (g.one_more_part {u = u} {v = v} comma h0 h1 h2) =
        let r2 = again_part h1 in
        let r3 = again_more_parts h2 in
        ((r2.0 ∷ r3.0), subst (λ z. SpellsMoreParts (r2.0 ∷ r3.0) z) (sym (ap (λ z. retell comma ∷ z) (map-append retell u (v)))) (g.one_more_part (retell comma) (keeps.kind comma ∙ h0) r2.1 r3.1), (same_exprs.more_parts r2.2 r3.2))

    pub again_arguments : {x : List Expr} {u : List Token} → SpellsArguments x u → (x' : List Expr) × SpellsArguments x' (map retell u) × SameExprs x x'
    again_arguments (g.no_arguments) = ([], g.no_arguments, same_exprs.no_exprs)
    again_arguments (g.arguments {u = u} {v = v} h0 h1) =
        let r1 = again_expr h0 in
        let r2 = again_more_exprs h1 in
        ((r1.0 ∷ r2.0), subst (λ z. SpellsArguments (r1.0 ∷ r2.0) z) (sym (map-append retell u (v))) (g.arguments r1.1 r2.1), (same_exprs.more_exprs r1.2 r2.2))

    pub again_more_exprs : {x : List Expr} {u : List Token} → SpellsMoreExprs x u → (x' : List Expr) × SpellsMoreExprs x' (map retell u) × SameExprs x x'
    again_more_exprs (g.no_more_exprs) = ([], g.no_more_exprs, same_exprs.no_exprs)
    again_more_exprs (g.one_more_expr {u = u} {v = v} comma h0 h1 h2) =
        let r2 = again_expr h1 in
        let r3 = again_more_exprs h2 in
        ((r2.0 ∷ r3.0), subst (λ z. SpellsMoreExprs (r2.0 ∷ r3.0) z) (sym (ap (λ z. retell comma ∷ z) (map-append retell u (v)))) (g.one_more_expr (retell comma) (keeps.kind comma ∙ h0) r2.1 r3.1), (same_exprs.more_exprs r2.2 r3.2))
