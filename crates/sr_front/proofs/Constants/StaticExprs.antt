-- What an expression tells that is static it tells by less that is known, where the names in it tell the same: the walk over expressions.
use Rattle.std.proofs.Common.{◌≡◌, Bool, true, false, not, List, [], ◌∷◌, map, Option, Some, None, if◌then◌else◌, refl, sym, ap, subst, ◌∙◌}
use Rattle.std.specs.Prelude.{ℕ, pos, nat_le}
use Rattle.std.proofs.lemmas.Bool.{false≢true}
use Rattle.sr_check.proofs.Each.{Each, each-left, each-right}
use Rattle.sr_check_expr.specs.Arguments.{invoked_outcome}
use Rattle.sr_check_expr.specs.Calls.{Called, call_typing, called_by, made_outcome}
use Rattle.sr_check_expr.specs.Creating.{instance_type, resource_named, resource_type}
use Rattle.sr_check_expr.specs.declared.facts.Facts.{Facts}
use Rattle.sr_check_expr.specs.declared.typed_expr.Named.{Named}
use Rattle.sr_check_expr.specs.declared.typed_expr.Named.TheVariants as named
use Rattle.sr_check_expr.specs.declared.typed_expr.TypedExpr.{TypedExpr}
use Rattle.sr_check_expr.specs.Exprs.{CalledInferrer, Inferrer, conversion_outcome, field_typing, grouped, index_outcome, infer_all, infer_create, infer_expr, infer_invocation, infer_part, infer_parts, operation_component, operator_of, pending_outcome, prefix_of, repeated}
use Rattle.sr_check_expr.specs.LiteralTypes.{basic_type, char_static, literal_named, literal_typed, number_named, number_static}
use Rattle.sr_check_expr.specs.Naming.{decl_info, decl_of, field_outcome, name_typing}
use Rattle.sr_check_expr.specs.PredefinedCalls.{by_one, ends_shape, function_outcome, function_typing, layer_shape, low_outcome, high_outcome, one_outcome, only, unless_untyped}
use Rattle.sr_check_expr.specs.Typings.{Typing, is_value_name, name_at, settled_typed, typed_exprs_of, value_at}
use Rattle.sr_literal.specs.Literals.{number_of, string_of}
use Rattle.sr_names.specs.declared.predefined.Predefined.{Predefined}
use Rattle.sr_names.specs.declared.predefined.Predefined.TheVariants as predefined
use Rattle.sr_names.specs.Spots.{spot_of}
use Rattle.sr_names.specs.Uses.{meaning_at}
use Rattle.sr_order.specs.Names.{expr_names, invocation_names}
use Rattle.sr_order.specs.Spans.{joined}
use Rattle.sr_tree.specs.declared.expr.BasicType.{BasicType}
use Rattle.sr_tree.specs.declared.expr.BasicType.TheVariants as basic
use Rattle.sr_tree.specs.declared.expr.Create.TheOpen.{Create-F, Expr-F}
use Rattle.sr_tree.specs.declared.expr.Expr.{Expr as Tree}
use Rattle.sr_tree.specs.declared.expr.Literal.{Literal}
use Rattle.sr_tree.specs.declared.expr.Literal.TheVariants as literal
use Rattle.sr_tree.specs.declared.expr.Part.{Part as PartTree}
use Rattle.sr_tree.specs.declared.name.Name.{Name}
use Rattle.sr_types.specs.Aggregates.{bracketed_rule}
use Rattle.sr_types.specs.declared.operators.Operand.{Operand}
use Rattle.sr_types.specs.declared.operators.Operand.TheVariants as operand
use Rattle.sr_types.specs.declared.operators.Operands.{Operands}
use Rattle.sr_types.specs.declared.operators.Operands.TheVariants as operands
use Rattle.sr_types.specs.declared.ty.Ty.{Ty, out-Ty, out-roll-Ty}
use Rattle.sr_types.specs.declared.ty.Ty.TheOpen.{Ty-F}
use Rattle.sr_types.specs.declared.ty.Ty.TheVariants as ty
use Rattle.sr_types.specs.declared.typed.Outcome.{Outcome}
use Rattle.sr_types.specs.declared.typed.Outcome.TheVariants.{Broken, Met}
use Rattle.sr_types.specs.declared.typed.Static.{Static}
use Rattle.sr_types.specs.declared.typed.Static.TheVariants.{Unknown, Known, Faults}
use Rattle.sr_types.specs.declared.typed.Typed.{Typed}
use Rattle.sr_types.specs.Kinds.{may_have_ends}
use Rattle.sr_types.specs.Operators.{are_taken, binary_rule, binary_with, is_taken, operand_type, operand_wanted, operands_wanted, unary_rule, unary_with, whole_type}
use Rattle.sr_types.specs.Outcomes.{computed, found, met_if, refused_typed}
use Rattle.sr_types.specs.Predefined.{high_rule, low_rule}
use Rattle.sr_types.specs.Statics.{static_of_one, static_of_two}
use Rattle.sr_types.specs.Types.{is_no_type, layer_is_untyped}
use Rattle.sr_value.specs.declared.operator.Operator.{Operator}
use Rattle.sr_value.specs.declared.place.Span.{Span}
use Rattle.sr_value.specs.declared.shape.Shape.{Shape}
use Rattle.sr_value.specs.declared.value.Value.TheVariants as value
use Rattle.sr_value.specs.Predefined.{highest_value, lowest_value}
use Rattle.sr_check_decl.specs.Constants.{is_fault}
use Rattle.sr_tree.proofs.ExprFolds.{ByParts, Claim, CreateNode, ExprNode, InvocationNode, Known as KnownTree, bare_create, bare_expr, bare_invocation, create_folds, each_expr, expr_folds, from_create, from_expr, from_invocation, invocation_folds}
use Rattle.sr_front.proofs.Typed.TypingFolds.{inferring}
use Rattle.sr_order.proofs.NameFolds.{expr_naming}
use Rattle.sr_front.proofs.Constants.UnknownValues.{bracketed, converted, fielded, function_unknown, made_unknown, pending, picked, recorded, returned_unknown}

-- ---- what tells

-- what is static, and what names a type, a component or a predefined function
abbrev pub tells_by : Static → Named → Bool
tells_by Unknown name = not (is_value_name name)
tells_by (Known value) name = true
tells_by (Faults fault) name = true

abbrev pub tells : TypedExpr → Bool
tells one = tells_by one.typed.value one.named

abbrev pub is_known : Static → Bool
is_known value = tells_by value named.Nothing

value_tells : (value : Static) (name : Named) → is_known value ≡ true → tells_by value name ≡ true
value_tells Unknown name h = absurd (false≢true h)
value_tells (Known value) name h = refl
value_tells (Faults fault) name h = refl

name_tells : (value : Static) (name : Named) → is_value_name name ≡ false → tells_by value name ≡ true
name_tells Unknown name h = ap not h
name_tells (Known value) name h = refl
name_tells (Faults fault) name h = refl

-- ---- operators

out_int : out-Ty ty.Int ≡ Ty-F.Int
out_int = ap out-Ty (sym ty.rolls-Int) ∙ out-roll-Ty Ty-F.Int

out_bool : out-Ty ty.Bool ≡ Ty-F.Bool
out_bool = ap out-Ty (sym ty.rolls-Bool) ∙ out-roll-Ty Ty-F.Bool

out_char : out-Ty ty.Char ≡ Ty-F.Char
out_char = ap out-Ty (sym ty.rolls-Char) ∙ out-roll-Ty Ty-F.Char

out_str : out-Ty ty.Str ≡ Ty-F.Str
out_str = ap out-Ty (sym ty.rolls-Str) ∙ out-roll-Ty Ty-F.Str

unary_operand : (wanted : Option Operand) (op : Operator) (a : Typed) → is_known (settled_typed (unary_with wanted op a)).value ≡ true → is_known a.value ≡ true
unary_operand None op a h = absurd (false≢true h)
unary_operand (Some wanted) op a h = by (is_taken wanted a.ty) a.value h
  where
    by : (met : Bool) (value : Static) → is_known (settled_typed (met_if met (computed (operand_type wanted) (static_of_one op value)))).value ≡ true → is_known value ≡ true
    by false value h = absurd (false≢true h)
    by true Unknown h = absurd (false≢true h)
    by true (Known value) h = refl
    by true (Faults fault) h = refl

operand_typed : (wanted : Operand) → is_no_type (operand_type wanted) ≡ false
operand_typed operand.Number = ap layer_is_untyped out_int
operand_typed operand.Condition = ap layer_is_untyped out_bool

unary_typed : (wanted : Option Operand) (op : Operator) (a : Typed) → is_fault (settled_typed (unary_with wanted op a)).value ≡ true → is_no_type (settled_typed (unary_with wanted op a)).ty ≡ false
unary_typed None op a h = absurd (false≢true h)
unary_typed (Some wanted) op a h = by (is_taken wanted a.ty) h
  where
    by : (met : Bool) → is_fault (settled_typed (met_if met (computed (operand_type wanted) (static_of_one op a.value)))).value ≡ true
        → is_no_type (settled_typed (met_if met (computed (operand_type wanted) (static_of_one op a.value)))).ty ≡ false
    by false h = absurd (false≢true h)
    by true h = operand_typed wanted

both_known : (op : Operator) (a b : Static) → is_known (static_of_two op a b) ≡ true → (is_known a ≡ true) × (is_known b ≡ true)
both_known op Unknown b h = absurd (false≢true h)
both_known op (Faults fault) Unknown h = absurd (false≢true h)
both_known op (Faults fault) (Known b) h = (refl, refl)
both_known op (Faults fault) (Faults other) h = (refl, refl)
both_known op (Known a) Unknown h = absurd (false≢true h)
both_known op (Known a) (Known b) h = (refl, refl)
both_known op (Known a) (Faults other) h = (refl, refl)

binary_operands : (wanted : Option Operands) (op : Operator) (a b : Typed) → is_known (settled_typed (binary_with wanted op a b)).value ≡ true → (is_known a.value ≡ true) × (is_known b.value ≡ true)
binary_operands None op a b h = absurd (false≢true h)
binary_operands (Some wanted) op a b h = by (are_taken wanted a.ty b.ty) h
  where
    by : (met : Bool) → is_known (settled_typed (met_if met (computed (whole_type wanted) (static_of_two op a.value b.value)))).value ≡ true → (is_known a.value ≡ true) × (is_known b.value ≡ true)
    by false h = absurd (false≢true h)
    by true h = both_known op a.value b.value h

whole_typed : (wanted : Operands) → is_no_type (whole_type wanted) ≡ false
whole_typed operands.Bools = ap layer_is_untyped out_bool
whole_typed operands.Comparable = ap layer_is_untyped out_bool
whole_typed operands.Ordered = ap layer_is_untyped out_bool
whole_typed operands.Ints = ap layer_is_untyped out_int
whole_typed operands.Texts = ap layer_is_untyped out_str

binary_typed : (wanted : Option Operands) (op : Operator) (a b : Typed) → is_fault (settled_typed (binary_with wanted op a b)).value ≡ true → is_no_type (settled_typed (binary_with wanted op a b)).ty ≡ false
binary_typed None op a b h = absurd (false≢true h)
binary_typed (Some wanted) op a b h = by (are_taken wanted a.ty b.ty) h
  where
    by : (met : Bool) → is_fault (settled_typed (met_if met (computed (whole_type wanted) (static_of_two op a.value b.value)))).value ≡ true
        → is_no_type (settled_typed (met_if met (computed (whole_type wanted) (static_of_two op a.value b.value)))).ty ≡ false
    by false h = absurd (false≢true h)
    by true h = whole_typed wanted

-- ---- literals

number_no_fault : (number : Option ℕ) → is_fault (number_static number) ≡ false
number_no_fault None = refl
number_no_fault (Some number) = by (nat_le number 2147483647)
  where
    by : (b : Bool) → is_fault (if b then Known (value.Int (pos number)) else Unknown) ≡ false
    by true = refl
    by false = refl

char_no_fault : (bytes : List ℕ) → is_fault (char_static bytes) ≡ false
char_no_fault [] = refl
char_no_fault (byte ∷ bytes) = refl

literal_no_fault : (one : Literal) → is_fault (literal_typed one).value ≡ false
literal_no_fault (literal.Number text) = number_no_fault (number_of text)
literal_no_fault (literal.Char text) = char_no_fault (string_of text)
literal_no_fault _ = refl

-- ---- the same is told

module _ (now end : Facts) where
  -- the same shape of the type that is named
  abbrev pub SameShape : Named → Type 0
  SameShape (named.«Type» ty) = layer_shape now.infos (out-Ty ty) ≡ layer_shape end.infos (out-Ty ty)
  SameShape _ = Unit {0}

  -- what the second tells the first tells, and a fault has a type
  pub record Told (here there : TypedExpr) : Type 0 where
    pub same : tells there ≡ true → here ≡ there
    pub typed : is_fault there.typed.value ≡ true → is_no_type there.typed.ty ≡ false
    pub shape : SameShape there.named

  -- what tells nothing
  silent : (here : TypedExpr) (span : Span) (outcome : Outcome) → (settled_typed outcome).value ≡ Unknown → Told here (value_at span (settled_typed outcome))
  silent here span outcome unknown = record {
    same = λ tell. absurd (false≢true (sym (ap (λ value. tells_by value named.Nothing) unknown) ∙ tell));
    typed = λ fault. absurd (false≢true (sym (ap is_fault unknown) ∙ fault));
    shape = tt;
  }

  -- a name tells by now what it tells by the end
  abbrev pub SameUse : Span → Type 0
  SameUse used = (span : Span) → Told (name_typing now span used).typed_expr (name_typing end span used).typed_expr

  abbrev pub SameUses : List Span → Type 0
  SameUses = Each SameUse

-- one after another
pub data AllTold (now end : Facts) : List TypedExpr → List TypedExpr → Type 0 where
  none_told : AllTold now end [] []
  one_told : {here there : TypedExpr} {heres theres : List TypedExpr} → Told now end here there → AllTold now end heres theres → AllTold now end (here ∷ heres) (there ∷ theres)

module _ (now end : Facts) where
  abbrev Tells : TypedExpr → TypedExpr → Type 0
  Tells = Told now end

  abbrev AllTell : List TypedExpr → List TypedExpr → Type 0
  AllTell = AllTold now end

  -- ---- each construct

  literal_shape : (one : Literal) → (SameShape now end) (literal_named one)
  literal_shape (literal.Number text) = by (number_of text)
    where
      by : (number : Option ℕ) → (SameShape now end) (number_named number)
      by None = tt
      by (Some number) = tt
  literal_shape _ = tt

  basic_shape : (one : BasicType) → (SameShape now end) (named.«Type» (basic_type one))
  basic_shape basic.Int = ap (layer_shape now.infos) out_int ∙ sym (ap (layer_shape end.infos) out_int)
  basic_shape basic.Bool = ap (layer_shape now.infos) out_bool ∙ sym (ap (layer_shape end.infos) out_bool)
  basic_shape basic.Char = ap (layer_shape now.infos) out_char ∙ sym (ap (layer_shape end.infos) out_char)

  literal_told : (span : Span) (one : Literal) → Tells (record { span = span; typed = literal_typed one; named = literal_named one }) (record { span = span; typed = literal_typed one; named = literal_named one })
  literal_told span one = record { same = λ tell. refl; typed = λ fault. absurd (false≢true (sym (literal_no_fault one) ∙ fault)); shape = literal_shape one }

  basic_told : (span : Span) (one : BasicType) → Tells (name_at span (named.«Type» (basic_type one))) (name_at span (named.«Type» (basic_type one)))
  basic_told span one = record { same = λ tell. refl; typed = λ fault. absurd (false≢true fault); shape = basic_shape one }

  grouped_told : (span : Span) (here there : TypedExpr) → Tells here there → Tells (value_at span (grouped here.typed)) (value_at span (grouped there.typed))
  grouped_told span here there told = record {
    same = λ tell. ap (λ (one : TypedExpr). value_at span (grouped one.typed)) (told.same (value_tells there.typed.value there.named tell));
    typed = told.typed;
    shape = tt;
  }

  unary_told : (span : Span) (op : Operator) (here there : TypedExpr) → Tells here there
      → Tells (value_at span (settled_typed (unary_rule op here.typed))) (value_at span (settled_typed (unary_rule op there.typed)))
  unary_told span op here there told = record {
    same = λ tell. ap (λ (one : TypedExpr). value_at span (settled_typed (unary_rule op one.typed)))
        (told.same (value_tells there.typed.value there.named (unary_operand (operand_wanted op) op there.typed tell)));
    typed = unary_typed (operand_wanted op) op there.typed;
    shape = tt;
  }

  binary_told : (span : Span) (op : Operator) (left right left2 right2 : TypedExpr) → Tells left left2 → Tells right right2
      → Tells (value_at span (settled_typed (binary_rule op left.typed right.typed))) (value_at span (settled_typed (binary_rule op left2.typed right2.typed)))
  binary_told span op left right left2 right2 first second = record {
    same = λ tell.
        let both = binary_operands (operands_wanted op) op left2.typed right2.typed tell in
        ap (λ (one : TypedExpr). value_at span (settled_typed (binary_rule op one.typed right.typed))) (first.same (value_tells left2.typed.value left2.named both.0))
        ∙ ap (λ (one : TypedExpr). value_at span (settled_typed (binary_rule op left2.typed one.typed))) (second.same (value_tells right2.typed.value right2.named both.1));
    typed = binary_typed (operands_wanted op) op left2.typed right2.typed;
    shape = tt;
  }

  -- after a component stands a name
  field_told : (span : Span) (here there : TypedExpr) (field : Name) → Tells here there → (SameUse now end) field.span
      → Tells (field_typing now span here field here.named).typed_expr (field_typing end span there field there.named).typed_expr
  field_told span here there field told used = by there.named refl
    where
      other : Tells (field_typing now span here field here.named).typed_expr (value_at span (settled_typed (field_outcome end there.typed field.text)))
      other = silent now end _ span (field_outcome end there.typed field.text) (fielded end there.typed field.text (out-Ty there.typed.ty))

      by : (is : Named) → there.named ≡ is → Tells (field_typing now span here field here.named).typed_expr (field_typing end span there field is).typed_expr
      by (named.Component decl) is =
          let same : here.named ≡ named.Component decl = ap (λ (one : TypedExpr). one.named) (told.same (name_tells there.typed.value there.named (ap is_value_name is))) ∙ is in
          subst (λ name. Tells (field_typing now span here field name).typed_expr (name_typing end span field.span).typed_expr) (sym same) (used span)
      by _ is = other

  -- ---- predefined functions

  -- `low` or `high`
  record IsEnd (rule : Ty → Shape → Outcome) : Type 0 where
    typed : (ty : Ty) (shape : Shape) → is_no_type ty ≡ false → is_fault (settled_typed (rule ty shape)).value ≡ true → is_no_type (settled_typed (rule ty shape)).ty ≡ false

  ended : (met : Bool) (ty : Ty) (value : Static) → is_no_type ty ≡ false → is_fault (settled_typed (met_if met (computed ty value))).value ≡ true
      → is_no_type (settled_typed (met_if met (computed ty value))).ty ≡ false
  ended true ty value typed fault = typed
  ended false ty value typed fault = absurd (false≢true fault)

  end_typed : (rule : Ty → Shape → Outcome) → IsEnd rule → (ty : Ty) (shape : Shape) → is_fault (settled_typed (unless_untyped ty (rule ty shape))).value ≡ true
      → is_no_type (settled_typed (unless_untyped ty (rule ty shape))).ty ≡ false
  end_typed rule is ty shape = by (is_no_type ty) refl
    where
      by : (b : Bool) → is_no_type ty ≡ b → is_fault (settled_typed (if b then Met refused_typed else rule ty shape)).value ≡ true → is_no_type (settled_typed (if b then Met refused_typed else rule ty shape)).ty ≡ false
      by true untyped fault = absurd (false≢true fault)
      by false typed fault = is.typed ty shape typed fault

  abbrev end_of : (Ty → Shape → Outcome) → Facts → Named → Outcome
  end_of rule facts (named.«Type» ty) = unless_untyped ty (rule ty (ends_shape facts.infos ty))
  end_of rule facts _ = Broken

  end_told : (rule : Ty → Shape → Outcome) → IsEnd rule → (span : Span) (here there : TypedExpr) → Tells here there
      → Tells (value_at span (settled_typed (end_of rule now here.named))) (value_at span (settled_typed (end_of rule end there.named)))
  end_told rule ends span here there told = by there.named refl told.shape
    where
      other : Tells (value_at span (settled_typed (end_of rule now here.named))) (value_at span (settled_typed Broken))
      other = silent now end _ span Broken refl

      by : (is : Named) → there.named ≡ is → (SameShape now end) is → Tells (value_at span (settled_typed (end_of rule now here.named))) (value_at span (settled_typed (end_of rule end is)))
      by (named.«Type» ty) is shape =
          let same : here.named ≡ named.«Type» ty = ap (λ (one : TypedExpr). one.named) (told.same (name_tells there.typed.value there.named (ap is_value_name is))) ∙ is in
          record {
            same = λ tell. ap (λ name. value_at span (settled_typed (end_of rule now name))) same ∙ ap (λ one. value_at span (settled_typed (unless_untyped ty (rule ty one)))) shape;
            typed = end_typed rule ends ty (ends_shape end.infos ty);
            shape = tt;
          }
      by _ is shape = other

  low_end : IsEnd low_rule
  low_end = record { typed = λ ty shape typed fault. ended (may_have_ends ty) ty (found (lowest_value shape)) typed fault }

  high_end : IsEnd high_rule
  high_end = record { typed = λ ty shape typed fault. ended (may_have_ends ty) ty (found (highest_value shape)) typed fault }

  low_of : (facts : Facts) (name : Named) → low_outcome facts.infos name ≡ end_of low_rule facts name
  low_of facts (named.«Type» ty) = refl
  low_of facts _ = refl

  high_of : (facts : Facts) (name : Named) → high_outcome facts.infos name ≡ end_of high_rule facts name
  high_of facts (named.«Type» ty) = refl
  high_of facts _ = refl

  end_by : (name : Predefined) (rule : Ty → Shape → Outcome) → IsEnd rule → ((facts : Facts) (one : TypedExpr) → one_outcome facts.infos name one ≡ end_of rule facts one.named)
      → (span : Span) {heres theres : List TypedExpr} → AllTell heres theres
      → Tells (value_at span (settled_typed (by_one now.infos name (only heres)))) (value_at span (settled_typed (by_one end.infos name (only theres))))
  end_by name rule ends is span none_told = silent now end _ span Broken refl
  end_by name rule ends is span (one_told {here = here} {there = there} told none_told) =
      subst (λ t. t) (λ i. Tells (value_at span (settled_typed (sym (is now here) i))) (value_at span (settled_typed (sym (is end there) i)))) (end_told rule ends span here there told)
  end_by name rule ends is span (one_told told (one_told more rest)) = silent now end _ span Broken refl

  function_told : (span : Span) (name : Predefined) (heres theres : List TypedExpr) → AllTell heres theres
      → Tells (function_typing now span name heres).typed_expr (function_typing end span name theres).typed_expr
  function_told span predefined.Low heres theres told = end_by predefined.Low low_rule low_end (λ facts one. low_of facts one.named) span told
  function_told span predefined.High heres theres told = end_by predefined.High high_rule high_end (λ facts one. high_of facts one.named) span told
  function_told span name heres theres told = silent now end _ span (function_outcome end name theres) (function_unknown end name theres tt)

  -- ---- calls

  call_told : (span : Span) (here there : TypedExpr) (heres theres : List TypedExpr) → Tells here there → AllTell heres theres
      → Tells (called_by now span here heres here.named).typed_expr (called_by end span there theres there.named).typed_expr
  call_told span here there heres theres told all = by there.named refl
    where
      Goal : TypedExpr → Type 0
      Goal = Tells (called_by now span here heres here.named).typed_expr

      invoked : Goal (value_at span (settled_typed (invoked_outcome end.signatures there.typed.ty theres)))
      invoked = silent now end _ span (invoked_outcome end.signatures there.typed.ty theres) (returned_unknown _ _)

      by : (is : Named) → there.named ≡ is → Goal (called_by end span there theres is).typed_expr
      by (named.Predefined name) is =
          let same : here.named ≡ named.Predefined name = ap (λ (one : TypedExpr). one.named) (told.same (name_tells there.typed.value there.named (ap is_value_name is))) ∙ is in
          subst (λ one. Tells (called_by now span here heres one).typed_expr (function_typing end span name theres).typed_expr) (sym same) (function_told span name heres theres all)
      by (named.«Type» ty) is = silent now end _ span (made_outcome end ty theres) (recorded end theres (out-Ty ty))
      by _ is = invoked

  -- ---- each tree, when its parts are so

  abbrev IsSilent : Typing → Type 0
  IsSilent there = (there.typed_expr.typed.value ≡ Unknown) × (there.typed_expr.named ≡ named.Nothing)

  abbrev NodeGood : List Span → Inferrer → Type 0
  NodeGood names infer = (SameUses now end) names → Tells (infer now).typed_expr (infer end).typed_expr

  abbrev TreeGood : Tree → Type 0
  TreeGood tree = NodeGood (expr_names tree) (infer_expr tree)

  record CalledTold (here there : Called) : Type 0 where
    span : here.span ≡ there.span
    callee : Tells here.callee.typed_expr there.callee.typed_expr
    arguments : AllTell (typed_exprs_of here.arguments) (typed_exprs_of there.arguments)

  abbrev CalledGood : List Span → CalledInferrer → Type 0
  CalledGood names infer = (SameUses now end) names → CalledTold (infer now) (infer end)

  abbrev good : Claim
  good = record { create = λ tree. IsSilent (infer_create tree end); expr = TreeGood; invocation = λ tree. CalledGood (invocation_names tree) (infer_invocation tree); part = λ tree. Unit {0} }

  create_good : (y : CreateNode good) → IsSilent (from_create inferring (bare_create good y) end)
  create_good (Create-F.Resource span resource arguments machine) =
      let decl = resource_named end resource in
      (made_unknown end (typed_exprs_of (infer_all (map infer_expr (map (λ (x : KnownTree TreeGood). x.0) arguments)) end)) (instance_type decl) (resource_type end.infos decl), refl)
  create_good (Create-F.Machine span) = (refl, refl)

  all_told : (xs : List (KnownTree TreeGood)) → (SameUses now end) (joined (map expr_names (map (λ (x : KnownTree TreeGood). x.0) xs)))
      → AllTell (typed_exprs_of (infer_all (map infer_expr (map (λ (x : KnownTree TreeGood). x.0) xs)) now)) (typed_exprs_of (infer_all (map infer_expr (map (λ (x : KnownTree TreeGood). x.0) xs)) end))
  all_told [] same = none_told
  all_told (x ∷ xs) same = one_told (x.1 (each-left (SameUse now end) (expr_names x.0) _ same)) (all_told xs (each-right (SameUse now end) (expr_names x.0) _ same))

  invocation_good : (y : InvocationNode good) → CalledGood (from_invocation expr_naming (bare_invocation good y)) (from_invocation inferring (bare_invocation good y))
  invocation_good y same = record {
    span = refl;
    callee = y.callee.1 (each-left (SameUse now end) (expr_names y.callee.0) _ same);
    arguments = all_told y.arguments (each-right (SameUse now end) (expr_names y.callee.0) _ same);
  }

  called_told : (here there : Called) → CalledTold here there → Tells (call_typing now here).typed_expr (call_typing end there).typed_expr
  called_told here there told =
      subst (λ span. Tells (called_by now here.span here.callee.typed_expr (typed_exprs_of here.arguments) here.callee.typed_expr.named).typed_expr
      (called_by end span there.callee.typed_expr (typed_exprs_of there.arguments) there.callee.typed_expr.named).typed_expr) told.span
      (call_told here.span here.callee.typed_expr there.callee.typed_expr (typed_exprs_of here.arguments) (typed_exprs_of there.arguments) told.callee told.arguments)

  silent_told : (here there : Typing) → IsSilent there → Tells here.typed_expr there.typed_expr
  silent_told here there is = record {
    same = λ tell. absurd (false≢true (sym (ap (λ value. tells_by value there.typed_expr.named) is.0 ∙ ap (λ name. tells_by Unknown name) is.1) ∙ tell));
    typed = λ fault. absurd (false≢true (sym (ap is_fault is.0) ∙ fault));
    shape = subst (SameShape now end) (sym is.1) tt;
  }

  expr_good : (y : ExprNode good) → NodeGood (from_expr expr_naming (bare_expr good y)) (from_expr inferring (bare_expr good y))
  expr_good (Expr-F.Literal span one) same = literal_told span one
  expr_good (Expr-F.Name name) same = same.0 name.span
  expr_good (Expr-F.BasicType span one) same = basic_told span one
  expr_good (Expr-F.Conversion span one inner) same =
      silent now end _ span (conversion_outcome one (infer_expr inner.0 end).typed_expr.typed) (converted one (infer_expr inner.0 end).typed_expr.typed)
  expr_good (Expr-F.Group span inner) same = grouped_told span (infer_expr inner.0 now).typed_expr (infer_expr inner.0 end).typed_expr (inner.1 same)
  expr_good (Expr-F.Parts span parts) same =
      let all = map repeated (infer_parts (map infer_part (map (λ (x : KnownTree (λ (part : PartTree). Unit {0})). x.0) parts)) end) in
      silent now end _ span (bracketed_rule all) (bracketed all)
  expr_good (Expr-F.Field span owner field) same =
      field_told span (infer_expr owner.0 now).typed_expr (infer_expr owner.0 end).typed_expr field (owner.1 (each-left (SameUse now end) (expr_names owner.0) _ same))
      (each-right (SameUse now end) (expr_names owner.0) (field.span ∷ []) same).0
  expr_good (Expr-F.Index span array first None) same =
      silent now end _ span (index_outcome (infer_expr array.0 end).typed_expr.typed (infer_expr first.0 end).typed_expr.typed None)
      (picked (infer_expr array.0 end).typed_expr.typed (infer_expr first.0 end).typed_expr.typed None)
  expr_good (Expr-F.Index span array first (Some second)) same =
      silent now end _ span (index_outcome (infer_expr array.0 end).typed_expr.typed (infer_expr first.0 end).typed_expr.typed (Some (infer_expr second.0 end).typed_expr))
      (picked (infer_expr array.0 end).typed_expr.typed (infer_expr first.0 end).typed_expr.typed (Some (infer_expr second.0 end).typed_expr))
  expr_good (Expr-F.Call invocation) same = called_told (infer_invocation invocation.0 now) (infer_invocation invocation.0 end) (invocation.1 same)
  expr_good (Expr-F.Create create) same = silent_told (infer_create create.0 now) (infer_create create.0 end) create.1
  expr_good (Expr-F.Unary span operator inner) same = unary_told span (prefix_of operator) (infer_expr inner.0 now).typed_expr (infer_expr inner.0 end).typed_expr (inner.1 same)
  expr_good (Expr-F.Pending span operation) same =
      let component = operation_component (decl_info end.infos (decl_of (meaning_at end.uses (spot_of operation.span)))) in
      silent now end _ span (pending_outcome component) (pending component)
  expr_good (Expr-F.Binary span left operator right) same =
      binary_told span (operator_of operator) (infer_expr left.0 now).typed_expr (infer_expr right.0 now).typed_expr (infer_expr left.0 end).typed_expr (infer_expr right.0 end).typed_expr
      (left.1 (each-left (SameUse now end) (expr_names left.0) _ same)) (right.1 (each-right (SameUse now end) (expr_names left.0) _ same))

  -- ---- all trees

  by_parts : ByParts good
  by_parts = record {
    create = λ y. subst (λ t. t) (λ i. IsSilent (create_folds inferring (bare_create good y) i end)) (create_good y);
    expr = λ y. subst (λ t. t) (λ i. NodeGood (expr_folds expr_naming (bare_expr good y) i) (expr_folds inferring (bare_expr good y) i)) (expr_good y);
    invocation = λ y. subst (λ t. t) (λ i. CalledGood (invocation_folds expr_naming (bare_invocation good y) i) (invocation_folds inferring (bare_invocation good y) i)) (invocation_good y);
    part = λ y. tt;
  }

  -- what an expression tells in the end it tells now, where its names do
  pub expr_told : (tree : Tree) → (SameUses now end) (expr_names tree) → Tells (infer_expr tree now).typed_expr (infer_expr tree end).typed_expr
  expr_told = each_expr good by_parts
