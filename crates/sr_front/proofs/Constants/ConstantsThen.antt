-- A constant that is static by what is known at the end is static where its declaration is read, where the names in its value tell the same.
use Rattle.std.proofs.Common.{◌≡◌, ◌⊎◌, inl, inr, Bool, true, false, not, ◌&&◌, ◌||◌, List, ◌++◌, Option, Some, None, is_some, refl, sym, ap, subst, ◌∙◌}
use Rattle.std.proofs.lemmas.Bool.{and_parts, false≢true}
use Rattle.sr_check.proofs.Each.{each-right}
use Rattle.sr_check.proofs.Entered.{keeps_written}
use Rattle.sr_check_decl.specs.Constants.{const_of, const_rule, const_typed, has_type_of, is_fault, is_static, known_if, written_kind}
use Rattle.sr_check_decl.specs.Declaring.{declared_if}
use Rattle.sr_check_decl.specs.declared.kind.Kind.{Kind}
use Rattle.sr_check_decl.specs.Entering.{written_entered}
use Rattle.sr_check_decl.specs.Variables.{declare}
use Rattle.sr_check_expr.specs.declared.facts.Facts.{Facts}
use Rattle.sr_check_expr.specs.declared.info.Info.{Info}
use Rattle.sr_check_expr.specs.declared.info.Info.TheVariants as info
use Rattle.sr_check_expr.specs.declared.typed_expr.TypedExpr.{TypedExpr}
use Rattle.sr_check_expr.specs.Exprs.{infer_expr}
use Rattle.sr_check_expr.specs.Infos.{info_at}
use Rattle.sr_names.proofs.Marking.{entry-other, entry-same}
use Rattle.sr_names.specs.declared.spot.Spot.{Spot}
use Rattle.sr_names.specs.Spots.{spot_of}
use Rattle.sr_order.specs.Names.{expr_names, type_names, where_some}
use Rattle.sr_tree.specs.declared.declaration.ConstDecl.{ConstDecl}
use Rattle.sr_types.specs.declared.ty.Ty.{Ty}
use Rattle.sr_types.specs.declared.typed.Static.{Static}
use Rattle.sr_types.specs.declared.typed.Static.TheVariants.{Faults, Known, Unknown}
use Rattle.sr_types.specs.declared.typed.Typed.{Typed}
use Rattle.sr_types.specs.Types.{is_no_type}
use Rattle.sr_value.specs.declared.place.Span.{Span}
use Rattle.sr_front.proofs.Known.DeclaredThen.{ThenAt}
use Rattle.sr_front.proofs.Known.KeptDeclared.{Declares, keeps_if}
use Rattle.sr_front.proofs.Known.Lasting.{Away, Other, is_operation}
use Rattle.sr_front.proofs.Lists.Put.{put_holds}
use Rattle.sr_front.proofs.Lists.Rising.{BeforeAll, IsBefore, before_away}
use Rattle.sr_front.proofs.Constants.StaticExprs.{SameUses, Told, expr_told, tells_by}

-- ---- what is known after the declaration

module _ (spot : Spot) (found : Option Info) where
  -- it is still known, or an operation
  abbrev pub StillFound : Facts → Type 0
  StillFound facts = (info_at facts.infos spot ≡ found) ⊎ (is_operation (info_at facts.infos spot) ≡ true)

  found_with : (facts : Facts) (at : Spot) (one : Info) → Other spot at → StillFound facts → StillFound (declare facts at one)
  found_with facts at one apart (inl h) = inl (entry-other facts.infos at one spot apart ∙ h)
  found_with facts at one apart (inr h) = inr (ap is_operation (entry-other facts.infos at one spot apart) ∙ h)

  found_operation : (facts : Facts) (at : Spot) (ty : Ty) (component : Spot) (is_local : Bool) → StillFound facts → StillFound (declare facts at (info.Operation ty component is_local))
  found_operation facts at ty component is_local h = put_holds facts at (info.Operation ty component is_local) (λ other now. (now ≡ found) ⊎ (is_operation now ≡ true)) (inr refl) spot (λ apart. h)

  pub still_found : Declares StillFound (Other spot)
  still_found = record {
    entered = λ facts signature h. h;
    put = found_with;
    operation = found_operation;
    standing = λ facts component h. h;
  }

module _ (Inv : List Span → Facts → Type 0) (components : List Span) (last : Facts) (in_spec : Bool) (constant : ConstDecl) (declared : ThenAt Inv components last in_spec constant) where
  abbrev name : Spot
  name = spot_of constant.name.span

  -- in which the value is read
  abbrev pub reading : Facts
  reading = written_entered constant.ty declared.now

  -- what stands elsewhere than the names after it is known as in the end, where that is no operation
  pub found_then : (spot : Spot) → Away spot components → Away spot declared.after → Other spot name → StillFound spot (info_at declared.now.infos spot) last
  found_then spot named after apart =
      declared.leads (StillFound spot (info_at declared.now.infos spot)) (Other spot) (still_found spot (info_at declared.now.infos spot)) named after
      (keeps_if (StillFound spot (info_at declared.now.infos spot)) (Other spot) (still_found spot (info_at declared.now.infos spot)) _ constant.name _ reading apart
      (keeps_written (StillFound spot (info_at declared.now.infos spot)) (λ facts signature h. h) constant.ty declared.now (inl refl)))

  -- a constant with a type, or that is static, is known as what it is then
  pub name_then : Away name components → (is_some constant.ty || is_static (const_of in_spec reading constant).value) ≡ true
      → StillFound name (Some (info.Value (const_of in_spec reading constant))) last
  name_then named is =
      declared.leads Still (Other name) (still_found name (Some (info.Value (const_of in_spec reading constant)))) named
      (before_away name declared.after (right (where_some type_names constant.ty) (expr_names constant.value) declared.rises.0))
      (subst (λ b. Still (declared_if b constant.name (const_of in_spec reading constant) reading)) (sym is)
      (inl (entry-same reading.infos name (info.Value (const_of in_spec reading constant)))))
    where
      Still : Facts → Type 0
      Still = StillFound name (Some (info.Value (const_of in_spec reading constant)))

      right : (types values : List Span) → BeforeAll name ((types ++ values) ++ declared.after) → BeforeAll name declared.after
      right types values before = each-right (λ span. IsBefore name (spot_of span)) (types ++ values) declared.after before

-- ---- values

unknown_known : (b : Bool) → known_if b Unknown ≡ Unknown
unknown_known true = refl
unknown_known false = refl

module _ (in_spec : Bool) (kind : Option Kind) (value : Typed) where
  pub fault_broken : is_fault value.value ≡ true → is_no_type value.ty ≡ false → const_rule in_spec kind value ≡ false
  fault_broken fault typed =
      ap (λ b. b || (has_type_of kind value && (not (is_fault value.value) && (not in_spec || is_static value.value)))) typed
      ∙ (ap (λ b. has_type_of kind value && (not b && (not in_spec || is_static value.value))) fault ∙ last (has_type_of kind value))
    where
      last : (b : Bool) → (b && false) ≡ false
      last true = refl
      last false = refl

-- a constant that waits gets a value that isn't static, where it had none when it was declared
pub value_unknown : (now end : Facts) (in_spec : Bool) (constant : ConstDecl) → constant.ty ≡ None → is_static (const_of in_spec now constant).value ≡ false → SameUses now end (expr_names constant.value)
    → (const_typed in_spec None (infer_expr constant.value end).typed_expr.typed).value ≡ Unknown
value_unknown now end in_spec constant untyped not_static same = by there.typed.value refl
  where
    here : TypedExpr
    here = (infer_expr constant.value now).typed_expr

    there : TypedExpr
    there = (infer_expr constant.value end).typed_expr

    told : Told now end here there
    told = expr_told now end constant.value same

    rule : Bool
    rule = const_rule in_spec None there.typed

    not_then : here ≡ there → is_static (known_if rule there.typed.value) ≡ false
    not_then e =
        subst (λ (one : TypedExpr). is_static (known_if (const_rule in_spec None one.typed) one.typed.value) ≡ false) e
        (subst (λ ty. is_static (const_typed in_spec (written_kind now ty) here.typed).value ≡ false) untyped not_static)

    known : (b : Bool) (value : Static) → is_static value ≡ true → is_static (known_if b value) ≡ false → known_if b value ≡ Unknown
    known true value static none = absurd (false≢true (sym none ∙ static))
    known false value static none = refl

    by : (value : Static) → there.typed.value ≡ value → known_if rule there.typed.value ≡ Unknown
    by Unknown is = ap (known_if rule) is ∙ unknown_known rule
    by (Known value) is = known rule there.typed.value (ap is_static is) (not_then (told.same (ap (λ one. tells_by one there.named) is)))
    by (Faults fault) is = ap (λ b. known_if b there.typed.value) (fault_broken in_spec None there.typed (ap is_fault is) (told.typed (ap is_fault is)))

-- what is met of a constant in a spec, where its value has a type
pub record IsMet (kind : Option Kind) (value : Typed) : Type 0 where
  pub fits : has_type_of kind value ≡ true
  pub sound : is_fault value.value ≡ false
  pub static : is_static value.value ≡ true

pub rule_is : (kind : Option Kind) (value : Typed) → is_no_type value.ty ≡ false → const_rule true kind value ≡ true → IsMet kind value
rule_is kind value typed met = record { fits = both.0; sound = no_fault (is_fault value.value) rest.0; static = rest.1 }
  where
    rule : (has_type_of kind value && (not (is_fault value.value) && is_static value.value)) ≡ true
    rule = sym (ap (λ b. b || (has_type_of kind value && (not (is_fault value.value) && is_static value.value))) typed) ∙ met

    both : (has_type_of kind value ≡ true) × ((not (is_fault value.value) && is_static value.value) ≡ true)
    both = and_parts (has_type_of kind value) _ rule

    rest : (not (is_fault value.value) ≡ true) × (is_static value.value ≡ true)
    rest = and_parts (not (is_fault value.value)) (is_static value.value) both.1

    no_fault : (b : Bool) → not b ≡ true → b ≡ false
    no_fault true h = absurd (false≢true h)
    no_fault false h = refl

-- so its value is static where it is declared, where its type takes the value there
pub static_then : (now end : Facts) (constant : ConstDecl) (kind : Option Kind) → IsMet kind (infer_expr constant.value end).typed_expr.typed
    → has_type_of (written_kind now constant.ty) (infer_expr constant.value end).typed_expr.typed ≡ true → SameUses now end (expr_names constant.value)
    → is_static (const_of true now constant).value ≡ true
static_then now end constant kind met fits same =
    subst (λ (one : TypedExpr). is_static (known_if (const_rule true (written_kind now constant.ty) one.typed) one.typed.value) ≡ true) (sym (told.same (tell there.typed.value met.static)))
    (subst (λ b. is_static (known_if b there.typed.value) ≡ true) (sym rule) met.static)
  where
    there : TypedExpr
    there = (infer_expr constant.value end).typed_expr

    told : Told now end (infer_expr constant.value now).typed_expr there
    told = expr_told now end constant.value same

    tell : (value : Static) → is_static value ≡ true → tells_by value there.named ≡ true
    tell (Known value) h = refl
    tell (Faults fault) h = absurd (false≢true h)
    tell Unknown h = absurd (false≢true h)

    all : (a b c d : Bool) → b ≡ true → c ≡ false → d ≡ true → (a || (b && (not c && (false || d)))) ≡ true
    all true b c d e f g = refl
    all false true false true e f g = refl
    all false false c d e f g = absurd (false≢true e)
    all false true true d e f g = absurd (false≢true (sym f))
    all false true false false e f g = absurd (false≢true g)

    rule : const_rule true (written_kind now constant.ty) there.typed ≡ true
    rule = all (is_no_type there.typed.ty) (has_type_of (written_kind now constant.ty) there.typed) (is_fault there.typed.value) (is_static there.typed.value) fits met.sound met.static
