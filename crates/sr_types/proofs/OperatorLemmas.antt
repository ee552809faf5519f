-- Laws of the rules of operators, each by what an operator wants of its operands.
use Rattle.std.proofs.Common.{◌≡◌, Bool, true, false, ◌&&◌, ◌||◌, Option, Some, None, refl, sym, ap, ◌∙◌}
use Rattle.sr_types.specs.declared.operators.Operand.{Operand}
use Rattle.sr_types.specs.declared.operators.Operand.TheVariants.{Number, Condition}
use Rattle.sr_types.specs.declared.operators.Operands.{Operands}
use Rattle.sr_types.specs.declared.operators.Operands.TheVariants.{Bools, Comparable, Ordered, Ints, Texts}
use Rattle.sr_types.specs.declared.typed.Outcome.TheVariants.{Broken, Met}
use Rattle.sr_types.specs.declared.typed.Typed.{Typed}
use Rattle.sr_types.specs.Kinds.{may_be_int, may_be_bool, may_be_text, may_be_ordered, may_be_compared}
use Rattle.sr_types.specs.Laws.{untyped}
use Rattle.sr_types.specs.Operators.{binary_with, unary_with, are_taken, is_taken, whole_type, operand_type}
use Rattle.sr_types.specs.Outcomes.{met_if, computed}
use Rattle.sr_types.specs.Statics.{static_of_two, static_of_one}
use Rattle.sr_types.specs.declared.ty.Ty.{Ty, out-Ty, out-roll-Ty}
use Rattle.sr_types.specs.declared.ty.Ty.TheOpen.{Ty-F}
use Rattle.sr_types.specs.declared.ty.Ty.TheVariants.{Int, Bool as Truth, Str, Untyped, rolls-Int, rolls-Bool, rolls-Str, rolls-Untyped}
use Rattle.sr_types.specs.Types.{fits_type, is_no_type, is_null_type, is_cap_type, are_nulls}
use Rattle.sr_types.specs.Equality.{same_type}
use Rattle.sr_value.specs.declared.operator.Operator.{Operator}

-- ---- outcomes

met_if-whole : (met : Bool) (whole other : Typed) → met_if met whole ≡ Met other → whole ≡ other
met_if-whole true whole other e = cc
met_if-whole false whole other e = cc

met_if-broken : (met : Bool) (whole : Typed) → met_if met whole ≡ Broken → met ≡ false
met_if-broken true whole e = cc
met_if-broken false whole e = refl

-- ---- tests

and-right : (x y : Bool) → y ≡ false → (x && y) ≡ false
and-right true y e = e
and-right false y e = refl

or-true : (x y : Bool) → (x || (true || y)) ≡ true
or-true true y = refl
or-true false y = refl

or-third : (x y z : Bool) → (x || (y || (true || z))) ≡ true
or-third true y z = refl
or-third false true z = refl
or-third false false z = refl

or-left : (x y : Bool) → x ≡ true → (x || y) ≡ true
or-left true y e = refl
or-left false y e = cc

-- what a test that holds stands beside decides
left-of : (x y z : Bool) → y ≡ true → (x && y) ≡ false → (x && z) ≡ false
left-of true y z t e = cc
left-of false y z t e = refl

-- ---- layers

out-int : out-Ty Int ≡ Ty-F.Int
out-int = ap out-Ty (sym rolls-Int) ∙ out-roll-Ty Ty-F.Int

out-bool : out-Ty Truth ≡ Ty-F.Bool
out-bool = ap out-Ty (sym rolls-Bool) ∙ out-roll-Ty Ty-F.Bool

out-str : out-Ty Str ≡ Ty-F.Str
out-str = ap out-Ty (sym rolls-Str) ∙ out-roll-Ty Ty-F.Str

out-untyped : out-Ty Untyped ≡ Ty-F.Untyped
out-untyped = ap out-Ty (sym rolls-Untyped) ∙ out-roll-Ty Ty-F.Untyped

-- ---- wholes

whole_of : (operands : Operands) (op : Operator) (a b whole : Typed) → binary_with (Some operands) op a b ≡ Met whole → computed (whole_type operands) (static_of_two op a.value b.value) ≡ whole
whole_of operands op a b whole e = met_if-whole (are_taken operands a.ty b.ty) (computed (whole_type operands) (static_of_two op a.value b.value)) whole e

whole_of_one : (operand : Operand) (op : Operator) (a whole : Typed) → unary_with (Some operand) op a ≡ Met whole → computed (operand_type operand) (static_of_one op a.value) ≡ whole
whole_of_one operand op a whole e = met_if-whole (is_taken operand a.ty) (computed (operand_type operand) (static_of_one op a.value)) whole e

whole_type-typed : (operands : Operands) → is_no_type (whole_type operands) ≡ false
whole_type-typed Bools = rw out-bool
whole_type-typed Comparable = rw out-bool
whole_type-typed Ordered = rw out-bool
whole_type-typed Ints = rw out-int
whole_type-typed Texts = rw out-str

operand_type-typed : (operand : Operand) → is_no_type (operand_type operand) ≡ false
operand_type-typed Number = rw out-int
operand_type-typed Condition = rw out-bool

pub binary_with-typed : (wanted : Option Operands) (op : Operator) (a b whole : Typed) → binary_with wanted op a b ≡ Met whole → is_no_type whole.ty ≡ false
binary_with-typed None op a b whole e = cc
binary_with-typed (Some operands) op a b whole e = ap (λ (w : Typed). is_no_type w.ty) (sym (whole_of operands op a b whole e)) ∙ whole_type-typed operands

pub unary_with-typed : (wanted : Option Operand) (op : Operator) (a whole : Typed) → unary_with wanted op a ≡ Met whole → is_no_type whole.ty ≡ false
unary_with-typed None op a whole e = cc
unary_with-typed (Some operand) op a whole e = ap (λ (w : Typed). is_no_type w.ty) (sym (whole_of_one operand op a whole e)) ∙ operand_type-typed operand

pub binary_with-value : (wanted : Option Operands) (op : Operator) (a b whole : Typed) → binary_with wanted op a b ≡ Met whole → whole.value ≡ static_of_two op a.value b.value
binary_with-value None op a b whole e = cc
binary_with-value (Some operands) op a b whole e = ap (λ (w : Typed). w.value) (sym (whole_of operands op a b whole e))

pub unary_with-value : (wanted : Option Operand) (op : Operator) (a whole : Typed) → unary_with wanted op a ≡ Met whole → whole.value ≡ static_of_one op a.value
unary_with-value None op a whole e = cc
unary_with-value (Some operand) op a whole e = ap (λ (w : Typed). w.value) (sym (whole_of_one operand op a whole e))

-- ---- operands of no type

untyped-none : is_no_type Untyped ≡ true
untyped-none = rw out-untyped

untyped-bool : may_be_bool Untyped ≡ true
untyped-bool = rw out-untyped

untyped-int : may_be_int Untyped ≡ true
untyped-int = rw out-untyped

untyped-text : may_be_text Untyped ≡ true
untyped-text = rw out-untyped

fits-from_untyped : (b : Ty) → fits_type Untyped b ≡ true
fits-from_untyped b = ap (λ (t : Bool). same_type Untyped b || (t || (is_no_type b || ((is_null_type Untyped && is_cap_type b) || are_nulls Untyped b)))) untyped-none ∙ or-true (same_type Untyped b) (is_no_type b || ((is_null_type Untyped && is_cap_type b) || are_nulls Untyped b))

fits-to_untyped : (a : Ty) → fits_type a Untyped ≡ true
fits-to_untyped a = ap (λ (t : Bool). same_type a Untyped || (is_no_type a || (t || ((is_null_type a && is_cap_type Untyped) || are_nulls a Untyped)))) untyped-none ∙ or-third (same_type a Untyped) (is_no_type a) ((is_null_type a && is_cap_type Untyped) || are_nulls a Untyped)

-- the second of two tests, the first of which holds
and-true : (x y : Bool) → x ≡ true → (x && y) ≡ false → y ≡ false
and-true true y p e = e
and-true false y p e = cc

-- a test of a left operand that an operand of no type passes
passed : (x y z : Bool) → x ≡ true → (x && y) ≡ false → (z && y) ≡ false
passed true y z p e = and-right z y e
passed false y z p e = cc

untyped-compared : may_be_compared Untyped ≡ true
untyped-compared = rw out-untyped

untyped-ordered : may_be_ordered Untyped ≡ true
untyped-ordered = rw out-untyped

kept_left : (operands : Operands) (a b : Ty) → are_taken operands Untyped b ≡ false → are_taken operands a b ≡ false
kept_left Bools a b e = passed (may_be_bool Untyped) (may_be_bool b) (may_be_bool a) untyped-bool e
kept_left Comparable a b e =
    and-right (may_be_compared a) (may_be_compared b && (fits_type a b || fits_type b a))
    (left-of (may_be_compared b) (fits_type Untyped b || fits_type b Untyped) (fits_type a b || fits_type b a)
    (or-left (fits_type Untyped b) (fits_type b Untyped) (fits-from_untyped b))
    (and-true (may_be_compared Untyped) (may_be_compared b && (fits_type Untyped b || fits_type b Untyped)) untyped-compared e))
kept_left Ordered a b e =
    and-right (may_be_ordered a) (may_be_ordered b && fits_type a b)
    (left-of (may_be_ordered b) (fits_type Untyped b) (fits_type a b) (fits-from_untyped b)
    (and-true (may_be_ordered Untyped) (may_be_ordered b && fits_type Untyped b) untyped-ordered e))
kept_left Ints a b e = passed (may_be_int Untyped) (may_be_int b) (may_be_int a) untyped-int e
kept_left Texts a b e = passed (may_be_text Untyped) (may_be_text b) (may_be_text a) untyped-text e

-- the right test of two, the first of which holds
untyped-and : (x y z : Bool) → y ≡ true → (x && (y && z)) ≡ false → (x && z) ≡ false
untyped-and true true z p e = e
untyped-and true false z p e = cc
untyped-and false y z p e = refl

kept_right : (operands : Operands) (a b : Ty) → are_taken operands a Untyped ≡ false → are_taken operands a b ≡ false
kept_right Bools a b e = left-of (may_be_bool a) (may_be_bool Untyped) (may_be_bool b) untyped-bool e
kept_right Comparable a b e =
    left-of (may_be_compared a) (fits_type a Untyped || fits_type Untyped a) (may_be_compared b && (fits_type a b || fits_type b a))
    (or-left (fits_type a Untyped) (fits_type Untyped a) (fits-to_untyped a))
    (untyped-and (may_be_compared a) (may_be_compared Untyped) (fits_type a Untyped || fits_type Untyped a) untyped-compared e)
kept_right Ordered a b e =
    left-of (may_be_ordered a) (fits_type a Untyped) (may_be_ordered b && fits_type a b) (fits-to_untyped a)
    (untyped-and (may_be_ordered a) (may_be_ordered Untyped) (fits_type a Untyped) untyped-ordered e)
kept_right Ints a b e = left-of (may_be_int a) (may_be_int Untyped) (may_be_int b) untyped-int e
kept_right Texts a b e = left-of (may_be_text a) (may_be_text Untyped) (may_be_text b) untyped-text e

kept_sole : (operand : Operand) → is_taken operand Untyped ≡ true
kept_sole Number = untyped-int
kept_sole Condition = untyped-bool

pub binary_with-left : (wanted : Option Operands) (op : Operator) (a b : Typed) → binary_with wanted op (untyped a) b ≡ Broken → binary_with wanted op a b ≡ Broken
binary_with-left None op a b e = refl
binary_with-left (Some operands) op a b e =
    let whole : Typed = computed (whole_type operands) (static_of_two op a.value b.value) in
    ap (λ (t : Bool). met_if t whole) (kept_left operands a.ty b.ty (met_if-broken (are_taken operands Untyped b.ty) whole e))

pub binary_with-right : (wanted : Option Operands) (op : Operator) (a b : Typed) → binary_with wanted op a (untyped b) ≡ Broken → binary_with wanted op a b ≡ Broken
binary_with-right None op a b e = refl
binary_with-right (Some operands) op a b e =
    let whole : Typed = computed (whole_type operands) (static_of_two op a.value b.value) in
    ap (λ (t : Bool). met_if t whole) (kept_right operands a.ty b.ty (met_if-broken (are_taken operands a.ty Untyped) whole e))

pub unary_with-sole : (wanted : Option Operand) (op : Operator) (a : Typed) → unary_with wanted op (untyped a) ≡ Broken → unary_with wanted op a ≡ Broken
unary_with-sole None op a e = refl
unary_with-sole (Some operand) op a e =
    let whole : Typed = computed (operand_type operand) (static_of_one op a.value) in
    let taken : is_taken operand Untyped ≡ true = kept_sole operand in
    let not_taken : is_taken operand Untyped ≡ false = met_if-broken (is_taken operand Untyped) whole e in
    cc
