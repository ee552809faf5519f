-- When two operations are the same.
use Rattle.std.proofs.Common.{◌≡◌, Bool, true, false, ◌&&◌, ◌==◌, refl, ap, ◌∙◌, sym, true≢false}
use Rattle.std.proofs.lemmas.Bool.{eq-eqb, eqb-true}
use Rattle.std.specs.Cmp.{nat_eq_equiv}
use Rattle.std.specs.Bool.{beq}
use Rattle.sr_queue.specs.Classes.{same_class}
use Rattle.sr_queue.specs.declared.class.Class.{Class}

kind-turned : (a b : Bool) → beq a b ≡ beq b a
kind-turned true true = refl
kind-turned true false = refl
kind-turned false true = refl
kind-turned false false = refl

same_kind : (a b : Bool) → beq a b ≡ true → a ≡ b
same_kind true true is = refl
same_kind true false is = absurd (true≢false (sym is))
same_kind false true is = absurd (true≢false (sym is))
same_kind false false is = refl

pub same_class-turned : (a b : Class) → same_class a b ≡ same_class b a
same_class-turned a b =
    ap (λ t. t && ((a.owner == b.owner) && (a.op == b.op))) (kind-turned a.of_process b.of_process)
    ∙ ap (λ t. beq b.of_process a.of_process && (t && (a.op == b.op))) (nat_eq_equiv.symm a.owner b.owner)
    ∙ ap (λ t. beq b.of_process a.of_process && ((b.owner == a.owner) && t)) (nat_eq_equiv.symm a.op b.op)

pub same_class-itself : (a : Class) → same_class a a ≡ true
same_class-itself a =
    by a.of_process
    ∙ ap (λ t. t && (a.op == a.op)) (eq-eqb a.owner a.owner refl)
    ∙ eq-eqb a.op a.op refl
  where
    by : (b : Bool) → (beq b b && ((a.owner == a.owner) && (a.op == a.op))) ≡ ((a.owner == a.owner) && (a.op == a.op))
    by true = refl
    by false = refl

pub same_parts : (a b : Class) → same_class a b ≡ true → a ≡ b
same_parts a b same = by (beq a.of_process b.of_process) (a.owner == b.owner) (a.op == b.op) refl refl refl same
  where
    by : (kind owner op : Bool) → beq a.of_process b.of_process ≡ kind → (a.owner == b.owner) ≡ owner → (a.op == b.op) ≡ op → (kind && (owner && op)) ≡ true → a ≡ b
    by true true true kind owner op _ =
        ap (λ x. record a { of_process = x }) (same_kind a.of_process b.of_process kind)
        ∙ ap (λ x. record a { of_process = b.of_process; owner = x }) (eqb-true a.owner b.owner owner)
        ∙ ap (λ x. record b { op = x }) (eqb-true a.op b.op op)
    by true true false kind owner op is = absurd (true≢false (sym is))
    by true false more kind owner op is = absurd (true≢false (sym is))
    by false owner more kind _ _ is = absurd (true≢false (sym is))
