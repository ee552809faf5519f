use Rattle.std.proofs.Common.{rules, ◌∙◌, ◌∷◌, ◌-◌, IsTrue, sym, subst, ap, w32, ℤ, to_z, of_z, arith}
use Rattle.std.proofs.lemmas.Int.{to_z-of_z}
use mir.Val.{SFits}
use Rattle.sr_value.specs.Operators.{is_int}
use Rattle.sr_code.specs.declared.numbers.Numbers.TheInside.{Inside}
use Rattle.sr_code.specs.Numbers.{AllFit, number_from, numbers_from}
use Rattle.sr_code.proofs.Quantifiers.{first_and_rest, fit_further, further_fits, none_left}
use Rattle.sr_code.proofs.numbers.Numbers.next.Goals as goal
use Rattle.sr_code.proofs.numbers.Numbers.next.Goals.{then-left-gt0, else-left-gt0}

pub further-self-inside-requires : goal.further-self-inside-requires
further-self-inside-requires c =
    let P : ℤ → Type 0 = λ n. IsTrue (is_int (number_from c.self.inside.direction n c.self.inside.by)) in
    let fits : SFits w32 c.self.inside.next = search rules in
    subst P (sym (to_z-of_z w32 c.self.inside.next fits)) (further_fits c.self.inside.direction c.self.inside.next c.self.inside.by c.self.inside.count (omega arith) c.self.invariant)

pub invariant_of-self : goal.invariant_of-self
invariant_of-self c = elim c.if-left-gt0.branch [
  | then-left-gt0 w ↦
      let old : Inside = c.self.inside in
      let P : Inside → Type 0 = λ i. AllFit i.direction i.next i.by (old.count - 1) in
      let Q : ℤ → Type 0 = λ n. AllFit old.direction n old.by (old.count - 1) in
      let fits : SFits w32 old.next = search rules in
      let after : SFits w32 w.further-self-inside.result = search rules in
      let next = to_z-of_z w32 w.further-self-inside.result after ∙ w.further-self-inside.ensures ∙ ap (λ n. number_from old.direction n old.by) (to_z-of_z w32 old.next fits) in
      subst P (sym w.self-inside-is) (subst Q (sym next) (fit_further old.direction old.next old.by old.count c.self.invariant))
  | else-left-gt0 w ↦ λ k below. absurd (omega arith)
]

pub returns : goal.returns
returns c = elim c.if-left-gt0.branch [
  | then-left-gt0 w ↦
      let old : Inside = c.self.inside in
      let fits : SFits w32 old.next = search rules in
      let after : SFits w32 w.further-self-inside.result = search rules in
      let next = to_z-of_z w32 w.further-self-inside.result after ∙ w.further-self-inside.ensures ∙ ap (λ n. number_from old.direction n old.by) (to_z-of_z w32 old.next fits) in
      sym c.self.view_is ∙ first_and_rest old.direction old.next old.by old.count c.if-self-eq0.false
      ∙ ap (λ n. old.next ∷ numbers_from old.direction n old.by (old.count - 1)) (sym next)
      ∙ ap (λ n. n ∷ numbers_from old.direction (to_z w32 (of_z w32 w.further-self-inside.result)) old.by (old.count - 1)) (sym (to_z-of_z w32 old.next fits))
      ∙ ap (λ (i : Inside). to_z w32 (of_z w32 old.next) ∷ numbers_from i.direction i.next i.by (old.count - 1)) (sym w.self-inside-is)
  | else-left-gt0 w ↦
      let old : Inside = c.self.inside in
      let new : Inside = c.if-left-gt0.self-inside in
      let fits : SFits w32 old.next = search rules in
      sym c.self.view_is ∙ first_and_rest old.direction old.next old.by old.count c.if-self-eq0.false
      ∙ ap (λ ns. old.next ∷ ns) (none_left old.direction new.direction (number_from old.direction old.next old.by) new.next old.by new.by (old.count - 1) w.if-left-gt0.false)
      ∙ ap (λ n. n ∷ numbers_from new.direction new.next new.by (old.count - 1)) (sym (to_z-of_z w32 old.next fits))
]
