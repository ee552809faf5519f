use Rattle.std.proofs.Common.{◌≡◌, ℕ, ◌+◌, ◌-◌, length, ap, sym, ◌∙◌, arith}
use Rattle.std.specs.List.{position}
use Rattle.std.specs.Option.{option_map}
use Rattle.sr_ask.specs.Numbers.{is_number, joined}
use Rattle.sr_ask.proofs.NumberLemmas.{place_front, place_past}
use Rattle.sr_ask.proofs.numbers.SharedNumbers.position.Goals as goal

pub returns-in-Some : goal.returns-in-Some
returns-in-Some c =
    let test = is_number c.args.number in
    let found = ap (λ bs. position test (joined bs)) (sym c.as_slice.ensures) ∙ sym c.in-Some.ensures in
    sym (ap (position test) (sym c.self.view_is) ∙ place_front test (joined c.self.inside.blocks) c.self.inside.last c.in-Some.at found)

pub returns-in-None : goal.returns-in-None
returns-in-None c =
    let test = is_number c.args.number in
    let before : ℕ = c.self.inside.len - c.len.result in
    let none = ap (λ bs. position test (joined bs)) (sym c.as_slice.ensures) ∙ sym c.in-None.ensures in
    let same : before ≡ length (joined c.self.inside.blocks) = omega (arith, c.len.ensures, c.self.invariant) in
    c.place_after.ensures
    ∙ ap (λ xs. option_map (λ k. before + k) (position test xs)) c.as_slice-in-None.ensures
    ∙ ap (λ n. option_map (λ k. n + k) (position test c.self.inside.last)) same
    ∙ sym (place_past test (joined c.self.inside.blocks) c.self.inside.last none)
    ∙ ap (position test) c.self.view_is
