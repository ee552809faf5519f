use Rattle.std.proofs.Common.{◌≡◌, ◌∙◌, sym, subst, ◌++◌, OnOk, arith}
use Rattle.sr_journal.specs.Numbers.{number_text}
use Rattle.sr_journal.proofs.NumberTexts.{number_text-decimal}
use Rattle.sr_journal.proofs.writing.push_number.Goals as goal

pub returns : goal.returns
returns c =
    let e : c.as_bytes.result.now ≡ number_text c.args.number = c.as_bytes.ensures.value ∙ c.format.ensures.text ∙ sym (number_text-decimal c.args.number (omega arith)) in
    subst (λ w. OnOk c.push_all.result (c.push_all.new.self ≡ c.args.text.now ++ w)) e c.push_all.ensures.ok
