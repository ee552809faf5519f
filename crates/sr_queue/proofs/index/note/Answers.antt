use Rattle.std.proofs.Common.{◌≡◌, ◌∷◌, [], ◌++◌, Some, ap, sym, ◌∙◌, is_some}
use Rattle.sr_queue.specs.Lines.{line_in, numbers_of}
use Rattle.sr_queue.proofs.LineLemmas.{changes-from, inserted, kept-from, on_err}
use Rattle.sr_queue.proofs.index.note.Goals as goal

pub returns-in_err-push_back-clause-err : goal.returns-in_err-push_back-clause-err
returns-in_err-push_back-clause-err c =
    let old = c.args.lines.now in
    let new = c.get_mut.follows.lender c.push_back.new.self in
    let through = c.get_mut.follows.holds c.push_back.new.self in
    let there = ap is_some (sym c.in-Some.ensures.value) in
    on_err c.from_residual.result (kept-from old.entries new.entries c.args.class
    (changes-from old.entries new.entries c.args.class (Some c.push_back.new.self) (line_in old.entries c.args.class)
    (c.in_err-push_back.ensures.items ∙ ap numbers_of c.in-Some.ensures.value) (through.3 there).0))

pub returns-in-Some-clause-ok : goal.returns-in-Some-clause-ok
returns-in-Some-clause-ok c =
    let old = c.args.lines.now in
    let new = c.get_mut.follows.lender c.push_back.new.self in
    let through = c.get_mut.follows.holds c.push_back.new.self in
    let there = ap is_some (sym c.in-Some.ensures.value) in
    changes-from old.entries new.entries c.args.class (Some c.push_back.new.self) (line_in old.entries c.args.class ++ c.args.number ∷ [])
    (c.in_ok-push_back.ensures.items ∙ ap (λ ns. ns ++ c.args.number ∷ []) (ap numbers_of c.in-Some.ensures.value)) (through.3 there).0

pub returns-clause-ok : goal.returns-clause-ok
returns-clause-ok c =
    let old = c.args.lines.now in
    let none : [] ≡ line_in old.entries c.args.class = ap numbers_of c.in_default.ensures.value in
    inserted old c.get_mut.follows.lender-at-none c.insert.new.self c.args.class c.push_back-2.new.self (line_in old.entries c.args.class ++ c.args.number ∷ []) c.get_mut.follows.holds-at-none
    (c.in_ok-push_back-2.ensures.items ∙ ap (λ ns. ns ++ c.args.number ∷ []) (c.new-line.ensures.items ∙ none)) c.in_ok-insert.ensures.updates.0
