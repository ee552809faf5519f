use Rattle.std.proofs.Common.{◌≡◌, [], Some, ap, sym, subst, ◌∙◌, is_some}
use Rattle.std.specs.List.{remove, slice_get}
use Rattle.std.proofs.lemmas.Bool.{eqb-true}
use Rattle.std.proofs.lemmas.List.{nil_from_length}
use Rattle.sr_queue.specs.Lines.{ChangesLine, IsRising, line_in, numbers_of}
use Rattle.sr_queue.proofs.LineLemmas.{changes-from, changes-twice}
use Rattle.sr_queue.proofs.index.forget.Goals as goal

pub take_number-requires : goal.take_number-requires
take_number-requires c = subst IsRising (sym (ap numbers_of c.in-Some.ensures.value)) c.requires

pub returns-then-is_empty : goal.returns-then-is_empty
returns-then-is_empty c = λ place at.
    let old = c.args.lines.now in
    let line = c.take_number.new.line in
    let new = c.get_mut.follows.lender line in
    let last = c.drop_empty.new.lines in
    let was = ap numbers_of c.in-Some.ensures.value in
    let left : line.items ≡ remove (line_in old.entries c.args.class) place = c.take_number.ensures place (ap (λ ns. slice_get ns place) was ∙ at) ∙ ap (λ ns. remove ns place) was in
    let none : line.items ≡ [] = nil_from_length line.items (sym line.ok.0 ∙ eqb-true line.len 0 (sym c.is_empty.ensures ∙ c.if-is_empty.true)) in
    let first : ChangesLine old.entries new.entries c.args.class (remove (line_in old.entries c.args.class) place) =
    changes-from old.entries new.entries c.args.class (Some line) (remove (line_in old.entries c.args.class) place) left (((c.get_mut.follows.holds line).3 (ap is_some (sym c.in-Some.ensures.value))).0) in
    let second : ChangesLine new.entries last.entries c.args.class [] = c.drop_empty.ensures in
    subst (ChangesLine old.entries last.entries c.args.class) (sym none ∙ left) (changes-twice old.entries new.entries last.entries c.args.class _ _ first second)

pub returns-else-is_empty : goal.returns-else-is_empty
returns-else-is_empty c = λ place at.
    let old = c.args.lines.now in
    let line = c.take_number.new.line in
    let was = ap numbers_of c.in-Some.ensures.value in
    let left : line.items ≡ remove (line_in old.entries c.args.class) place = c.take_number.ensures place (ap (λ ns. slice_get ns place) was ∙ at) ∙ ap (λ ns. remove ns place) was in
    changes-from old.entries (c.get_mut.follows.lender line).entries c.args.class (Some line) (remove (line_in old.entries c.args.class) place) left (((c.get_mut.follows.holds line).3 (ap is_some (sym c.in-Some.ensures.value))).0)
