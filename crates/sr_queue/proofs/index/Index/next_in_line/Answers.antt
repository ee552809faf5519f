use Rattle.std.proofs.Common.{◌≡◌, None, Some, ap, sym, subst, ◌∙◌, leb}
use Rattle.std.specs.List.{find, slice_get}
use Rattle.sr_queue.specs.Classes.{next_among}
use Rattle.sr_queue.specs.Indexes.{numbers_in}
use Rattle.sr_queue.specs.Lines.{IsRising, numbers_of}
use Rattle.sr_queue.specs.declared.index.Numbered.{Numbered}
use Rattle.sr_queue.proofs.IndexLemmas.{next-place, no-line, no-next, rising}
use Rattle.sr_queue.proofs.NextLemmas.{no_item}
use Rattle.sr_queue.proofs.index.Index.next_in_line.Goals as goal

pub returns-in_err-line : goal.returns-in_err-line
returns-in_err-line c =
    c.from_residual.ensures
    ∙ sym (no-line c.args.class c.self.inside.entries.items c.args.from (sym (c.self.invariant.lines c.args.class) ∙ sym (ap numbers_of c.in_err-line.ensures.value)))
    ∙ ap (next_among c.args.class c.args.from) c.self.view_is

pub returns-in_err-least : goal.returns-in_err-least
returns-in_err-least c =
    c.from_residual-in_err-least.ensures ∙ sym (no_item c.args.class c.args.from c.self.inside.entries.items c.in_err-least.ensures) ∙ ap (next_among c.args.class c.args.from) c.self.view_is

pub first_from-requires : goal.first_from-requires
first_from-requires c =
    subst IsRising (sym (ap numbers_of c.in_ok-line.ensures.value ∙ c.self.invariant.lines c.args.class)) (rising c.args.class c.self.inside.entries.items c.self.invariant.ascending)

pub returns-in_err-number : goal.returns-in_err-number
returns-in_err-number c =
    let line : c.in_ok-line.line.now.items ≡ numbers_in c.args.class c.self.inside.entries.items = ap numbers_of c.in_ok-line.ensures.value ∙ c.self.invariant.lines c.args.class in
    let entries = c.self.inside.entries.items in
    let least : Numbered = c.in_ok-least.field-0.now in
    let at : Some least ≡ slice_get entries c.args.from = c.in_ok-least.ensures in
    let none : find (λ number. leb least.number number) (numbers_in c.args.class entries) ≡ None = ap (find (λ number. leb least.number number)) (sym line) ∙ sym c.in_err-number.ensures in
    c.from_residual-in_err-number.ensures ∙ sym (no-next c.args.class entries c.args.from least c.self.invariant.ascending (sym at) none) ∙ ap (next_among c.args.class c.args.from) c.self.view_is

pub returns : goal.returns
returns c =
    let line : c.in_ok-line.line.now.items ≡ numbers_in c.args.class c.self.inside.entries.items = ap numbers_of c.in_ok-line.ensures.value ∙ c.self.invariant.lines c.args.class in
    let entries = c.self.inside.entries.items in
    let least : Numbered = c.in_ok-least.field-0.now in
    let at : Some least ≡ slice_get entries c.args.from = c.in_ok-least.ensures in
    let found : find (λ number. leb least.number number) (numbers_in c.args.class entries) ≡ Some c.in_ok-number.number = ap (find (λ number. leb least.number number)) (sym line) ∙ sym c.in_ok-number.ensures in
    next-place c.args.class entries c.args.from c.in_ok-number.number least c.place_of.result c.self.invariant.ascending (sym at) found c.place_of.ensures ∙ ap (next_among c.args.class c.args.from) c.self.view_is
