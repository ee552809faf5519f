use Rattle.std.proofs.Common.{◌≡◌, ◌<◌, List, Some, ap, length, map, sym, subst, ◌∙◌, arith}
use Rattle.std.specs.List.{remove, slice_get}
use Rattle.std.proofs.lemmas.List.{length-map}
use Rattle.sr_line.proofs.BlockLemmas.{stands-nowhere}
use Rattle.sr_queue.specs.Indexes.{IsIndex}
use Rattle.sr_queue.specs.Lines.{IsRising, line_in}
use Rattle.sr_queue.specs.declared.class.Class.{Class}
use Rattle.sr_queue.specs.declared.index.Numbered.{Numbered}
use Rattle.sr_queue.proofs.IndexLemmas.{index-removed, map-remove, rising}
use Rattle.sr_queue.proofs.index.Index.remove_at.Goals as goal

pub forget-requires : goal.forget-requires
forget-requires c = subst IsRising (sym (c.self.invariant.lines c.in-Some.field-0.class)) (rising c.in-Some.field-0.class c.self.inside.entries.items c.self.invariant.ascending)

pub invariant_of-self : goal.invariant_of-self
invariant_of-self c =
    let entries = c.self.inside.entries.items in
    let at : slice_get entries c.args.place ≡ Some c.in-Some.field-0 = sym c.in-Some.ensures.item in
    subst (λ es. IsIndex es c.self.inside.next (line_in c.forget.new.lines.entries)) (sym c.in-Some.ensures.others)
    (index-removed entries c.self.inside.next c.self.inside.lines.entries c.forget.new.lines.entries c.self.invariant c.args.place c.in-Some.field-0 at c.forget.ensures)

pub returns-in-Some : goal.returns-in-Some
returns-in-Some c =
    let classes : List Numbered → List Class = map (λ e. e.class) in
    ap classes c.in-Some.ensures.others ∙ map-remove (λ (e : Numbered). e.class) c.self.inside.entries.items c.args.place ∙ ap (λ cs. remove cs c.args.place) c.self.view_is

pub returns-in_default : goal.returns-in_default
returns-in_default c =
    let entries = c.self.inside.entries.items in
    let within : c.args.place < length entries = omega (arith, c.requires, ap length c.self.view_is, length-map entries (λ (e : Numbered). e.class)) in
    absurd (stands-nowhere entries c.args.place within c.in_default.ensures.item)
