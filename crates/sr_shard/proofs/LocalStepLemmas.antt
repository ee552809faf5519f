-- A step reads and changes no more than the parts that it touches.
use Rattle.std.proofs.Common.{◌≡◌, ℕ, ◌==◌, List, Some, refl, ap, sym, ◌∙◌}
use Rattle.std.specs.Prelude.{filter}
use Rattle.sr_ask.specs.declared.answer.Answer.{Answer}
use Rattle.sr_ask.specs.declared.entry.Entry.{Entry}
use Rattle.sr_ask.specs.declared.request.Request.{Request}
use Rattle.sr_ask.specs.declared.request.Request.TheVariants as request
use Rattle.sr_core.specs.declared.component.Core.{Core}
use Rattle.sr_orders.proofs.OrderLemmas as order
use Rattle.sr_touch.specs.Touched.{is_wide, parts_of}
use Rattle.sr_world.specs.Selecting.{me_of}
use Rattle.sr_world.specs.Worlds.{World}
use Rattle.sr_shard.specs.Acts.{Act, Fits, apply, part}
use Rattle.sr_shard.specs.Entries.{acts_of}
use Rattle.sr_shard.specs.Items.{with_number}
use Rattle.sr_shard.specs.Laws.{ReplaysIn, done_as, world_after}
use Rattle.sr_shard.specs.Masks.{mask}
use Rattle.sr_shard.specs.Written.{StepsAreLocal, entry_of, given_by, left_by}
use Rattle.sr_shard.proofs.LawProofs.{narrow, others_stay, others_tell_nothing}
use Rattle.sr_shard.proofs.LocalLemmas.{acts_are_local}
use Rattle.sr_shard.proofs.StepLemmas.{entries_are_steps}
use Rattle.sr_shard.proofs.WrittenLemmas.{steps_have_entries}

done_gives : (asked : Request) (name : ℕ) (w : World) (given : Answer) → given_by (done_as asked name w given) ≡ Some given
done_gives (request.Invoke target args wants) name w given = refl
done_gives (request.Forward held back target args) name w given = refl
done_gives _ name w given = refl

done_leaves : (asked : Request) (name : ℕ) (w : World) (given : Answer) → left_by (done_as asked name w given) ≡ Some (with_number asked name w)
done_leaves (request.Invoke target args wants) name w given = refl
done_leaves (request.Forward held back target args) name w given = refl
done_leaves _ name w given = refl

-- no part says which numbers were given out
numbers_hidden : (class : ℕ → ℕ) (asked : Request) (name : ℕ) (w : World) (s : ℕ) → mask class s (with_number asked name w) ≡ mask class s w
numbers_hidden class (request.Invoke target args wants) name w s = refl
numbers_hidden class (request.Forward held back target args) name w s = refl
numbers_hidden class _ name w s = refl

same_some : {A : Type 0} (a b : A) → Some a ≡ Some b → a ≡ b
same_some a b h = cc h

-- what the acts leave in a part
ends : (core : Core) (class : ℕ → ℕ) (acts : List Act) (w : World) (s : ℕ) → mask class s (world_after core class acts w) ≡ world_after core class (filter (λ act. part class act == s) acts) (mask class s w)
ends core class acts w s = order.parts_end 32 (part class) (mask class) (Fits core class) (apply core) (acts_are_local core class) acts w s

pub steps_are_local : StepsAreLocal
steps_are_local core class world other left process name ask given parts stands stands' lives names is answered leaves same =
    let entry : Entry = entry_of core world 0 0 process name ask given in
    let thin = (narrow (is_wide core class (me_of world process) ask) (parts_of core class (me_of world process) name ask.request) parts is).0 in
    let here : ReplaysIn core class (acts_of core entry) world = steps_have_entries core class world 0 0 process name ask given lives thin names answered in
    let there : ReplaysIn core class (acts_of core entry) other = others_tell_nothing core class entry parts world other is same here in
    let step = entries_are_steps core class entry world stands thin here in
    let step' = entries_are_steps core class entry other stands' thin there in
    let end : World = world_after core class (acts_of core entry) world in
    let end' : World = world_after core class (acts_of core entry) other in
    let left_is : left ≡ with_number ask.request name end = same_some left (with_number ask.request name end) (sym leaves ∙ ap left_by step ∙ done_leaves ask.request name end given) in (
      record {
        later = with_number ask.request name end';
        given = ap given_by step' ∙ done_gives ask.request name end' given;
        leaves = ap left_by step' ∙ done_leaves ask.request name end' given;
        same = λ s among.
            numbers_hidden class ask.request name end' s ∙ ends core class (acts_of core entry) other s
            ∙ ap (λ (w : World). world_after core class (filter (λ act. part class act == s) (acts_of core entry)) w) (sym (same s among))
            ∙ sym (ends core class (acts_of core entry) world s) ∙ sym (numbers_hidden class ask.request name end s) ∙ sym (ap (mask class s) left_is);
      },
      λ s apart. ap (mask class s) left_is ∙ numbers_hidden class ask.request name end s ∙ others_stay core class entry parts world is s apart,
    )
