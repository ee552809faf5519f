use Rattle.std.proofs.Common.{◌≡◌, ◌∙◌, ◌++◌, ◌∷◌, [], ap, arith, length, map, subst, sym, take}
use Rattle.sr_ask.specs.Items.{actor_of}
use Rattle.sr_clock_rows.specs.Columns.{AreColumns}
use Rattle.sr_races.proofs.WholeLemmas.{owners-more, take-whole}
use Rattle.sr_races.proofs.whole.add_all.Goals as goal

pub loop-item-init : goal.loop-item-init
loop-item-init c = record { columns = λ begun. begun; narrow = let none = c.requires.width in omega (arith, none) }

pub add-requires : goal.add-requires
add-requires c = let narrow = c.loop-item.invariant.narrow in omega (arith, narrow)

pub loop-item-preserved : goal.loop-item-preserved
loop-item-preserved c = record {
  columns = λ begun.
      let so-far = map actor_of (take c.loop-item.item-index c.args.items.now) in
      subst (λ xs. AreColumns xs c.add.new.self) (ap (λ n. so-far ++ n ∷ []) c.actor_of.ensures ∙ sym (owners-more c.args.items.now c.loop-item.item-index _ (omega arith)))
      (c.in_ok-add.ensures.columns so-far (c.loop-item.invariant.columns begun));
  narrow = let width = c.in_ok-add.ensures.width in let narrow = c.loop-item.invariant.narrow in omega (arith, width, narrow);
}

pub returns : goal.returns
returns c = λ begun.
    let all : c.loop-item.item-index ≡ length c.args.items.now = omega arith in
    subst (λ xs. AreColumns (map actor_of xs) c.loop-item.columns) (ap (λ n. take n c.args.items.now) all ∙ take-whole c.args.items.now) (c.loop-item.invariant.columns begun)
