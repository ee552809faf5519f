use Rattle.std.proofs.Common.{◌≡◌, ◌∙◌, Some, ap, get_or, sym}
use Rattle.std.proofs.lemmas.Option.{slice_get-get_or}
use Rattle.std.specs.Prelude.{slice_get}
use Rattle.sr_core.specs.declared.owner.Home.TheVariants.{Mine}
use Rattle.sr_core.specs.declared.site.SharedRead.{SharedRead}
use Rattle.sr_select.specs.Guards.{guard_block, home_seen}
use Rattle.sr_plain.specs.Waiting.{at_block, waits}
use Rattle.sr_plain.proofs.JoinLemmas.{each-passed}
use Rattle.sr_plain.proofs.ListedLemmas.{read-more}
use Rattle.sr_plain.proofs.aside.wait_for_reads.Goals as goal

pub loop-read-preserved : goal.loop-read-preserved
loop-read-preserved c =
    let items = c.as_slice-read-items.result.now in
    let first : SharedRead = record { home = Mine; var = 0 } in
    let read : SharedRead = get_or items c.loop-read.read-index first in
    let is : slice_get c.args.site.now.reads c.loop-read.read-index ≡ Some read =
    ap (λ xs. slice_get xs c.loop-read.read-index) (sym c.as_slice-read-items.ensures) ∙ slice_get-get_or items c.loop-read.read-index first c.loop-read-test.true in
    read-more c.args.me c.args.env.now c.args.site.now c.loop-read.read-index read c.block_of-block.result c.args.waiters.now c.loop-read.waiters c.wait_for_read.new.waiters is
    (c.block_of-block.ensures ∙ ap (λ names. guard_block c.args.me (home_seen names c.args.env.now) read.home) c.as_slice.ensures) c.in_ok-wait_for_read.ensures c.loop-read.invariant

pub returns : goal.returns
returns c =
    let done = c.loop-read.invariant in
    let me = c.args.me in
    record {
      still = done.0;
      itself = each-passed (λ (read : SharedRead). at_block (λ key. waits c.loop-read.waiters key me.process) read.var (guard_block me (home_seen c.args.site.now.names c.args.env.now) read.home))
          c.as_slice-read-items.result.now c.args.site.now.reads _ c.as_slice-read-items.ensures c.loop-read-test.false c.loop-read.auto.read-index-end done.1;
    }
