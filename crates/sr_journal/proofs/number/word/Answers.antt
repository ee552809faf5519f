use Rattle.std.proofs.Common.{◌≡◌, true, Some, None, drop, length}
use Rattle.std.proofs.lemmas.Bool.Decides.{Decides-eqb}
use Rattle.std.proofs.lemmas.Slice.Eq.{strip_prefix_is, starts_is}
use Rattle.sr_journal.proofs.Words.{is-after, is-part, is-other}
use Rattle.sr_journal.proofs.number.word.Goals as goal

pub returns-in-Some : goal.returns-in-Some
returns-in-Some c =
    is-after c.args.word.now c.args.bytes.now c.in-Some.rest.now (strip_prefix_is Decides-eqb c.args.bytes.now c.args.word.now (Some c.in-Some.rest) c.in-Some.ensures.cases)

pub returns-then-starts_with : goal.returns-then-starts_with
returns-then-starts_with c =
    let word = c.args.word.now in
    let bytes = c.args.bytes.now in
    let without = strip_prefix_is Decides-eqb bytes word None c.in-None.ensures.cases in
    is-part word bytes (drop (length bytes) word) ((starts_is Decides-eqb word bytes c.starts_with.result c.starts_with.ensures.value).0 c.if-starts_with.true) without

pub returns-else-starts_with : goal.returns-else-starts_with
returns-else-starts_with c =
    let word = c.args.word.now in
    let bytes = c.args.bytes.now in
    let without = strip_prefix_is Decides-eqb bytes word None c.in-None.ensures.cases in
    let part = (starts_is Decides-eqb word bytes c.starts_with.result c.starts_with.ensures.value).1 in
    is-other word bytes without (λ more e. let yes : c.starts_with.result ≡ true = part more e in cc)
