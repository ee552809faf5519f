use Rattle.std.proofs.Common.{◌≡◌, ◌∙◌, sym, ap, ℕ, ◌+◌, ◌^◌, ◌<◌, ◌≤◌, List, true, length, take, Err, arith}
use Rattle.std.proofs.lemmas.Result.{err_from_is_err_and}
use Rattle.std.specs.Str.{is_utf8}
use Rattle.sr_journal.specs.Journal.{newline}
use Rattle.sr_journal.specs.Reading.{word_at}
use Rattle.sr_journal.proofs.Names.{cut-name, bad-name, no-text-there, word-fails, word-reads}
use Rattle.sr_journal.proofs.name.name.Goals as goal
use Rattle.sr_journal.proofs.name.name.Goals.{then-can_begin_text, else-can_begin_text}

pub returns-then-length-bytes : goal.returns-then-length-bytes
returns-then-length-bytes c = λ n e ne.
    let s : List ℕ = c.args.bytes.now in
    let le : length s ≤ c.args.length = c.if-length-bytes.true in
    let short : length s + 4 < 2 ^ 64 = omega arith in
    elim c.if-can_begin_text.branch [
      | then-can_begin_text w ↦ cut-name n c.args.length s e short le (sym c.can_begin_text.ensures ∙ w.if-can_begin_text.true) ∙ ap (λ f. Err f) (sym w.result-is)
      | else-can_begin_text w ↦ bad-name n c.args.length s e short le (sym c.can_begin_text.ensures ∙ w.if-can_begin_text.false) ∙ ap (λ f. Err f) (sym w.result-is)
    ]

pub returns-then-not-is_text : goal.returns-then-not-is_text
returns-then-not-is_text c = λ n e ne.
    let s : List ℕ = c.args.bytes.now in
    let l : c.args.length < length s = c.if-length-bytes.false in
    let short : length s + 4 < 2 ^ 64 = omega arith in
    no-text-there n c.args.length s e short l (ap is_utf8 (sym c.split_at.ensures.front) ∙ sym c.is_text.ensures ∙ c.if-not-is_text.true)

pub returns-in_err-rest : goal.returns-in_err-rest
returns-in_err-rest c = λ n e.
    let s : List ℕ = c.args.bytes.now in
    let l : c.args.length < length s = c.if-length-bytes.false in
    let short : length s + 4 < 2 ^ 64 = omega arith in
    let text : is_utf8 (take c.args.length s) ≡ true = ap is_utf8 (sym c.split_at.ensures.front) ∙ sym c.is_text.ensures ∙ c.if-not-is_text.false in
    let p = err_from_is_err_and c.from_residual.result c.from_residual.ensures.1 in
    rw (p.1, p.2) (λ ne. word-fails n c.args.length s c.in_err-rest.field-0.0 e short l text (ap (word_at newline) (sym c.split_at.ensures.back) ∙ c.in_err-rest.ensures))

pub returns : goal.returns
returns c = λ n e.
    let s : List ℕ = c.args.bytes.now in
    let l : c.args.length < length s = c.if-length-bytes.false in
    let short : length s + 4 < 2 ^ 64 = omega arith in
    let text : is_utf8 (take c.args.length s) ≡ true = ap is_utf8 (sym c.split_at.ensures.front) ∙ sym c.is_text.ensures ∙ c.if-not-is_text.false in
    word-reads n c.args.length s c.in_ok-from_slice.field-0 c.in_ok-rest.rest.now e short l text (ap (word_at newline) (sym c.split_at.ensures.back) ∙ c.in_ok-rest.ensures)
    (c.in_ok-from_slice.ensures ∙ c.split_at.ensures.front)
