use Rattle.std.proofs.Common.{◌≡◌, ◌∙◌, sym, ap, ℕ, ◌+◌, List, true, false, drop, nat_le, is_some, slice_index}
use Rattle.std.specs.Str.Lossy.{utf8_error_len}
use Rattle.sr_journal.specs.Reading.{char_len}
use Rattle.sr_journal.proofs.Names.{begins-as-text, cannot-go-on, may-go-on, none-from-some, none-from-none}
use Rattle.sr_journal.proofs.name.can_begin_text.Goals as goal

pub returns-in-Ok : goal.returns-in-Ok
returns-in-Ok c = begins-as-text c.args.length c.args.bytes.now c.in-Ok.ensures.cases.1

pub returns-then-is_some : goal.returns-then-is_some
returns-then-is_some c =
    let some : is_some c.in-Err.fault.error_len ≡ true = cc in
    cannot-go-on c.args.length c.args.bytes.now c.in-Err.fault.valid_up_to c.in-Err.fault.error_len c.in-Err.ensures.cases.0 c.in-Err.ensures.valid_len c.in-Err.ensures.fault
    (none-from-some c.in-Err.fault.error_len some)

pub returns-else-is_some : goal.returns-else-is_some
returns-else-is_some c =
    let bytes : List ℕ = c.args.bytes.now in
    let none : is_some c.in-Err.fault.error_len ≡ false = cc in
    let at : c.valid_up_to-valid.result ≡ c.in-Err.fault.valid_up_to = c.valid_up_to-valid.ensures in
    let len : c.char_len.result ≡ char_len (slice_index bytes c.valid_up_to-valid.result) = c.char_len.ensures in
    ap (λ k. nat_le (c.valid_up_to-valid.result + k) c.args.length) len
    ∙ may-go-on c.args.length bytes c.valid_up_to-valid.result c.in-Err.fault.error_len c.in-Err.ensures.cases.0 (at ∙ c.in-Err.ensures.valid_len)
    (c.in-Err.ensures.fault ∙ ap (λ k. utf8_error_len (drop k bytes)) (sym at)) (none-from-none c.in-Err.fault.error_len none)
