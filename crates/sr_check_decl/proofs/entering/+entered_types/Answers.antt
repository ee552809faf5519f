-- A signature is read after its formals and what it returns.
use Rattle.std.proofs.Common.{sym, ap, ◌∙◌}
use Rattle.std.specs.Option.{option_map}
use Rattle.sr_tree.specs.declared.types.Signature.{out-Signature}
use Rattle.sr_check_decl.specs.TypeTrees.{forms_of}
use Rattle.sr_check_decl.specs.Entering.{formals_read_in, maybe_returned, returned_read_in, signed_entered}
use Rattle.sr_check_decl.proofs.ReadIn.{signature-read}
use Rattle.sr_check_decl.proofs.entering.+entered_types.Goals as goal

pub enter_signature-returns-clause-value : goal.enter_signature-returns-clause-value
enter_signature-returns-clause-value t c =
    let facts = c.args.facts.now in
    let written = option_map returned_read_in (out-Signature c.args.tree.now).returned in
    let after = c.in_ok-params.ensures.entered ∙ ap (λ trees. (formals_read_in trees facts).facts) c.as_slice.ensures in
    let params = c.in_ok-params.ensures.value ∙ ap (λ trees. (formals_read_in trees facts).read) c.as_slice.ensures in
    let returned = c.in_ok-returned.ensures.value ∙ ap (λ f. (maybe_returned written f).read) after in
    let forms = c.forms_of.ensures ∙ ap forms_of c.as_slice-2.ensures in
    (λ i. record { params = params i; returned = returned i; forms = forms i }) ∙ sym (ap (λ signed. signed.read) (signature-read c.args.tree.now facts))

pub enter_signature-returns-clause-entered : goal.enter_signature-returns-clause-entered
enter_signature-returns-clause-entered t c =
    let facts = c.args.facts.now in
    let written = option_map returned_read_in (out-Signature c.args.tree.now).returned in
    let after = c.in_ok-params.ensures.entered ∙ ap (λ trees. (formals_read_in trees facts).facts) c.as_slice.ensures in
    let params = c.in_ok-params.ensures.value ∙ ap (λ trees. (formals_read_in trees facts).read) c.as_slice.ensures in
    let returned = c.in_ok-returned.ensures.value ∙ ap (λ f. (maybe_returned written f).read) after in
    let both = c.in_ok-returned.ensures.entered ∙ ap (λ f. (maybe_returned written f).facts) after in
    let forms = c.forms_of.ensures ∙ ap forms_of c.as_slice-2.ensures in
    c.in_ok-enter_signed.ensures
    ∙ (λ i. signed_entered (record { params = params i; returned = returned i; forms = forms i }) (both i))
    ∙ sym (ap (λ signed. signed.facts) (signature-read c.args.tree.now facts))
