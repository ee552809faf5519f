-- The pieces are those of the definition.
use Rattle.std.proofs.Common.{◌≡◌, ◌∙◌, codes}
use Rattle.sr_sample.specs.Sample.{lines_text, lines_before, lines_after, constant_line, servers_of, clients_of, calls_of}
use Rattle.sr_sample.proofs.Joining.{with_lines}
use Rattle.sr_sample.proofs.sample.Goals as goal

pub returns : goal.returns
returns c =
    let seed = c.args.seed in
    let before : c.in_ok-text.text ≡ lines_text lines_before = c.in_ok-text.ensures ∙ c.as_bytes.ensures.value in
    let after : c.as_bytes-2.result.now ≡ lines_text lines_after = c.as_bytes-2.ensures.value in
    with_lines (lines_text lines_before) (constant_line (codes "servers") (servers_of seed)) (constant_line (codes "clients") (clients_of seed))
    (constant_line (codes "calls") (calls_of seed)) (lines_text lines_after) _ _ _ _ _ _
    before c.in_ok-add_constant.ensures c.in_ok-add_constant-2.ensures c.in_ok-add_constant-3.ensures after c.in_ok-push_all.ensures.ok
