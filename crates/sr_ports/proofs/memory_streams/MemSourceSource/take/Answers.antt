use Rattle.std.proofs.Common.{Some, drop, ap, ◌∙◌, arith}
use Rattle.sr_ports.proofs.Taken.{taken_front}
use Rattle.sr_ports.proofs.memory_streams.MemSourceSource.take.Goals as goal

pub returns-clause-bytes : goal.returns-clause-bytes
returns-clause-bytes c =
    let source = c.args.self.now in
    let left = c.rest_of-left.ensures ∙ ap (drop source.at) c.as_bytes.ensures in
    (omega arith, ap Some (taken_front _ _ _ _ source.at _ left (omega arith) c.copy_front.ensures))
