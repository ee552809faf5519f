use Rattle.std.proofs.Common.{Bool, length, reverse, ap, sym, ◌∙◌}
use Rattle.sr_code.specs.Fifos.{in_order}
use Rattle.sr_code.proofs.Fifos.{left_once_turned}
use Rattle.sr_code.proofs.fifo.Fifo.take_first.Goals as goal

pub returns : goal.returns
returns g c =
    let ordered = sym c.self.view_is ∙ ap (λ (turned : Bool). in_order turned c.self.inside.items.items) c.if-self.false in
    let turned = ap reverse ordered ∙ sym c.reverse.ensures.items in
    left_once_turned c.args.self.now c.pop-2.new.self.items c.pop-2.result c.reverse.new.self.len c.pop-2.new.self.len
    (c.reverse.new.self.ok.0 ∙ ap length (sym turned)) c.pop-2.new.self.ok.0 (turned ∙ c.pop-2.ensures.items) c.pop-2.ensures.cases
