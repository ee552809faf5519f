use Rattle.sr_gen.proofs.Programs.{generated}
use Rattle.sr_gen.proofs.program.generate.Goals as goal

pub returns : goal.returns
returns c =
    generated (record { items = c.enter_boot.new.out; boot = c.in_ok-boot.boot; initial = c.in_ok-initial.initial; final_code = c.in_ok-final_code.final_code; procs = c.in_ok-procs.procs })
    c.in_ok-procs.ensures c.in_ok-final_code.ensures c.in_ok-initial.ensures c.in_ok-boot.ensures.grows c.in_ok-boot.ensures.enters
