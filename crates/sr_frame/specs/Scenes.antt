-- The process at the line of an instruction.
use Rattle.sr_ask.specs.Here.{Here}
use Rattle.sr_frame.specs.declared.scene.Scene.{Scene}

abbrev pub here_of : Scene → Here
here_of scene = record { start = scene.start.now; limit = scene.limit; place = scene.place }
