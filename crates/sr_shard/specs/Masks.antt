-- What each of the 32 parts has of a world.
use Rattle.std.specs.Prelude.{ℕ, ◌==◌, [], filter}
use Rattle.sr_buckets.specs.Parts.{home, part}
use Rattle.sr_touch.specs.Homes.{line_home}
use Rattle.sr_world.specs.Worlds.{World}

-- A part has the processes, blocks, held invocations, replies and pending invocations that stand in it. Instances,
-- machines, the moment, input, output and a fixed status are whole in each part: only wide requests change them. Which
-- numbers were used no part says.
abbrev pub mask : (ℕ → ℕ) → ℕ → World → World
mask class s world = record world {
  live = filter (λ start. home start.process == s) world.live;
  variables = part s world.variables;
  pending = filter (λ p. line_home class p.owner p.op == s) world.pending;
  held = part s world.held;
  replies = part s world.replies;
  used = [];
}
