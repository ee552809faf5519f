-- The spots of the parts so far, and the key of the part that follows them.
use Rattle.std.proofs.Common.{◌≡◌, ◌++◌, map, take}
use Rattle.sr_races.specs.Spots.{keys_on, last_key, spot_of}
use Rattle.sr_races.proofs.spots.push_on.Given as goal

abbrev pub invariant-loop-sel : goal.invariant-loop-sel
invariant-loop-sel l = record {
  last : l.last ≡ last_key l.key (take l.sel-index l.path);
  spots : l.spots ≡ l.fn.spots ++ map (spot_of l.count l.below l.writes) (keys_on l.key (take l.sel-index l.path));
}
