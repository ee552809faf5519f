use Rattle.std.proofs.Common.{◌≡◌, ◌∙◌, ◌++◌, ap, map, true}
use Rattle.std.proofs.lemmas.Result.{on_ok_weaker}
use Rattle.sr_races.proofs.SpotLemmas.{noted-built}
use Rattle.sr_races.specs.Spots.{first_key, keys_on, last_key, spot_of}
use Rattle.sr_races.proofs.spots.push_noted.Goals as goal

pub returns : goal.returns
returns c =
    let access = c.args.access.now in
    let n = c.args.count in
    let way : c.push_on.new.spots ≡ c.args.spots.now ++ map (spot_of n true access.writes) (keys_on (first_key access) access.path) =
    c.in_ok-last.ensures.spots ∙ ap (λ path. c.args.spots.now ++ map (spot_of n true access.writes) (keys_on c.first_key-key.result path)) c.as_slice-path.ensures
    ∙ ap (λ key. c.args.spots.now ++ map (spot_of n true access.writes) (keys_on key access.path)) c.first_key-key.ensures in
    let last : c.in_ok-last.last ≡ last_key (first_key access) access.path =
    c.in_ok-last.ensures.last ∙ ap (last_key c.first_key-key.result) c.as_slice-path.ensures ∙ ap (λ key. last_key key access.path) c.first_key-key.ensures in
    on_ok_weaker c.push-2.result
    (λ pushed. noted-built n access c.args.spots.now c.push_on.new.spots c.push.new.self c.push-2.new.self c.in_ok-last.last c.spot_of.result c.spot_of-2.result c.requires.none way last c.spot_of.ensures c.in_ok-push.ensures.ok c.spot_of-2.ensures pushed)
    c.push-2.ensures.ok
