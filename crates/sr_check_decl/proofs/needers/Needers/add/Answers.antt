-- The row of a spot has one more place.
use Rattle.std.proofs.Common.{◌≡◌, [], ◌∷◌, ◌++◌, unwrap_or, ap, ◌∙◌}
use Rattle.std.specs.Map.{lookup}
use Rattle.indexmap.specs.IndexMap.{insert_entry}
use Rattle.sr_names.specs.Spots.{same_spot}
use Rattle.sr_check_decl.specs.Needers.{needers_of}
use Rattle.sr_check_decl.proofs.Naming.{insert-twice}
use Rattle.sr_check_decl.proofs.needers.Needers.add.Goals as goal

pub returns : goal.returns
returns c =
    let spot = c.args.spot in
    let row : c.unwrap_or-places.result ≡ needers_of c.args.self.now spot =
    c.unwrap_or-places.ensures ∙ ap (λ o. unwrap_or o c.new-2.result) c.in_ok-held.ensures.old
    ∙ ap (λ d. unwrap_or (lookup (same_spot spot) c.self.inside.places.entries) d) c.new-2.ensures
    ∙ ap (λ es. needers_of es spot) c.self.view_is in
    c.in_ok-insert.ensures.entries
    ∙ ap (λ es. insert_entry same_spot es spot c.push.new.self) c.in_ok-held.ensures.entries
    ∙ insert-twice c.self.inside.places.entries spot c.new.result c.push.new.self
    ∙ ap (λ es. insert_entry same_spot es spot c.push.new.self) c.self.view_is
    ∙ ap (λ r. insert_entry same_spot c.args.self.now spot r) c.in_ok-push.ensures.ok
    ∙ ap (λ r. insert_entry same_spot c.args.self.now spot (r ++ c.args.place ∷ [])) row
