-- What the parse gives is what the rule takes of the words.
use Rattle.std.proofs.Common.{map, rules, string_bytes}
use Rattle.clap.specs.Simple.{app_of}
use Rattle.sr_words.proofs.Getters.{parse_refused, parse_taken}
use Rattle.sr_words.proofs.Parsed.{all_text}
use Rattle.sr_words.proofs.read.matches_of.Goals as goal

pub returns-in-Ok-try_get_matches_from-clause-matches : goal.returns-in-Ok-try_get_matches_from-clause-matches
returns-in-Ok-try_get_matches_from-clause-matches c =
    let parse = c.in-Ok-try_get_matches_from in
    (parse_taken c.args.verb (app_of c.in-Ok.parser) (map string_bytes c.args.words.now) parse.matches c.in-Ok.ensures (all_text c.args.words.now)
    parse.ensures.matches parse.ensures.kinds).0

pub returns-in-Ok-try_get_matches_from-clause-flags : goal.returns-in-Ok-try_get_matches_from-clause-flags
returns-in-Ok-try_get_matches_from-clause-flags c =
    let parse = c.in-Ok-try_get_matches_from in
    (parse_taken c.args.verb (app_of c.in-Ok.parser) (map string_bytes c.args.words.now) parse.matches c.in-Ok.ensures (all_text c.args.words.now)
    parse.ensures.matches parse.ensures.kinds).1

pub returns-in-Err-try_get_matches_from-clause-usage : goal.returns-in-Err-try_get_matches_from-clause-usage
returns-in-Err-try_get_matches_from-clause-usage c =
    λ usage. parse_refused c.args.verb (app_of c.in-Ok.parser) (map string_bytes c.args.words.now) c.in-Err-try_get_matches_from.error c.in-Ok.ensures
    (all_text c.args.words.now) c.in-Err-try_get_matches_from.ensures.kinds (c.fail_of.ensures (search rules))
