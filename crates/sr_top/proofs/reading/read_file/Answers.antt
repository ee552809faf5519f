-- The file was read, and added with its name.
use Rattle.std.proofs.Common.{◌∙◌, subst}
use Rattle.std.specs.Str.{IsUtf8}
use Rattle.sr_top.proofs.Readings.{added_as, read_as}
use Rattle.sr_top.proofs.reading.read_file.Goals as goal

pub returns-clause-read : goal.returns-clause-read
returns-clause-read g c =
    record {
      bytes = c.in_ok-bytes.bytes.items;
      is = read_as _ _ _ _ (c.in-Ok.ensures.cases.0 ∙ c.as_bytes.ensures) (subst IsUtf8 c.as_bytes.ensures c.in-Ok.ensures.cases.1) c.in_ok-bytes.ensures.bytes.1;
      added = added_as _ _ _ _ _ _ c.in_ok-push.ensures.ok (c.in_ok-file.ensures ∙ c.as_bytes-2.ensures) c.from_vec.ensures;
    }
