-- Where all that the guards of arms mention passes a test, so do the shared variables that they read.
use Rattle.std.proofs.Common.{◌&&◌, Bool, true, false, List, [], ◌∷◌, ◌++◌, IsTrue, flat_map, fold, refl, if◌then◌else◌}
use Rattle.std.proofs.lemmas.Bool.{and_from}
use Rattle.std.specs.List.{filter_map, list_all, list_any}
use Rattle.sr_core.specs.declared.owner.Root.TheVariants as root
use Rattle.sr_core.specs.declared.site.Arm.{Arm}
use Rattle.sr_core.specs.declared.site.SharedRead.{SharedRead}
use Rattle.sr_core.specs.declared.site.Site.{Site}
use Rattle.sr_lower_expr.proofs.Each.{both_pass, first_passes, rest_passes}
use Rattle.sr_tables.specs.declared.sites.Mention.{Mention}
use Rattle.sr_tables.specs.declared.sites.Mention.TheVariants as mention
use Rattle.sr_tables.specs.Sites.{arm_mentions, read_by, reads_of, same_read, with_read}

module _ (test : Mention → Bool) where
  abbrev pub read_passes : SharedRead → Bool
  read_passes read = test (mention.Variable (root.Shared read.home read.var))

  -- one more that passes
  one_more : (reads : List SharedRead) (read : SharedRead) → IsTrue (list_all read_passes reads) → IsTrue (read_passes read) → IsTrue (list_all read_passes (with_read reads read))
  one_more reads read all one = by (list_any (same_read read) reads)
    where
      by : (b : Bool) → IsTrue (list_all read_passes (if b then reads else reads ++ read ∷ []))
      by true = all
      by false = both_pass read_passes reads (read ∷ []) all (and_from _ _ one refl)

  all_more : (mentions : List Mention) (reads : List SharedRead) → IsTrue (list_all read_passes reads) → IsTrue (list_all test mentions) → IsTrue (list_all read_passes (fold with_read reads (filter_map read_by mentions)))
  all_more [] reads all passes = all
  all_more (mention.Variable (root.Own var) ∷ mentions) reads all passes = all_more mentions reads all (rest_passes test (mention.Variable (root.Own var)) mentions passes)
  all_more (mention.Variable (root.Shared whose var) ∷ mentions) reads all passes =
      all_more mentions (with_read reads (record { home = whose; var = var }))
      (one_more reads (record { home = whose; var = var }) all (first_passes test (mention.Variable (root.Shared whose var)) mentions passes)) (rest_passes test (mention.Variable (root.Shared whose var)) mentions passes)
  all_more (mention.Operation whose ∷ mentions) reads all passes = all_more mentions reads all (rest_passes test (mention.Operation whose) mentions passes)
  all_more (mention.Machine ∷ mentions) reads all passes = all_more mentions reads all (rest_passes test mention.Machine mentions passes)
  all_more (mention.Count op ∷ mentions) reads all passes = all_more mentions reads all (rest_passes test (mention.Count op) mentions passes)

  -- what is read is mentioned
  pub reads_pass : (arms : List Arm) → IsTrue (list_all test (flat_map arm_mentions arms)) → IsTrue (list_all read_passes (reads_of arms))
  reads_pass arms passes = all_more (flat_map arm_mentions arms) [] refl passes

-- what the guards and orders of a site mention passes a test, and so do the shared variables in its list of what they read
abbrev pub site_passes : (Mention → Bool) → Site → Bool
site_passes test site = list_all test (flat_map arm_mentions site.arms) && list_all (read_passes test) site.reads
