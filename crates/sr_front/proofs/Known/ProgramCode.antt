-- In a program that is accepted no rule is broken in the code of components, which stands where nothing is known of its names at first; what is known after it is known in the end.
use Rattle.std.proofs.Common.{◌≡◌, List, map, None, sym, ◌∙◌, flat_map, subst}
use Rattle.std.specs.List.{IsDistinct}
use Rattle.sr_check.proofs.ErrorFree.{error_free_second}
use Rattle.sr_check.proofs.Kept.{none_found}
use Rattle.sr_check.specs.Checked.{checked, first_refused}
use Rattle.sr_check.specs.Components.{components_read}
use Rattle.sr_check.specs.ErrorFree.{ErrorFree}
use Rattle.sr_check_decl.specs.Cycles.{leads_left, type_cycles_found}
use Rattle.sr_check_decl.specs.Inferring.{program_inferred, program_known}
use Rattle.sr_check_decl.specs.Waiting.{files_waiting}
use Rattle.sr_check_expr.specs.declared.facts.Facts.{Facts}
use Rattle.sr_names.specs.Specs.{Specs}
use Rattle.sr_names.specs.Spots.{same_spot, spot_of}
use Rattle.sr_order.specs.Names.{file_names}
use Rattle.sr_scope.specs.declared.program.Names.{Names}
use Rattle.sr_tree.specs.declared.component.File.{File}
use Rattle.sr_value.specs.declared.place.Span.{Span}
use Rattle.sr_front.proofs.EffectFree.AllowedCode.{files_error_free}
use Rattle.sr_front.proofs.EffectFree.EffectFreeCode.{files_facts}
use Rattle.sr_front.proofs.Known.FirstStays.{all_settled}
use Rattle.sr_front.proofs.Known.InfosStay.{Reads, Settled, settled_here, stays_itself}
use Rattle.sr_front.proofs.Known.KeptNames.{Anywhere, all_fit}
use Rattle.sr_front.proofs.Known.Leading.{leads_on, leads_self}
use Rattle.sr_front.proofs.Served.Operations.{components}
use Rattle.sr_front.proofs.Lists.Placed.{Placed}
use Rattle.sr_front.proofs.Mentioned.ReadsCode.{component_inside, reads_components}

module _ (specs : Specs) (files : List File) (facts : Facts) (names : Names) where
  abbrev first : Facts
  first = program_known names.uses specs files

  pub code_error_free : first_refused names.uses specs files ≡ None → ErrorFree (components_read (components files facts) first).found
  code_error_free none =
      files_error_free files first
      (error_free_second (type_cycles_found (leads_left (program_inferred names.uses specs files) (files_waiting files))) _ (none_found names.uses specs files none))

  abbrev inside : List Span
  inside = flat_map component_inside (components files facts)

  module _ (checked_so : facts ≡ (checked names.uses specs files).facts) where
    pub code_ends : facts ≡ (components_read (components files facts) first).facts
    code_ends = checked_so ∙ files_facts files first

    code_read : Reads inside first facts
    code_read = subst (Reads inside first) (sym code_ends) (reads_components (components files facts) first)

    pub code_placed : IsDistinct same_spot (map spot_of (flat_map file_names files)) → Placed Anywhere facts inside first (components_read (components files facts) first).facts
    code_placed names_apart =
        let settled : Settled facts inside first facts = subst (λ (end : Facts). Settled end inside first end) (sym code_ends) (all_settled names.uses specs files names_apart) in
        subst (Placed Anywhere facts inside first) code_ends
        (record {
          free = all_fit (λ span. spot_of span) inside;
          settled = settled;
          start = record { stays = settled_here facts inside first facts code_read settled; leads = leads_on inside first facts code_read };
          end = record { stays = stays_itself facts; leads = leads_self facts };
        })
