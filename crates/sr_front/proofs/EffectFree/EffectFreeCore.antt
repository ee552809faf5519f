-- The guards and orders of the arms of all sites in the core of accepted files are side-effect-free.
use Rattle.std.proofs.Common.{◌≡◌, ℕ, List, Option, Some, None, Ok, map, flat_map, refl, subst}
use Rattle.std.specs.Prelude.{IsTrue}
use Rattle.std.specs.List.{IsDistinct}
use Rattle.sr_check.specs.Checked.{checked, first_refused, verdict, verdict_by}
use Rattle.sr_check_decl.specs.Inferring.{program_known}
use Rattle.sr_check_expr.specs.declared.facts.Facts.{Facts}
use Rattle.sr_desugar.specs.Core.{core_of}
use Rattle.sr_names.specs.declared.finding.Diagnostic.{Diagnostic}
use Rattle.sr_names.specs.Noted.{Meanings}
use Rattle.sr_names.specs.Specs.{Specs}
use Rattle.sr_names.specs.Spots.{same_spot, spot_of}
use Rattle.sr_order.specs.Names.{file_names}
use Rattle.sr_order.proofs.FileNames.{names-picked}
use Rattle.sr_tables.specs.Parts.{components_in}
use Rattle.sr_tree.specs.declared.component.File.{File}
use Rattle.sr_front.proofs.Served.Serviced.{sites_effect_free}
use Rattle.sr_front.specs.Reading.{AreRead}
use Rattle.sr_check.proofs.Each.{Each, each-weaker}
use Rattle.sr_front.proofs.EffectFree.EffectFreeCode.{component_code, core_effect_free}
use Rattle.sr_front.proofs.Names.PlainNames.{component_plain}
use Rattle.sr_front.proofs.Names.Shares.{code_apart}
use Rattle.sr_front.proofs.Names.SpotsApart.{spots-apart}
use Rattle.sr_front.proofs.Known.Staying.{AllFree, Free}
use Rattle.sr_front.proofs.Known.TypeSpots.{Elsewhere, free_known}
use Rattle.sr_check.proofs.Kept.{none_found}

-- no type and no component has its name where a name of a proc or a statement stands
pub code_free : (uses : Meanings) (specs : Specs) (files : List File) → IsDistinct same_spot (map spot_of (flat_map file_names files))
    → AllFree (program_known uses specs files) (flat_map component_code (components_in files))
code_free uses specs files distinct =
    each-weaker (λ one. Each (Elsewhere (spot_of one)) (flat_map component_plain (components_in files))) (Free (program_known uses specs files))
    (λ one apart. free_known (spot_of one) uses specs files apart)
    (flat_map component_code (components_in files)) (code_apart files distinct)

-- where no rule of kinds is broken all guards are side-effect-free
effect_free_with : (uses : Meanings) (specs : Specs) (files : List File) → IsDistinct same_spot (map spot_of (flat_map file_names files)) → first_refused uses specs files ≡ None
    → IsTrue (sites_effect_free (core_of files (checked uses specs files).facts))
effect_free_with uses specs files distinct none = core_effect_free uses specs files (code_free uses specs files distinct) (none_found uses specs files none)

-- files that are read, of which none is refused
pub accepted_effect_free : (uses : Meanings) (specs : Specs) (contents : List (List ℕ)) (trees : List File) (facts : Facts) → AreRead contents trees → verdict uses specs trees ≡ Ok facts
    → IsTrue (sites_effect_free (core_of trees facts))
accepted_effect_free uses specs contents trees facts read met = by (first_refused uses specs trees) refl met
  where
    some_facts : (a b : Facts) → verdict_by None a ≡ Ok b → a ≡ b
    some_facts a b e = cc

    none_refused : (diagnostic : Diagnostic) (a b : Facts) → verdict_by (Some diagnostic) a ≡ Ok b → ⊥
    none_refused diagnostic a b e = cc

    by : (first : Option Diagnostic) → first_refused uses specs trees ≡ first → verdict_by first (checked uses specs trees).facts ≡ Ok facts → IsTrue (sites_effect_free (core_of trees facts))
    by None is e =
        subst (λ known. IsTrue (sites_effect_free (core_of trees known))) (some_facts (checked uses specs trees).facts facts e)
        (effect_free_with uses specs trees (spots-apart file_names names-picked contents trees read) is)
    by (Some diagnostic) is e = absurd (none_refused diagnostic (checked uses specs trees).facts facts e)
