-- What a trace puts: a line for each item, or a picture.
use Rattle.std.specs.Prelude.{◌≡◌, ℕ, Bool, true, false, List, Option, Some}
use Rattle.sr_core.specs.declared.component.Core.{Core}
use Rattle.sr_trace.specs.Lines.{trace_text}
use Rattle.sr_trace.specs.Pictures.{is_too_large, picture_of}
use Rattle.sr_trace.specs.Shown.{shown}
use Rattle.sr_trace.specs.declared.traced.Traced.{Traced}
use Rattle.sr_top.specs.declared.report.Ending.{Ending}
use Rattle.sr_top.specs.declared.report.Ending.TheVariants.{Limit, NoMemory}
use Rattle.sr_top.specs.declared.report.LimitKind.TheVariants as limit

-- the lines of the items, or their picture, where there can be one
abbrev pub told_text : Core → List (List ℕ) → Bool → List Traced → Option (List ℕ)
told_text core names false rows = Some (trace_text core names rows)
told_text core names true rows = picture_of core names rows

-- there are more items or processes than a picture has room for
abbrev pub HasNoRoom : Bool → List Traced → Type 0
HasNoRoom picture rows = (picture ≡ true) × (is_too_large (shown rows) ≡ true)

-- why there is no text of items
abbrev pub EndsTold : Bool → List Traced → Ending → Type 0
EndsTold picture rows (Limit limit.Items) = HasNoRoom picture rows
EndsTold picture rows NoMemory = Unit {0}
EndsTold picture rows _ = ⊥
