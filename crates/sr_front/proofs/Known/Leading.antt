-- What is known at a place in code leads to what is known in the end.
use Rattle.std.proofs.Common.{◌≡◌, List, Option, Some, refl, sym, ap, ◌∙◌}
use Rattle.sr_types.proofs.Places.{insert_key-keeps}
use Rattle.sr_types.specs.Equality.{equal_signatures}
use Rattle.sr_value.specs.declared.place.Span.{Span}
use Rattle.sr_names.specs.Spots.{spot_of}
use Rattle.sr_types.specs.Signatures.{KeepsNumbers}
use Rattle.sr_check_expr.specs.declared.facts.Facts.{Facts}
use Rattle.sr_check_expr.specs.declared.info.Info.{Info}
use Rattle.sr_check_expr.specs.declared.info.Info.TheVariants as info
use Rattle.sr_check_expr.specs.Infos.{info_at}
use Rattle.sr_check_expr.specs.Naming.{fields_of}
use Rattle.sr_check_expr.specs.PredefinedCalls.{info_shape}
use Rattle.sr_front.proofs.EffectFree.EffectFreeExprs.{StaysInfo}
use Rattle.sr_front.proofs.Known.InfosStay.{Reads, Stays, Steady}
use Rattle.sr_front.proofs.Known.KeptNames.{Anywhere, all_fit}
use Rattle.sr_front.proofs.Known.Staying.{Same, stay_through}
use Rattle.sr_front.proofs.Known.TypesStay.{Grows}

-- ---- besides what names are: signatures grow, and names mean the same

pub record Leads (before after : Facts) : Type 0 where
  pub signatures : KeepsNumbers before.signatures after.signatures
  pub uses : before.uses ≡ after.uses
  pub specs : before.specs ≡ after.specs

pub leads_self : (facts : Facts) → Leads facts facts
leads_self facts = record { signatures = λ number signature at. at; uses = refl; specs = refl }

pub leads_through : (first second third : Facts) → Leads first second → Leads second third → Leads first third
leads_through first second third a b = record {
  signatures = λ number signature at. b.signatures number signature (a.signatures number signature at);
  uses = a.uses ∙ b.uses;
  specs = a.specs ∙ b.specs;
}

leads_steady : (before : Facts) → Steady (Leads before) Anywhere Anywhere
leads_steady before = record {
  closed = record {
    entered = λ facts signature h. record {
      signatures = λ number kept at. insert_key-keeps equal_signatures facts.signatures signature number kept (h.signatures number kept at);
      uses = h.uses;
      specs = h.specs;
    };
    put = λ facts spot typed free h. record { signatures = h.signatures; uses = h.uses; specs = h.specs };
    operation = λ facts spot ty component is_local fit h. record { signatures = h.signatures; uses = h.uses; specs = h.specs };
  };
  standing = λ facts component h. record { signatures = h.signatures; uses = h.uses; specs = h.specs };
}

-- what is read leads on
pub leads_on : (names : List Span) (before after : Facts) → Reads names before after → Leads before after
leads_on names before after reads = reads (Leads before) Anywhere (leads_steady before) (all_fit (λ span. spot_of span) names) (leads_self before)

-- ---- of types the same is known

same_fields : (a b : Option Info) → StaysInfo a b → StaysInfo b a → fields_of a ≡ fields_of b
same_fields a (Some (info.Record fields)) forth back = ap fields_of back
same_fields (Some (info.Record fields)) b forth back = sym (ap fields_of forth)
same_fields _ _ forth back = refl

same_shape : (a b : Option Info) → StaysInfo a b → StaysInfo b a → info_shape a ≡ info_shape b
same_shape a (Some (info.Enumeration number literals)) forth back = ap info_shape back
same_shape (Some (info.Enumeration number literals)) b forth back = sym (ap info_shape forth)
same_shape _ _ forth back = refl

-- so an expression that is read here is the same in the end
pub grown : (known now end : Facts) → Same known now → Same known end → now.here.component.spot ≡ end.here.component.spot → Stays now end → Leads now end → Grows now end
grown known now end here there component stays leads =
    let forth = stay_through now known end here.back there.forth in
    let back = stay_through end known now there.back here.forth in
    record {
      uses = leads.uses;
      specs = leads.specs;
      component = component;
      infos = stays;
      records = λ spot. same_fields (info_at now.infos spot) (info_at end.infos spot) (forth.infos spot) (back.infos spot);
      shapes = λ spot. same_shape (info_at now.infos spot) (info_at end.infos spot) (forth.infos spot) (back.infos spot);
      signatures = leads.signatures;
    }
