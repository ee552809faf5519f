-- Tokens that are told again spell the same components and files.
use Rattle.std.proofs.Common.{◌≡◌, ℕ, ◌≤◌, ◌+◌, fold, Bool, true, List, [], ◌∷◌, ◌++◌, map, refl, ap, sym, subst, ◌∙◌, Option, Some, None}
use Rattle.std.proofs.lemmas.List.{map-append}
use Rattle.sr_tree.specs.declared.token.Token.{Token}
use Rattle.sr_tree.specs.declared.name.Name.{Name}
use Rattle.sr_tree.specs.declared.types.Formal.{Formal}
use Rattle.sr_tree.specs.declared.component.File.{File}
use Rattle.sr_tree.specs.declared.component.Component.{Component}
use Rattle.sr_tree.specs.declared.component.SpecItem.{SpecItem}
use Rattle.sr_tree.specs.declared.component.SpecItem.TheVariants as spec_item
use Rattle.sr_tree.specs.declared.component.Item.{Item}
use Rattle.sr_tree.specs.declared.component.Item.TheVariants as item
use Rattle.sr_tree.specs.declared.component.Proc.{Proc}
use Rattle.sr_tree.specs.declared.component.Procedure.{Procedure}
use Rattle.sr_tree.specs.declared.component.Process.{Process}
use Rattle.sr_tree.specs.declared.component.FinalCode.{FinalCode}
use Rattle.sr_tree.specs.declared.component.ProcItem.{ProcItem}
use Rattle.sr_tree.specs.declared.component.ProcItem.TheVariants as proc_item
use Rattle.sr_tree.specs.declared.component.Component.TheVariants.{Resource, SplitResource, Global}
use Rattle.sr_grammar_laws.proofs.AgainTypes.{mode_same}
use Rattle.sr_tree.specs.Components as c
use Rattle.sr_tree.specs.Components.{SpellsList, SpellsEndName, SpellsEnd, SpellsSpecItem, SpellsProcItem, SpellsProc, SpellsProcedure, SpellsProcess, SpellsFinal, SpellsItem, AllOfResource, AllByValue, SpellsOptionalFormals, SpellsGlobalBody, SpellsComponent, Spells, IsByValue, final_count, IsOfResource}
use Rattle.sr_tree.specs.Tables.{name_of}
use Rattle.sr_grammar_laws.specs.SameExpressions as same_exprs
use Rattle.sr_grammar_laws.specs.SameExpressions.{SameList, SameName, SameOption}
use Rattle.sr_grammar_laws.specs.SameTypes as same_types
use Rattle.sr_grammar_laws.specs.SameTypes.{SameFormals}
use Rattle.sr_grammar_laws.specs.SameComponents as same_comps
use Rattle.sr_grammar_laws.specs.SameComponents.{SameComponent, SameFile, SameFinalCode, SameItem, SameProc, SameProcItem, SameProcedure, SameProcess, SameSpecItem}
use Rattle.sr_grammar_laws.specs.Retelling.{Keeps}
use Rattle.sr_grammar_laws.proofs.Retold.{same_name, name_text}
use Rattle.sr_grammar_laws.proofs.AgainTypes.{again_formals, again_signature}
use Rattle.sr_grammar_laws.proofs.AgainDeclarations.{again_import, again_const, again_type_decl, again_op_type, again_op, again_var, again_sem}
use Rattle.sr_grammar_laws.proofs.AgainStatements.{again_statement}
use Rattle.sr_grammar_laws.proofs.AgainParts.{again_optional_names, again_returned_name, again_optional_quantifiers}

-- ---- what trees that are the same have in common

abbrev one_final : Item → ℕ
one_final i = elim i [ item.Final f ↦ 1 | _ ↦ 0 ]

finals_one : {i j : Item} → SameItem i j → one_final j ≡ one_final i
finals_one (same_comps.spec x) = refl
finals_one (same_comps.proc x) = refl
finals_one (same_comps.procedure x) = refl
finals_one (same_comps.process x) = refl
finals_one (same_comps.final x) = refl
finals_one (same_comps.statement x) = refl

finals_from : (n : ℕ) {is js : List Item} → SameList SameItem is js → fold (λ a i. a + one_final i) n js ≡ fold (λ a i. a + one_final i) n is
finals_from n same_exprs.none_left = refl
finals_from n (same_exprs.one_more {x = i} {y = j} {ys = js} same more) =
    ap (λ k. fold (λ a i. a + one_final i) (n + k) js) (finals_one same) ∙ finals_from (n + one_final i) more

pub finals_same : {is js : List Item} → SameList SameItem is js → final_count js ≡ final_count is
finals_same same = finals_from 0 same

pub finals_same_by : {is js : List Item} → SameList SameItem is js → final_count is ≤ 1 → final_count js ≤ 1
finals_same_by same h = subst (λ n. n ≤ 1) (sym (finals_same same)) h

of_resource_one : {i j : SpecItem} → SameSpecItem i j → IsOfResource i → IsOfResource j
of_resource_one (same_comps.import x) h = h
of_resource_one (same_comps.const x) h = h
of_resource_one (same_comps.type_ x) h = h
of_resource_one (same_comps.op_type x) h = h
of_resource_one (same_comps.op x) h = h
of_resource_one (same_comps.var x) h = h
of_resource_one (same_comps.sem x) h = h

pub of_resource_same : {is js : List SpecItem} → SameList SameSpecItem is js → AllOfResource is → AllOfResource js
of_resource_same same_exprs.none_left c.none_left = c.none_left
of_resource_same (same_exprs.one_more same more) (c.one_more h all) = c.one_more (of_resource_one same h) (of_resource_same more all)

pub by_value_same : {fs gs : List Formal} → SameFormals fs gs → AllByValue fs → AllByValue gs
by_value_same same_types.no_formals c.none_left = c.none_left
by_value_same (same_types.more_formals same more) (c.one_more h all) = c.one_more (subst IsByValue (sym (mode_same same)) h) (by_value_same more all)

module _ (retell : Token → Token) (keeps : Keeps retell) where
  again_list : {A : Type 0} {S : A → List Token → Type 0} {Same : A → A → Type 0}
      → ((x : A) (u : List Token) → S x u → (y : A) × S y (map retell u) × Same x y)
      → {b : Bool} {is : List A} {u : List Token} → SpellsList S b is u → (js : List A) × SpellsList S b js (map retell u) × SameList Same is js
  again_list each c.stop_here = ([], c.stop_here, same_exprs.none_left)
  again_list each (c.separator t h d) = let r = again_list each d in (r.0, c.separator (retell t) (keeps.kind t ∙ h) r.1, r.2)
  again_list {S = S} each (c.one {u = u} {v = v} d more) =
      let r = each _ _ d in
      let rest = again_list each more in
      (r.0 ∷ rest.0, subst (λ z. SpellsList S true (r.0 ∷ rest.0) z) (sym (map-append retell u v)) (c.one r.1 rest.1), same_exprs.one_more r.2 rest.2)

  again_end_name : {name name' : Name} {u : List Token} → SameName name name' → SpellsEndName name u → SpellsEndName name' (map retell u)
  again_end_name same c.unnamed = c.unnamed
  again_end_name same (c.ends n h e) = c.ends (retell n) (keeps.kind n ∙ h) (name_text retell keeps n h ∙ e ∙ same)

  again_end : {name name' : Name} {u : List Token} → SameName name name' → SpellsEnd name u → SpellsEnd name' (map retell u)
  again_end same (c.end_ t h d) = c.end_ (retell t) (keeps.kind t ∙ h) (again_end_name same d)

  pub again_spec_item : {x : SpecItem} {u : List Token} → SpellsSpecItem x u → (x' : SpecItem) × SpellsSpecItem x' (map retell u) × SameSpecItem x x'
  again_spec_item (c.imports {u = u} h0) =
      let r1 = again_import retell keeps h0 in
      ((spec_item.Import r1.0), c.imports r1.1, (same_comps.import r1.2))
  again_spec_item (c.constant {u = u} h0) =
      let r1 = again_const retell keeps h0 in
      ((spec_item.Const r1.0), c.constant r1.1, (same_comps.const r1.2))
  again_spec_item (c.type_decl {u = u} h0) =
      let r1 = again_type_decl retell keeps h0 in
      ((spec_item.Type r1.0), c.type_decl r1.1, (same_comps.type_ r1.2))
  again_spec_item (c.optype {u = u} h0) =
      let r1 = again_op_type retell keeps h0 in
      ((spec_item.OpType r1.0), c.optype r1.1, (same_comps.op_type r1.2))
  again_spec_item (c.op {u = u} h0) =
      let r1 = again_op retell keeps h0 in
      ((spec_item.Op r1.0), c.op r1.1, (same_comps.op r1.2))
  again_spec_item (c.variables {u = u} h0) =
      let r1 = again_var retell keeps h0 in
      ((spec_item.Var r1.0), c.variables r1.1, (same_comps.var r1.2))
  again_spec_item (c.semaphores {u = u} h0) =
      let r1 = again_sem retell keeps h0 in
      ((spec_item.Sem r1.0), c.semaphores r1.1, (same_comps.sem r1.2))

  pub again_proc_item : {x : ProcItem} {u : List Token} → SpellsProcItem x u → (x' : ProcItem) × SpellsProcItem x' (map retell u) × SameProcItem x x'
  again_proc_item (c.constant {u = u} h0) =
      let r1 = again_const retell keeps h0 in
      ((proc_item.Const r1.0), c.constant r1.1, (same_comps.const r1.2))
  again_proc_item (c.variables {u = u} h0) =
      let r1 = again_var retell keeps h0 in
      ((proc_item.Var r1.0), c.variables r1.1, (same_comps.var r1.2))
  again_proc_item (c.op {u = u} h0) =
      let r1 = again_op retell keeps h0 in
      ((proc_item.Op r1.0), c.op r1.1, (same_comps.op r1.2))
  again_proc_item (c.semaphores {u = u} h0) =
      let r1 = again_sem retell keeps h0 in
      ((proc_item.Sem r1.0), c.semaphores r1.1, (same_comps.sem r1.2))
  again_proc_item (c.a_statement {u = u} h0) =
      let r1 = again_statement retell keeps h0 in
      ((proc_item.Statement r1.0), c.a_statement r1.1, (same_comps.statement r1.2))

  pub again_proc : {x : Proc} {u : List Token} → SpellsProc x u → (x' : Proc) × SpellsProc x' (map retell u) × SameProc x x'
  again_proc (c.proc {u = u} {v = v} {x = x} {y = y} t n opening closing h0 h1 h2 h3 h4 h5 h6 h7) =
      let r4 = again_optional_names retell keeps h3 in
      let r6 = again_returned_name retell keeps h5 in
      let r7 = again_list {Same = SameProcItem} (λ _ _ d. again_proc_item d) h6 in
      ((record { span = (retell t).span; name = name_of (retell n); formals = r4.0; returned = r6.0; block = r7.0 }), subst (λ z. SpellsProc (record { span = (retell t).span; name = name_of (retell n); formals = r4.0; returned = r6.0; block = r7.0 }) z) (sym (ap (λ z. retell t ∷ z) (ap (λ z. retell n ∷ z) (ap (λ z. retell opening ∷ z) (map-append retell u (closing ∷ (v ++ (x ++ y))) ∙ ap (λ z. map retell u ++ z) (ap (λ z. retell closing ∷ z) (map-append retell v (x ++ y) ∙ ap (λ z. map retell v ++ z) (map-append retell x (y))))))))) (c.proc (retell t) (retell n) (retell opening) (retell closing) (keeps.kind t ∙ h0) (keeps.kind n ∙ h1) (keeps.kind opening ∙ h2) r4.1 (keeps.kind closing ∙ h4) r6.1 r7.1 (again_end (same_name retell keeps n h1) h7)), (same_comps.proc (same_name retell keeps n h1) r4.2 r6.2 r7.2))

  pub again_procedure : {x : Procedure} {u : List Token} → SpellsProcedure x u → (x' : Procedure) × SpellsProcedure x' (map retell u) × SameProcedure x x'
  again_procedure (c.procedure {u = u} {v = v} {x = x} t n h0 h1 h2 h3 h4) =
      let r3 = again_signature retell keeps h2 in
      let r4 = again_list {Same = SameProcItem} (λ _ _ d. again_proc_item d) h3 in
      ((record { span = (retell t).span; name = name_of (retell n); signature = r3.0; block = r4.0 }), subst (λ z. SpellsProcedure (record { span = (retell t).span; name = name_of (retell n); signature = r3.0; block = r4.0 }) z) (sym (ap (λ z. retell t ∷ z) (ap (λ z. retell n ∷ z) (map-append retell u (v ++ x) ∙ ap (λ z. map retell u ++ z) (map-append retell v (x)))))) (c.procedure (retell t) (retell n) (keeps.kind t ∙ h0) (keeps.kind n ∙ h1) r3.1 r4.1 (again_end (same_name retell keeps n h1) h4)), (same_comps.procedure (same_name retell keeps n h1) r3.2 r4.2))

  pub again_process : {x : Process} {u : List Token} → SpellsProcess x u → (x' : Process) × SpellsProcess x' (map retell u) × SameProcess x x'
  again_process (c.process {u = u} {v = v} {x = x} t n h0 h1 h2 h3 h4) =
      let r3 = again_optional_quantifiers retell keeps h2 in
      let r4 = again_list {Same = SameProcItem} (λ _ _ d. again_proc_item d) h3 in
      ((record { span = (retell t).span; name = name_of (retell n); quantifiers = r3.0; block = r4.0 }), subst (λ z. SpellsProcess (record { span = (retell t).span; name = name_of (retell n); quantifiers = r3.0; block = r4.0 }) z) (sym (ap (λ z. retell t ∷ z) (ap (λ z. retell n ∷ z) (map-append retell u (v ++ x) ∙ ap (λ z. map retell u ++ z) (map-append retell v (x)))))) (c.process (retell t) (retell n) (keeps.kind t ∙ h0) (keeps.kind n ∙ h1) r3.1 r4.1 (again_end (same_name retell keeps n h1) h4)), (same_comps.process (same_name retell keeps n h1) r3.2 r4.2))

  pub again_final : {x : FinalCode} {u : List Token} → SpellsFinal x u → (x' : FinalCode) × SpellsFinal x' (map retell u) × SameFinalCode x x'
  again_final (c.final {u = u} t closing h0 h1 h2) =
      let r2 = again_list {Same = SameProcItem} (λ _ _ d. again_proc_item d) h1 in
      ((record { span = (retell t).span; block = r2.0 }), subst (λ z. SpellsFinal (record { span = (retell t).span; block = r2.0 }) z) (sym (ap (λ z. retell t ∷ z) (map-append retell u (closing ∷ [])))) (c.final (retell t) (retell closing) (keeps.kind t ∙ h0) r2.1 (keeps.kind closing ∙ h2)), (same_comps.final_code r2.2))

  pub again_item : {x : Item} {u : List Token} → SpellsItem x u → (x' : Item) × SpellsItem x' (map retell u) × SameItem x x'
  again_item (c.spec {u = u} h0) =
      let r1 = again_spec_item h0 in
      ((item.Spec r1.0), c.spec r1.1, (same_comps.spec r1.2))
  again_item (c.proc {u = u} h0) =
      let r1 = again_proc h0 in
      ((item.Proc r1.0), c.proc r1.1, (same_comps.proc r1.2))
  again_item (c.procedure {u = u} h0) =
      let r1 = again_procedure h0 in
      ((item.Procedure r1.0), c.procedure r1.1, (same_comps.procedure r1.2))
  again_item (c.process {u = u} h0) =
      let r1 = again_process h0 in
      ((item.Process r1.0), c.process r1.1, (same_comps.process r1.2))
  again_item (c.final {u = u} h0) =
      let r1 = again_final h0 in
      ((item.Final r1.0), c.final r1.1, (same_comps.final r1.2))
  again_item (c.a_statement {u = u} h0) =
      let r1 = again_statement retell keeps h0 in
      ((item.Statement r1.0), c.a_statement r1.1, (same_comps.statement r1.2))

  pub again_optional_formals : {x : List Formal} {u : List Token} → SpellsOptionalFormals x u → (x' : List Formal) × SpellsOptionalFormals x' (map retell u) × SameFormals x x'
  again_optional_formals (c.no_formals) = ([], c.no_formals, same_types.no_formals)
  again_optional_formals (c.some_formals {u = u} h0) =
      let r1 = again_formals retell keeps h0 in
      (r1.0, c.some_formals r1.1, r1.2)

  pub again_global_body : {name name' : Name} {x : Option (List Item)} {u : List Token} → SameName name name' → SpellsGlobalBody name x u → (x' : Option (List Item)) × SpellsGlobalBody name' x' (map retell u) × SameOption (SameList SameItem) x x'
  again_global_body {name' = name'} same (c.no_body) = (None, c.no_body, same_exprs.none)
  again_global_body {name' = name'} same (c.body {u = u} t n h0 h1 h2 h3 h4) =
      let r4 = again_list {Same = SameItem} (λ _ _ d. again_item d) h3 in
      ((Some r4.0), c.body (retell t) (retell n) (keeps.kind t ∙ h0) (keeps.kind n ∙ h1) (name_text retell keeps n h1 ∙ h2 ∙ same) r4.1 (finals_same r4.2 ∙ h4), (same_exprs.some r4.2))

  pub again_component : {x : Component} {u : List Token} → SpellsComponent x u → (x' : Component) × SpellsComponent x' (map retell u) × SameComponent x x'
  again_component (c.resource {u = u} {v = v} {x = x} t n h0 h1 h2 h3 h4 h5 h6) =
      let r3 = again_formals retell keeps h2 in
      let r5 = again_list {Same = SameItem} (λ _ _ d. again_item d) h4 in
      ((Resource (retell t).span (name_of (retell n)) r3.0 r5.0), subst (λ z. SpellsComponent (Resource (retell t).span (name_of (retell n)) r3.0 r5.0) z) (sym (ap (λ z. retell t ∷ z) (ap (λ z. retell n ∷ z) (map-append retell u (v ++ x) ∙ ap (λ z. map retell u ++ z) (map-append retell v (x)))))) (c.resource (retell t) (retell n) (keeps.kind t ∙ h0) (keeps.kind n ∙ h1) r3.1 (by_value_same r3.2 h3) r5.1 (finals_same_by r5.2 h5) (again_end (same_name retell keeps n h1) h6)), (same_comps.resource (same_name retell keeps n h1) r3.2 r5.2))
  again_component (c.split_resource {u = u} {v = v} {x = x} {y = y} t n b m h0 h1 h2 h3 h4 h5 h6 h7 h8 h9 h10 h11) =
      let r3 = again_list {Same = SameSpecItem} (λ _ _ d. again_spec_item d) h2 in
      let r8 = again_optional_formals h7 in
      let r10 = again_list {Same = SameItem} (λ _ _ d. again_item d) h9 in
      ((SplitResource (retell t).span (name_of (retell n)) r3.0 r8.0 r10.0), subst (λ z. SpellsComponent (SplitResource (retell t).span (name_of (retell n)) r3.0 r8.0 r10.0) z) (sym (ap (λ z. retell t ∷ z) (ap (λ z. retell n ∷ z) (map-append retell u (b ∷ m ∷ (v ++ (x ++ y))) ∙ ap (λ z. map retell u ++ z) (ap (λ z. retell b ∷ z) (ap (λ z. retell m ∷ z) (map-append retell v (x ++ y) ∙ ap (λ z. map retell v ++ z) (map-append retell x (y))))))))) (c.split_resource (retell t) (retell n) (retell b) (retell m) (keeps.kind t ∙ h0) (keeps.kind n ∙ h1) r3.1 (of_resource_same r3.2 h3) (keeps.kind b ∙ h4) (keeps.kind m ∙ h5) (name_text retell keeps m h5 ∙ h6 ∙ same_name retell keeps n h1) r8.1 (by_value_same r8.2 h8) r10.1 (finals_same_by r10.2 h10) (again_end (same_name retell keeps n h1) h11)), (same_comps.split_resource (same_name retell keeps n h1) r3.2 r8.2 r10.2))
  again_component (c.global {u = u} {v = v} {x = x} t n h0 h1 h2 h3 h4) =
      let r3 = again_list {Same = SameSpecItem} (λ _ _ d. again_spec_item d) h2 in
      let r4 = again_global_body (same_name retell keeps n h1) h3 in
      ((Global (retell t).span (name_of (retell n)) r3.0 r4.0), subst (λ z. SpellsComponent (Global (retell t).span (name_of (retell n)) r3.0 r4.0) z) (sym (ap (λ z. retell t ∷ z) (ap (λ z. retell n ∷ z) (map-append retell u (v ++ x) ∙ ap (λ z. map retell u ++ z) (map-append retell v (x)))))) (c.global (retell t) (retell n) (keeps.kind t ∙ h0) (keeps.kind n ∙ h1) r3.1 r4.1 (again_end (same_name retell keeps n h1) h4)), (same_comps.global (same_name retell keeps n h1) r3.2 r4.2))

  pub again_file : {u : List Token} {x : File} → Spells u x → (x' : File) × Spells (map retell u) x' × SameFile x x'
  again_file (c.file {u = u} h0) =
      let r1 = again_list {Same = SameComponent} (λ _ _ d. again_component d) h0 in
      ((record { components = r1.0 }), c.file r1.1, (same_comps.file r1.2))
