-- How far a text has been put into a sink.
use Rattle.std.proofs.Common.{◌≡◌, ℕ, ◌+◌, ◌≤◌, List, ◌++◌, length, take, drop, sym, ap, ◌∙◌, arith, length-drop}
use Rattle.std.proofs.lemmas.List.{drop-drop}
use Rattle.std.proofs.Math.Seq.{take-add}
use Rattle.std.specs.declared.option.Option.{Option}
use Rattle.std.specs.Io.KnownBytes.{append_known}
use Rattle.sr_ports.proofs.Growth.{append_known-append}

-- the sink took the first `count` of the bytes, and the rest is to go
pub record Progress (bytes rest : List ℕ) (held now : Option (List ℕ)) : Type 0 where
  pub count : ℕ
  pub within : count ≤ length bytes
  pub to_go : rest ≡ drop count bytes
  pub appended : now ≡ append_known held (take count bytes)

left : (bytes rest : List ℕ) (held now : Option (List ℕ)) (done : Progress bytes rest held now) → length rest + done.count ≡ length bytes
left bytes rest held now done =
    let within = done.within in
    omega (arith, ap length done.to_go, length-drop done.count bytes)

pub goes_on : (bytes rest : List ℕ) (held mid now : Option (List ℕ)) (count : ℕ) → Progress bytes rest held mid → count ≤ length rest
    → now ≡ append_known mid (take count rest) → Progress bytes (drop count rest) held now
goes_on bytes rest held mid now count done fits put =
    record {
      count = done.count + count;
      within = omega (arith, left bytes rest held mid done);
      to_go = ap (drop count) done.to_go ∙ drop-drop count done.count bytes;
      appended =
          put ∙ ap (λ xs. append_known xs (take count rest)) done.appended ∙ append_known-append held _ _
          ∙ ap (λ xs. append_known held (take done.count bytes ++ take count xs)) done.to_go
          ∙ ap (append_known held) (sym (take-add done.count count bytes));
    }
