use Rattle.std.proofs.Common.{◌≡◌, ℕ, Bool, List, sym, ap, subst, ◌∙◌}
use Rattle.std.specs.Prelude.{◌↔◌, IsTrue, is_some}
use Rattle.std.specs.Borrow.{Bor}
use Rattle.sap_run_lines.specs.RunTerms.{IsRunName}
use Rattle.sap_run_lines.specs.code.WholeTaking.{name_alone}
use Rattle.sap_run_lines.proofs.WholeWords.{some_mapped, name_told}
use Rattle.sap_run_lines.proofs.whole_words.is_run_name.Goals as goal

pub returns : goal.returns
returns c =
    let z = c.args.bytes.now in
    let is : c.is_some.result ≡ is_some (name_alone z) = c.is_some.ensures ∙ some_mapped (λ (x : Bor (List ℕ)). x.now) c.name_alone.result ∙ ap is_some c.name_alone.ensures in
    subst (λ (b : Bool). IsTrue b ↔ IsRunName z) (sym is) (name_told z)
