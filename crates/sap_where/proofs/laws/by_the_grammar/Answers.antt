use Rattle.sap_where.proofs.DeclaredFiles.{file_declares}
use Rattle.sap_where.proofs.ParameterFiles.{parameters_are}
use Rattle.sap_where.proofs.laws.by_the_grammar.Goals as goal

pub returns : goal.returns
returns c = record {
  parameters = λ z ts i d xs a b m e h x n. parameters_are z ts i h d m e x n;
  declarations = λ z ts x cut g is p q. file_declares z ts p q;
}
