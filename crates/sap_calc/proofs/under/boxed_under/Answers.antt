use Rattle.std.proofs.Common.{subst, sym}
use Rattle.sap_share.specs.Env.{given}
use Rattle.sap_lines.specs.declared.form.Form.{Form}
use Rattle.sap_calc.specs.code.Under.{IsFormUnder}
use Rattle.sap_calc.proofs.under.boxed_under.Goals as goal

pub returns : goal.returns
returns c =
    subst (λ (f : Form). IsFormUnder (given c.args.table.now.trees c.args.env.now) c.args.form.now f) (sym c.in_ok-new.ensures.ok) c.in_ok-form_under.ensures
