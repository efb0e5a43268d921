use Rattle.sap_terms.specs.View.{tree}
use Rattle.sap_terms.specs.Equations.{equations}
use Rattle.sap_rewrite.proofs.NormalForms.{form_from_nf}
use Rattle.sap_rewrite.proofs.Fits.{none_large, some_large}
use Rattle.sap_rewrite.proofs.within.normal_within.Goals as goal

pub returns-in-Ok-clause-form : goal.returns-in-Ok-clause-form
returns-in-Ok-clause-form c =
    form_from_nf (equations c.args.sig.now) (tree c.args.t.now) (tree c.in-Ok.form.term) c.in-Ok.ensures.form

pub returns-in-Ok-clause-within : goal.returns-in-Ok-clause-within
returns-in-Ok-clause-within c = λ h. none_large (equations c.args.sig.now) c.args.most (tree c.args.t.now) c.in-Ok.ensures.fits h

pub returns-in-Err-clause-large : goal.returns-in-Err-clause-large
returns-in-Err-clause-large c = λ i. some_large (equations c.args.sig.now) c.args.most (tree c.args.t.now) (c.in-Err.ensures.large (cc i))
