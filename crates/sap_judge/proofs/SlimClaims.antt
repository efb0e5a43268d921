-- Binders that a later one of the same quantifier hides change nothing in claims; and claims give reasons.
use Rattle.std.proofs.Common.{◌≡◌, ℕ, List, [], ◌∷◌, Bool, true, false, not, Option, Some, None, Ok, Err, IfOk, refl, sym, ap, subst, ◌∙◌}
use Rattle.std.specs.Global.{Global}
use Rattle.std.specs.Prelude.{Result, Vec}
use Rattle.sap_formula.specs.Checked.{premise}
use Rattle.sap_formula.specs.Form.{Form, action, both, earlier, either, equal, equivalent, every, exists, falsity, implies, negation, same_time, truth}
use Rattle.sap_formula.specs.Laws.{IsClosed, SlimOnceLaw}
use Rattle.sap_formula.specs.Slim.{lasts, slim}
use Rattle.sap_formula.specs.Truth.{IsTrueOn}
use Rattle.sap_formula.specs.declared.binder.Binder.{Binder}
use Rattle.sap_judge.proofs.Explained.{explains}
use Rattle.sap_judge.proofs.Explaining.{Exp, lasts_once}
use Rattle.sap_judge.proofs.OneReason.{same_value}
use Rattle.sap_judge.proofs.Plain.{FormulaLaws}
use Rattle.sap_judge.proofs.Planning.{here_first}
use Rattle.sap_judge.proofs.SlimPlans.{guards_slim, premise_slim, quantifier_guards, quantifier_seen, ready_slim}
use Rattle.sap_judge.specs.Guards.{guards}
use Rattle.sap_judge.specs.Reasons.{Explains, Is, IsReason}
use Rattle.sap_judge.specs.code.Claiming.{ClaimLaw, choosing_of, choosing_over, claim_of, claim_test, named_by, paired, slots_of}
use Rattle.sap_judge.specs.code.Folded.{folded}
use Rattle.sap_judge.specs.code.Quantifying.{guards_over}
use Rattle.sap_judge.specs.code.Ready.{Layers, left_of_imp, under_and}
use Rattle.sap_judge.specs.declared.extent.Extent.{Extent}
use Rattle.sap_judge.specs.declared.extent.Extent.TheVariants.{Whole, Body, Rest}
use Rattle.sap_search.specs.Claims.{Chosen, Claim, tested}
use Rattle.sap_search.specs.Explained.{explained}
use Rattle.sap_search.specs.View.{reason_of}
use Rattle.sap_search.specs.declared.claim.Chosen.{Chosen as ChosenValue}
use Rattle.sap_terms.specs.Message.{IsMessageTrace}
use Rattle.sap_terms.specs.Signature.{Sig}
use Rattle.sap_terms.specs.Trace.{Trace}
use Rattle.sap_terms.specs.Tree.{variable}
use Rattle.sap_terms.specs.declared.mem.Mem.{Mem}

module _ (once : SlimOnceLaw) (tr : Trace) where
  lasts_twice : (bs : List Binder) → lasts (lasts bs) ≡ lasts bs
  lasts_twice bs = lasts_once (lasts bs) (once (every bs truth)).0

  over_slim : (d : Bool) (layers : Layers) (bs : List Binder) (f : Form) (c d' : Claim) → guards_over d f ≡ guards_over d (slim f) → c ≡ d' → choosing_over tr d layers bs f c ≡ choosing_over tr d layers (lasts bs) (slim f) d'
  over_slim d layers bs f c d' e h =
      let a = quantifier_guards tr bs layers (guards_over d f) (guards_over d (slim f)) e in
      let s = quantifier_seen tr bs layers (guards_over d f) (guards_over d (slim f)) e in
      let l = sym (lasts_twice bs) in
      λ i. choosing_of (a i) (slots_of (s i ∷ layers) (l i)) (h i)

  test_slim : (e : Extent) (layers : Layers) (b : Bool) (f : Form) → claim_test tr e layers b f ≡ claim_test tr e layers b (slim f)
  test_slim e layers b f = ap (λ p. tested b (folded p)) (ready_slim tr f e layers)

  pub claim_slim : (f : Form) (e : Extent) (layers : Layers) (b : Bool) → claim_of tr e layers b f ≡ claim_of tr e layers b (slim f)
  claim_slim truth e layers b = refl
  claim_slim falsity e layers b = refl
  claim_slim (action f i) e layers b = refl
  claim_slim (equal s t) e layers b = refl
  claim_slim (same_time i j) e layers b = refl
  claim_slim (earlier i j) e layers b = refl
  claim_slim (negation f) e layers b = claim_slim f Whole layers (not b)
  claim_slim (both f h) e layers b = λ i. paired b (claim_slim f (under_and e) layers b i) (claim_slim h (under_and e) layers b i)
  claim_slim (either f h) e layers b = λ i. paired (not b) (claim_slim f Whole layers b i) (claim_slim h Whole layers b i)
  claim_slim (implies f h) e layers b = λ i. paired (not b) (claim_slim f (left_of_imp e) layers (not b) i) (claim_slim h Whole layers b i)
  claim_slim (equivalent f h) e layers b = test_slim e layers b (equivalent f h)
  claim_slim (every bs f) e layers true = test_slim e layers true (every bs f)
  claim_slim (exists bs f) e layers false = test_slim e layers false (exists bs f)
  claim_slim (every bs f) e layers false =
      let s = quantifier_seen tr bs layers (guards (premise f)) (guards (premise (slim f))) (premise_slim f) in
      over_slim true layers bs f (claim_of tr Body (named_by true layers bs f ∷ layers) false f) (claim_of tr Body (named_by true layers (lasts bs) (slim f) ∷ layers) false (slim f)) (premise_slim f) (claim_slim f Body (named_by true layers bs f ∷ layers) false ∙ ap (λ z. claim_of tr Body (z ∷ layers) false (slim f)) s)
  claim_slim (exists bs f) e layers true =
      let s = quantifier_seen tr bs layers (guards f) (guards (slim f)) (guards_slim f) in
      over_slim false layers bs f (claim_of tr Rest (named_by false layers bs f ∷ layers) true f) (claim_of tr Rest (named_by false layers (lasts bs) (slim f) ∷ layers) true (slim f)) (guards_slim f) (claim_slim f Rest (named_by false layers bs f ∷ layers) true ∙ ap (λ z. claim_of tr Rest (z ∷ layers) true (slim f)) s)

-- what is found of the formula without hidden binders is found of the formula
from_slim : (g : Sig) (f : Form) (tr : Trace) (b : Bool) → (IsTrueOn g f tr → IsTrueOn g (slim f) tr) → (IsTrueOn g (slim f) tr → IsTrueOn g f tr) → (o : Option (List Chosen)) → Exp (Is b (IsTrueOn g (slim f) tr)) (IsReason g f tr b) o → Explains g f tr b o
from_slim g f tr b to back None x = λ h. x (same_value (IsTrueOn g f tr) (IsTrueOn g (slim f) tr) b to back h)
from_slim g f tr b to back (Some cs) x = (same_value (IsTrueOn g (slim f) tr) (IsTrueOn g f tr) b back to x.0, x.1)

pub claim_law : FormulaLaws → ClaimLaw
claim_law w g f tr b m c =
    let p = w.binders g f tr c in
    let found = explains w g (λ n. Unit {0}) tr m (slim f) Whole b [] [] [] (λ v. variable v) (λ n. 0) (w.closed g f c) (w.once f) (here_first w g tr) tt in
    subst (Explains g f tr b) (sym (ap (λ z. explained tr z []) (claim_slim w.once tr f Whole [] b))) (from_slim g f tr b p.0 p.1 (explained tr (claim_of tr Whole [] b (slim f)) []) found)

-- what the search tells is right for each signature under which its condition holds
pub reason_right : ClaimLaw → (g : Sig) (f : Form) (tr : Trace) (b : Bool) (r : Result (Option (Vec ChosenValue Global)) Mem) → IfOk r (λ o. reason_of o ≡ explained tr (claim_of tr Whole [] b f) []) → IsMessageTrace g tr → IsClosed g f → IfOk r (λ o. Explains g f tr b (reason_of o))
reason_right w g f tr b (Ok o) a m c = subst (Explains g f tr b) (sym a) (w g f tr b m c)
reason_right w g f tr b (Err e) a m c = a
