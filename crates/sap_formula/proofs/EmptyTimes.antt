-- Leaving out empty times keeps the truth of closed formulas, and what hiding leaves.
use Rattle.std.proofs.Common.{◌++◌, ◌≡◌, List, [], ◌∷◌, true, refl, ap, subst, ◌∙◌, ◌↔◌, lit<, arith}
use Rattle.sap_formula.proofs.Hiding.{facts_with, keep_law, keeps}
use Rattle.sap_formula.proofs.Plain.{NormalLaws}
use Rattle.sap_formula.proofs.Slimmer.{renamed}
use Rattle.sap_formula.specs.Filled.{filled}
use Rattle.sap_formula.specs.FilledExamples.{filled_ones, some_time_at_all}
use Rattle.sap_formula.specs.Hide.{visible}
use Rattle.sap_formula.specs.Laws.{FilledLaw, HideFilledLaw}
use Rattle.sap_formula.specs.Truth.{EachIn, IsTrueOn}
use Rattle.sap_terms.specs.Signature.{Sig}
use Rattle.sap_terms.specs.Trace.{Trace, shown}
use Rattle.sap_terms.specs.declared.fact.Fact.{Fact}

all_facts : (p : List Fact) → facts_with (λ n. true) p ≡ p
all_facts [] = refl
all_facts (f ∷ p) = ap (λ z. f ∷ z) (all_facts p)

keeps_all : (tr : Trace) → keeps (λ n. true) tr ≡ filled tr
keeps_all [] = refl
keeps_all (p ∷ tr) =
    let e = ap (λ z. shown z ++ keeps (λ n. true) tr) (all_facts p) in
    let i = ap (λ z. shown p ++ z) (keeps_all tr) in
    e ∙ i

pub filled_law : NormalLaws → FilledLaw
filled_law w g f tr m c =
    let k = keep_law w (λ n. true) g f tr m (renamed g (λ n. Unit {0}) (λ n. true ≡ true) (λ n u. refl) f [] c) in
    subst (λ s. IsTrueOn g f tr ↔ IsTrueOn g f s) (keeps_all tr) k

pub hide_filled : HideFilledLaw
hide_filled [] = refl
hide_filled ([] ∷ tr) = hide_filled tr
hide_filled ((f ∷ p) ∷ tr) = ap (λ z. shown (visible (f ∷ p)) ++ z) (hide_filled tr)

pub filled_each : EachIn (λ e. filled e.0 ≡ e.1) filled_ones
filled_each = (refl, (refl, (refl, (refl, (refl, tt)))))

pub unguarded_there : (g : Sig) → IsTrueOn g some_time_at_all ([] ∷ [])
unguarded_there g = (0, lit< tt, tt)

pub unguarded_here : (g : Sig) → ¬ IsTrueOn g some_time_at_all (filled ([] ∷ []))
unguarded_here g h = let l = h.1 in absurd (omega arith)
