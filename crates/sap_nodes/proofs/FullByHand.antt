-- What is the first too many in small processes.
use Rattle.std.proofs.Common.{◌≡◌, ℕ, zero, suc, ◌<◌, List, [], ◌∷◌, Option, Some, None, arith, refl, sym, ap, ◌∙◌}
use Rattle.std.specs.Prelude.{slice_get, codes}
use Rattle.sap_terms.specs.Equations.{pair_name}
use Rattle.sap_terms.specs.declared.var.Sort.TheVariants.{Msg}
use Rattle.sap_terms.specs.declared.var.Var.{Var}
use Rattle.sap_process.specs.Proc.{Proc}
use Rattle.sap_process.specs.Sites.{above_of}
use Rattle.sap_nodes.specs.FullScope.{binding_nodes, IsFilling, here, further}
use Rattle.sap_nodes.specs.HeadNodes.{variable, symbol}
use Rattle.sap_nodes.specs.NodeExamples.{var_of, many, three_names, locked}
use Rattle.sap_nodes.specs.declared.part.Part.TheVariants.{Pattern}
use Rattle.sap_nodes.proofs.FullLaws.{one_filling}

-- it isn't another
pub no_other : (scope : List Var) (p : Proc) (path : List ℕ) (d k : ℕ) (o r : Option ℕ) → IsFilling scope p path d o → ((d ≡ k) × (o ≡ r) → ⊥) → ¬ IsFilling scope p path k r
no_other scope p path d k o r h apart other = apart (one_filling (above_of scope 0) p path d k o r h other)

abbrev first_letter : List ℕ → ℕ
first_letter [] = 0
first_letter (k ∷ ks) = k

two_numbers : (m n i j : ℕ) → m ≡ i → n ≡ j → (i ≡ j → ⊥) → m ≡ n → ⊥
two_numbers m n i j e d apart h = apart (sym e ∙ h ∙ d)

u_q : codes "u" ≡ codes "q" → ⊥
u_q e = two_numbers (first_letter (codes "u")) (first_letter (codes "q")) 117 113 refl refl (λ h. omega (arith, h)) (ap first_letter e)

v_q : codes "v" ≡ codes "q" → ⊥
v_q e = two_numbers (first_letter (codes "v")) (first_letter (codes "q")) 118 113 refl refl (λ h. omega (arith, h)) (ap first_letter e)

a_symbol : (f : List ℕ) (n : ℕ) (w : Var) → Some (symbol Pattern f n) ≡ Some (variable w) → ⊥
a_symbol f n w e = cc

a_variable : (x w : Var) → Some (variable x) ≡ Some (variable w) → x.name ≡ w.name
a_variable x w e = cc

earlier : (j : ℕ) (w : Var) → j < 4 → slice_get (binding_nodes three_names) j ≡ Some (variable w) → w.name ≡ codes "q" → ⊥
earlier zero w l e d = a_symbol pair_name 2 w e
earlier (suc zero) w l e d = u_q (a_variable (var_of (codes "u") Msg) w e ∙ d)
earlier (suc (suc zero)) w l e d = a_symbol pair_name 2 w e
earlier (suc (suc (suc zero))) w l e d = v_q (a_variable (var_of (codes "v") Msg) w e ∙ d)
earlier (suc (suc (suc (suc j)))) w l e d = omega (arith, l)

pub third_name : IsFilling (many 62) three_names (1 ∷ []) 0 (Some 4)
third_name = here (λ f. omega (arith, f)) (omega arith) (record {
  var = var_of (codes "q") Msg;
  last = refl;
  index = 4;
  at = refl;
  node = variable (var_of (codes "q") Msg);
  stands = refl;
  named = refl;
  first = earlier;
})

pub the_lock : IsFilling (many 64) locked (1 ∷ 1 ∷ []) 0 None
the_lock = here (λ f. omega (arith, f)) (omega arith) tt

pub below_the_lock : IsFilling (many 63) locked (1 ∷ 1 ∷ []) 1 (Some 0)
below_the_lock = further refl (here (λ f. omega (arith, f)) (omega arith) (record {
  var = var_of (codes "u") Msg;
  last = refl;
  index = 0;
  at = refl;
  node = variable (var_of (codes "u") Msg);
  stands = refl;
  named = refl;
  first = λ j w l. absurd (omega (arith, l));
}))

pub other_node : (j k : ℕ) → (j ≡ k → ⊥) → Some j ≡ Some k → ⊥
other_node j k apart e = apart (same j k e) where
  same : (m n : ℕ) → Some m ≡ Some n → m ≡ n
  same m n h = cc
