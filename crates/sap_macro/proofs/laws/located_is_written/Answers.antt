use Rattle.std.proofs.Common.{◌≡◌, refl, ap, ◌∙◌}
use Rattle.sap_terms.specs.View.{tree}
use Rattle.sap_macro.specs.Located.{without_numbers}
use Rattle.sap_macro.specs.Sources.{doing, located, written}
use Rattle.sap_macro.specs.Written.{Written, parallel, replicated, act, test, lookup}
use Rattle.sap_macro.specs.declared.source.Source.{Source}
use Rattle.sap_macro.specs.declared.source.Source.TheVariants.{Nil, Call, Par', Rep', Act', If', Lookup'}
use Rattle.sap_macro.proofs.laws.located_is_written.Goals as goal

-- two parts, one after the other
both : (f : Written → Written → Written) {p q r s : Written} → p ≡ q → r ≡ s → f p r ≡ f q s
both f {q = q} {r = r} e h = ap (λ x. f x r) e ∙ ap (λ x. f q x) h

forgotten : (s : Source) → without_numbers (located s) ≡ written s
forgotten (Nil k) = refl
forgotten (Call k f ts) = refl
forgotten (Par' k a p b q) = both parallel (forgotten p) (forgotten q)
forgotten (Rep' k a p) = ap replicated (forgotten p)
forgotten (Act' k d a p) = ap (λ x. act (doing d.value) x) (forgotten p)
forgotten (If' k t u a p b q) = both (λ x y. test (tree t) (tree u) x y) (forgotten p) (forgotten q)
forgotten (Lookup' k t x a p b q) = both (λ y z. lookup (tree t) x y z) (forgotten p) (forgotten q)

pub returns : goal.returns
returns c = forgotten
