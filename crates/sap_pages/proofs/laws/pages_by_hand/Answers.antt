use Rattle.std.proofs.Common.{◌≡◌, ℕ, List, [], refl, ap, arith}
use Rattle.std.specs.Prelude.{codes, length}
use Rattle.sap_pages.specs.Pages.{compile, judge, why}
use Rattle.sap_pages.specs.Texts.{commands_text, compile_page, judge_page, why_page}
use Rattle.sap_pages.proofs.Found.{only_page, none_found}
use Rattle.sap_pages.proofs.laws.pages_by_hand.Goals as goal

pub returns-clause-page : goal.returns-clause-page
returns-clause-page c = (compile, judge)

-- texts of other lengths are others
no_judge : judge_page ≡ why_page → ⊥
no_judge e = let l : length judge_page ≡ length why_page = ap (λ (z : List ℕ). length z) e in omega (arith, l)

no_list : commands_text ≡ compile_page → ⊥
no_list e = let l : length commands_text ≡ length compile_page = ap (λ (z : List ℕ). length z) e in omega (arith, l)

no_why : why_page ≡ judge_page → ⊥
no_why e = let l : length why_page ≡ length judge_page = ap (λ (z : List ℕ). length z) e in omega (arith, l)

pub returns-clause-other_page : goal.returns-clause-other_page
returns-clause-other_page c = (
  λ p. no_judge (only_page (codes "why") judge_page why_page p why),
  λ p. no_why (only_page (codes "judge") why_page judge_page p judge),
  λ p. no_list (only_page (codes "compile") commands_text compile_page p compile),
)

pub returns-clause-none : goal.returns-clause-none
returns-clause-none c = λ text. (
  none_found (codes "nothing") text refl,
  none_found (codes "Compile") text refl,
  none_found (codes "--help") text refl,
  none_found [] text refl,
)
