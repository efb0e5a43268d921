use Rattle.std.proofs.Common.{◌≡◌, ℕ, List, [], ◌∷◌, length, refl, ap, arith, decimal}
use Rattle.std.specs.Prelude.{codes}
use Rattle.sap_pages.specs.Pages.{judge}
use Rattle.sap_pages.specs.Texts.{commands_text, compile_page, judge_page, version_text}
use Rattle.sap_tool.specs.Commands.{IsUnknown}
use Rattle.sap_tool.specs.ToldAtOnce.{flag, list, page, version, help}
use Rattle.sap_tool.proofs.AtOnce.{one_told, no_help_is_sample}
use Rattle.sap_tool.proofs.Asked.{unknown_of, nothing_of_page, nothing_of_one, nothing_of_two, nothing_of_three, nothing_else, differ}
use Rattle.sap_tool.proofs.at_once_laws.help_by_hand.Goals as goal

pub returns-clause-commands : goal.returns-clause-commands
returns-clause-commands c = (flag refl, list refl)

pub returns-clause-page : goal.returns-clause-page
returns-clause-page c = page (codes "judge") judge_page refl judge

pub returns-clause-version : goal.returns-clause-version
returns-clause-version c = version refl

-- texts of other lengths are others
other : compile_page ≡ judge_page → ⊥
other e = let l : length compile_page ≡ length judge_page = ap (λ (z : List ℕ). length z) e in omega (arith, l)

no_list : commands_text ≡ version_text → ⊥
no_list e = let l : length commands_text ≡ length version_text = ap (λ (z : List ℕ). length z) e in omega (arith, l)

pub returns-clause-other_page : goal.returns-clause-other_page
returns-clause-other_page c = λ t.
    other (one_told c.one_page.ensures (codes "help" ∷ codes "judge" ∷ []) compile_page judge_page t (help judge_page (page (codes "judge") judge_page refl judge)))

pub returns-clause-no_list : goal.returns-clause-no_list
returns-clause-no_list c = λ t. no_list (one_told c.one_page.ensures (codes "--version" ∷ []) commands_text version_text t (help version_text (version refl)))

pub returns-clause-no_page : goal.returns-clause-no_page
returns-clause-no_page c = (
  unknown_of (codes "help" ∷ codes "nothing" ∷ []) (nothing_of_page (codes "nothing") (λ text. (c.pages_by_hand.ensures.none text).0)),
  unknown_of (codes "help" ∷ codes "--help" ∷ []) (nothing_of_page (codes "--help") (λ text. (c.pages_by_hand.ensures.none text).2)),
)

-- words with one more, and words of another spelling
flag_more : IsUnknown (codes "--help" ∷ codes "x" ∷ [])
flag_more = unknown_of (codes "--help" ∷ codes "x" ∷ []) (nothing_of_two (codes "--help") (codes "x") (λ e. differ _ _ e refl refl) (λ e. differ _ _ e refl refl) (λ e. differ _ _ e refl refl) (λ e. differ _ _ e refl refl) (λ e. differ _ _ e refl refl) (λ e. differ _ _ e refl refl) (λ e. differ _ _ e refl refl) (λ e. differ _ _ e refl refl))

version_more : IsUnknown (codes "--version" ∷ codes "x" ∷ [])
version_more = unknown_of (codes "--version" ∷ codes "x" ∷ []) (nothing_of_two (codes "--version") (codes "x") (λ e. differ _ _ e refl refl) (λ e. differ _ _ e refl refl) (λ e. differ _ _ e refl refl) (λ e. differ _ _ e refl refl) (λ e. differ _ _ e refl refl) (λ e. differ _ _ e refl refl) (λ e. differ _ _ e refl refl) (λ e. differ _ _ e refl refl))

page_more : IsUnknown (codes "help" ∷ codes "judge" ∷ codes "x" ∷ [])
page_more = unknown_of (codes "help" ∷ codes "judge" ∷ codes "x" ∷ []) (nothing_of_three (codes "help") (codes "judge") (codes "x") (λ e. differ _ _ e refl refl) (λ e. differ _ _ e refl refl) (λ e. differ _ _ e refl refl) (λ e. differ _ _ e refl refl) (λ e. differ _ _ e refl refl) (λ e. differ _ _ e refl refl) (λ e. differ _ _ e refl refl))

no_words : IsUnknown []
no_words = unknown_of [] (nothing_else [] (λ e. omega (arith, e)) (λ e. omega (arith, e)) (λ e. omega (arith, e)))

capital : IsUnknown (codes "Help" ∷ [])
capital = unknown_of (codes "Help" ∷ []) (nothing_of_one (codes "Help") (λ e. differ _ _ e refl refl) (λ e. differ _ _ e refl refl) (λ e. differ _ _ e refl refl))

bare : IsUnknown (codes "judge" ∷ [])
bare = unknown_of (codes "judge" ∷ []) (nothing_of_one (codes "judge") (λ e. differ _ _ e refl refl) (λ e. differ _ _ e refl refl) (λ e. differ _ _ e refl refl))

pub returns-clause-no_more : goal.returns-clause-no_more
returns-clause-no_more c = (flag_more, version_more, page_more)

pub returns-clause-others : goal.returns-clause-others
returns-clause-others c = (no_words, capital, bare)

pub returns-clause-sample : goal.returns-clause-sample
returns-clause-sample c = λ words n text is h. no_help_is_sample words (decimal n) text is.spelled h
