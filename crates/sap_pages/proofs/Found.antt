-- Which page a word has, and that it has no other.
use Rattle.std.proofs.Common.{◌≡◌, ℕ, List, Option, None, Some, refl, sym, subst, ◌∙◌}
use Rattle.std.specs.Prelude.{codes, if◌then◌else◌}
use Rattle.std.specs.Str.{bytes_eq}
use Rattle.sap_pages.specs.Texts.{compile_page, compile_inline_page, compile_short_page, why_page, to_rules_page, to_process_page, fill_page, judge_page, check_rules_page, tell_page, chart_page, to_json_page, from_json_page, sample_page, help_page}
use Rattle.sap_pages.specs.Pages.{IsPageOf, compile, compile_inline, compile_short, why, to_rules, to_process, fill, judge, check_rules, tell, chart, to_json, from_json, sample, help}

-- the page of a word, found by it
abbrev found : List ℕ → Option (List ℕ)
found word =
    if bytes_eq word (codes "compile") then Some compile_page
    else if bytes_eq word (codes "compile-inline") then Some compile_inline_page
    else if bytes_eq word (codes "compile-short") then Some compile_short_page
    else if bytes_eq word (codes "why") then Some why_page
    else if bytes_eq word (codes "to-rules") then Some to_rules_page
    else if bytes_eq word (codes "to-process") then Some to_process_page
    else if bytes_eq word (codes "fill") then Some fill_page
    else if bytes_eq word (codes "judge") then Some judge_page
    else if bytes_eq word (codes "check-rules") then Some check_rules_page
    else if bytes_eq word (codes "tell") then Some tell_page
    else if bytes_eq word (codes "chart") then Some chart_page
    else if bytes_eq word (codes "to-json") then Some to_json_page
    else if bytes_eq word (codes "from-json") then Some from_json_page
    else if bytes_eq word (codes "sample") then Some sample_page
    else if bytes_eq word (codes "help") then Some help_page
    else None

-- each page is found
is_found : (word text : List ℕ) → IsPageOf word text → found word ≡ Some text
is_found _ _ compile = refl
is_found _ _ compile_inline = refl
is_found _ _ compile_short = refl
is_found _ _ why = refl
is_found _ _ to_rules = refl
is_found _ _ to_process = refl
is_found _ _ fill = refl
is_found _ _ judge = refl
is_found _ _ check_rules = refl
is_found _ _ tell = refl
is_found _ _ chart = refl
is_found _ _ to_json = refl
is_found _ _ from_json = refl
is_found _ _ sample = refl
is_found _ _ help = refl

some_is : (t u : List ℕ) → ◌≡◌ {A = Option (List ℕ)} (Some t) (Some u) → t ≡ u
some_is t u e = cc

-- so a word has one page at most
pub only_page : (word t u : List ℕ) → IsPageOf word t → IsPageOf word u → t ≡ u
only_page word t u p q = some_is t u (sym (is_found word t p) ∙ is_found word u q)

-- where no page is found there is none
pub none_found : (word text : List ℕ) → found word ≡ None → IsPageOf word text → ⊥
none_found word text none p = at (sym none ∙ is_found word text p) where
  at : ◌≡◌ {A = Option (List ℕ)} None (Some text) → ⊥
  at e = cc

-- the page of a word is that of the same word
pub page_is : (word w text : List ℕ) → word ≡ w → IsPageOf w text → IsPageOf word text
page_is word w text is p = subst (λ (x : List ℕ). IsPageOf x text) (sym is) p

-- a word that is none of these has no page
pub no_page : (word : List ℕ)
    → (word ≡ codes "compile" → ⊥)
    → (word ≡ codes "compile-inline" → ⊥)
    → (word ≡ codes "compile-short" → ⊥)
    → (word ≡ codes "why" → ⊥)
    → (word ≡ codes "to-rules" → ⊥)
    → (word ≡ codes "to-process" → ⊥)
    → (word ≡ codes "fill" → ⊥)
    → (word ≡ codes "judge" → ⊥)
    → (word ≡ codes "check-rules" → ⊥)
    → (word ≡ codes "tell" → ⊥)
    → (word ≡ codes "chart" → ⊥)
    → (word ≡ codes "to-json" → ⊥)
    → (word ≡ codes "from-json" → ⊥)
    → (word ≡ codes "sample" → ⊥)
    → (word ≡ codes "help" → ⊥) → (text : List ℕ) → IsPageOf word text → ⊥
no_page _ n0 n1 n2 n3 n4 n5 n6 n7 n8 n9 n10 n11 n12 n13 n14 _ compile = n0 refl
no_page _ n0 n1 n2 n3 n4 n5 n6 n7 n8 n9 n10 n11 n12 n13 n14 _ compile_inline = n1 refl
no_page _ n0 n1 n2 n3 n4 n5 n6 n7 n8 n9 n10 n11 n12 n13 n14 _ compile_short = n2 refl
no_page _ n0 n1 n2 n3 n4 n5 n6 n7 n8 n9 n10 n11 n12 n13 n14 _ why = n3 refl
no_page _ n0 n1 n2 n3 n4 n5 n6 n7 n8 n9 n10 n11 n12 n13 n14 _ to_rules = n4 refl
no_page _ n0 n1 n2 n3 n4 n5 n6 n7 n8 n9 n10 n11 n12 n13 n14 _ to_process = n5 refl
no_page _ n0 n1 n2 n3 n4 n5 n6 n7 n8 n9 n10 n11 n12 n13 n14 _ fill = n6 refl
no_page _ n0 n1 n2 n3 n4 n5 n6 n7 n8 n9 n10 n11 n12 n13 n14 _ judge = n7 refl
no_page _ n0 n1 n2 n3 n4 n5 n6 n7 n8 n9 n10 n11 n12 n13 n14 _ check_rules = n8 refl
no_page _ n0 n1 n2 n3 n4 n5 n6 n7 n8 n9 n10 n11 n12 n13 n14 _ tell = n9 refl
no_page _ n0 n1 n2 n3 n4 n5 n6 n7 n8 n9 n10 n11 n12 n13 n14 _ chart = n10 refl
no_page _ n0 n1 n2 n3 n4 n5 n6 n7 n8 n9 n10 n11 n12 n13 n14 _ to_json = n11 refl
no_page _ n0 n1 n2 n3 n4 n5 n6 n7 n8 n9 n10 n11 n12 n13 n14 _ from_json = n12 refl
no_page _ n0 n1 n2 n3 n4 n5 n6 n7 n8 n9 n10 n11 n12 n13 n14 _ sample = n13 refl
no_page _ n0 n1 n2 n3 n4 n5 n6 n7 n8 n9 n10 n11 n12 n13 n14 _ help = n14 refl
