use Rattle.std.proofs.Common.{◌≡◌, ℕ, Bool, true, false, List, [], ◌∷◌, Option, Some, ap, refl, subst, sym, ⊎_elim}
use Rattle.std.specs.Fmt.{digits}
use Rattle.std.specs.Str.{bytes_eq}
use Rattle.std.specs.Prelude.{Contains, codes}
use Rattle.std.proofs.lemmas.List.Elements.{All-from_recursion}
use Rattle.sap_terms.proofs.PlainLaws.Items.{cons_cases, first_item, none_contained}
use Rattle.sap_terms.specs.Same.{same_tree}
use Rattle.sap_process.specs.Action.{out, new}
use Rattle.sap_process.specs.Proc.{Proc, act}
use Rattle.sap_macro.specs.MacroCauses.{Use, uses}
use Rattle.sap_macro.specs.Written.{Written, call, nil, parallel}
use Rattle.sap_read.specs.CauseExamples.{a, files_not_plain, p_name, q_name}
use Rattle.sap_read.specs.Item.{Standing, bodies}
use Rattle.sap_read.specs.PlainFiles.{ArePlain, UsesNamesAlone}
use Rattle.sap_read.proofs.by_hand.file_processes_by_hand.Goals as goal

pub returns-clause-are : goal.returns-clause-are
unfolding digits
returns-clause-are c = (refl, (refl, (refl, (refl, (refl, (refl, (refl, (refl, (refl, (refl, (refl, tt)))))))))))

-- it gives 'a' first
abbrev gives_first : Option Proc → Bool
gives_first (Some (act (out t) p)) = same_tree t a
gives_first _ = false

-- it binds n_1 first, or n_2
abbrev binds_first : Option Proc → Bool
binds_first (Some (act (new x) p)) = bytes_eq x.name (codes "n_1")
binds_first _ = false

abbrev binds_second : Option Proc → Bool
binds_second (Some (act (new x) p)) = bytes_eq x.name (codes "n_2")
binds_second _ = false

pub returns-clause-are_not : goal.returns-clause-are_not
unfolding digits
returns-clause-are_not c = (
  λ e. cc,
  (
    (λ e. let z : true ≡ false = ap gives_first e in cc),
    (
      (λ e. let z : true ≡ false = ap gives_first e in cc),
      (
        (λ e. cc),
        (
          (λ e. let z : true ≡ false = ap gives_first e in cc),
          ((λ e. let z : true ≡ false = ap binds_first e in cc), ((λ e. let z : true ≡ false = ap binds_second e in cc), tt)),
        ),
      ),
    ),
  ),
)

-- no use, and one without arguments
no_uses : UsesNamesAlone nil
no_uses u c = absurd (none_contained c)

one_use : (f : List ℕ) → UsesNamesAlone (call f [])
one_use f u c = ⊎_elim (λ e. subst (λ (v : Use). v.1 ≡ []) e refl) (λ n. absurd (none_contained n)) (cons_cases (f, []) [] u c)

pub returns-clause-plain : goal.returns-clause-plain
returns-clause-plain c = (
  record { params = refl; uses = no_uses },
  (record { params = refl; uses = one_use p_name }, (record { params = refl; uses = one_use q_name }, tt)),
)

-- a use with an argument
not_alone : (w : Written) → uses w ≡ (p_name, a ∷ []) ∷ [] → ¬ UsesNamesAlone w
not_alone w is h =
    let there : Contains (uses w) (p_name, a ∷ []) = subst (λ (us : List Use). Contains us (p_name, a ∷ [])) (sym is) (first_item (p_name, a ∷ []) []) in
    let no : a ∷ [] ≡ [] = h (p_name, a ∷ []) there in cc

pub returns-clause-not_plain : goal.returns-clause-not_plain
returns-clause-not_plain c =
    All-from_recursion (λ (f : List Standing). ¬ ArePlain (bodies f)) files_not_plain (
      λ h. let no : codes "x" ∷ [] ≡ [] = h.0.params in cc,
      (λ h. not_alone (parallel nil (call p_name (a ∷ []))) refl h.1.0.uses, (λ h. not_alone (call p_name (a ∷ [])) refl h.1.0.uses, tt)),
    )
