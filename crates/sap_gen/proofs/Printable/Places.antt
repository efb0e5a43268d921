-- The rules of all places of a process that isn't too deep can be printed.
use Rattle.std.proofs.Common.{◌≡◌, ◌≤◌, ◌<◌, ◌+◌, ℕ, List, [], ◌∷◌, ◌++◌, length, arith, length-append}
use Rattle.sap_terms.specs.Signature.{Sig}
use Rattle.sap_terms.specs.declared.var.Var.{Var}
use Rattle.sap_process.specs.Proc as whole
use Rattle.sap_process.specs.Proc.{Proc, act, level_count}
use Rattle.sap_process.specs.Sites.{message_var}
use Rattle.sap_process.specs.Scopes.{scope_behind}
use Rattle.sap_rule.specs.declared.rule.Rule.{Rule}
use Rattle.sap_read.specs.Printable.{IsPrintableProcess}
use Rattle.sap_templates.specs.Templates.{first_of, second_of, own_rules, place_rules, rules_of}
use Rattle.sap_translate.specs.Settled.{HasSmallLabels, HasPlainLookups}
use Rattle.sap_gen.proofs.Lists.{each_both}
use Rattle.sap_gen.proofs.Printable.Names.{HasDigits, digits_more}
use Rattle.sap_gen.proofs.Printable.Scopes.{AreShown, IsPath, IsShown, message_shown, scope_shown}
use Rattle.sap_gen.proofs.Printable.Rules.{ArePrinted, IsPrintedRule, action_printed, init_printed, lookup_printed, nil_printed, parallel_printed, replicated_printed, test_printed}

-- the place with this path has so many levels below it
record Fits (path : List ℕ) (levels : ℕ) : Type 0 where
  digits : HasDigits path
  short : length path + levels ≤ 300

path_of : (path : List ℕ) (levels : ℕ) → Fits path levels → IsPath path
path_of path levels h = record { digits = h.digits; short = omega (arith, h.short) }

child_fits : (path : List ℕ) (d levels below : ℕ) → d < 10 → below + 1 ≤ levels → Fits path levels → Fits (path ++ d ∷ []) below
child_fits path d levels below small le h =
    let long : length (path ++ d ∷ []) ≡ length path + 1 = length-append path (d ∷ []) in
    record { digits = digits_more path d small h.digits; short = omega (arith, h.short, long, le) }

child_path : (path : List ℕ) (d levels : ℕ) → d < 10 → Fits path levels → IsPath (path ++ d ∷ [])
child_path path d levels small h =
    let long : length (path ++ d ∷ []) ≡ length path + 1 = length-append path (d ∷ []) in
    record { digits = digits_more path d small h.digits; short = omega (arith, h.short, long) }

module _ (most : ℕ) (room : 330 ≤ most) (g : Sig) where
  both_printed : (rs qs : List Rule) → ArePrinted most room g rs → ArePrinted most room g qs → ArePrinted most room g (rs ++ qs)
  both_printed rs qs h k = each_both (IsPrintedRule most g) rs qs h k

  places_printed : (path : List ℕ) (v : List Var) (p : Proc) → Fits path (level_count p) → AreShown most room g v → IsPrintableProcess most g p → HasSmallLabels p → HasPlainLookups p → ArePrinted most room g (place_rules path v p)
  places_printed path v whole.nil fits shown h few plain = nil_printed most room g path (path_of path 1 fits) v shown
  places_printed path v (whole.parallel p q) fits shown h few plain =
      let levels = level_count (whole.parallel p q) in
      both_printed (own_rules path v (whole.parallel p q)) (place_rules (first_of path) v p ++ place_rules (second_of path) v q)
      (parallel_printed most room g path (path_of path levels fits) (child_path path 1 levels (omega arith) fits) v shown (child_path path 2 levels (omega arith) fits))
      (both_printed (place_rules (first_of path) v p) (place_rules (second_of path) v q)
      (places_printed (first_of path) v p (child_fits path 1 levels (level_count p) (omega arith) (omega arith) fits) shown h.0 few.0 plain.0)
      (places_printed (second_of path) v q (child_fits path 2 levels (level_count q) (omega arith) (omega arith) fits) shown h.1 few.1 plain.1))
  places_printed path v (whole.replicated p) fits shown h few plain =
      let levels = level_count (whole.replicated p) in
      both_printed (own_rules path v (whole.replicated p)) (place_rules (first_of path) v p)
      (replicated_printed most room g path (path_of path levels fits) (child_path path 1 levels (omega arith) fits) v shown)
      (places_printed (first_of path) v p (child_fits path 1 levels (level_count p) (omega arith) (omega arith) fits) shown h few plain)
  places_printed path v (act a p) fits shown h few plain =
      let levels = level_count (act a p) in
      both_printed (own_rules path v (act a p)) (place_rules (first_of path) (scope_behind v a) p)
      (action_printed most room g path (path_of path levels fits) (child_path path 1 levels (omega arith) fits) v shown a h.0 few.0)
      (places_printed (first_of path) (scope_behind v a) p (child_fits path 1 levels (level_count p) (omega arith) (omega arith) fits) (scope_shown most room g v a shown h.0 few.0) h.1 few.1 plain)
  places_printed path v (whole.test t u p q) fits shown h few plain =
      let levels = level_count (whole.test t u p q) in
      both_printed (own_rules path v (whole.test t u p q)) (place_rules (first_of path) v p ++ place_rules (second_of path) v q)
      (test_printed most room g path (path_of path levels fits) (child_path path 1 levels (omega arith) fits) v shown (child_path path 2 levels (omega arith) fits) t u h.0 h.1)
      (both_printed (place_rules (first_of path) v p) (place_rules (second_of path) v q)
      (places_printed (first_of path) v p (child_fits path 1 levels (level_count p) (omega arith) (omega arith) fits) shown h.2 few.0 plain.0)
      (places_printed (second_of path) v q (child_fits path 2 levels (level_count q) (omega arith) (omega arith) fits) shown h.3 few.1 plain.1))
  places_printed path v (whole.lookup t x p q) fits shown h few plain =
      let levels = level_count (whole.lookup t x p q) in
      let w : List Var = v ++ message_var x ∷ [] in
      let found : IsShown most room g (message_var x) = message_shown most room g x plain.0 h.1 in
      both_printed (own_rules path v (whole.lookup t x p q)) (place_rules (first_of path) w p ++ place_rules (second_of path) v q)
      (lookup_printed most room g path (path_of path levels fits) (child_path path 1 levels (omega arith) fits) v shown (child_path path 2 levels (omega arith) fits) t x h.0 found)
      (both_printed (place_rules (first_of path) w p) (place_rules (second_of path) v q)
      (places_printed (first_of path) w p (child_fits path 1 levels (level_count p) (omega arith) (omega arith) fits) (each_both (IsShown most room g) v (message_var x ∷ []) shown (found, tt)) h.2 few.0 plain.1)
      (places_printed (second_of path) v q (child_fits path 2 levels (level_count q) (omega arith) (omega arith) fits) shown h.3 few.1 plain.2))

  pub rules_printed : (p : Proc) → level_count p ≤ 300 → IsPrintableProcess most g p → HasSmallLabels p → HasPlainLookups p → ArePrinted most room g (rules_of p)
  rules_printed p levels h few plain = (init_printed most room g, places_printed [] [] p (record { digits = tt; short = omega (arith, levels) }) tt h few plain)
