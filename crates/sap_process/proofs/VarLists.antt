-- The variables of terms and of facts, in order, and tests of them.
use Rattle.std.proofs.Common.{◌≡◌, List, [], ◌∷◌, ◌++◌, Bool, true, false, ◌||◌, cond, length, drop, filter, refl, sym, ap, ◌∙◌}
use Rattle.std.specs.List.{list_any}
use Rattle.std.proofs.Math.Bool.{or_assoc}
use Rattle.std.proofs.lemmas.List.{append_assoc, append-nil}
use Rattle.sap_terms.proofs.PlainLaws.Trees.{item_le-trees_count}
use Rattle.sap_terms.specs.Tree.{Tree, trees_of}
use Rattle.sap_terms.specs.Variables.{tree_vars, trees_vars, facts_vars}
use Rattle.sap_terms.specs.declared.fact.Fact.{Fact}
use Rattle.sap_process.specs.Heads.{terms_vars, facts_terms}
use Rattle.sap_process.specs.code.Tests.{has_items}

-- of terms, one after another
pub vars-of-terms : (ts : List Tree) → terms_vars ts ≡ trees_vars (trees_of ts)
vars-of-terms [] = refl
vars-of-terms (t ∷ ts) = ap (λ vs. tree_vars t ++ vs) (vars-of-terms ts)

pub vars-of-one : (t : Tree) → terms_vars (t ∷ []) ≡ tree_vars t
vars-of-one t = append-nil (tree_vars t)

pub vars-of-two : (t u : Tree) → terms_vars (t ∷ u ∷ []) ≡ tree_vars t ++ tree_vars u
vars-of-two t u = ap (λ vs. tree_vars t ++ vs) (append-nil (tree_vars u))

terms-append : (xs ys : List Tree) → terms_vars (xs ++ ys) ≡ terms_vars xs ++ terms_vars ys
terms-append [] ys = refl
terms-append (x ∷ xs) ys = ap (λ vs. tree_vars x ++ vs) (terms-append xs ys) ∙ sym (append_assoc (tree_vars x) (terms_vars xs) (terms_vars ys))

-- those of the arguments of facts
pub vars-of-facts : (fs : List Fact) → terms_vars (facts_terms fs) ≡ facts_vars fs
vars-of-facts [] = refl
vars-of-facts (f ∷ fs) =
    terms-append f.args (facts_terms fs) ∙ ap (λ vs. vs ++ terms_vars (facts_terms fs)) (vars-of-terms f.args)
    ∙ ap (λ vs. trees_vars (trees_of f.args) ++ vs) (vars-of-facts fs)

pub facts-append : (fs hs : List Fact) → facts_vars (fs ++ hs) ≡ facts_vars fs ++ facts_vars hs
facts-append [] hs = refl
facts-append (f ∷ fs) hs =
    ap (λ vs. trees_vars (trees_of f.args) ++ vs) (facts-append fs hs) ∙ sym (append_assoc (trees_vars (trees_of f.args)) (facts_vars fs) (facts_vars hs))

-- those of the three sides of a rule
pub vars-of-rule : (l e r : List Fact) → facts_vars (l ++ (e ++ r)) ≡ (facts_vars l ++ facts_vars e) ++ facts_vars r
vars-of-rule l e r =
    facts-append l (e ++ r) ∙ ap (λ vs. facts_vars l ++ vs) (facts-append e r) ∙ sym (append_assoc (facts_vars l) (facts_vars e) (facts_vars r))

pub any-append : {X : Type 0} (p : X → Bool) (xs ys : List X) → list_any p (xs ++ ys) ≡ (list_any p xs || list_any p ys)
any-append p [] ys = refl
any-append p (x ∷ xs) ys = ap (λ b. p x || b) (any-append p xs ys) ∙ sym (or_assoc (p x) (list_any p xs) (list_any p ys))

-- an item is left by a filter where one passes
pub items-filter : {X : Type 0} (p : X → Bool) (xs : List X) → has_items (filter p xs) ≡ list_any p xs
items-filter p [] = refl
items-filter p (x ∷ xs) = by (p x) (items-filter p xs) where
  by : (b : Bool) → has_items (filter p xs) ≡ list_any p xs → has_items (cond b (x ∷ filter p xs) (filter p xs)) ≡ (b || list_any p xs)
  by true later = refl
  by false later = later

pub drop-front : {X : Type 0} (xs ys : List X) → drop (length xs) (xs ++ ys) ≡ ys
drop-front [] ys = refl
drop-front (x ∷ xs) ys = drop-front xs ys

pub ruleset head_laws = (vars-of-terms, vars-of-one, vars-of-two, vars-of-facts)

pub ruleset any_laws = (any-append)

pub ruleset any_vars = (any-append, item_le-trees_count)

pub ruleset any_rule = (any-append, vars-of-rule)

pub ruleset unbound_laws = (items-filter)
