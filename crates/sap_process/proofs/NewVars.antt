-- The variables that come to a scope, list after list.
use Rattle.std.proofs.Common.{◌≡◌, ℕ, ◌+◌, ◌<◌, List, [], ◌∷◌, ◌++◌, Bool, true, false, ◌||◌, not, ◌&&◌, cond, length, drop, get_or, add-one, Some, slice_get, refl, sym, ap, ◌∙◌}
use Rattle.std.proofs.Math.Seq.{drop-cons}
use Rattle.std.proofs.lemmas.Option.{slice_get_within, get_or_from_slice_get}
use Rattle.std.proofs.lemmas.List.{append_assoc, append-nil}
use Rattle.std.specs.Str.{bytes_eq}
use Rattle.sap_terms.proofs.PlainLaws.Trees.{item_le-trees_count}
use Rattle.sap_terms.specs.Tree.{Tree, trees_of}
use Rattle.sap_terms.specs.Variables.{is_known, new_vars, tree_vars, trees_vars, facts_vars}
use Rattle.sap_terms.specs.declared.fact.Fact.{Fact}
use Rattle.sap_terms.specs.declared.var.Sort.TheVariants.{Pub}
use Rattle.sap_terms.specs.declared.var.Var.{Var}
use Rattle.sap_process.specs.code.Binders.{with_new}
use Rattle.sap_process.specs.Sites.{var_names}
use Rattle.sap_process.proofs.Envs.{known_new}
use Rattle.sap_process.proofs.Names.{known-append, names-append}
use Rattle.sap_process.proofs.VarLists.{facts-append, items-filter, drop-front}

names_append : (vs ws : List Var) → var_names (vs ++ ws) ≡ var_names vs ++ var_names ws
names_append [] ws = refl
names_append (v ∷ vs) ws = ap (λ ns. v.name ∷ ns) (names_append vs ws)

new-append : (known : List (List ℕ)) (xs ys : List Var) → new_vars known (xs ++ ys) ≡ new_vars known xs ++ new_vars (known ++ var_names (new_vars known xs)) ys
new-append known [] ys = ap (λ ns. new_vars ns ys) (sym (append-nil known))
new-append known (x ∷ xs) ys = by (is_known known x.name) (new-append known xs ys) (new-append (known ++ x.name ∷ []) xs ys) where
  by : (b : Bool) → new_vars known (xs ++ ys) ≡ new_vars known xs ++ new_vars (known ++ var_names (new_vars known xs)) ys
      → new_vars (known ++ x.name ∷ []) (xs ++ ys) ≡ new_vars (known ++ x.name ∷ []) xs ++ new_vars ((known ++ x.name ∷ []) ++ var_names (new_vars (known ++ x.name ∷ []) xs)) ys
      → cond b (new_vars known (xs ++ ys)) (x ∷ new_vars (known ++ x.name ∷ []) (xs ++ ys))
      ≡ cond b (new_vars known xs) (x ∷ new_vars (known ++ x.name ∷ []) xs) ++ new_vars (known ++ var_names (cond b (new_vars known xs) (x ∷ new_vars (known ++ x.name ∷ []) xs))) ys
  by true one two = one
  by false one two = ap (λ vs. x ∷ vs) (two ∙ ap (λ ns. new_vars (known ++ x.name ∷ []) xs ++ new_vars ns ys) (append_assoc known (x.name ∷ []) (var_names (new_vars (known ++ x.name ∷ []) xs))))

pub with_new-append : (scope xs ys : List Var) → with_new scope (xs ++ ys) ≡ with_new (with_new scope xs) ys
with_new-append scope xs ys =
    ap (λ vs. scope ++ vs) (new-append (var_names scope) xs ys ∙ ap (λ ns. new_vars (var_names scope) xs ++ new_vars ns ys) (sym (names_append scope (new_vars (var_names scope) xs))))
    ∙ sym (append_assoc scope (new_vars (var_names scope) xs) (new_vars (var_names (with_new scope xs)) ys))

pub with_new-none : (scope : List Var) → with_new scope [] ≡ scope
with_new-none scope = append-nil scope

pub with_new-facts : (scope : List Var) (fs hs : List Fact) → with_new scope (facts_vars (fs ++ hs)) ≡ with_new (with_new scope (facts_vars fs)) (facts_vars hs)
with_new-facts scope fs hs = ap (with_new scope) (facts-append fs hs) ∙ with_new-append scope (facts_vars fs) (facts_vars hs)

-- what is new turns on which names are known alone
pub same_known : (k j : List (List ℕ)) (ys : List Var) → ((n : List ℕ) → is_known k n ≡ is_known j n) → new_vars k ys ≡ new_vars j ys
same_known k j [] h = refl
same_known k j (y ∷ ys) h =
    (λ i. cond (h y.name i) (same_known k j ys h i) (y ∷ same_known (k ++ y.name ∷ []) (j ++ y.name ∷ []) ys (λ n. names-append k (y.name ∷ []) n ∙ ap (λ b. b || (bytes_eq y.name n || false)) (h n) ∙ sym (names-append j (y.name ∷ []) n)) i))

pub or_new : (a b : Bool) → (a || (not a && b)) ≡ (a || b)
or_new true b = refl
or_new false b = refl

known_with : (scope ws : List Var) (n : List ℕ) → is_known (var_names (scope ++ ws)) n ≡ is_known (var_names (with_new scope ws)) n
known_with scope ws n =
    known-append scope ws (record { name = n; sort = Pub })
    ∙ sym (known-append scope (new_vars (var_names scope) ws) (record { name = n; sort = Pub }) ∙ ap (λ b. is_known (var_names scope) n || b) (known_new (var_names scope) ws n) ∙ or_new (is_known (var_names scope) n) (is_known (var_names ws) n))

-- behind variables, each occurrence of them or the first ones, the same are new
pub new-behind : (scope ws vs : List Var) → new_vars (var_names (scope ++ ws)) vs ≡ new_vars (var_names (with_new scope ws)) vs
new-behind scope ws vs = same_known (var_names (scope ++ ws)) (var_names (with_new scope ws)) vs (known_with scope ws)

-- those of the terms from one on
terms-from : (ts : List Tree) (k : ℕ) (t : Tree) → slice_get ts k ≡ Some t → trees_vars (trees_of (drop k ts)) ≡ tree_vars t ++ trees_vars (trees_of (drop (k + 1) ts))
terms-from ts k t got =
    ap (λ (us : List Tree). trees_vars (trees_of us)) (drop-cons ts k t (slice_get_within ts k t got))
    ∙ rw (add-one, get_or_from_slice_get ts k t t got) refl

pub with_new-terms : (scope : List Var) (ts : List Tree) (k : ℕ) (t : Tree) → slice_get ts k ≡ Some t
    → with_new scope (trees_vars (trees_of (drop k ts))) ≡ with_new (with_new scope (tree_vars t)) (trees_vars (trees_of (drop (k + 1) ts)))
with_new-terms scope ts k t got =
    ap (with_new scope) (terms-from ts k t got) ∙ with_new-append scope (tree_vars t) (trees_vars (trees_of (drop (k + 1) ts)))

-- and of the facts
facts_vars-from : (fs : List Fact) (i : ℕ) (f : Fact) → i < length fs → f ≡ get_or fs i f → facts_vars (drop i fs) ≡ trees_vars (trees_of f.args) ++ facts_vars (drop (i + 1) fs)
facts_vars-from fs i f below at = ap facts_vars (drop-cons fs i f below) ∙ rw (add-one, ← at) refl

pub with_new-from : (scope : List Var) (fs : List Fact) (i : ℕ) (f : Fact) → i < length fs → f ≡ get_or fs i f
    → with_new scope (facts_vars (drop i fs)) ≡ with_new (with_new scope (trees_vars (trees_of f.args))) (facts_vars (drop (i + 1) fs))
with_new-from scope fs i f below at =
    ap (with_new scope) (facts_vars-from fs i f below at) ∙ with_new-append scope (trees_vars (trees_of f.args)) (facts_vars (drop (i + 1) fs))

pub ruleset new_laws = (with_new-append, with_new-none, item_le-trees_count)

pub ruleset new_facts = (with_new-facts)

pub ruleset unbound_rule = (items-filter, drop-front, new-behind, with_new-facts)
