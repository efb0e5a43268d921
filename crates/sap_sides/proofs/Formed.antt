-- Normal forms of lists of terms and facts.
use Rattle.std.proofs.Common.{◌≡◌, ℕ, zero, suc, ◌+◌, List, [], ◌∷◌, ◌++◌, Some, map, take, inl, inr, ◌⊎◌, refl, sym, ap, subst, ◌∙◌, append_assoc}
use Rattle.std.specs.Prelude.{slice_get}
use Rattle.std.specs.List.{AllZip}
use Rattle.std.proofs.lemmas.List.{append-nil, map-append}
use Rattle.sap_terms.specs.Modulo.{instance_fact, instance_facts, IsFormOfFact, AreFormsOfFacts}
use Rattle.sap_terms.specs.Choice.{Choice, instance}
use Rattle.sap_terms.specs.Normal.{IsNormalForm}
use Rattle.sap_terms.specs.Signature.{Sig}
use Rattle.sap_terms.specs.Equations.{equations}
use Rattle.sap_terms.specs.Tree.{Tree, Trees, none, more, trees_of}
use Rattle.sap_terms.specs.declared.fact.Fact.{Fact}
use Rattle.sap_terms.specs.declared.limits.TheConstants.{MOST_TERM_NODES}
use Rattle.sap_rewrite.specs.Large.{SomeSubterm, SomeSubtermWithin, here, later, HasLargeForm}
use Rattle.sap_terms.proofs.PlainLaws.Lists.{take_got}
use Rattle.sap_sides.specs.Forms.{SomeLarge, args_of}
use Rattle.sap_sides.specs.Laws.{LargeInParts}
use Rattle.sap_sides.proofs.Lists.{zip_push}

pub none_within : (P : Tree → Type 0) {ts : Trees} → SomeSubtermWithin P ts → ts ≡ none → ⊥
none_within P (here s) e = cc
none_within P (later s) e = cc

-- some subterm of one more tree is of that tree or of the others
pub more_cases : (P : Tree → Type 0) (t : Tree) (ts : Trees) → SomeSubtermWithin P (more t ts) → SomeSubterm P t ⊎ SomeSubtermWithin P ts
more_cases P t ts s = at s refl where
  at : {us : Trees} → SomeSubtermWithin P us → us ≡ more t ts → SomeSubterm P t ⊎ SomeSubtermWithin P ts
  at (here {t = u} {ts = us} h) e = let is : u ≡ t = cc in inl (subst (SomeSubterm P) is h)
  at (later {t = u} {ts = us} h) e = let is : us ≡ ts = cc in inr (subst (SomeSubtermWithin P) is h)

pub within_front : (P : Tree → Type 0) (xs ys : List Tree) → SomeSubtermWithin P (trees_of xs) → SomeSubtermWithin P (trees_of (xs ++ ys))
within_front P [] ys s = absurd (none_within P s refl)
within_front P (x ∷ xs) ys s =
    elim (more_cases P x (trees_of xs) s) as (λ _. SomeSubtermWithin P (more x (trees_of (xs ++ ys)))) [ inl a ↦ here a | inr b ↦ later (within_front P xs ys b) ]

pub within_back : (P : Tree → Type 0) (xs ys : List Tree) → SomeSubtermWithin P (trees_of ys) → SomeSubtermWithin P (trees_of (xs ++ ys))
within_back P [] ys s = s
within_back P (x ∷ xs) ys s = later (within_back P xs ys s)

pub within_cases : (P : Tree → Type 0) (xs ys : List Tree) → SomeSubtermWithin P (trees_of (xs ++ ys)) → SomeSubtermWithin P (trees_of xs) ⊎ SomeSubtermWithin P (trees_of ys)
within_cases P [] ys s = inr s
within_cases P (x ∷ xs) ys s =
    elim (more_cases P x (trees_of (xs ++ ys)) s) as (λ _. SomeSubtermWithin P (more x (trees_of xs)) ⊎ SomeSubtermWithin P (trees_of ys)) [
      | inl a ↦ inl (here a)
      | inr b ↦ elim (within_cases P xs ys b) as (λ _. SomeSubtermWithin P (more x (trees_of xs)) ⊎ SomeSubtermWithin P (trees_of ys)) [ inl c ↦ inl (later c) | inr d ↦ inr d ]
    ]

only_one : (P : Tree → Type 0) (x : Tree) → SomeSubtermWithin P (trees_of (x ∷ [])) → SomeSubterm P x
only_one P x s = elim (more_cases P x none s) as (λ _. SomeSubterm P x) [ inl a ↦ a | inr b ↦ absurd (none_within P b refl) ]

-- what is formed so far
pub record AreFormed (g : Sig) (us ns : List Tree) : Type 0 where
  pub forms : AllZip (IsNormalForm (equations g)) us ns
  pub within : SomeLarge g us → ⊥

pub formed_none : (g : Sig) → AreFormed g [] []
formed_none g = record { forms = tt; within = λ s. none_within (HasLargeForm (equations g) MOST_TERM_NODES) s refl }

formed_one : (g : Sig) (us ns : List Tree) (u n : Tree) → AreFormed g us ns → IsNormalForm (equations g) u n → (SomeSubterm (HasLargeForm (equations g) MOST_TERM_NODES) u → ⊥) → AreFormed g (us ++ u ∷ []) (ns ++ n ∷ [])
formed_one g us ns u n a f w = record {
  forms = zip_push (IsNormalForm (equations g)) us ns u n a.forms f;
  within = λ s. elim (within_cases (HasLargeForm (equations g) MOST_TERM_NODES) us (u ∷ []) s) as (λ _. ⊥) [ inl x ↦ a.within x | inr y ↦ w (only_one (HasLargeForm (equations g) MOST_TERM_NODES) u y) ];
}

pub formed_further : (g : Sig) (τ : Choice) (ts ns ms : List Tree) (k : ℕ) (t n : Tree) → slice_get ts k ≡ Some t → AreFormed g (map (instance τ) (take k ts)) ns → IsNormalForm (equations g) (instance τ t) n → (SomeSubterm (HasLargeForm (equations g) MOST_TERM_NODES) (instance τ t) → ⊥) → ms ≡ ns ++ n ∷ [] → AreFormed g (map (instance τ) (take (k + 1) ts)) ms
formed_further g τ ts ns ms k t n h a f w e =
    let us = map (instance τ) (take k ts) in
    let is : us ++ instance τ t ∷ [] ≡ map (instance τ) (take (k + 1) ts) = sym (map-append (instance τ) (take k ts) (t ∷ [])) ∙ ap (map (instance τ)) (sym (take_got ts k t h)) in
    subst (λ xs. AreFormed g xs ms) is (subst (λ ys. AreFormed g (us ++ instance τ t ∷ []) ys) (sym e) (formed_one g us ns (instance τ t) n a f w))

pub large_at : (g : Sig) (τ : Choice) (ts : List Tree) (k : ℕ) (t : Tree) → slice_get ts k ≡ Some t → SomeSubterm (HasLargeForm (equations g) MOST_TERM_NODES) (instance τ t) → SomeLarge g (map (instance τ) ts)
large_at g τ [] k t h s = cc
large_at g τ (u ∷ us) zero t h s = let is : t ≡ u = cc in here (subst (λ v. SomeSubterm (HasLargeForm (equations g) MOST_TERM_NODES) (instance τ v)) is s)
large_at g τ (u ∷ us) (suc k) t h s = later (large_at g τ us k t h s)

-- the same of facts
pub record AreFactsFormed (g : Sig) (τ : Choice) (fs ns : List Fact) : Type 0 where
  pub forms : AreFormsOfFacts (equations g) (instance_facts τ fs) ns
  pub within : SomeLarge g (map (instance τ) (args_of fs)) → ⊥

pub facts_none : (g : Sig) (τ : Choice) → AreFactsFormed g τ [] []
facts_none g τ = record { forms = tt; within = λ s. none_within (HasLargeForm (equations g) MOST_TERM_NODES) s refl }

pub terms_append : (fs hs : List Fact) → args_of (fs ++ hs) ≡ args_of fs ++ args_of hs
terms_append [] hs = refl
terms_append (f ∷ fs) hs = ap (λ xs. f.args ++ xs) (terms_append fs hs) ∙ sym (append_assoc f.args (args_of fs) (args_of hs))

pub map_terms_append : (τ : Choice) (fs hs : List Fact) → map (instance τ) (args_of (fs ++ hs)) ≡ map (instance τ) (args_of fs) ++ map (instance τ) (args_of hs)
map_terms_append τ fs hs = ap (map (instance τ)) (terms_append fs hs) ∙ map-append (instance τ) (args_of fs) (args_of hs)

pub large_cases : (g : Sig) (τ : Choice) (fs hs : List Fact) → SomeLarge g (map (instance τ) (args_of (fs ++ hs))) → SomeLarge g (map (instance τ) (args_of fs)) ⊎ SomeLarge g (map (instance τ) (args_of hs))
large_cases g τ fs hs s =
    within_cases (HasLargeForm (equations g) MOST_TERM_NODES) (map (instance τ) (args_of fs)) (map (instance τ) (args_of hs)) (subst (SomeLarge g) (map_terms_append τ fs hs) s)

pub large_front : (g : Sig) (τ : Choice) (fs hs : List Fact) → SomeLarge g (map (instance τ) (args_of fs)) → SomeLarge g (map (instance τ) (args_of (fs ++ hs)))
large_front g τ fs hs s = subst (SomeLarge g) (sym (map_terms_append τ fs hs)) (within_front (HasLargeForm (equations g) MOST_TERM_NODES) (map (instance τ) (args_of fs)) (map (instance τ) (args_of hs)) s)

pub large_back : (g : Sig) (τ : Choice) (fs hs : List Fact) → SomeLarge g (map (instance τ) (args_of hs)) → SomeLarge g (map (instance τ) (args_of (fs ++ hs)))
large_back g τ fs hs s = subst (SomeLarge g) (sym (map_terms_append τ fs hs)) (within_back (HasLargeForm (equations g) MOST_TERM_NODES) (map (instance τ) (args_of fs)) (map (instance τ) (args_of hs)) s)

one_fact : (g : Sig) (τ : Choice) (f : Fact) → SomeLarge g (map (instance τ) (args_of (f ∷ []))) → SomeLarge g (map (instance τ) f.args)
one_fact g τ f s = subst (λ xs. SomeLarge g (map (instance τ) xs)) (append-nil f.args) s

facts_one : (g : Sig) (τ : Choice) (fs ns : List Fact) (f n : Fact) → AreFactsFormed g τ fs ns → IsFormOfFact (equations g) (instance_fact τ f) n → (SomeLarge g (map (instance τ) f.args) → ⊥) → AreFactsFormed g τ (fs ++ f ∷ []) (ns ++ n ∷ [])
facts_one g τ fs ns f n a h w = record {
  forms = subst (λ xs. AreFormsOfFacts (equations g) xs (ns ++ n ∷ [])) (sym (map-append (instance_fact τ) fs (f ∷ []))) (zip_push (IsFormOfFact (equations g)) (instance_facts τ fs) ns (instance_fact τ f) n a.forms h);
  within = λ s. elim (large_cases g τ fs (f ∷ []) s) as (λ _. ⊥) [ inl x ↦ a.within x | inr y ↦ w (one_fact g τ f y) ];
}

pub facts_further : (g : Sig) (τ : Choice) (fs ns ms : List Fact) (k : ℕ) (f n : Fact) → slice_get fs k ≡ Some f → AreFactsFormed g τ (take k fs) ns → IsFormOfFact (equations g) (instance_fact τ f) n → (SomeLarge g (map (instance τ) f.args) → ⊥) → ms ≡ ns ++ n ∷ [] → AreFactsFormed g τ (take (k + 1) fs) ms
facts_further g τ fs ns ms k f n h a i w e =
    subst (λ xs. AreFactsFormed g τ xs ms) (sym (take_got fs k f h)) (subst (λ ys. AreFactsFormed g τ (take k fs ++ f ∷ []) ys) (sym e) (facts_one g τ (take k fs) ns f n a i w))

pub fact_large : (g : Sig) (τ : Choice) (fs : List Fact) (k : ℕ) (f : Fact) → slice_get fs k ≡ Some f → SomeLarge g (map (instance τ) f.args) → SomeLarge g (map (instance τ) (args_of fs))
fact_large g τ [] k f h s = cc
fact_large g τ (x ∷ xs) zero f h s =
    let is : f ≡ x = cc in
    let whole = subst (λ (y : Fact). SomeLarge g (map (instance τ) y.args)) is s in
    large_front g τ (x ∷ []) xs (subst (λ ys. SomeLarge g (map (instance τ) ys)) (sym (append-nil x.args)) whole)
fact_large g τ (x ∷ xs) (suc k) f h s = large_back g τ (x ∷ []) xs (fact_large g τ xs k f h s)

pub in_parts : LargeInParts
in_parts = record { front = large_front; back = large_back; cases = large_cases }
