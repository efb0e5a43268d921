-- What a rule shows and adds, evaluated.
use Rattle.std.proofs.Common.{◌≡◌, ◌<◌, ◌≤◌, ℕ, List, [], ◌∷◌, ◌++◌, length, map, inl, inr, refl, sym, ap, subst, ◌∙◌}
use Rattle.std.specs.Prelude.{All}
use Rattle.std.specs.List.{AllZip}
use Rattle.std.proofs.lemmas.Bool.{cases_lt}
use Rattle.std.proofs.lemmas.List.{map-append}
use Rattle.std.proofs.lemmas.List.Elements.{All-nil, All-cons, All-head, All-tail}
use Rattle.sap_terms.specs.Choice.{Choice, instance}
use Rattle.sap_terms.specs.Equations.{equations}
use Rattle.sap_terms.specs.Ground.{IsGround, AreGround}
use Rattle.sap_terms.specs.Message.{IsOver, AreOver, IsFactOver}
use Rattle.sap_terms.specs.Modulo.{instance_fact, instance_facts, AreFormsOfFacts}
use Rattle.sap_terms.specs.Normal.{IsNormal, IsNormalForm}
use Rattle.sap_terms.specs.Signature.{Sig}
use Rattle.sap_terms.specs.Subterms.{itself, here, later}
use Rattle.sap_terms.specs.Tree.{Tree, trees_of, node_count}
use Rattle.sap_terms.specs.declared.fact.Fact.{Fact}
use Rattle.sap_terms.specs.declared.limits.TheConstants.{MOST_TERM_NODES}
use Rattle.sap_process.specs.Heads.{facts_terms}
use Rattle.sap_share.specs.Env.{given}
use Rattle.sap_share.specs.Shared.{Shared, tree_at, trees_at, AreBelow, Keeps}
use Rattle.sap_share.specs.declared.env.Bound.{Bound}
use Rattle.sap_sides.specs.Forms.{SomeLarge, args_of, HasLargeSide}
use Rattle.sap_sides.specs.Messages.{IsSmallMessage, IsSmallMessageFact, IsGroundFact}
use Rattle.sap_sides.specs.SharedFacts.{fact_seen, AreFactsBelow}
use Rattle.sap_sides.specs.declared.shared_fact.SharedFact.{SharedFact}
use Rattle.sap_lines.specs.Faults.{EvaluateLarge, EvaluateSmall}
use Rattle.sap_lines.specs.declared.fault.PFault.TheVariants.{TermLarge}
use Rattle.sap_heads.specs.Values.{CanEvaluate, IsValueFault}
use Rattle.sap_heads.proofs.Numbers.{small_unless}
use Rattle.sap_heads.proofs.Sided.{facts_terms-append, terms_instance, within_front, within_back}

all_front : (P : Tree → Type 0) (xs ys : List Tree) → All P (xs ++ ys) → All P xs
all_front P [] ys h = All-nil P
all_front P (x ∷ xs) ys h = All-cons P x xs (All-head P x (xs ++ ys) h) (all_front P xs ys (All-tail P x (xs ++ ys) h))

all_back : (P : Tree → Type 0) (xs ys : List Tree) → All P (xs ++ ys) → All P ys
all_back P [] ys h = h
all_back P (x ∷ xs) ys h = all_back P xs ys (All-tail P x (xs ++ ys) h)

-- facts whose terms can be evaluated stand for ground facts, and are over the signature
module _ (s : Shared) (env : List Bound) where
  grounds : (ts : List Tree) → All (CanEvaluate s env) ts → AreGround (trees_of (map (instance (given s.trees env)) ts))
  grounds [] h = tt
  grounds (t ∷ ts) h = ((All-head (CanEvaluate s env) t ts h).ground, grounds ts (All-tail (CanEvaluate s env) t ts h))

  overs : (ts : List Tree) → All (CanEvaluate s env) ts → AreOver s.sig (trees_of ts)
  overs [] h = tt
  overs (t ∷ ts) h = ((All-head (CanEvaluate s env) t ts h).over, overs ts (All-tail (CanEvaluate s env) t ts h))

  pub facts_ground : (fs : List Fact) → All (CanEvaluate s env) (facts_terms fs) → All IsGroundFact (instance_facts (given s.trees env) fs)
  facts_ground [] h = All-nil IsGroundFact
  facts_ground (f ∷ fs) h =
      All-cons IsGroundFact (instance_fact (given s.trees env) f) (instance_facts (given s.trees env) fs) (grounds f.args (all_front (CanEvaluate s env) f.args (facts_terms fs) h)) (facts_ground fs (all_back (CanEvaluate s env) f.args (facts_terms fs) h))

  pub facts_over : (fs : List Fact) → All (CanEvaluate s env) (facts_terms fs) → All (IsFactOver s.sig) fs
  facts_over [] h = All-nil (IsFactOver s.sig)
  facts_over (f ∷ fs) h =
      All-cons (IsFactOver s.sig) f fs (overs f.args (all_front (CanEvaluate s env) f.args (facts_terms fs) h)) (facts_over fs (all_back (CanEvaluate s env) f.args (facts_terms fs) h))

module _ (g : Sig) (σ : Choice) where
  -- where nothing is large, all is small
  pub side_small : (fs : List Fact) → (SomeLarge g (map (instance σ) (args_of fs)) → ⊥) → EvaluateSmall g (facts_terms (instance_facts σ fs))
  side_small fs never = small_unless g (facts_terms (instance_facts σ fs)) (λ large. never (subst (EvaluateLarge g) (sym (terms_instance σ fs)) large))

  both : (e r : List Fact) → map (instance σ) (args_of e) ++ map (instance σ) (args_of r) ≡ facts_terms (instance_facts σ (e ++ r))
  both e r = sym (map-append (instance σ) (args_of e) (args_of r)) ∙ ap (map (instance σ)) (sym (facts_terms-append e r)) ∙ terms_instance σ (e ++ r)

  -- what is large of one side is large of both
  pub side_large : (e r : List Fact) → HasLargeSide g σ e r → IsValueFault g (facts_terms (instance_facts σ (e ++ r))) TermLarge
  side_large e r (inl large) = inr (refl, subst (EvaluateLarge g) (both e r) (within_front (map (instance σ) (args_of e)) (map (instance σ) (args_of r)) large))
  side_large e r (inr large) = inr (refl, subst (EvaluateLarge g) (both e r) (within_back (map (instance σ) (args_of e)) (map (instance σ) (args_of r)) large))

-- what is added holds small messages
module _ (s u : Shared) (keeps : Keeps s u) (ground : (k : ℕ) → k < length u.trees → IsGround (tree_at u.trees k)) (over : (k : ℕ) → k < length u.trees → IsOver u.sig (tree_at u.trees k)) (σ : Choice) where
  fine_args : (ts : List Tree) (ks : List ℕ) → AreBelow (length u.trees) ks → AllZip (IsNormalForm (equations s.sig)) (map (instance σ) ts) (trees_at u.trees ks) → (SomeLarge s.sig (map (instance σ) ts) → ⊥) → All (IsSmallMessage u.sig) (trees_at u.trees ks)
  fine_args ts [] below forms never = All-nil (IsSmallMessage u.sig)
  fine_args [] (k ∷ ks) below forms never = absurd forms
  fine_args (t ∷ ts) (k ∷ ks) below forms never =
      let n : Tree = tree_at u.trees k in
      let lt : k < length u.trees = All-head (λ (j : ℕ). j < length u.trees) k ks below in
      let small : node_count n ≤ MOST_TERM_NODES = elim (cases_lt MOST_TERM_NODES (node_count n)) [ inl large ↦ absurd (never (here (itself (record { form = n; is_form = forms.0; large = large })))) | inr le ↦ le ] in
      let normal : IsNormal (equations u.sig) n = subst (λ g. IsNormal (equations g) n) (sym keeps.sig) forms.0.normal in
      All-cons (IsSmallMessage u.sig) n (trees_at u.trees ks) (record { message = record { ground = ground k lt; over = over k lt; normal = normal; sorted = refl }; small = small })
      (fine_args ts ks (All-tail (λ (j : ℕ). j < length u.trees) k ks below) forms.1 (λ large. never (later large)))

  pub side_fine : (fs : List Fact) (ss : List SharedFact) → AreFactsBelow (length u.trees) ss → AreFormsOfFacts (equations s.sig) (instance_facts σ fs) (map (fact_seen u.trees) ss) → (SomeLarge s.sig (map (instance σ) (args_of fs)) → ⊥) → All (IsSmallMessageFact u.sig) (map (fact_seen u.trees) ss)
  side_fine fs [] below forms never = All-nil (IsSmallMessageFact u.sig)
  side_fine [] (x ∷ xs) below forms never = absurd forms
  side_fine (f ∷ fs) (x ∷ xs) below forms never =
      let B : SharedFact → Type 0 = λ y. AreBelow (length u.trees) y.args in
      let front : SomeLarge s.sig (map (instance σ) f.args) → SomeLarge s.sig (map (instance σ) (args_of (f ∷ fs))) = λ large. subst (SomeLarge s.sig) (sym (map-append (instance σ) f.args (args_of fs))) (within_front (map (instance σ) f.args) (map (instance σ) (args_of fs)) large) in
      let back : SomeLarge s.sig (map (instance σ) (args_of fs)) → SomeLarge s.sig (map (instance σ) (args_of (f ∷ fs))) = λ large. subst (SomeLarge s.sig) (sym (map-append (instance σ) f.args (args_of fs))) (within_back (map (instance σ) f.args) (map (instance σ) (args_of fs)) large) in
      All-cons (IsSmallMessageFact u.sig) (fact_seen u.trees x) (map (fact_seen u.trees) xs) (fine_args f.args x.args (All-head B x xs below) forms.0.args (λ large. never (front large)))
      (side_fine fs xs (All-tail B x xs below) forms.1 (λ large. never (back large)))
