-- A line is possible in one way.
use Rattle.std.proofs.Common.{◌≡◌, ℕ, List, [], ◌∷◌, ◌++◌, true, false, Some, None, map, slice_get, refl, sym, ap, subst, ◌∙◌}
use Rattle.std.specs.Prelude.{All}
use Rattle.std.proofs.lemmas.List.Elements.{All-head, All-contains}
use Rattle.sap_terms.specs.AdversaryFacts.{k_fact}
use Rattle.sap_terms.specs.Choice.{Choice, instance}
use Rattle.sap_terms.specs.Equal.{IsTheoryEqual}
use Rattle.sap_terms.specs.Equations.{equations, app2, pair_name}
use Rattle.sap_terms.specs.Message.{IsMessageChoice}
use Rattle.sap_terms.specs.Modulo.{instance_facts, IsFormOfFact, AreEqualFacts, AreFormsOfFacts}
use Rattle.sap_terms.specs.Normal.{IsNormal, IsNormalForm}
use Rattle.sap_terms.specs.Piles.{Pile, Takes, adds}
use Rattle.sap_terms.specs.Signature.{Sig}
use Rattle.sap_terms.specs.Tree.{Tree, fresh, apply, trees_of}
use Rattle.sap_terms.specs.Variables.{tree_vars, facts_vars}
use Rattle.sap_terms.specs.declared.binding.Binding.{Binding}
use Rattle.sap_terms.specs.declared.fact.Fact.{Fact}
use Rattle.sap_rewrite.specs.Match.{Agrees, bound_vars}
use Rattle.sap_rewrite.specs.Pattern.{IsPattern}
use Rattle.sap_process.specs.Action as action
use Rattle.sap_process.specs.Configuration.{Config, Runs, becomes, spawns, makes, sends_out, stores, holding, leaves}
use Rattle.sap_process.specs.Proc as whole
use Rattle.sap_process.specs.Proc.{Proc, act}
use Rattle.sap_process.specs.ProcessSteps.{with_choice, with_term, Fits}
use Rattle.sap_runs.specs.Inner.{InnerAction, equal, different, found, missing, inserted, deleted, locked, unlocked}
use Rattle.sap_runs.specs.Limits.{AnySize}
use Rattle.sap_runs.specs.declared.process_step.PStep.{PStep}
use Rattle.sap_lines.specs.Answers.{MatchesExactly, AreOne, ProcessLinesHaveOneOutcome}
use Rattle.sap_lines.specs.Lines.{IsProcessLine, left_open}
use Rattle.sap_lines.proofs.Agreeing.{choice_agree}
use Rattle.sap_lines.proofs.Fits.{pair_parts, fits_agree, facts_fit_agree, facts_one, fact_one, takes_one, facts_all, taken_all}
use Rattle.sap_lines.proofs.Opened.{bound_agree, rule_agree, facts_vars-append}
use Rattle.sap_lines.proofs.Premises.{Laws}
use Rattle.sap_terms.proofs.PlainLaws.Choices.{Agree, agree_left, agree_right, facts_agree}
use Rattle.sap_terms.proofs.PlainLaws.Items.{contains_got}

-- a thread runs as one process, and a number is of one entry
pub one_thread : (c : Config) (t : ℕ) (p q : Proc) → Runs c t p → Runs c t q → p ≡ q
one_thread c t p q a b = cc

pub one_entry : (es : List Tree) (k : ℕ) (x y : Tree) → slice_get es k ≡ Some x → slice_get es k ≡ Some y → x ≡ y
one_entry es k x y a b = cc

pub same_terms : (ts us : List Tree) → map Some ts ≡ map Some us → ts ≡ us
same_terms [] [] h = refl
same_terms [] (u ∷ us) h = cc
same_terms (t ∷ ts) [] h = cc
same_terms (t ∷ ts) (u ∷ us) h =
    let head : t ≡ u = cc in
    let rest = same_terms ts us (cc) in
    λ i. head i ∷ rest i

module _ (laws : Laws) (g : Sig) (c : Config) (es : List Tree) (exact : MatchesExactly g c es) where
  -- theory-equal terms, or one term, have one normal form
  pub one_form : (m n x y : Tree) → m ≡ n → IsNormalForm (equations g) m x → IsNormalForm (equations g) n y → x ≡ y
  one_form m n x y e a b = laws.one_form (equations g) n x y (subst (λ t. IsNormalForm (equations g) t x) e a) b

  entry_normal : (k : ℕ) (x : Tree) → slice_get es k ≡ Some x → IsNormal (equations g) x
  entry_normal k x e = All-contains (IsNormal (equations g)) es x exact.entries (contains_got es x k e)

  -- the pattern of an input
  input_pattern : (t : ℕ) (n : Tree) (p : Proc) → Runs c t (act (action.input n) p) → IsPattern (equations g) n
  input_pattern t n p r = All-head (IsPattern (equations g)) n [] (exact.patterns_are t (act (action.input n) p) r)

  receive_pattern : (t : ℕ) (m n : Tree) (p : Proc) → Runs c t (act (action.receive m n) p) → IsPattern (equations g) n
  receive_pattern t m n p r = All-head (IsPattern (equations g)) n [] (exact.patterns_are t (act (action.receive m n) p) r)

  -- two choices under which the left side of an embedded rule is the taken facts, and which agree with the bindings, agree on it
  pub embedded_agree : (t : ℕ) (l e r left : List Fact) (rest : Pile) (p : Proc) (ks : List ℕ) (b : List Binding) (σ τ : Choice) → Runs c t (act (action.embedded l e r) p) → bound_vars b ≡ left_open l e r → IsMessageChoice g σ → IsMessageChoice g τ → Agrees b σ → Agrees b τ → Takes c.facts ks left rest → AreEqualFacts (equations g) (instance_facts σ l) left → AreEqualFacts (equations g) (instance_facts τ l) left → Agree σ τ (facts_vars (l ++ (e ++ r)))
  embedded_agree t l e r left rest p ks b σ τ runs vars mσ mτ aσ aτ takes fσ fτ =
      rule_agree σ τ l e r (exact.sorts t l e r p runs)
      (facts_fit_agree laws g σ τ l left mσ mτ (facts_all (IsPattern (equations g)) l (exact.patterns_are t (act (action.embedded l e r) p) runs)) (taken_all (λ (f : Fact). All (IsNormal (equations g)) f.args) exact.facts takes) fσ fτ)
      (subst (Agree σ τ) vars (bound_agree b σ τ aσ aτ))

  input_one : (t k : ℕ) (σ τ : Choice) (n m x y : Tree) (p q : Proc) → Runs c t (act (action.input n) p) → Runs c t (act (action.input m) q) → slice_get es k ≡ Some x → slice_get es k ≡ Some y → Fits g σ n x → Fits g τ m y → with_choice σ (tree_vars n) p ≡ with_choice τ (tree_vars m) q
  input_one t k σ τ n m x y p q r s e f a b =
      let process = one_thread c t (act (action.input n) p) (act (action.input m) q) r s in
      let pattern : n ≡ m = cc in
      let behind : p ≡ q = cc in
      let fits : Fits g τ n x = subst (λ z. Fits g τ n z) (one_entry es k y x f e) (subst (λ z. Fits g τ z y) (sym pattern) b) in
      let agree = fits_agree laws g σ τ n x a.messages b.messages (input_pattern t n p r) (entry_normal k x e) a.equal fits.equal in
      choice_agree σ τ (tree_vars n) p agree ∙ (λ i. with_choice τ (tree_vars (pattern i)) (behind i))

  receive_one : (t k : ℕ) (σ τ : Choice) (l n m u x y : Tree) (p q : Proc) → Runs c t (act (action.receive l n) p) → Runs c t (act (action.receive m u) q) → slice_get es k ≡ Some x → slice_get es k ≡ Some y → IsMessageChoice g σ → IsMessageChoice g τ → IsTheoryEqual (equations g) (app2 pair_name l (instance σ n)) x → IsTheoryEqual (equations g) (app2 pair_name m (instance τ u)) y → with_choice σ (tree_vars n) p ≡ with_choice τ (tree_vars u) q
  receive_one t k σ τ l n m u x y p q r s e f mσ mτ a b =
      let process = one_thread c t (act (action.receive l n) p) (act (action.receive m u) q) r s in
      let pattern : n ≡ u = cc in
      let behind : p ≡ q = cc in
      let entry : x ≡ y = one_entry es k x y e f in
      let first = pair_parts laws g l (instance σ n) x (entry_normal k x e) a in
      let second = pair_parts laws g m (instance τ u) y (entry_normal k y f) b in
      let parts : app2 pair_name first.first first.second ≡ app2 pair_name second.first second.second = sym first.is ∙ entry ∙ second.is in
      let part : second.second ≡ first.second = cc in
      let equal_too : IsTheoryEqual (equations g) (instance τ n) first.second =
      subst (λ z. IsTheoryEqual (equations g) (instance τ z) first.second) (sym pattern) (subst (λ z. IsTheoryEqual (equations g) (instance τ u) z) part second.second_form.equal)
      in
      let agree = fits_agree laws g σ τ n first.second mσ mτ (receive_pattern t l n p r) first.second_form.normal first.second_form.equal equal_too in
      choice_agree σ τ (tree_vars n) p agree ∙ (λ i. with_choice τ (tree_vars (pattern i)) (behind i))

  -- what is sent has a normal form, which both choices make of the pattern
  meet_one : (t : ℕ) (σ τ : Choice) (l n m u x y : Tree) (p q : Proc) → Runs c t (act (action.receive l n) p) → Runs c t (act (action.receive m u) q) → x ≡ y → Fits g σ n x → Fits g τ u y → with_choice σ (tree_vars n) p ≡ with_choice τ (tree_vars u) q
  meet_one t σ τ l n m u x y p q r s sent a b =
      let process = one_thread c t (act (action.receive l n) p) (act (action.receive m u) q) r s in
      let pattern : n ≡ u = cc in
      let behind : p ≡ q = cc in
      let form = laws.each (equations g) x in
      let here = laws.kept.onwards (equations g) (instance σ n) x form.0 a.equal form.1.equal in
      let there : IsTheoryEqual (equations g) (instance τ n) x = subst (λ z. IsTheoryEqual (equations g) (instance τ z) x) (sym pattern) (subst (λ z. IsTheoryEqual (equations g) (instance τ u) z) (sym sent) b.equal) in
      let agree = fits_agree laws g σ τ n form.0 a.messages b.messages (receive_pattern t l n p r) form.1.normal here (laws.kept.onwards (equations g) (instance τ n) x form.0 there form.1.equal) in
      choice_agree σ τ (tree_vars n) p agree ∙ (λ i. with_choice τ (tree_vars (pattern i)) (behind i))

  -- an embedded rule with its numbers and bindings, and what one choice makes of it
  record Embeds (t : ℕ) (ks : List ℕ) (b : List Binding) (l e r : List Fact) (p : Proc) (σ : Choice) (left acts right : List Fact) (rest : Pile) : Type 0 where
    runs : Runs c t (act (action.embedded l e r) p)
    messages : IsMessageChoice g σ
    vars : bound_vars b ≡ left_open l e r
    agrees : Agrees b σ
    equal : AreEqualFacts (equations g) (instance_facts σ l) left
    takes : Takes c.facts ks left rest
    shown : AreFormsOfFacts (equations g) (instance_facts σ e) acts
    added : AreFormsOfFacts (equations g) (instance_facts σ r) right

  -- what two make of it is one
  record Embedded (l e r l' e' r' : List Fact) (p p' : Proc) (σ σ' : Choice) (acts acts' right right' : List Fact) (rest rest' : Pile) : Type 0 where
    shown : acts ≡ acts'
    added : right ≡ right'
    over : rest ≡ rest'
    behind : with_choice σ (facts_vars (l ++ (e ++ r))) p ≡ with_choice σ' (facts_vars (l' ++ (e' ++ r'))) p'

  embed_one : (t : ℕ) (ks : List ℕ) (b : List Binding) (l e r l' e' r' : List Fact) (p p' : Proc) (σ σ' : Choice) (left left' acts acts' right right' : List Fact) (rest rest' : Pile) → Embeds t ks b l e r p σ left acts right rest → Embeds t ks b l' e' r' p' σ' left' acts' right' rest' → Embedded l e r l' e' r' p p' σ σ' acts acts' right right' rest rest'
  embed_one t ks b l e r l' e' r' p p' σ σ' left left' acts acts' right right' rest rest' x y =
      let process = one_thread c t (act (action.embedded l e r) p) (act (action.embedded l' e' r') p') x.runs y.runs in
      let ls : l ≡ l' = cc in
      let mids : e ≡ e' = cc in
      let rs : r ≡ r' = cc in
      let behind : p ≡ p' = cc in
      let taken = takes_one x.takes y.takes in
      let equal_too : AreEqualFacts (equations g) (instance_facts σ' l) left =
      subst (λ z. AreEqualFacts (equations g) (instance_facts σ' z) left) (sym ls) (subst (λ z. AreEqualFacts (equations g) (instance_facts σ' l') z) (sym taken.0) y.equal)
      in
      let agree = embedded_agree t l e r left rest p ks b σ σ' x.runs x.vars x.messages y.messages x.agrees y.agrees x.takes x.equal equal_too in
      let later = agree_right σ σ' (facts_vars l) (facts_vars (e ++ r)) (subst (Agree σ σ') (facts_vars-append l (e ++ r)) agree) in
      let both = subst (Agree σ σ') (facts_vars-append e r) later in
      let es_one : instance_facts σ e ≡ instance_facts σ' e' = facts_agree σ σ' e (agree_left σ σ' (facts_vars e) (facts_vars r) both) ∙ ap (instance_facts σ') mids in
      let rs_one : instance_facts σ r ≡ instance_facts σ' r' = facts_agree σ σ' r (agree_right σ σ' (facts_vars e) (facts_vars r) both) ∙ ap (instance_facts σ') rs in
      record {
        shown = facts_one laws g (instance_facts σ' e') acts acts' (subst (λ z. AreFormsOfFacts (equations g) z acts) es_one x.shown) y.shown;
        added = facts_one laws g (instance_facts σ' r') right right' (subst (λ z. AreFormsOfFacts (equations g) z right) rs_one x.added) y.added;
        over = taken.1;
        behind = choice_agree σ σ' (facts_vars (l ++ (e ++ r))) p agree ∙ (λ i. with_choice σ' (facts_vars (ls i ++ (mids i ++ rs i))) (behind i));
      }

  -- one way, where each part is one
  abbrev one_way : {i j : List InnerAction} {a b : List Fact} {d k : Config} {fs hs : List Tree} → i ≡ j → a ≡ b → d ≡ k → fs ≡ hs → AreOne i j a b d k fs hs
  one_way e f h k = record { inside = e; labels = f; configurations = h; entries = k }

  pub one_outcome : (step : PStep) (d k : Config) (fs hs : List Tree) (i j : List InnerAction) (a b : List Fact) → IsProcessLine g AnySize c es step i a d fs → IsProcessLine g AnySize c es step j b k hs → AreOne i j a b d k fs hs
  one_outcome _ _ _ _ _ _ _ _ _ (IsProcessLine.ends t r) (IsProcessLine.ends t' s) = one_way refl refl refl refl
  one_outcome _ _ _ _ _ _ _ _ _ (IsProcessLine.splits {p = p} {q = q} t r) (IsProcessLine.splits {p = p'} {q = q'} t' s) =
      let is = one_thread c t (whole.parallel p q) (whole.parallel p' q') r s in
      let first : p ≡ p' = cc in
      let second : q ≡ q' = cc in
      one_way refl refl (λ i. spawns (becomes c t (Some (first i))) (second i)) refl
  one_outcome _ _ _ _ _ _ _ _ _ (IsProcessLine.copies {p = p} t r) (IsProcessLine.copies {p = p'} t' s) =
      let is = one_thread c t (whole.replicated p) (whole.replicated p') r s in
      let first : p ≡ p' = cc in
      one_way refl refl (λ i. spawns c (first i)) refl
  one_outcome _ _ _ _ _ _ _ _ _ (IsProcessLine.makes_name {x = x} {p = p} t n r u) (IsProcessLine.makes_name {x = x'} {p = p'} t' n' s v) =
      let is = one_thread c t (act (action.new x) p) (act (action.new x') p') r s in
      let var : x ≡ x' = cc in
      let behind : p ≡ p' = cc in
      one_way refl refl (λ i. makes (becomes c t (Some (with_term (var i) (fresh n) (behind i)))) n) refl
  one_outcome _ _ _ _ _ _ _ _ _ (IsProcessLine.outputs {m = m} {n = n} {p = p} t r f v) (IsProcessLine.outputs {m = m'} {n = n'} {p = p'} t' s h w) =
      let is = one_thread c t (act (action.out m) p) (act (action.out m') p') r s in
      let term : m ≡ m' = cc in
      let behind : p ≡ p' = cc in
      let form = one_form m m' n n' term f h in
      one_way refl refl (λ i. sends_out (becomes c t (Some (behind i))) (form i)) (λ i. es ++ form i ∷ [])
  one_outcome _ _ _ _ _ _ _ _ _ (IsProcessLine.outputs_on {m = m} {n = n} {x = x} {u = u} {p = p} t k r e f h v) (IsProcessLine.outputs_on {m = m'} {n = n'} {x = x'} {u = u'} {p = p'} t' k' r' e' f' h' v') =
      let is = one_thread c t (act (action.send m n) p) (act (action.send m' n') p') r r' in
      let term : n ≡ n' = cc in
      let behind : p ≡ p' = cc in
      let entry = one_entry es k x x' e e' in
      let form = one_form n n' u u' term h h' in
      one_way refl (λ i. k_fact (entry i) ∷ []) (λ i. sends_out (becomes c t (Some (behind i))) (form i)) (λ i. es ++ form i ∷ [])
  one_outcome _ _ _ _ _ _ _ _ _ (IsProcessLine.inputs {n = n} {x = x} {p = p} t k σ r e f) (IsProcessLine.inputs {n = n'} {x = x'} {p = p'} t' k' σ' r' e' f') =
      let entry = one_entry es k x x' e e' in
      let behind = input_one t k σ σ' n n' x x' p p' r r' e e' f f' in
      one_way refl (λ i. k_fact (entry i) ∷ []) (λ i. becomes c t (Some (behind i))) refl
  one_outcome _ _ _ _ _ _ _ _ _ (IsProcessLine.inputs {n = n} {p = p} t k σ r e f) (IsProcessLine.inputs_on {m = m'} {n = n'} {p = p'} t' k' σ' r' e' f' h' v') =
      let is = one_thread c t (act (action.input n) p) (act (action.receive m' n') p') r r' in absurd (cc)
  one_outcome _ _ _ _ _ _ _ _ _ (IsProcessLine.inputs_on {m = m} {n = n} {p = p} t k σ r e f h v) (IsProcessLine.inputs {n = n'} {p = p'} t' k' σ' r' e' f') =
      let is = one_thread c t (act (action.receive m n) p) (act (action.input n') p') r r' in absurd (cc)
  one_outcome _ _ _ _ _ _ _ _ _ (IsProcessLine.inputs_on {m = m} {n = n} {x = x} {p = p} t k σ r e f h v) (IsProcessLine.inputs_on {m = m'} {n = n'} {x = x'} {p = p'} t' k' σ' r' e' f' h' v') =
      let entry = one_entry es k x x' e e' in
      let behind = receive_one t k σ σ' m n m' n' x x' p p' r r' e e' f f' h h' in
      one_way refl (λ i. k_fact (entry i) ∷ []) (λ i. becomes c t (Some (behind i))) refl
  one_outcome _ _ _ _ _ _ _ _ _ (IsProcessLine.meets {m = m} {n = n} {l = l} {r = u} {p = p} {q = q} s t σ r e f h v) (IsProcessLine.meets {m = m'} {n = n'} {l = l'} {r = u'} {p = p'} {q = q'} s' t' σ' r' e' f' h' v') =
      let sender = one_thread c s (act (action.send m n) p) (act (action.send m' n') p') r r' in
      let sent : n ≡ n' = cc in
      let first : p ≡ p' = cc in
      let second = meet_one t σ σ' l u l' u' n n' q q' e e' sent h h' in
      one_way refl refl (λ i. becomes (becomes c s (Some (first i))) t (Some (second i))) refl
  one_outcome _ _ _ _ _ _ _ _ _ (IsProcessLine.agrees {m = m} {n = n} {x = x} {y = y} {p = p} {q = q} t r f h e v) (IsProcessLine.agrees {m = m'} {n = n'} {x = x'} {y = y'} {p = p'} {q = q'} t' r' f' h' e' v') =
      let is = one_thread c t (whole.test m n p q) (whole.test m' n' p' q') r r' in
      let left : m ≡ m' = cc in
      let right : n ≡ n' = cc in
      let behind : p ≡ p' = cc in
      let first = one_form m m' x x' left f f' in
      let second = one_form n n' y y' right h h' in
      one_way (λ i. equal (first i) (second i) ∷ []) refl (λ i. becomes c t (Some (behind i))) refl
  one_outcome _ _ _ _ _ _ _ _ _ (IsProcessLine.differs {m = m} {n = n} {x = x} {y = y} {p = p} {q = q} t r f h e v) (IsProcessLine.differs {m = m'} {n = n'} {x = x'} {y = y'} {p = p'} {q = q'} t' r' f' h' e' v') =
      let is = one_thread c t (whole.test m n p q) (whole.test m' n' p' q') r r' in
      let left : m ≡ m' = cc in
      let right : n ≡ n' = cc in
      let behind : q ≡ q' = cc in
      let first = one_form m m' x x' left f f' in
      let second = one_form n n' y y' right h h' in
      one_way (λ i. different (first i) (second i) ∷ []) refl (λ i. becomes c t (Some (behind i))) refl
  one_outcome _ _ _ _ _ _ _ _ _ (IsProcessLine.shows {f = f} {h = h} {p = p} t r a v) (IsProcessLine.shows {f = f'} {h = h'} {p = p'} t' r' a' v') =
      let is = one_thread c t (act (action.event f) p) (act (action.event f') p') r r' in
      let fact : f ≡ f' = cc in
      let behind : p ≡ p' = cc in
      let form = fact_one laws g f' h h' (subst (λ z. IsFormOfFact (equations g) z h) fact a) a' in
      one_way refl (λ i. form i ∷ []) (λ i. becomes c t (Some (behind i))) refl
  one_outcome _ _ _ _ _ _ _ _ _ (IsProcessLine.inserts {m = m} {n = n} {k = k} {v = x} {p = p} t r f h v) (IsProcessLine.inserts {m = m'} {n = n'} {k = k'} {v = x'} {p = p'} t' r' f' h' v') =
      let is = one_thread c t (act (action.insert m n) p) (act (action.insert m' n') p') r r' in
      let left : m ≡ m' = cc in
      let right : n ≡ n' = cc in
      let behind : p ≡ p' = cc in
      let key = one_form m m' k k' left f f' in
      let value = one_form n n' x x' right h h' in
      one_way (λ i. inserted (key i) (value i) ∷ []) refl (λ i. stores (becomes c t (Some (behind i))) (key i) (Some (value i))) refl
  one_outcome _ _ _ _ _ _ _ _ _ (IsProcessLine.deletes {m = m} {k = k} {p = p} t r f v) (IsProcessLine.deletes {m = m'} {k = k'} {p = p'} t' r' f' v') =
      let is = one_thread c t (act (action.delete m) p) (act (action.delete m') p') r r' in
      let term : m ≡ m' = cc in
      let behind : p ≡ p' = cc in
      let key = one_form m m' k k' term f f' in
      one_way (λ i. deleted (key i) ∷ []) refl (λ i. stores (becomes c t (Some (behind i))) (key i) None) refl
  one_outcome _ _ _ _ _ _ _ _ _ (IsProcessLine.finds {m = m} {k = k} {v = x} {x = y} {p = p} {q = q} t r f e v) (IsProcessLine.finds {m = m'} {k = k'} {v = x'} {x = y'} {p = p'} {q = q'} t' r' f' e' v') =
      let is = one_thread c t (whole.lookup m y p q) (whole.lookup m' y' p' q') r r' in
      let term : m ≡ m' = cc in
      let var : y ≡ y' = cc in
      let behind : p ≡ p' = cc in
      let key = one_form m m' k k' term f f' in
      let there : c.store k' ≡ Some x = subst (λ z. c.store z ≡ Some x) key e in
      let value : x ≡ x' = cc (there, e') in
      one_way (λ i. found (key i) (value i) ∷ []) refl (λ i. becomes c t (Some (with_term (var i) (value i) (behind i)))) refl
  one_outcome _ _ _ _ _ _ _ _ _ (IsProcessLine.misses {m = m} {k = k} {x = y} {p = p} {q = q} t r f e v) (IsProcessLine.misses {m = m'} {k = k'} {x = y'} {p = p'} {q = q'} t' r' f' e' v') =
      let is = one_thread c t (whole.lookup m y p q) (whole.lookup m' y' p' q') r r' in
      let term : m ≡ m' = cc in
      let behind : q ≡ q' = cc in
      let key = one_form m m' k k' term f f' in
      one_way (λ i. missing (key i) ∷ []) refl (λ i. becomes c t (Some (behind i))) refl
  one_outcome _ _ _ _ _ _ _ _ _ (IsProcessLine.locks {m = m} {k = k} {i = n} {p = p} t r f e v) (IsProcessLine.locks {m = m'} {k = k'} {i = n'} {p = p'} t' r' f' e' v') =
      let is = one_thread c t (act (action.lock m n) p) (act (action.lock m' n') p') r r' in
      let term : m ≡ m' = cc in
      let behind : p ≡ p' = cc in
      let key = one_form m m' k k' term f f' in
      one_way (λ i. locked (key i) ∷ []) refl (λ i. holding (becomes c t (Some (behind i))) (key i) true) refl
  one_outcome _ _ _ _ _ _ _ _ _ (IsProcessLine.unlocks {m = m} {k = k} {i = n} {p = p} t r f v) (IsProcessLine.unlocks {m = m'} {k = k'} {i = n'} {p = p'} t' r' f' v') =
      let is = one_thread c t (act (action.unlock m n) p) (act (action.unlock m' n') p') r r' in
      let term : m ≡ m' = cc in
      let behind : p ≡ p' = cc in
      let key = one_form m m' k k' term f f' in
      one_way (λ i. unlocked (key i) ∷ []) refl (λ i. holding (becomes c t (Some (behind i))) (key i) false) refl
  one_outcome _ _ _ _ _ _ _ _ _ (IsProcessLine.embeds {l = l} {e = e} {r = r} {rest = rest} {p = p} t ks b σ left acts right runs m q a i j k h v) (IsProcessLine.embeds {l = l'} {e = e'} {r = r'} {rest = rest'} {p = p'} t' ks' b' σ' left' acts' right' runs' m' q' a' i' j' k' h' v') =
      let one = embed_one t ks b l e r l' e' r' p p' σ σ' left left' acts acts' right right' rest rest'
      (record { runs = runs; messages = m; vars = q; agrees = a; equal = i; takes = j; shown = k; added = h })
      (record { runs = runs'; messages = m'; vars = q'; agrees = a'; equal = i'; takes = j'; shown = k'; added = h' })
      in
      one_way refl one.shown (λ i. leaves (becomes c t (Some (one.behind i))) (adds (one.over i) (one.added i))) refl
  one_outcome _ _ _ _ _ _ _ _ _ (IsProcessLine.names n u) (IsProcessLine.names n' u') = one_way refl refl refl refl
  one_outcome _ _ _ _ _ _ _ _ _ (IsProcessLine.writes a) (IsProcessLine.writes a') = one_way refl refl refl refl
  one_outcome _ _ _ _ _ _ _ _ _ (IsProcessLine.applies f ks ts x p a h n v) (IsProcessLine.applies f' ks' ts' x' p' a' h' n' v') =
      let terms : ts ≡ ts' = same_terms ts ts' (sym h ∙ h') in
      let form = one_form (apply f (trees_of ts)) (apply f (trees_of ts')) x x' (λ i. apply f (trees_of (terms i))) n n' in
      one_way refl refl refl (λ i. es ++ form i ∷ [])
  one_outcome _ _ _ _ _ _ _ _ _ (IsProcessLine.knows k x h) (IsProcessLine.knows k' x' h') =
      let entry = one_entry es k x x' h h' in
      one_way refl (λ i. k_fact (entry i) ∷ []) refl refl

pub line_outcomes : Laws → ProcessLinesHaveOneOutcome
line_outcomes laws g c d d_too es fs fs_too step inner inner_too label label_too exact first second = one_outcome laws g c es exact step d d_too fs fs_too inner inner_too label label_too first second
