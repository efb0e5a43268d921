-- Each use of a short rule is one of the rule and then of silent rules, all under one choice.
use Rattle.std.proofs.Common.{◌≡◌, List, [], ◌∷◌, ◌++◌, false, refl, sym, ap, subst, ◌∙◌, arith}
use Rattle.std.specs.Prelude.{Contains}
use Rattle.std.specs.List.{AllZip}
use Rattle.sap_terms.specs.Signature.{Sig}
use Rattle.sap_terms.specs.Equations.{equations, Equations}
use Rattle.sap_terms.specs.Normal.{IsNormalForm}
use Rattle.sap_terms.specs.Tree.{Tree}
use Rattle.sap_terms.specs.Choice.{Choice}
use Rattle.sap_terms.specs.declared.fact.Fact.{Fact}
use Rattle.sap_rule.specs.declared.rule.Rule.{Rule}
use Rattle.sap_terms.specs.Message.{IsMessageChoice}
use Rattle.sap_terms.specs.Modulo.{instance_fact, instance_facts, IsEqualFact, IsFormOfFact, AreFormsOfFacts, AreEqualFacts}
use Rattle.sap_rule.specs.RuleSteps.{IsUse}
use Rattle.sap_gen.specs.Carried.{count, AreAlike, SettleTo, done, step}
use Rattle.sap_rewrite.specs.Laws.{EachHasForm}
use Rattle.sap_gen.specs.Moves.{IsMove}
use Rattle.sap_gen.specs.Settled.{IsSettled, nothing_left, stays, goes_on}
use Rattle.sap_translate.proofs.Shared.Totals.{total-append}

-- each fact has a form
pub forms : EachHasForm → (e : Equations) (ts : List Tree) → (ns : List Tree) × AllZip (IsNormalForm e) ts ns
forms has e [] = ([], tt)
forms has e (t ∷ ts) = let n = has e t in let ns = forms has e ts in (n.0 ∷ ns.0, (n.1, ns.1))

pub form_of : EachHasForm → (e : Equations) (f : Fact) → (h : Fact) × IsFormOfFact e f h
form_of has e f =
    let ns = forms has e f.args in
    (record { name = f.name; persistent = f.persistent; args = ns.0 }, record { name = refl; persistent = refl; args = ns.1 })

equal_args : (e : Equations) (ts ns : List Tree) → AllZip (IsNormalForm e) ts ns → AllZip (Rattle.sap_terms.specs.Equal.IsTheoryEqual e) ts ns
equal_args e [] [] h = tt
equal_args e [] (n ∷ ns) h = absurd h
equal_args e (t ∷ ts) [] h = absurd h
equal_args e (t ∷ ts) (n ∷ ns) h = (h.0.equal, equal_args e ts ns h.1)

equal_from_form : (e : Equations) (f h : Fact) → IsFormOfFact e f h → IsEqualFact e f h
equal_from_form e f h a = record { name = a.name; persistent = a.persistent; args = equal_args e f.args h.args a.args }

module _ (has : EachHasForm) (g : Sig) (Q : Rule → Type 0) (rules : List Rule) (moves : (q : Rule) → Q q → IsMove q) (among : (q : Rule) → Q q → Contains rules q) where
  -- other facts beside change nothing
  alike_first : (fs hs es : List Fact) → AreAlike fs hs → SettleTo g rules hs es → SettleTo g rules fs es
  alike_first fs hs es a (done b) = done (λ test. let x = a test in let y = b test in omega arith)
  alike_first fs hs es a (step rest q τ f more c u l b d) = step rest q τ f more c u l (λ test. let x = a test in let y = b test in omega arith) d

  beside : (a : Fact) (fs hs : List Fact) → SettleTo g rules fs hs → SettleTo g rules (a ∷ fs) (a ∷ hs)
  beside a fs hs (done b) = done (λ test. let x = b test in omega arith)
  beside a fs hs (step rest q τ f more c u l b d) =
      step (a ∷ rest) q τ f more c u l (λ test. let x = b test in omega arith)
      (alike_first (more ++ a ∷ rest) (a ∷ (more ++ rest)) (a ∷ hs)
      (λ test. let x = total-append (count test) more (a ∷ rest) in let y = total-append (count test) more rest in omega arith)
      (beside a (more ++ rest) hs d))

  -- forms of two lists side by side
  pub record Cut (e : Equations) (xs ys : List Fact) (hs : List Fact) : Type 0 where
    pub first : List Fact
    pub rest : List Fact
    pub is : hs ≡ first ++ rest
    pub first_forms : AreFormsOfFacts e xs first
    pub rest_forms : AreFormsOfFacts e ys rest

  pub cut : (e : Equations) (σ : Choice) (xs ys hs : List Fact) → AreFormsOfFacts e (instance_facts σ (xs ++ ys)) hs → Cut e (instance_facts σ xs) (instance_facts σ ys) hs
  cut e σ [] ys hs h = record { first = []; rest = hs; is = refl; first_forms = tt; rest_forms = h }
  cut e σ (x ∷ xs) ys [] h = absurd h
  cut e σ (x ∷ xs) ys (k ∷ hs) h =
      let c = cut e σ xs ys hs h.1 in
      record { first = k ∷ c.first; rest = c.rest; is = ap (λ zs. k ∷ zs) c.is; first_forms = (h.0, c.first_forms); rest_forms = c.rest_forms }

  -- what was settled under a choice comes of what was not
  record Before (σ : Choice) (fs added : List Fact) : Type 0 where
    right : List Fact
    right_forms : AreFormsOfFacts (equations g) (instance_facts σ fs) right
    settle : SettleTo g rules right added

  unsettled : (σ : Choice) → IsMessageChoice g σ → (fs hs added : List Fact) → IsSettled Q fs hs → AreFormsOfFacts (equations g) (instance_facts σ hs) added → Before σ fs added
  unsettled σ m _ _ added nothing_left a = empty added a where
    empty : (added : List Fact) → AreFormsOfFacts (equations g) [] added → Before σ [] added
    empty [] a = record { right = []; right_forms = tt; settle = done (λ test. refl) }
    empty (h ∷ hs) a = absurd a
  unsettled σ m _ _ added (stays {fs} {hs} f unasked s) a = more_of (λ rest b. unsettled σ m fs hs rest s b) added a where
    more_of : ((rest : List Fact) → AreFormsOfFacts (equations g) (instance_facts σ hs) rest → Before σ fs rest) → (added : List Fact) → AreFormsOfFacts (equations g) (instance_facts σ (f ∷ hs)) added → Before σ (f ∷ fs) added
    more_of next [] a = absurd a
    more_of next (h ∷ rest) a =
        let b = next rest a.1 in
        record { right = h ∷ b.right; right_forms = (a.0, b.right_forms); settle = beside h b.right rest b.settle }
  unsettled σ m _ _ added (goes_on {fs} {hs} f q y e s) a =
      let b = unsettled σ m (q.right ++ fs) hs added s a in
      let c = cut (equations g) σ q.right fs b.right b.right_forms in
      let h = form_of has (equations g) (instance_fact σ f) in
      let v = moves q y in
      let left_is : (h.0 ∷ []) ≡ (h.0 ∷ []) = refl in
      let takes : AreEqualFacts (equations g) (instance_facts σ q.left) (h.0 ∷ []) =
      subst (λ fs. AreEqualFacts (equations g) (instance_facts σ fs) (h.0 ∷ [])) (sym e) (equal_from_form (equations g) (instance_fact σ f) h.0 h.1, tt) in
      let shows : AreFormsOfFacts (equations g) (instance_facts σ q.acts) [] = subst (λ fs. AreFormsOfFacts (equations g) (instance_facts σ fs) []) (sym v.acts) tt in
      let use_is : IsUse g q σ (h.0 ∷ []) [] c.first = record { messages = m; takes = takes; shows = shows; adds = c.first_forms } in
      let same_state : f ≡ v.state = (let k : (f ∷ []) ≡ (v.state ∷ []) = sym e ∙ v.left in cc) in
      let linear : h.0.persistent ≡ false = h.1.persistent ∙ ap (λ (z : Fact). z.persistent) same_state ∙ v.linear in
      record {
        right = h.0 ∷ c.rest;
        right_forms = (h.1, c.rest_forms);
        settle = step c.rest q σ h.0 c.first (among q y) use_is linear (λ test. refl) (subst (λ zs. SettleTo g rules zs added) c.is b.settle);
      }

  -- a use of a rule with its right side settled is one of the rule, and what this adds settles to what that adds
  pub use_expands : (r s : Rule) → s.left ≡ r.left → s.acts ≡ r.acts → IsSettled Q r.right s.right → (σ : Choice) (left acts added : List Fact) → IsUse g s σ left acts added
      → (right : List Fact) × IsUse g r σ left acts right × SettleTo g rules right added
  use_expands r s l a settled σ left acts added u =
      let b = unsettled σ u.messages r.right s.right added settled u.adds in (
        b.right,
        record {
          messages = u.messages;
          takes = subst (λ fs. AreEqualFacts (equations g) (instance_facts σ fs) left) l u.takes;
          shows = subst (λ fs. AreFormsOfFacts (equations g) (instance_facts σ fs) acts) a u.shows;
          adds = b.right_forms;
        },
        b.settle,
      )
