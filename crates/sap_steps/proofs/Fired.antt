-- What the bindings found and the forms made say of the rule's use.
use Rattle.std.proofs.Common.{◌≡◌, Bool, true, false, List, [], ◌∷◌, ◌++◌, map, ◌⊎◌, inl, inr, refl, sym, ap, subst, ◌∙◌, append_assoc}
use Rattle.std.specs.Prelude.{All, Contains, Result, Ok, Err, IfOk, IfErr}
use Rattle.std.proofs.lemmas.List.Elements.{All-append, Contains-append_left, Contains-append_right}
use Rattle.sap_terms.specs.Choice.{Choice, fits_sort, instance}
use Rattle.sap_terms.specs.Message.{IsMessage, IsMessageChoice}
use Rattle.sap_terms.specs.Modulo.{instance_facts, AreFormsOfFacts}
use Rattle.sap_terms.specs.Signature.{Sig, HoldsBuiltins}
use Rattle.sap_terms.specs.Subst.{bound_to}
use Rattle.sap_terms.specs.Equations.{equations}
use Rattle.sap_terms.specs.Tree.{trees_of}
use Rattle.sap_terms.specs.Variables.{facts_vars, trees_vars}
use Rattle.sap_terms.specs.View.{tree}
use Rattle.sap_terms.specs.declared.binding.Binding.{Binding}
use Rattle.sap_terms.specs.declared.fact.Fact.{Fact}
use Rattle.sap_terms.specs.declared.var.Var.{Var}
use Rattle.sap_rewrite.specs.Bound.{AreNamedOnce}
use Rattle.sap_rewrite.specs.Match.{Agrees, HaveOneSort, bound_vars, names}
use Rattle.sap_rule.specs.Variables.{facts_outer_vars, rule_vars}
use Rattle.sap_rule.specs.WellMade.{IsWellMade}
use Rattle.sap_rule.specs.declared.rule.Rule.{Rule}
use Rattle.sap_steps.specs.Faults.{AreRight, IsFitting, IsRuleRefusal}
use Rattle.sap_sides.specs.Fitting.{IsOnlyChoice, HasNoChoice, FactsFit}
use Rattle.sap_sides.specs.Forms.{SomeLarge, args_of, HaveArgs}
use Rattle.sap_sides.specs.Messages.{IsGroundFact}
use Rattle.sap_steps.specs.code.Firing.{IsLeftSame, Evaluates, EvaluatesOtherwise, IsEvaluationFault, limited_fault}
use Rattle.sap_sides.specs.Messages.{IsSmallMessageFact}
use Rattle.sap_steps.specs.Lines.{Fires, HasFewNodes, rule_terms}
use Rattle.sap_steps.specs.declared.fault.RFault.{RFault}
use Rattle.sap_steps.specs.declared.fault.RFault.TheVariants.{Mem, NoRule, FactCount, FactMissing, BadBinding, NoMatch, TermLarge, Unequal, UsedName, WrongFact, NoEntry, NotPublic, Arity}
use Rattle.sap_rewrite.specs.declared.cut.Cut.{Cut}
use Rattle.sap_rewrite.specs.declared.cut.Cut.TheVariants.{Large}
use Rattle.sap_sides.specs.Messages.{HasNoDestructor}
use Rattle.sap_steps.proofs.Evaluated.{fault_large, in_left, in_acts, in_right, none_large}
use Rattle.sap_steps.proofs.Found.{agrees_extended}
use Rattle.sap_steps.specs.code.Firing.{Laws}
use Rattle.sap_steps.proofs.Uses.{each_item, agrees_at, sorted_at, var_at, facts_message, facts_same, terms_instance, facts_ground, facts_equal, facts_hold, facts_held, large_evaluated, evaluated_small}
use Rattle.sap_steps.proofs.Vars.{new_among, one_sort, covered}

pub if_ok : {T E : Type 0} (P Q : T → Type 0) (r : Result T E) → ((x : T) → P x → Q x) → IfOk r P → IfOk r Q
if_ok P Q (Ok x) f h = f x h
if_ok P Q (Err e) f h = tt

pub if_err : {T E : Type 0} (P Q : E → Type 0) (r : Result T E) → ((e : E) → P e → Q e) → IfErr r P → IfErr r Q
if_err P Q (Ok x) f h = tt
if_err P Q (Err e) f h = f e h

pub facts_vars_append : (fs hs : List Fact) → facts_vars (fs ++ hs) ≡ facts_vars fs ++ facts_vars hs
facts_vars_append [] hs = refl
facts_vars_append (f ∷ fs) hs =
    ap (λ vs. trees_vars (trees_of f.args) ++ vs) (facts_vars_append fs hs) ∙ sym (append_assoc (trees_vars (trees_of f.args)) (facts_vars fs) (facts_vars hs))

have_own : (hs : List Fact) → HaveArgs hs hs
have_own [] = tt
have_own (x ∷ xs) = (refl, have_own xs)

-- a left side without destructors, which fits messages within the limit, has their arguments
plain_left : Laws → (g : Sig) (σ : Choice) (fs hs : List Fact) → All (HasNoDestructor g) fs → FactsFit g fs hs σ → All (IsSmallMessageFact g) hs → IsLeftSame g σ fs hs true
plain_left laws g σ fs hs n f h =
    let is = laws.plain g σ fs hs n f in
    let own = laws.own g hs h in
    record {
      left = hs;
      forms = subst (λ (xs : List Fact). AreFormsOfFacts (equations g) xs hs) (sym is) own.0;
      same = (λ _. have_own hs, λ _. refl);
      small = λ s. own.1 (subst (SomeLarge g) (terms_instance σ fs ∙ ap args_of is) s);
    }

abbrev IsGood : Sig → Binding → Type 0
IsGood g e = IsMessage g e.var.sort (tree e.term)

-- no choice fits, so none matches
pub no_match : (g : Sig) (r : Rule) (b : List Binding) (cited : List Fact) → IsWellMade g r → AreRight g r b → HasNoChoice (FactsFit g r.left cited) (facts_outer_vars g r.left) b → IsRuleRefusal g r b cited NoMatch
no_match g r b cited well good h = record { right = good; none = λ σ s a f. h (one_sort g r b well.shape.sorts good.vars) σ s a f }

module _ (laws : Laws) (g : Sig) (r : Rule) (b c : List Binding) (cited : List Fact) (well : IsWellMade g r) (good : AreRight g r b) (found : IsOnlyChoice (FactsFit g r.left cited) (facts_outer_vars g r.left) b c) (held : All (IsSmallMessageFact g) cited) where
  one : HaveOneSort (bound_vars b ++ facts_outer_vars g r.left)
  one = one_sort g r b well.shape.sorts good.vars

  named_once : AreNamedOnce (bound_vars c)
  named_once = laws.once.extended b c (facts_outer_vars g r.left) found.extends (subst AreNamedOnce (sym good.vars) (laws.once.first_occurrences (map (λ (v : Var). v.name) (facts_outer_vars g r.left)) (rule_vars r)))

  agrees_itself : Agrees c (bound_to c)
  agrees_itself = laws.once.agree c named_once

  -- what was found are messages
  pub messages : All (IsGood g) c
  messages =
      let added = found.extends.added in
      subst (All (IsGood g)) (sym found.extends.is) (All-append (IsGood g) b added good.terms (each_item (IsGood g) added (λ e m.
      let bound = subst (λ xs. Contains xs e) (sym found.extends.is) (Contains-append_right b added e m) in
      let is = agrees_at c (bound_to c) e agrees_itself bound in
      let outer = new_among (names b) (facts_outer_vars g r.left) e.var (subst (λ vs. Contains vs e.var) found.extends.on (var_at added e m)) in
      let sorted = ap (fits_sort e.var.sort) is ∙ sorted_at added e found.extends.sorted m in
      subst (IsMessage g e.var.sort) is (facts_message laws.messages g (bound_to c) r.left cited (found.is one (bound_to c) agrees_itself) held e.var outer sorted))))

  fits_itself : FactsFit g r.left cited (bound_to c)
  fits_itself = found.is one (bound_to c) agrees_itself

  chosen : (σ : Choice) × IsMessageChoice g σ × Agrees c σ
  chosen = laws.choices g c named_once messages

  fit : FactsFit g r.left cited chosen.0
  fit = found.is one chosen.0 chosen.2

  fitting : IsFitting g r b cited chosen.0
  fitting = record { messages = chosen.1; agrees = agrees_extended b c (facts_outer_vars g r.left) chosen.0 found.extends chosen.2; facts = fit }

  same_facts : (fs : List Fact) → ((v : Var) → Contains (facts_vars fs) v → Contains (rule_vars r) v) → instance_facts (bound_to c) fs ≡ instance_facts chosen.0 fs
  same_facts fs h = facts_same (bound_to c) chosen.0 fs (λ t k.
      laws.substitutes b c (facts_outer_vars g r.left) found.extends one chosen.0 chosen.2 t (λ v m. covered g r b well.shape.sorts good.vars v (h v (k v m))))

  same_left : instance_facts (bound_to c) r.left ≡ instance_facts chosen.0 r.left
  same_left = same_facts r.left (λ v m. Contains-append_left (facts_vars r.left) (facts_vars r.acts ++ facts_vars r.right) v m)

  same_acts : instance_facts (bound_to c) r.acts ≡ instance_facts chosen.0 r.acts
  same_acts = same_facts r.acts (λ v m. Contains-append_right (facts_vars r.left) (facts_vars r.acts ++ facts_vars r.right) v (Contains-append_left (facts_vars r.acts) (facts_vars r.right) v m))

  same_right : instance_facts (bound_to c) r.right ≡ instance_facts chosen.0 r.right
  same_right = same_facts r.right (λ v m. Contains-append_right (facts_vars r.left) (facts_vars r.acts ++ facts_vars r.right) v (Contains-append_right (facts_vars r.acts) (facts_vars r.right) v m))

  same_terms : map (instance (bound_to c)) (rule_terms r) ≡ map (instance chosen.0) (rule_terms r)
  same_terms =
      let fs = r.left ++ (r.acts ++ r.right) in
      let vars : facts_vars fs ≡ rule_vars r = facts_vars_append r.left (r.acts ++ r.right) ∙ ap (λ vs. facts_vars r.left ++ vs) (facts_vars_append r.acts r.right) in
      terms_instance (bound_to c) fs ∙ ap args_of (same_facts fs (λ v m. subst (λ vs. Contains vs v) vars m)) ∙ sym (terms_instance chosen.0 fs)

  -- the sides are ground under what was found
  pub ground_acts : All IsGroundFact (instance_facts (bound_to c) r.acts)
  ground_acts = subst (All IsGroundFact) (sym same_acts) (facts_ground g chosen.0 r.acts chosen.1 well.over.acts)

  pub ground_right : All IsGroundFact (instance_facts (bound_to c) r.right)
  ground_right = subst (All IsGroundFact) (sym same_right) (facts_ground g chosen.0 r.right chosen.1 well.over.right)

  small : (SomeLarge g (map (instance (bound_to c)) (rule_terms r)) → ⊥) → SomeLarge g (map (instance chosen.0) (rule_terms r)) → ⊥
  small h s = h (subst (SomeLarge g) (sym same_terms) s)

  pub fires : (acts right : List Fact) → Evaluates g (bound_to c) r cited acts right → Fires g HasFewNodes r b cited acts right
  fires acts right e = record {
    choice = chosen.0;
    binds = record { vars = good.vars; agrees = fitting.agrees };
    use_ = record {
      messages = chosen.1;
      takes = facts_equal g chosen.0 r.left e.left cited (subst (λ xs. AreFormsOfFacts (equations g) xs e.left) same_left e.left_forms) e.same fit;
      shows = subst (λ xs. AreFormsOfFacts (equations g) xs acts) same_acts e.acts_forms;
      adds = subst (λ xs. AreFormsOfFacts (equations g) xs right) same_right e.right_forms;
    };
    within = evaluated_small g r chosen.0 (small e.small);
  }

  pub right_held : HoldsBuiltins g → (acts right : List Fact) → Evaluates g (bound_to c) r cited acts right → All (IsSmallMessageFact g) right
  right_held k acts right e =
      facts_held laws g chosen.0 r.right right k chosen.1 well.over.right (λ s. small e.small (in_right laws.parts g chosen.0 r s)) (subst (λ xs. AreFormsOfFacts (equations g) xs right) same_right e.right_forms)

  -- what holds under a signature and a choice that are these
  move : (P : Sig → Choice → Type 0) (h : Sig) (τ : Choice) → h ≡ g → τ ≡ bound_to c → P h τ → P g (bound_to c)
  move P h τ is eq x = subst (λ (σ : Choice). P g σ) eq (subst (λ (k : Sig). P k τ) is x)

  some_moved : (fs : List Fact) (h : Sig) (τ : Choice) → h ≡ g → τ ≡ bound_to c → SomeLarge h (map (instance τ) (args_of fs)) → SomeLarge g (map (instance (bound_to c)) (args_of fs))
  some_moved fs h τ is eq l = move (λ (k : Sig) (σ : Choice). SomeLarge k (map (instance σ) (args_of fs))) h τ is eq l

  none_moved : (fs : List Fact) (h : Sig) (τ : Choice) → h ≡ g → τ ≡ bound_to c → (SomeLarge h (map (instance τ) (args_of fs)) → ⊥) → SomeLarge g (map (instance (bound_to c)) (args_of fs)) → ⊥
  none_moved fs h τ is eq l = move (λ (k : Sig) (σ : Choice). SomeLarge k (map (instance σ) (args_of fs)) → ⊥) h τ is eq l

  -- a left side without destructors has the arguments of the cited facts
  pub plain : All (HasNoDestructor g) r.left → IsLeftSame g (bound_to c) r.left cited true
  plain n = plain_left laws g (bound_to c) r.left cited n fits_itself held

  -- a rule is evaluated where its left side has these arguments and its other sides are evaluated
  pub evaluates_bound : (same : Bool) → same ≡ true → IsLeftSame g (bound_to c) r.left cited same → (h : Sig) (τ : Choice) → h ≡ g → τ ≡ bound_to c → (acts right : List Fact) → AreFormsOfFacts (equations h) (instance_facts τ r.acts) acts → AreFormsOfFacts (equations h) (instance_facts τ r.right) right
      → (SomeLarge h (map (instance τ) (args_of r.acts)) → ⊥) → (SomeLarge h (map (instance τ) (args_of r.right)) → ⊥) → Evaluates g (bound_to c) r cited acts right
  evaluates_bound same holds left h τ is eq acts right a z wa wz = record {
    left = left.left;
    left_forms = left.forms;
    same = left.same.0 holds;
    acts_forms = move (λ (k : Sig) (σ : Choice). AreFormsOfFacts (equations k) (instance_facts σ r.acts) acts) h τ is eq a;
    right_forms = move (λ (k : Sig) (σ : Choice). AreFormsOfFacts (equations k) (instance_facts σ r.right) right) h τ is eq z;
    small = none_large laws.parts g (bound_to c) r left.small (none_moved r.acts h τ is eq wa) (none_moved r.right h τ is eq wz);
  }

  -- it is otherwise where its left side has others
  pub otherwise_bound : (same : Bool) → same ≡ false → IsLeftSame g (bound_to c) r.left cited same → (h : Sig) (τ : Choice) → h ≡ g → τ ≡ bound_to c → (SomeLarge h (map (instance τ) (args_of r.acts)) → ⊥) → (SomeLarge h (map (instance τ) (args_of r.right)) → ⊥) → EvaluatesOtherwise g (bound_to c) r cited
  otherwise_bound same fails left h τ is eq wa wz = record {
    left = left.left;
    left_forms = left.forms;
    other = λ o. let so = left.same.1 o in cc (so, fails);
    small = none_large laws.parts g (bound_to c) r left.small (none_moved r.acts h τ is eq wa) (none_moved r.right h τ is eq wz);
  }

  -- it is refused where the left side is too large
  pub cut_left : (k : Cut) → (k ≡ Large → SomeLarge g (map (instance (bound_to c)) (args_of r.left))) → IsEvaluationFault g (bound_to c) r cited (limited_fault k)
  cut_left k l = fault_large g (bound_to c) r cited k (λ e. in_left laws.parts g (bound_to c) r (l e))

  -- so it is where one of the other sides is
  pub cut_bound : (h : Sig) (τ : Choice) → h ≡ g → τ ≡ bound_to c → (k : Cut) → (k ≡ Large → SomeLarge h (map (instance τ) (args_of r.acts)) ⊎ SomeLarge h (map (instance τ) (args_of r.right))) → IsEvaluationFault g (bound_to c) r cited (limited_fault k)
  cut_bound h τ is eq k l = fault_large g (bound_to c) r cited k (λ e. elim (l e) as (λ _. SomeLarge g (map (instance (bound_to c)) (rule_terms r))) [
    | inl x ↦ in_acts laws.parts g (bound_to c) r (some_moved r.acts h τ is eq x)
    | inr y ↦ in_right laws.parts g (bound_to c) r (some_moved r.right h τ is eq y)
  ])

  pub refused : (k : RFault) → IsEvaluationFault g (bound_to c) r cited k → IsRuleRefusal g r b cited k
  refused Mem h = tt
  refused TermLarge h =
      let found = large_evaluated g r chosen.0 (subst (SomeLarge g) same_terms h) in
      record {
        right = good;
        choice = chosen.0;
        fitting = fitting;
        form = found.0;
        evaluated = found.1;
        large = found.2;
      }
  refused Unequal h = record {
    right = good;
    choice = chosen.0;
    fitting = fitting;
    small = evaluated_small g r chosen.0 (small h.small);
    other = λ q. h.other (facts_hold laws g chosen.0 r.left h.left cited chosen.1 held (subst (λ xs. AreFormsOfFacts (equations g) xs h.left) same_left h.left_forms) fit q);
  }
  refused NoRule h = absurd h
  refused FactCount h = absurd h
  refused (FactMissing p) h = absurd h
  refused BadBinding h = absurd h
  refused NoMatch h = absurd h
  refused (UsedName n) h = absurd h
  refused (WrongFact n) h = absurd h
  refused (NoEntry n) h = absurd h
  refused (NotPublic n) h = absurd h
  refused (Arity n) h = absurd h
