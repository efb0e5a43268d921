-- What a thread's rule stands for under what it has found.
use Rattle.std.proofs.Common.{◌≡◌, ◌<◌, ◌≤◌, ℕ, zero, suc, List, [], ◌∷◌, ◌++◌, length, map, refl, sym, ap, subst, ◌∙◌, ◌⊎◌, inl, inr, arith, append_assoc}
use Rattle.std.specs.Prelude.{All, Contains}
use Rattle.std.specs.List.{AllZip}
use Rattle.std.proofs.lemmas.List.{map-append}
use Rattle.std.proofs.lemmas.List.Elements.{All-nil, All-cons, All-head, All-tail, Contains-append_left, Contains-append_right, Contains-append_cases}
use Rattle.sap_terms.specs.Choice.{Choice, instance, instances}
use Rattle.sap_terms.specs.Destructors.{HasDestructor}
use Rattle.sap_terms.specs.Equal.{IsTheoryEqual, same}
use Rattle.sap_terms.specs.Equations.{equations}
use Rattle.sap_terms.specs.Ground.{IsGround}
use Rattle.sap_terms.specs.Message.{IsMessage, IsMessageChoice}
use Rattle.sap_terms.specs.Modulo.{instance_fact, instance_facts, AreEqualFacts}
use Rattle.sap_terms.specs.Normal.{IsNormal, AreNormal, IsNormalForm}
use Rattle.sap_terms.specs.Signature.{Sig}
use Rattle.sap_terms.specs.Subst.{bound_to}
use Rattle.sap_terms.specs.Subterms.{SomeSubterm, SomeSubtermWithin, itself, below, here, later}
use Rattle.sap_terms.specs.Tree.{Tree, variable, apply, Trees, none, more, trees_of, node_count, trees_count}
use Rattle.sap_terms.specs.Variables.{tree_vars, trees_vars, facts_vars, new_vars}
use Rattle.sap_terms.specs.View.{tree}
use Rattle.sap_terms.specs.declared.binding.Binding.{Binding}
use Rattle.sap_terms.specs.declared.fact.Fact.{Fact}
use Rattle.sap_terms.specs.declared.limits.TheConstants.{MOST_TERM_NODES}
use Rattle.sap_terms.specs.declared.var.Var.{Var}
use Rattle.sap_rewrite.specs.Bound.{NamedOnceStay, BindingsGiveChoices}
use Rattle.sap_rewrite.specs.Large.{HasLargeForm}
use Rattle.sap_rewrite.specs.Laws.{FormIsOne, PatternsStay}
use Rattle.sap_rewrite.specs.Match.{Agrees, HaveOneSort, HasNoMatch, bound_vars}
use Rattle.sap_rewrite.specs.Pattern.{MatchingIsModulo, IsPattern}
use Rattle.sap_process.specs.Heads.{facts_terms}
use Rattle.sap_process.specs.Instance.{process_instance}
use Rattle.sap_process.specs.Proc.{Proc}
use Rattle.sap_process.specs.ProcessSteps.{with_choice}
use Rattle.sap_process.specs.Sites.{var_names}
use Rattle.sap_share.specs.Env.{given, bindings_of, AreSmallForms}
use Rattle.sap_share.specs.Shared.{tree_at}
use Rattle.sap_share.specs.declared.env.Bound.{Bound}
use Rattle.sap_lines.specs.Faults.{AreRight, EvaluateLarge, EvaluateSmall, FitsFacts}
use Rattle.sap_lines.specs.Lines.{left_open}
use Rattle.sap_sides.specs.Messages.{IsSmallMessage, IsSmallMessageFact}
use Rattle.sap_heads.specs.Bound.{names_of}
use Rattle.sap_heads.specs.code.Rules.{open_vars, shapes_of, together, IsFound, SomeLarge, IsBound}
use Rattle.sap_heads.proofs.Chosen.{new_among}
use Rattle.sap_heads.proofs.Extended.{cases, turned, new_choice, choice_messages, choice_agrees, given_turned, new_names, choice_is}
use Rattle.sap_heads.proofs.Matched.{part_fine, all_fine, all_messages, added, on, all_append, small_from, small_bindings, fits_nothing}
use Rattle.sap_heads.proofs.Formed.{small_more}
use Rattle.sap_heads.proofs.Sided.{together_vars, vars_append, facts_terms-append, together_instance, facts_twice, shapes_instance, same_facts, together_same, args_all, new_append, left_is, var_below, within_back}
use Rattle.sap_terms.proofs.PlainLaws.Choices.{facts_agree}
use Rattle.sap_terms.proofs.PlainLaws.Items.{first_item, later_item}

-- agreeing with bindings is agreeing with their parts
agrees_left : (a b : List Binding) (σ : Choice) → Agrees (a ++ b) σ → Agrees a σ
agrees_left [] b σ h = tt
agrees_left (e ∷ es) b σ h = (h.0, agrees_left es b σ h.1)

agrees_right : (a b : List Binding) (σ : Choice) → Agrees (a ++ b) σ → Agrees b σ
agrees_right [] b σ h = h
agrees_right (e ∷ es) b σ h = agrees_right es b σ h.1

agrees_at : (b : List Binding) (σ : Choice) (e : Binding) → Agrees b σ → Contains b e → (σ e.var ≡ tree e.term) × Contains (bound_vars b) e.var
agrees_at [] σ e a m = absurd (omega (arith, m.1))
agrees_at (x ∷ xs) σ e a (zero, lt, is) = (subst (λ (y : Binding). σ y.var ≡ tree y.term) is a.0, subst (λ (y : Binding). Contains (bound_vars (x ∷ xs)) y.var) is (first_item x.var (bound_vars xs)))
agrees_at (x ∷ xs) σ e a (suc k, lt, is) =
    let less : k < length xs = omega (arith, lt) in
    let r = agrees_at xs σ e a.1 (k, less, is) in
    (r.0, later_item x.var (bound_vars xs) e.var r.1)

all_at : (P : Binding → Type 0) (b : List Binding) (e : Binding) → All P b → Contains b e → P e
all_at P [] e h m = absurd (omega (arith, m.1))
all_at P (x ∷ xs) e h (zero, lt, is) = subst P is (All-head P x xs h)
all_at P (x ∷ xs) e h (suc k, lt, is) = let less : k < length xs = omega (arith, lt) in all_at P xs e (All-tail P x xs h) (k, less, is)

-- what a pattern's variables stand for is small, where its instance is a list of small terms
args_parts : (g : Sig) (τ : Choice) (ps ts : List Tree) → instances τ (trees_of ps) ≡ trees_of ts → All (IsSmallMessage g) ts → (v : Var) → Contains (trees_vars (trees_of ps)) v → IsSmallMessage g (τ v)
args_parts g τ [] ts is fine v m = absurd (omega (arith, m.1))
args_parts g τ (p ∷ ps) [] is fine v m = cc
args_parts g τ (p ∷ ps) (t ∷ ts) is fine v m =
    let first : instance τ p ≡ t = cc in
    let later : instances τ (trees_of ps) ≡ trees_of ts = cc in
    elim (Contains-append_cases (tree_vars p) (trees_vars (trees_of ps)) v m) [
      | inl k ↦ part_fine g τ p v k (subst (IsSmallMessage g) (sym first) (All-head (IsSmallMessage g) t ts fine))
      | inr k ↦ args_parts g τ ps ts later (All-tail (IsSmallMessage g) t ts fine) v k
    ]

-- no subterm of small normal terms has a large normal form
module _ (one_form : FormIsOne) (g : Sig) (n : Tree) where
  mutual
    sub_small : (t : Tree) → IsNormal (equations g) t → node_count t ≤ MOST_TERM_NODES → SomeSubterm (λ u. IsNormalForm (equations g) u n) t → node_count n ≤ MOST_TERM_NODES
    sub_small t normal within (itself form) =
        let is : t ≡ n = one_form (equations g) t t n (record { equal = same; normal = normal }) form in
        subst (λ u. node_count u ≤ MOST_TERM_NODES) is within
    sub_small (apply f ts) normal within (below h) =
        let less : trees_count ts ≤ MOST_TERM_NODES = omega (arith, within) in
        subs_small ts normal.1 less h

    subs_small : (ts : Trees) → AreNormal (equations g) ts → trees_count ts ≤ MOST_TERM_NODES → SomeSubtermWithin (λ u. IsNormalForm (equations g) u n) ts → node_count n ≤ MOST_TERM_NODES
    subs_small none normal within h = elim h [ ]
    subs_small (more t ts) normal within (here h) = let less : node_count t ≤ MOST_TERM_NODES = omega (arith, within) in sub_small t normal.0 less h
    subs_small (more t ts) normal within (later h) = let less : trees_count ts ≤ MOST_TERM_NODES = omega (arith, within) in subs_small ts normal.1 less h

  list_small : (ts : List Tree) → All (IsSmallMessage g) ts → SomeSubtermWithin (λ u. IsNormalForm (equations g) u n) (trees_of ts) → node_count n ≤ MOST_TERM_NODES
  list_small [] fine h = elim h [ ]
  list_small (t ∷ ts) fine (here h) = let f = All-head (IsSmallMessage g) t ts fine in sub_small t f.message.normal f.small h
  list_small (t ∷ ts) fine (later h) = list_small ts (All-tail (IsSmallMessage g) t ts fine) h

fine_small : (one_form : FormIsOne) (g : Sig) (ts : List Tree) → All (IsSmallMessage g) ts → EvaluateSmall g ts
fine_small one_form g ts fine n h = list_small one_form g n ts fine h

-- facts are theory-equal to themselves
args_equal : (g : Sig) (ts : List Tree) → AllZip (IsTheoryEqual (equations g)) ts ts
args_equal g [] = tt
args_equal g (t ∷ ts) = (same, args_equal g ts)

facts_equal : (g : Sig) (fs : List Fact) → AreEqualFacts (equations g) fs fs
facts_equal g [] = tt
facts_equal g (f ∷ fs) = (record { name = refl; persistent = refl; args = args_equal g f.args }, facts_equal g fs)

-- facts that are theory-equal to small facts have their shape, and are those where their terms are patterns
equal_shapes : (g : Sig) (fs hs : List Fact) → AreEqualFacts (equations g) fs hs → shapes_of fs ≡ shapes_of hs
equal_shapes g [] [] e = refl
equal_shapes g [] (h ∷ hs) e = absurd e
equal_shapes g (f ∷ fs) [] e = absurd e
equal_shapes g (f ∷ fs) (h ∷ hs) e =
    let name = e.0.name in
    let persistent = e.0.persistent in
    let count = zip_length f.args h.args e.0.args in
    let rest = equal_shapes g fs hs e.1 in
    λ i. (sym name i, (sym persistent i, count i)) ∷ rest i
  where
    zip_length : (ts us : List Tree) → AllZip (IsTheoryEqual (equations g)) ts us → length ts ≡ length us
    zip_length [] [] e = refl
    zip_length [] (u ∷ us) e = absurd e
    zip_length (t ∷ ts) [] e = absurd e
    zip_length (t ∷ ts) (u ∷ us) e = ap suc (zip_length ts us e.1)

module _ (modulo : MatchingIsModulo) (g : Sig) (σ : Choice) (messages : IsMessageChoice g σ) where
  args_turn : (ps ts : List Tree) → All (IsPattern (equations g)) ps → All (IsSmallMessage g) ts → AllZip (IsTheoryEqual (equations g)) (map (instance σ) ps) ts → map (instance σ) ps ≡ ts
  args_turn [] [] h fine e = refl
  args_turn [] (t ∷ ts) h fine e = absurd e
  args_turn (p ∷ ps) [] h fine e = absurd e
  args_turn (p ∷ ps) (t ∷ ts) h fine e =
      let first = (modulo (equations g) σ p t (λ v. (messages v).normal) (All-head (IsPattern (equations g)) p ps h) (All-head (IsSmallMessage g) t ts fine).message.normal).0 e.0 in
      let rest = args_turn ps ts (All-tail (IsPattern (equations g)) p ps h) (All-tail (IsSmallMessage g) t ts fine) e.1 in
      λ i. first i ∷ rest i

  facts_turn : (fs hs : List Fact) → All (λ (f : Fact). All (IsPattern (equations g)) f.args) fs → All (IsSmallMessageFact g) hs → AreEqualFacts (equations g) (instance_facts σ fs) hs → facts_terms (instance_facts σ fs) ≡ facts_terms hs
  facts_turn [] [] h fine e = refl
  facts_turn [] (x ∷ xs) h fine e = absurd e
  facts_turn (f ∷ fs) [] h fine e = absurd e
  facts_turn (f ∷ fs) (x ∷ xs) h fine e =
      let first = args_turn f.args x.args (All-head (λ (y : Fact). All (IsPattern (equations g)) y.args) f fs h) (All-head (IsSmallMessageFact g) x xs fine) e.0.args in
      let rest = facts_turn fs xs (All-tail (λ (y : Fact). All (IsPattern (equations g)) y.args) f fs h) (All-tail (IsSmallMessageFact g) x xs fine) e.1 in
      λ i. first i ++ rest i

-- instances of patterns
stay_args : (stay : PatternsStay) (g : Sig) (γ : Choice) (ts : List Tree) → ((t : Tree) → Contains ts t → HasDestructor g t → ⊥) → ((v : Var) → (γ v ≡ variable v) ⊎ (IsGround (γ v) × IsNormal (equations g) (γ v))) → All (IsPattern (equations g)) (map (instance γ) ts)
stay_args stay g γ [] clean fine = All-nil (IsPattern (equations g))
stay_args stay g γ (t ∷ ts) clean fine = All-cons (IsPattern (equations g)) (instance γ t) (map (instance γ) ts) (stay g γ t (clean t (first_item t ts)) fine) (stay_args stay g γ ts (λ u m. clean u (later_item t ts u m)) fine)

pub stay_facts : (stay : PatternsStay) (g : Sig) (γ : Choice) (fs : List Fact) → ((t : Tree) → Contains (facts_terms fs) t → HasDestructor g t → ⊥) → ((v : Var) → (γ v ≡ variable v) ⊎ (IsGround (γ v) × IsNormal (equations g) (γ v)))
    → All (λ (f : Fact). All (IsPattern (equations g)) f.args) (instance_facts γ fs)
stay_facts stay g γ [] clean fine = All-nil (λ (f : Fact). All (IsPattern (equations g)) f.args)
stay_facts stay g γ (f ∷ fs) clean fine =
    All-cons (λ (x : Fact). All (IsPattern (equations g)) x.args) (instance_fact γ f) (instance_facts γ fs) (stay_args stay g γ f.args (λ t m. clean t (Contains-append_left f.args (facts_terms fs) t m)) fine)
    (stay_facts stay g γ fs (λ t m. clean t (Contains-append_right f.args (facts_terms fs) t m)) fine)

module _ (g : Sig) (ts : List Tree) (grounds : (k : ℕ) → k < length ts → IsGround (tree_at ts k)) (env : List Bound) (small : AreSmallForms (equations g) MOST_TERM_NODES ts env) (l e r : List Fact) (one : HaveOneSort (facts_vars (l ++ (e ++ r)))) where
  abbrev whole_rule : List Fact
  whole_rule = l ++ (e ++ r)

  in_left : (v : Var) → Contains (facts_vars l) v → Contains (facts_vars whole_rule) v
  in_left v m = subst (λ vs. Contains vs v) (sym (vars_append l (e ++ r))) (Contains-append_left (facts_vars l) (facts_vars (e ++ r)) v m)

  in_rest : (v : Var) → Contains (facts_vars (e ++ r)) v → Contains (facts_vars whole_rule) v
  in_rest v m = subst (λ vs. Contains vs v) (sym (vars_append l (e ++ r))) (Contains-append_right (facts_vars l) (facts_vars (e ++ r)) v m)

  one_left : HaveOneSort (tree_vars (together l))
  one_left v w m k = one v w (in_left v (subst (λ vs. Contains vs v) (together_vars l) m)) (in_left w (subst (λ vs. Contains vs w) (together_vars l) k))

  one_all : HaveOneSort (tree_vars (together whole_rule))
  one_all v w m k = one v w (subst (λ vs. Contains vs v) (together_vars whole_rule) m) (subst (λ vs. Contains vs w) (together_vars whole_rule) k)

  -- what the rule's instance leaves open
  pub open_is : left_open (instance_facts (given ts env) l) (instance_facts (given ts env) e) (instance_facts (given ts env) r) ≡ open_vars env l e r
  open_is = left_is (names_of env) (given ts env) (cases g ts grounds env small (together l) one_left) l e r

  module _ (cited : List Fact) (fine : All (IsSmallMessageFact g) cited) where
    -- where no match is found, no choice fits
    pub nothing_fits : MatchingIsModulo → All (λ (f : Fact). All (IsPattern (equations g)) f.args) (instance_facts (given ts env) l) → (shapes_of l ≡ shapes_of cited → HasNoMatch (together l) (together cited) (bindings_of ts env))
        → (b : List Binding) (σ : Choice) → FitsFacts g (instance_facts (given ts env) l) b cited σ → ⊥
    nothing_fits modulo patterns none_fits b σ fits =
        let alike = sym (shapes_instance (given ts env) l) ∙ sym (shapes_instance σ (instance_facts (given ts env) l)) ∙ equal_shapes g (instance_facts σ (instance_facts (given ts env) l)) cited fits.equal in
        let terms = facts_turn modulo g σ fits.messages (instance_facts (given ts env) l) cited patterns fine fits.equal in
        fits_nothing g ts grounds env small (together l) one_left (together cited) (none_fits alike) σ fits.messages
        (ap (instance σ) (together_instance (given ts env) l) ∙ together_instance σ (instance_facts (given ts env) l) ∙ ap (λ us. apply [] (trees_of us)) terms)

    module _ (found : List Bound) (f : IsFound ts env l cited found) (once : NamedOnceStay) (give : BindingsGiveChoices) where
      parts : (τ : Choice) → instance τ (together l) ≡ together cited → (w : Var) → Contains (tree_vars (together l)) w → IsSmallMessage g (τ w)
      parts τ is w m = let trees : instances τ (trees_of (facts_terms l)) ≡ trees_of (facts_terms cited) = cc in args_parts g τ (facts_terms l) (facts_terms cited) trees (args_all (IsSmallMessage g) cited fine) w m

      abbrev first : List Binding
      first = added g ts grounds env small (together l) one_left (together cited) parts found f.below f.only once give

      first_on : bound_vars first ≡ new_vars (names_of env) (tree_vars (together l))
      first_on = on g ts grounds env small (together l) one_left (together cited) parts found f.below f.only once give

      first_fine : All (λ (x : Binding). IsSmallMessage g (tree x.term)) first
      first_fine = all_fine g ts grounds env small (together l) one_left (together cited) parts found f.below f.only once give

      first_messages : All (λ (x : Binding). IsMessage g x.var.sort (tree x.term)) first
      first_messages = all_messages g ts grounds env small (together l) one_left (together cited) parts found f.below f.only once give

      found_is : bindings_of ts found ≡ bindings_of ts env ++ first
      found_is = f.only.is_match.extends.is

      module _ (b : List Binding) (opened : AreRight g (open_vars env l e r) b) where
        abbrev whole : List Binding
        whole = first ++ b

        whole_on : bound_vars whole ≡ new_vars (names_of env) (tree_vars (together whole_rule))
        whole_on =
            map-append (λ (x : Binding). x.var) first b
            ∙ (λ i. (first_on ∙ ap (new_vars (names_of env)) (together_vars l)) i ++ opened.vars i)
            ∙ sym (new_append (names_of env) (facts_vars l) (facts_vars e ++ facts_vars r))
            ∙ ap (new_vars (names_of env)) (sym (together_vars whole_rule ∙ vars_append l (e ++ r) ∙ ap (λ vs. facts_vars l ++ vs) (vars_append e r)))

        whole_messages : All (λ (x : Binding). IsMessage g x.var.sort (tree x.term)) whole
        whole_messages = all_append (λ (x : Binding). IsMessage g x.var.sort (tree x.term)) first b first_messages opened.terms

        pub rule_choice : Choice
        rule_choice = new_choice g ts grounds env small (together whole_rule) one_all whole whole_on once whole_messages give

        pub rule_messages : IsMessageChoice g rule_choice
        unfolding rule_choice
        rule_messages = choice_messages g ts grounds env small (together whole_rule) one_all whole whole_on once whole_messages give

        whole_agrees : Agrees whole rule_choice
        unfolding rule_choice
        whole_agrees = choice_agrees g ts grounds env small (together whole_rule) one_all whole whole_on once whole_messages give

        pub rule_agrees : Agrees b rule_choice
        rule_agrees = agrees_right first b rule_choice whole_agrees

        -- the left side stands for the cited facts
        pub left_cited : instance_facts rule_choice (instance_facts (given ts env) l) ≡ cited
        left_cited =
            let turn = turned g ts grounds env small (together l) one_left first rule_choice (agrees_left first b rule_choice whole_agrees) first_on in
            let is : together (instance_facts rule_choice (instance_facts (given ts env) l)) ≡ together cited =
            sym (together_instance rule_choice (instance_facts (given ts env) l)) ∙ ap (instance rule_choice) (sym (together_instance (given ts env) l)) ∙ sym turn ∙ ap (λ c. instance (bound_to c) (together l)) (sym found_is) ∙ f.only.is_match.turns in
            same_facts (instance_facts rule_choice (instance_facts (given ts env) l)) cited (shapes_instance rule_choice (instance_facts (given ts env) l) ∙ shapes_instance (given ts env) l ∙ f.alike) (together_same (instance_facts rule_choice (instance_facts (given ts env) l)) cited is)

        pub rule_fits : FitsFacts g (instance_facts (given ts env) l) b cited rule_choice
        rule_fits = record { messages = rule_messages; agrees = rule_agrees; equal = subst (AreEqualFacts (equations g) (instance_facts rule_choice (instance_facts (given ts env) l))) left_cited (facts_equal g (instance_facts rule_choice (instance_facts (given ts env) l))) }

        -- a large binding is large in the rule
        pub binding_large : SomeLarge b → EvaluateLarge g (facts_terms (instance_facts rule_choice (instance_facts (given ts env) l ++ (instance_facts (given ts env) e ++ instance_facts (given ts env) r))))
        binding_large s =
            let L = instance_facts (given ts env) l in
            let rest = instance_facts (given ts env) e ++ instance_facts (given ts env) r in
            let at = agrees_at b rule_choice s.binding rule_agrees s.stands in
            let m = all_at (λ (x : Binding). IsMessage g x.var.sort (tree x.term)) b s.binding opened.terms s.stands in
            let among = new_among (var_names (facts_vars L)) (facts_vars rest) s.binding.var (subst (λ vs. Contains vs s.binding.var) (opened.vars ∙ sym open_is) at.1) in
            let whole_vars = subst (λ vs. Contains vs s.binding.var) (sym (vars_append L rest)) (Contains-append_right (facts_vars L) (facts_vars rest) s.binding.var among.0) in
            let large : HasLargeForm (equations g) MOST_TERM_NODES (tree s.binding.term) = record { form = tree s.binding.term; is_form = record { equal = same; normal = m.normal }; large = s.large } in
            var_below rule_choice (L ++ rest) s.binding.var whole_vars (subst (HasLargeForm (equations g) MOST_TERM_NODES) (sym at.0) large)

        module _ (new : List Bound) (bd : IsBound ts ts found b new) where
          new_is : bindings_of ts new ≡ bindings_of ts env ++ whole
          new_is = bd.is ∙ ap (λ c. c ++ b) found_is ∙ append_assoc (bindings_of ts env) first b

          pub rule_names : names_of new ≡ names_of env ++ var_names (new_vars (names_of env) (facts_vars (l ++ (e ++ r))))
          rule_names = new_names g ts grounds env small (together whole_rule) one_all whole whole_on new new_is ∙ ap (λ vs. names_of env ++ var_names (new_vars (names_of env) vs)) (together_vars whole_rule)

          pub rule_small_env : AreSmallForms (equations g) MOST_TERM_NODES ts new
          rule_small_env =
              let Q : Binding → Type 0 = λ (x : Binding). IsNormal (equations g) (tree x.term) × (node_count (tree x.term) ≤ MOST_TERM_NODES) in
              small_from g ts new bd.below (subst (All Q) (sym new_is) (all_append Q (bindings_of ts env) whole (small_bindings g ts env small) (all_append Q first b (λ k d lt. ((first_fine k d lt).message.normal, (first_fine k d lt).small)) (λ k d lt. ((opened.terms k d lt).normal, bd.within k d lt)))))

          -- under what is bound, the sides are instances of the instances
          pub side_is : (fs : List Fact) → ((v : Var) → Contains (facts_vars fs) v → Contains (facts_vars (l ++ (e ++ r))) v) → instance_facts (given ts new) fs ≡ instance_facts rule_choice (instance_facts (given ts env) fs)
          side_is fs among =
              facts_agree (given ts new) (λ v. instance rule_choice (given ts env v)) fs (λ v m. given_turned g ts grounds env small (together whole_rule) one_all whole whole_on new new_is rule_choice whole_agrees v (subst (λ vs. Contains vs v) (sym (together_vars whole_rule)) (among v m)))
              ∙ sym (facts_twice rule_choice (given ts env) fs)

          in_acts : (v : Var) → Contains (facts_vars e) v → Contains (facts_vars whole_rule) v
          in_acts v m = in_rest v (subst (λ vs. Contains vs v) (sym (vars_append e r)) (Contains-append_left (facts_vars e) (facts_vars r) v m))

          in_right : (v : Var) → Contains (facts_vars r) v → Contains (facts_vars whole_rule) v
          in_right v m = in_rest v (subst (λ vs. Contains vs v) (sym (vars_append e r)) (Contains-append_right (facts_vars e) (facts_vars r) v m))

          pub acts_are : instance_facts (given ts new) e ≡ instance_facts rule_choice (instance_facts (given ts env) e)
          acts_are = side_is e in_acts

          pub right_are : instance_facts (given ts new) r ≡ instance_facts rule_choice (instance_facts (given ts env) r)
          right_are = side_is r in_right

          -- the process behind it
          pub rule_goes : ((p : Proc) (s t : Choice) → ((v : Var) → IsGround (s v) ⊎ (s v ≡ variable v)) → process_instance t (process_instance s p) ≡ process_instance (λ v. instance t (s v)) p)
              → (p : Proc) → process_instance (given ts new) p ≡ with_choice rule_choice (facts_vars (instance_facts (given ts env) l ++ (instance_facts (given ts env) e ++ instance_facts (given ts env) r))) (process_instance (given ts env) p)
          rule_goes twice p =
              let vars : tree_vars (instance (given ts env) (together whole_rule)) ≡ facts_vars (instance_facts (given ts env) l ++ (instance_facts (given ts env) e ++ instance_facts (given ts env) r)) =
              ap tree_vars (together_instance (given ts env) whole_rule) ∙ together_vars (instance_facts (given ts env) whole_rule) ∙ ap facts_vars (map-append (instance_fact (given ts env)) l (e ++ r) ∙ ap (λ fs. instance_facts (given ts env) l ++ fs) (map-append (instance_fact (given ts env)) e r)) in
              choice_is g ts grounds env small (together whole_rule) one_all whole whole_on new new_is rule_choice whole_agrees twice p ∙ ap (λ vs. with_choice rule_choice vs (process_instance (given ts env) p)) vars

          -- what is large under it is large in the rule
          pub sides_large : EvaluateLarge g (facts_terms (instance_facts (given ts new) (e ++ r))) → EvaluateLarge g (facts_terms (instance_facts rule_choice (instance_facts (given ts env) l ++ (instance_facts (given ts env) e ++ instance_facts (given ts env) r))))
          sides_large h =
              let L = instance_facts (given ts env) l in
              let rest = instance_facts (given ts env) e ++ instance_facts (given ts env) r in
              let is : instance_facts (given ts new) (e ++ r) ≡ instance_facts rule_choice rest = side_is (e ++ r) in_rest ∙ ap (instance_facts rule_choice) (map-append (instance_fact (given ts env)) e r) in
              let back = within_back (facts_terms (instance_facts rule_choice L)) (facts_terms (instance_facts rule_choice rest)) (subst (λ fs. EvaluateLarge g (facts_terms fs)) is h) in
              subst (EvaluateLarge g) (sym (facts_terms-append (instance_facts rule_choice L) (instance_facts rule_choice rest)) ∙ ap facts_terms (sym (map-append (instance_fact rule_choice) L rest))) back

          -- where the sides are small, the rule is
          pub rule_small : FormIsOne → EvaluateSmall g (facts_terms (instance_facts (given ts new) e)) → EvaluateSmall g (facts_terms (instance_facts (given ts new) r)) → EvaluateSmall g (facts_terms (instance_facts rule_choice (instance_facts (given ts env) l ++ (instance_facts (given ts env) e ++ instance_facts (given ts env) r))))
          rule_small one_form acts right =
              let L = instance_facts (given ts env) l in
              let E = instance_facts (given ts env) e in
              let R = instance_facts (given ts env) r in
              let left_small : EvaluateSmall g (facts_terms (instance_facts rule_choice L)) = subst (λ fs. EvaluateSmall g (facts_terms fs)) (sym left_cited) (fine_small one_form g (facts_terms cited) (args_all (IsSmallMessage g) cited fine)) in
              let acts_small = subst (λ fs. EvaluateSmall g (facts_terms fs)) acts_are acts in
              let right_small = subst (λ fs. EvaluateSmall g (facts_terms fs)) right_are right in
              let whole_small = small_more g (facts_terms (instance_facts rule_choice L)) (facts_terms (instance_facts rule_choice E) ++ facts_terms (instance_facts rule_choice R)) left_small (small_more g (facts_terms (instance_facts rule_choice E)) (facts_terms (instance_facts rule_choice R)) acts_small right_small) in
              let is : facts_terms (instance_facts rule_choice (L ++ (E ++ R))) ≡ facts_terms (instance_facts rule_choice L) ++ (facts_terms (instance_facts rule_choice E) ++ facts_terms (instance_facts rule_choice R)) =
              ap facts_terms (map-append (instance_fact rule_choice) L (E ++ R) ∙ ap (λ fs. instance_facts rule_choice L ++ fs) (map-append (instance_fact rule_choice) E R)) ∙ facts_terms-append (instance_facts rule_choice L) (instance_facts rule_choice E ++ instance_facts rule_choice R) ∙ ap (λ us. facts_terms (instance_facts rule_choice L) ++ us) (facts_terms-append (instance_facts rule_choice E) (instance_facts rule_choice R)) in
              subst (EvaluateSmall g) (sym is) whole_small
