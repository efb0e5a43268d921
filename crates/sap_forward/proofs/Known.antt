-- Lines that write down a public name, or apply a symbol.
use Rattle.std.proofs.Common.{◌≡◌, ℕ, ◌<◌, ◌^◌, List, [], ◌∷◌, ◌++◌, Option, Some, None, refl, sym, ap, ◌∙◌, subst, arith, slice_get, length, map, append-nil, inl, inr}
use Rattle.std.specs.Prelude.{All, Contains}
use Rattle.std.proofs.lemmas.List.Elements.{Contains-push_cases, All-nil, All-cons}
use Rattle.sap_terms.specs.Equations.{equations}
use Rattle.sap_terms.specs.Normal.{IsNormalForm}
use Rattle.sap_terms.specs.Signature.{Sig, HoldsBuiltins, IsPublic, arity_of}
use Rattle.sap_terms.specs.Trace.{Trace, shown}
use Rattle.sap_terms.specs.Tree.{Tree, apply, public, trees_of}
use Rattle.sap_terms.proofs.PlainLaws.Items.{contains_got}
use Rattle.sap_process.specs.Configuration.{Config}
use Rattle.sap_process.specs.Proc.{Proc, node_count}
use Rattle.sap_process.specs.Ready.{IsReady}
use Rattle.sap_locks.specs.Annotation.{IsAnnotation}
use Rattle.sap_rule.specs.RuleSteps.{RuleState, gains}
use Rattle.sap_runs.specs.Marks.{marks_of}
use Rattle.sap_runs.specs.declared.process_step.PStep.TheVariants as line
use Rattle.sap_runs.specs.declared.rule_step.RStep.TheVariants.{Public, Apply}
use Rattle.sap_translate.specs.relation.Agents.{Agent}
use Rattle.sap_forward.specs.Answered.{IsAnswered}
use Rattle.sap_rule_lines.specs.Least.{not_drawn, numbers_below}
use Rattle.sap_forward.specs.Linked.{Linked}
use Rattle.sap_forward.specs.Tables.{RuleTables}
use Rattle.sap_forward.specs.Written.{IsWrittenAsRules}
use Rattle.sap_forward.proofs.Lines.{one_line}
use Rattle.sap_forward.proofs.Premises.{Laws}
use Rattle.sap_forward.proofs.Advance.{IsLimit}

numbers_known : (known : List Tree) (ks : List ℕ) (ts : List Tree) → map (slice_get known) ks ≡ map Some ts → All (Contains known) ts × (length ks ≡ length ts)
numbers_known known [] [] e = (All-nil (Contains known), refl)
numbers_known known [] (t ∷ ts) e = absurd (cc)
numbers_known known (k ∷ ks) [] e = absurd (cc)
numbers_known known (k ∷ ks) (t ∷ ts) e =
    let head : slice_get known k ≡ Some t = cc in
    let tail : map (slice_get known) ks ≡ map Some ts = cc in
    let rest = numbers_known known ks ts tail in
    (All-cons (Contains known) t ts (contains_got known t k head) rest.0, (let same = rest.1 in omega arith))

module _ (laws : Laws) (g : Sig) (W : Tree → Type 0) (p q : Proc) (hold : HoldsBuiltins g) (ready : IsReady g p) (small : node_count p < 2 ^ 64) (annotated : IsAnnotation p q) (drawn : List ℕ) (agents : List (Option Agent)) (c : Config) (es : List Tree) (tr : Trace) (s : RuleState) (full : Trace) (tables : RuleTables) (lk : Linked g W q drawn tables agents c es tr s full) (limit : IsLimit g W) where
  pub writes_here : (a : List ℕ) → IsAnswered g W q drawn agents c tables s full (line.Public a) c (es ++ public a ∷ []) (tr ++ shown []) (marks_of [] [])
  writes_here a =
      let h = laws.follows_public g p q hold ready small annotated agents None c tr s full (record { reached = lk.rest.reached; ran = lk.rest.ran; related = lk.rest.related }) a in
      record {
        lines = Public a ∷ [];
        later = agents;
        behind = tables;
        state = gains s (public a);
        more = [] ∷ [];
        written = IsWrittenAsRules.writes a;
        legal = one_line (refl, refl);
        linked = record {
          rest = record { reached = h.together.reached; ran = h.together.ran; related = h.together.related; started = lk.rest.started; calm = lk.rest.calm };
          known = ap (λ x. x ++ public a ∷ []) lk.known;
          tabled = lk.tabled;
          made = lk.made;
          entries = λ x m. elim (Contains-push_cases es (public a) x m) [ inl old ↦ lk.entries x old | inr same ↦ subst W same (limit.publics a) ];
          envs = lk.envs;
          stored = lk.stored;
        };
        marked = refl;
        short = omega arith;
        names = sym (append-nil (not_drawn drawn (numbers_below tables.next)));
      }

  pub applies_here : (f ks : List ℕ) (ts : List Tree) (x : Tree) → IsPublic g f → arity_of g f ≡ Some (length ks) → map (slice_get es) ks ≡ map Some ts → IsNormalForm (equations g) (apply f (trees_of ts)) x → W x
      → IsAnswered g W q drawn agents c tables s full (line.Apply f ks) c (es ++ x ∷ []) (tr ++ shown []) (marks_of [] [])
  applies_here f ks ts x is_public arity entries form within =
      let entries' : map (slice_get s.known) ks ≡ map Some ts = ap (λ i. map (slice_get i) ks) lk.known ∙ entries in
      let n = numbers_known s.known ks ts entries' in
      let h = laws.follows_apply g p q hold ready small annotated agents None c tr s full (record { reached = lk.rest.reached; ran = lk.rest.ran; related = lk.rest.related }) f ts x is_public (arity ∙ ap Some n.1) n.0 form in
      record {
        lines = Apply f ks ∷ [];
        later = agents;
        behind = tables;
        state = gains s x;
        more = [] ∷ [];
        written = IsWrittenAsRules.applies f ks;
        legal = one_line (record { terms = ts; form = x; public_symbol = is_public; arity = arity; entries = entries'; is_form = form; within = within; silent = refl; becomes = refl });
        linked = record {
          rest = record { reached = h.together.reached; ran = h.together.ran; related = h.together.related; started = lk.rest.started; calm = lk.rest.calm };
          known = ap (λ i. i ++ x ∷ []) lk.known;
          tabled = lk.tabled;
          made = lk.made;
          entries = λ y m. elim (Contains-push_cases es x y m) [ inl old ↦ lk.entries y old | inr same ↦ subst W same within ];
          envs = lk.envs;
          stored = lk.stored;
        };
        marked = refl;
        short = omega arith;
        names = sym (append-nil (not_drawn drawn (numbers_below tables.next)));
      }
