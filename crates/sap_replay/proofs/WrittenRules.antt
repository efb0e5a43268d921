-- The text of a run of rules that was made of lines of the process is read as that run.
use Rattle.std.proofs.Common.{◌≡◌, ◌≤◌, ℕ, List, [], ◌∷◌, ◌++◌, length, Bool, true, false, Some, if◌then◌else◌, map, Ok, refl, sym, subst, ap, ◌∙◌, inl, inr, arith}
use Rattle.std.specs.Prelude.{All, Contains}
use Rattle.std.specs.List.{flat_map}
use Rattle.std.specs.Str.{bytes_eq}
use Rattle.std.proofs.lemmas.Grind.{flat_map-append}
use Rattle.std.proofs.lemmas.List.Elements.{All-head, All-tail, Contains-append_cases}
use Rattle.std.proofs.lemmas.Slice.Eq.{bytes_eq-Decides}
use Rattle.sap_terms.specs.Choice.{Choice, instance, instances}
use Rattle.sap_terms.specs.Equal.{IsTheoryEqual}
use Rattle.sap_terms.specs.Equations.{equations}
use Rattle.sap_terms.specs.Ground.{IsGround}
use Rattle.sap_terms.specs.Message.{IsMessageChoice, IsOver}
use Rattle.sap_terms.specs.Normal.{IsNormalForm}
use Rattle.sap_terms.specs.Signature.{Sig}
use Rattle.sap_terms.specs.Subterms.{SomeSubterm, SomeSubtermWithin, itself, below, here, later}
use Rattle.sap_terms.specs.Trace.{Trace}
use Rattle.sap_terms.specs.Tree.{Tree, variable, public, fresh, apply, Trees, trees_of}
use Rattle.sap_terms.specs.Tree as trees
use Rattle.sap_terms.specs.Variables.{tree_vars, trees_vars, facts_vars, is_known, new_vars}
use Rattle.sap_terms.specs.View.{tree}
use Rattle.sap_terms.specs.declared.binding.Binding.{Binding}
use Rattle.sap_terms.specs.declared.fact.Fact.{Fact}
use Rattle.sap_terms.specs.declared.limits.TheConstants.{MOST_FILE_NAME_BYTES, MOST_THEORY_NAME_BYTES}
use Rattle.sap_terms.specs.declared.var.Var.{Var}
use Rattle.sap_terms.proofs.PlainLaws.Items.{item_cases, cons_cases, first_item, later_item}
use Rattle.sap_text.specs.Tokens.{ident}
use Rattle.sap_grammar.specs.ByteWords.{IsName}
use Rattle.sap_grammar.specs.Printable.{HasNames, HaveNames, IsPrintableFact}
use Rattle.sap_rewrite.specs.Match.{Agrees, bound_vars}
use Rattle.sap_rule.specs.Named.{rule_named}
use Rattle.sap_rule.specs.RuleSteps.{RuleState}
use Rattle.sap_rule.specs.Variables.{rule_vars, facts_outer_vars}
use Rattle.sap_rule.specs.declared.rule.Rule.{Rule}
use Rattle.sap_runs.specs.Limits.{HasFewNodes}
use Rattle.sap_runs.specs.declared.process_step.PStep.{PStep}
use Rattle.sap_runs.specs.declared.rule_step.RStep.{RStep}
use Rattle.sap_runs.specs.declared.rule_step.RStep.TheVariants as rstep
use Rattle.sap_run_lines.specs.RunTerms.{IsRunName}
use Rattle.sap_run_lines.specs.Spellable.{AreWritableWords, IsWritableProcess, IsWritableRule}
use Rattle.sap_run_lines.specs.StepLines.{rule_words, with_words, bound_word}
use Rattle.sap_run_texts.specs.RunPrinted.{Each, rule_run_text}
use Rattle.sap_run_texts.specs.RunTexts.{IsProcessRunText, IsRuleRunText}
use Rattle.sap_run_texts.specs.Writable.{AreNumbered, RuleCanBeNamed}
use Rattle.sap_run_texts.specs.declared.limits.TheConstants.{MOST_RULE_STEPS}
use Rattle.sap_steps.specs.Lines.{IsLine, IsRuleLine}
use Rattle.sap_steps.specs.Runs.{IsLegalRun}
use Rattle.sap_lines.specs.NamesPass.{BindingsPass}
use Rattle.sap_read.specs.Files.{FileContent}
use Rattle.sap_read.specs.declared.limits.TheConstants.{MOST_NEW_NAME_BYTES}
use Rattle.sap_read.specs.Printable.{IsDeclarable, IsPrintableFile}
use Rattle.sap_theory.specs.PrintableTheory.{IsPrintable, IsPrintableRule}
use Rattle.sap_gen.specs.Kept.{file_theory}
use Rattle.sap_templates.specs.Templates.{rules_of}
use Rattle.sap_forward.specs.Converted as forward
use Rattle.sap_forward.specs.RuleLinesPass.{RuleLinePasses, RuleLinesPass}
use Rattle.sap_replay.proofs.WrittenNames.{spellable, passing_content, process_passes, lines_pass, symbol_written, term_written}

-- variables of terms that can be printed have names

mutual
  var_named : (most : ℕ) (t : Tree) (v : Var) → HasNames most t → Contains (tree_vars t) v → IsName most v.name
  var_named most (variable x) v h m = subst (λ (y : Var). IsName most y.name) (item_cases x v m) h
  var_named most (public a) v h m = absurd (omega (arith, m.1))
  var_named most (fresh n) v h m = absurd h
  var_named most (apply f ts) v h m = vars_named most ts v h.1 m

  vars_named : (most : ℕ) (ts : Trees) (v : Var) → HaveNames most ts → Contains (trees_vars ts) v → IsName most v.name
  vars_named most trees.none v h m = absurd (omega (arith, m.1))
  vars_named most (trees.more t ts) v h m = elim (Contains-append_cases (tree_vars t) (trees_vars ts) v m) [ inl k ↦ var_named most t v h.0 k | inr k ↦ vars_named most ts v h.1 k ]

facts_named : (most : ℕ) (g : Sig) (fs : List Fact) (v : Var) → All (IsPrintableFact most g) fs → Contains (facts_vars fs) v → IsName most v.name
facts_named most g [] v h m = absurd (omega (arith, m.1))
facts_named most g (f ∷ fs) v h m = elim (Contains-append_cases (trees_vars (trees_of f.args)) (facts_vars fs) v m) [
  | inl k ↦ vars_named most (trees_of f.args) v (All-head (IsPrintableFact most g) f fs h).names.1 k
  | inr k ↦ facts_named most g fs v (All-tail (IsPrintableFact most g) f fs h) k
]

-- first occurrences are occurrences
new_among : (known : List (List ℕ)) (vs : List Var) (v : Var) → Contains (new_vars known vs) v → Contains vs v
new_among known [] v m = m
new_among known (x ∷ vs) v m = at (is_known known x.name) m (λ k. new_among known vs v k) (λ k. new_among (known ++ x.name ∷ []) vs v k)
  where
    at : (b : Bool) → Contains (if b then new_vars known vs else x ∷ new_vars (known ++ x.name ∷ []) vs) v → (Contains (new_vars known vs) v → Contains vs v)
        → (Contains (new_vars (known ++ x.name ∷ []) vs) v → Contains vs v) → Contains (x ∷ vs) v
    at true k old more = later_item x vs v (old k)
    at false k old more = elim (cons_cases x (new_vars (known ++ x.name ∷ []) vs) v k) [
      | inl is ↦ subst (Contains (x ∷ vs)) is (first_item x vs)
      | inr j ↦ later_item x vs v (more j)
    ]

-- what a variable of a rule stands for is a part of what is evaluated

module _ {P : Tree → Type 0} (σ : Choice) (v : Var) (holds : P (σ v)) where
  mutual
    part_of : (t : Tree) → Contains (tree_vars t) v → SomeSubterm P (instance σ t)
    part_of (variable x) m = itself (subst (λ (y : Var). P (σ y)) (sym (item_cases x v m)) holds)
    part_of (public a) m = absurd (omega (arith, m.1))
    part_of (fresh n) m = absurd (omega (arith, m.1))
    part_of (apply f ts) m = below (part_among ts m)

    part_among : (ts : Trees) → Contains (trees_vars ts) v → SomeSubtermWithin P (instances σ ts)
    part_among trees.none m = absurd (omega (arith, m.1))
    part_among (trees.more t ts) m = elim (Contains-append_cases (tree_vars t) (trees_vars ts) v m) [ inl k ↦ here (part_of t k) | inr k ↦ later (part_among ts k) ]

  part_first : (ts us : List Tree) → Contains (trees_vars (trees_of ts)) v → SomeSubtermWithin P (instances σ (trees_of (ts ++ us)))
  part_first [] us m = absurd (omega (arith, m.1))
  part_first (t ∷ ts) us m = elim (Contains-append_cases (tree_vars t) (trees_vars (trees_of ts)) v m) [ inl k ↦ here (part_of t k) | inr k ↦ later (part_first ts us k) ]

  part_then : (ts us : List Tree) → SomeSubtermWithin P (instances σ (trees_of us)) → SomeSubtermWithin P (instances σ (trees_of (ts ++ us)))
  part_then [] us s = s
  part_then (t ∷ ts) us s = later (part_then ts us s)

  part_of_facts : (fs : List Fact) → Contains (facts_vars fs) v → SomeSubtermWithin P (instances σ (trees_of (flat_map (λ (f : Fact). f.args) fs)))
  part_of_facts [] m = absurd (omega (arith, m.1))
  part_of_facts (f ∷ fs) m = elim (Contains-append_cases (trees_vars (trees_of f.args)) (facts_vars fs) v m) [
    | inl k ↦ part_first f.args (flat_map (λ (x : Fact). x.args) fs) k
    | inr k ↦ part_then f.args (flat_map (λ (x : Fact). x.args) fs) (part_of_facts fs k)
  ]

facts_vars-append : (fs hs : List Fact) → facts_vars (fs ++ hs) ≡ facts_vars fs ++ facts_vars hs
facts_vars-append fs hs = flat_map-append (λ (f : Fact). trees_vars (trees_of f.args)) fs hs

-- a rule that is found by its name has it, and can be printed as all can
found_rule : (g : Sig) (rs : List Rule) (n : List ℕ) (r : Rule) → rule_named rs n ≡ Some r → All (IsPrintableRule MOST_THEORY_NAME_BYTES g) rs → IsPrintableRule MOST_THEORY_NAME_BYTES g r × (r.name ≡ n)
found_rule g [] n r e h = absurd (cc)
found_rule g (x ∷ rs) n r e h = at (bytes_eq x.name n) refl e (λ got. found_rule g rs n r got (All-tail (IsPrintableRule MOST_THEORY_NAME_BYTES g) x rs h))
  where
    first : x ≡ r → x.name ≡ n → IsPrintableRule MOST_THEORY_NAME_BYTES g r × (r.name ≡ n)
    first same name = subst (λ (y : Rule). IsPrintableRule MOST_THEORY_NAME_BYTES g y × (y.name ≡ n)) same (All-head (IsPrintableRule MOST_THEORY_NAME_BYTES g) x rs h, name)

    at : (b : Bool) → bytes_eq x.name n ≡ b → (if b then Some x else rule_named rs n) ≡ Some r → (rule_named rs n ≡ Some r → IsPrintableRule MOST_THEORY_NAME_BYTES g r × (r.name ≡ n))
        → IsPrintableRule MOST_THEORY_NAME_BYTES g r × (r.name ≡ n)
    at true is got rest = let same : x ≡ r = cc in first same ((bytes_eq-Decides x.name n).0 is)
    at false is got rest = rest got

module _ (g : Sig) (declarable : All (IsDeclarable MOST_FILE_NAME_BYTES) g.symbols) where
  -- what is bound, where the variables have names and stand for small messages of such names
  bound_written : (b : List Binding) (σ : Choice) → Agrees b σ → IsMessageChoice g σ → ((v : Var) → Contains (bound_vars b) v → IsRunName v.name × HasFewNodes (σ v)) → BindingsPass spellable b → AreWritableWords (map bound_word b)
  bound_written [] σ a m h p = tt
  bound_written (x ∷ b) σ a m h p =
      let own = h x.var (first_item x.var (bound_vars b)) in
      let message = m x.var in
      let written = term_written g declarable (tree x.term) (subst IsGround a.0 message.ground) (subst (IsOver g) a.0 message.over) p.0 in
      ((own.0, written, subst HasFewNodes a.0 own.1), bound_written b σ a.1 m (λ v k. h v (later_item x.var (bound_vars b) v k)) p.1)

  with_written : (b : List Binding) → AreWritableWords (map bound_word b) → AreWritableWords (with_words b)
  with_written [] h = tt
  with_written (x ∷ b) h = (ident refl refl, h)

  module _ (rules : List Rule) (printable : All (IsPrintableRule MOST_THEORY_NAME_BYTES g) rules) where
    rule_written : (s z : RuleState) (name ks : List ℕ) (b : List Binding) (acts : List Fact) → IsRuleLine g rules HasFewNodes s name ks b acts z → BindingsPass spellable b → IsRunName name × AreWritableWords (with_words b)
    rule_written s z name ks b acts line passes =
        let r = line.rule in
        let σ = line.fires.choice in
        let found = found_rule g rules name r line.named printable in
        let messages = line.fires.use_.messages in
        let among : (v : Var) → Contains (bound_vars b) v → Contains (rule_vars r) v =
        λ v m. new_among (map (λ (x : Var). x.name) (facts_outer_vars g r.left)) (rule_vars r) v (subst (λ (vs : List Var). Contains vs v) line.fires.binds.vars m)
        in
        let all : facts_vars (r.left ++ (r.acts ++ r.right)) ≡ rule_vars r =
        facts_vars-append r.left (r.acts ++ r.right) ∙ ap (λ (vs : List Var). facts_vars r.left ++ vs) (facts_vars-append r.acts r.right)
        in
        let named : (v : Var) → Contains (rule_vars r) v → IsRunName v.name = λ v m. vars_of_rule r found.0 v m in
        let small : (v : Var) → Contains (rule_vars r) v → HasFewNodes (σ v) =
        λ v m. line.fires.within (σ v) (part_of_facts {P = λ u. IsNormalForm (equations g) u (σ v)} σ v
        (record { equal = IsTheoryEqual.same; normal = (messages v).normal }) (r.left ++ (r.acts ++ r.right)) (subst (λ (vs : List Var). Contains vs v) (sym all) m))
        in (
          subst IsRunName found.1 found.0.name,
          with_written b (bound_written b σ line.fires.binds.agrees messages (λ v m. (named v (among v m), small v (among v m))) passes),
        )
      where
        vars_of_rule : (r : Rule) → IsPrintableRule MOST_THEORY_NAME_BYTES g r → (v : Var) → Contains (rule_vars r) v → IsRunName v.name
        vars_of_rule r h v m = elim (Contains-append_cases (facts_vars r.left) (facts_vars r.acts ++ facts_vars r.right) v m) [
          | inl k ↦ facts_named MOST_THEORY_NAME_BYTES g r.left v h.left k
          | inr k ↦ elim (Contains-append_cases (facts_vars r.acts) (facts_vars r.right) v k) [
            | inl j ↦ facts_named MOST_THEORY_NAME_BYTES g r.acts v h.acts j
            | inr j ↦ facts_named MOST_THEORY_NAME_BYTES g r.right v h.right j
          ]
        ]

    -- what a line of rules that is possible names can be written
    line_named : (s z : RuleState) (acts : List Fact) (line : RStep) → IsLine g rules HasFewNodes s line acts z → RuleLinePasses spellable line → RuleCanBeNamed line
    line_named s z acts (rstep.Fresh n) is h = tt
    line_named s z acts (rstep.Learn f) is h = tt
    line_named s z acts (rstep.Own f) is h = tt
    line_named s z acts (rstep.Public a) is h = passing_content a h
    line_named s z acts (rstep.Apply f ks) is h = symbol_written g declarable f _ is.arity
    line_named s z acts (rstep.Know k) is h = tt
    line_named s z acts (rstep.Rule name ks b) is h = rule_written s z name ks b acts is h

    each_join : (P : RStep → Type 0) (xs : List RStep) (x : RStep) → Each P xs → P x → Each P (xs ++ x ∷ [])
    each_join P [] x h p = (p, tt)
    each_join P (y ∷ xs) x h p = (h.0, each_join P xs x h.1 p)

    pass_parts : (xs : List RStep) (x : RStep) → RuleLinesPass spellable (xs ++ x ∷ []) → RuleLinesPass spellable xs × RuleLinePasses spellable x
    pass_parts [] x h = (tt, h.0)
    pass_parts (y ∷ xs) x h = let rest = pass_parts xs x h.1 in ((h.0, rest.0), rest.1)

    lines_named : (lines : List RStep) (s : RuleState) (full : Trace) → IsLegalRun g rules HasFewNodes lines s full → RuleLinesPass spellable lines → Each RuleCanBeNamed lines
    lines_named _ _ _ IsLegalRun.starts h = tt
    lines_named _ z _ (IsLegalRun.further {lines = lines} {s = s} {full = full} line acts run is) h =
        let parts = pass_parts lines line h in
        each_join RuleCanBeNamed lines line (lines_named lines s full run parts.0) (line_named s z acts line is parts.1)

-- what is so of texts of runs
pub record RuleLaws : Type 0 where
  pub named : (s : RStep) → RuleCanBeNamed s → AreNumbered (rule_words s) → IsWritableRule s
  pub read : (z : List ℕ) (ss : List PStep) → IsProcessRunText z (Ok ss) → Each IsWritableProcess ss
  pub printed : (ss : List RStep) → Each IsWritableRule ss → length ss ≤ MOST_RULE_STEPS → IsRuleRunText (rule_run_text ss) (Ok ss)

each_written : RuleLaws → (ss : List RStep) → Each RuleCanBeNamed ss → Each (λ s. AreNumbered (rule_words s)) ss → Each IsWritableRule ss
each_written laws [] named numbered = tt
each_written laws (s ∷ ss) named numbered = (laws.named s named.0 numbered.0, each_written laws ss named.1 numbered.1)

-- the text of lines that are opposite to lines of the process that were read, and whose numbers are of 64 bits, is read as these lines,
-- where the file and its theory can be printed
pub rules_are_read : RuleLaws → (f : FileContent) → IsPrintableFile MOST_FILE_NAME_BYTES MOST_NEW_NAME_BYTES f → IsPrintable MOST_THEORY_NAME_BYTES (file_theory f) → (z : List ℕ) (lines : List PStep) (rule_lines : List RStep) → IsProcessRunText z (Ok lines)
    → forward.IsConvertedToRules f.signature f.process lines rule_lines → Each (λ s. AreNumbered (rule_words s)) rule_lines → length rule_lines ≤ MOST_RULE_STEPS → IsRuleRunText (rule_run_text rule_lines) (Ok rule_lines)
rules_are_read laws f file theory z lines rule_lines read c numbered short =
    let passes = c.names spellable (process_passes f.signature f.process file.process file.contents) (lines_pass lines (laws.read z lines read)) in
    let named = lines_named f.signature file.symbols (rules_of f.process) theory.rules rule_lines c.opposite.state c.opposite.full c.opposite.legal passes in
    laws.printed rule_lines (each_written laws rule_lines named numbered) short
