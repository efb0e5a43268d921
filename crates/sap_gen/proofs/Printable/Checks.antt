-- Both theories of a file that can be run and printed, with names of its own, pass the checks of a reader.
use Rattle.std.proofs.Common.{◌≡◌, ◌<◌, ◌^◌, ℕ, Bool, true, false, ◌||◌, List, [], ◌∷◌, Some, None, cond, refl, sym, ap, ◌∙◌, arith}
use Rattle.std.specs.Prelude.{All}
use Rattle.std.specs.List.{IsDistinct, list_any}
use Rattle.std.specs.Str.{bytes_eq}
use Rattle.std.proofs.lemmas.List.Elements.{All-weaker}
use Rattle.sap_terms.specs.Signature.{Sig, arity_of}
use Rattle.sap_terms.specs.declared.limits.TheConstants.{MOST_FILE_NAME_BYTES}
use Rattle.sap_formula.specs.Faults.{HasNoFault}
use Rattle.sap_formula.specs.Form.{LemmaForm, RestrictionForm}
use Rattle.sap_formula.specs.Laws.{ClosedLaw, IsClosed}
use Rattle.sap_formula.specs.Truth.{EachIn}
use Rattle.sap_locks.specs.Annotation.{IsAnnotation}
use Rattle.sap_process.specs.Proc.{Proc, node_count}
use Rattle.sap_process.specs.Ready.{IsReady}
use Rattle.sap_terms.specs.Equations.{pair_name}
use Rattle.sap_rule.specs.Named.{HaveNamesOfTheirOwn, rule_named}
use Rattle.sap_rule.specs.WellMade.{IsRuleOver, IsWellMade}
use Rattle.sap_rule.specs.declared.rule.Rule.{Rule}
use Rattle.sap_rule.specs.declared.theory.Theory.{Theory}
use Rattle.sap_read.specs.Files.{FileContent, IsRunnable}
use Rattle.sap_read.specs.Printable.{IsPrintableFile}
use Rattle.sap_read.specs.declared.limits.TheConstants.{MOST_NEW_NAME_BYTES}
use Rattle.sap_theory.specs.ReadAgain.{PassesChecks}
use Rattle.sap_theory.specs.TheoryCauses.{IsLinear, IsPlainRule, first_repeated, rule_names}
use Rattle.sap_restrict.specs.Laws.{StandardClosedLaw}
use Rattle.sap_gen.specs.Kept.{IsClosedTheory, file_theory, inlined_file_theory}
use Rattle.sap_read.specs.OwnNames.{HaveOwnNames, IsNamedApart, statement_names}
use Rattle.sap_templates.specs.Templates.{rules_of}
use Rattle.sap_gen.proofs.Lemmas.Closed.{inlined_theory_closed, theory_closed}
use Rattle.sap_gen.proofs.Printable.Faultless.{closed_faultless}
use Rattle.sap_gen.proofs.Printable.OwnNames.{Apart, inlined_theory_names, other, theory_names}
use Rattle.sap_gen.proofs.Printable.Scopes.{all_of_each, each_of_all}
use Rattle.sap_gen.proofs.Printable.Theories.{SettledLaws, rules_linear}

-- names that are apart

not_among : (x : List ℕ) (ys : List (List ℕ)) → Apart x ys → list_any (λ y. bytes_eq y x) ys ≡ false
not_among x [] h = refl
not_among x (y ∷ ys) h = ap (λ b. b || list_any (λ z. bytes_eq z x) ys) (other y x h.0) ∙ not_among x ys h.1

unrepeated : (xs : List (List ℕ)) → IsDistinct bytes_eq xs → first_repeated xs ≡ None
unfolding IsDistinct
unrepeated [] h = refl
unrepeated (x ∷ xs) h = ap (λ b. cond b (Some x) (first_repeated xs)) (not_among x xs h.0) ∙ unrepeated xs h.1

no_such_rule : (n : List ℕ) (rs : List Rule) → rule_named rs n ≡ None → list_any (λ y. bytes_eq y n) (rule_names rs) ≡ false
no_such_rule n [] h = refl
no_such_rule n (r ∷ rs) h = go (bytes_eq r.name n) refl (no_such_rule n rs)
  where
    go : (b : Bool) → bytes_eq r.name n ≡ b → (rule_named rs n ≡ None → list_any (λ y. bytes_eq y n) (rule_names rs) ≡ false) → list_any (λ y. bytes_eq y n) (rule_names (r ∷ rs)) ≡ false
    go true e rest = absurd (let z : Some r ≡ None = ap (λ b. cond b (Some r) (rule_named rs n)) (sym e) ∙ h in cc)
    go false e rest = ap (λ b. b || list_any (λ y. bytes_eq y n) (rule_names rs)) e ∙ rest (ap (λ b. cond b (Some r) (rule_named rs n)) (sym e) ∙ h)

rules_unrepeated : (rs : List Rule) → HaveNamesOfTheirOwn rs → first_repeated (rule_names rs) ≡ None
rules_unrepeated [] h = refl
rules_unrepeated (r ∷ rs) h = ap (λ b. cond b (Some r.name) (first_repeated (rule_names rs))) (no_such_rule r.name rs h.0) ∙ rules_unrepeated rs h.1

-- formulas

faultless_restrictions : (g : Sig) (rs : List RestrictionForm) → EachIn (λ (r : RestrictionForm). IsClosed g r.formula) rs → EachIn (λ (r : RestrictionForm). HasNoFault g false r.formula) rs
faultless_restrictions g [] h = tt
faultless_restrictions g (r ∷ rs) h = (closed_faultless g r.formula h.0, faultless_restrictions g rs h.1)

faultless_lemmas : (g : Sig) (ls : List LemmaForm) → EachIn (λ (l : LemmaForm). IsClosed g l.formula) ls → EachIn (λ (l : LemmaForm). HasNoFault g false l.formula) ls
faultless_lemmas g [] h = tt
faultless_lemmas g (l ∷ ls) h = (closed_faultless g l.formula h.0, faultless_lemmas g ls h.1)

-- rules

plain_rules : (g : Sig) (rs : List Rule) → EachIn (IsWellMade g) rs → EachIn (λ (r : Rule). All IsLinear r.acts) rs → EachIn IsPlainRule rs
plain_rules g [] h k = tt
plain_rules g (r ∷ rs) h k = (record { shape = h.0.shape; acts = k.0 }, plain_rules g rs h.1 k.1)

-- what is said of formulas and of rules
pub record CheckLaws : Type 0 where
  pub seven : StandardClosedLaw
  pub closed : ClosedLaw
  pub settled : SettledLaws
  pub made : (g : Sig) (p q : Proc) → arity_of g pair_name ≡ Some 2 → IsReady g p → node_count p < 2 ^ 64 → IsAnnotation p q → All (IsWellMade g) (rules_of q)
  pub names : (p : Proc) → HaveNamesOfTheirOwn (rules_of p)

module _ (laws : CheckLaws) (f : FileContent) (run : IsRunnable f) (fine : IsPrintableFile MOST_FILE_NAME_BYTES MOST_NEW_NAME_BYTES f) (apart : IsNamedApart f) where
  made : All (IsWellMade f.signature) (rules_of f.process)
  made =
      let small : node_count run.process < 2 ^ 64 = omega (arith, run.small) in
      laws.made f.signature run.process f.process run.pairs run.ready small run.annotation

  plain : All IsPlainRule (rules_of f.process)
  plain =
      all_of_each IsPlainRule (rules_of f.process)
      (plain_rules f.signature (rules_of f.process) (each_of_all (IsWellMade f.signature) (rules_of f.process) made) (each_of_all (λ (r : Rule). All IsLinear r.acts) (rules_of f.process) (rules_linear laws.settled f run fine)))

  -- a theory with the file's name and signature, and the rules of its process
  abbrev theory : List RestrictionForm → List LemmaForm → Theory
  theory rs ls = record { name = f.name; signature = f.signature; rules = rules_of f.process; restrictions = rs; lemmas = ls }

  passes : (rs : List RestrictionForm) (ls : List LemmaForm) → IsClosedTheory (theory rs ls) → HaveOwnNames rs ls → PassesChecks (theory rs ls)
  passes rs ls c n = record {
    rule_names = rules_unrepeated (rules_of f.process) (laws.names f.process);
    names = unrepeated (statement_names rs ls) n;
    over = All-weaker (IsWellMade f.signature) (IsRuleOver f.signature) (λ r h. h.over) (rules_of f.process) made;
    plain = plain;
    restrictions = all_of_each (λ (r : RestrictionForm). HasNoFault f.signature false r.formula) rs (faultless_restrictions f.signature rs c.restrictions);
    lemmas = all_of_each (λ (l : LemmaForm). HasNoFault f.signature false l.formula) ls (faultless_lemmas f.signature ls c.lemmas);
  }

  pub theory_passes : PassesChecks (file_theory f)
  theory_passes = passes (file_theory f).restrictions (file_theory f).lemmas (theory_closed laws.seven laws.closed f run) (theory_names f apart)

  pub inlined_theory_passes : PassesChecks (inlined_file_theory f)
  inlined_theory_passes = passes (inlined_file_theory f).restrictions (inlined_file_theory f).lemmas (inlined_theory_closed laws.seven laws.closed f run) (inlined_theory_names f apart)
