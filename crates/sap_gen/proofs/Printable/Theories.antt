-- Both theories of a file that can be run and printed can be printed, and their rules show linear facts alone.
use Rattle.std.proofs.Common.{◌≡◌, ◌≤◌, ◌<◌, ◌^◌, ℕ, false, List, [], arith}
use Rattle.std.specs.Prelude.{All, map, not}
use Rattle.std.proofs.lemmas.List.Elements.{All-filter, All-nil, All-weaker}
use Rattle.sap_terms.specs.declared.fact.Fact.{Fact}
use Rattle.sap_terms.specs.declared.limits.TheConstants.{MOST_FILE_NAME_BYTES, MOST_THEORY_NAME_BYTES}
use Rattle.sap_terms.specs.Signature.{Sig}
use Rattle.sap_terms.specs.declared.signature.Symbol.{Symbol}
use Rattle.sap_formula.specs.Form.{LemmaForm, RestrictionForm}
use Rattle.sap_formula.specs.Truth.{EachIn}
use Rattle.sap_locks.specs.Annotation.{IsAnnotation}
use Rattle.sap_process.specs.Proc.{Proc, node_count}
use Rattle.sap_process.specs.Ready.{IsReady}
use Rattle.sap_restrict.specs.Inline.{formulas}
use Rattle.sap_restrict.specs.Needed.{needed}
use Rattle.sap_restrict.specs.Restrictions.{needed_restrictions}
use Rattle.sap_rule.specs.declared.rule.Rule.{Rule}
use Rattle.sap_read.specs.Files.{FileContent, IsRunnable}
use Rattle.sap_read.specs.Printable as file
use Rattle.sap_read.specs.Printable.{IsPrintableAct, IsPrintableFile}
use Rattle.sap_read.specs.declared.limits.TheConstants.{MOST_NEW_NAME_BYTES}
use Rattle.sap_grammar.specs.Printable.{IsPrintableFact}
use Rattle.sap_theory.specs.PrintableTheory.{IsPrintable, IsPrintableLemma, IsPrintableRestriction, IsPrintableRule, IsPrintableSymbol}
use Rattle.sap_theory.specs.SignatureText.{is_brought}
use Rattle.sap_gen.specs.Kept.{all_restrictions, file_theory, inlined_file_theory}
use Rattle.sap_templates.specs.Templates.{rules_of}
use Rattle.sap_gen.specs.Theories.{inlined_lemma}
use Rattle.sap_translate.specs.Settled.{HasPlainLookups, HasSmallLabels}
use Rattle.sap_gen.proofs.Lists.{each_both}
use Rattle.sap_gen.proofs.Printable.Scopes.{all_of_each, each_of_all, printed_acts}
use Rattle.sap_gen.proofs.Printable.Rules.{ArePrinted, IsPrintedRule}
use Rattle.sap_gen.proofs.Printable.Places.{rules_printed}
use Rattle.sap_gen.proofs.Printable.Statements.{carrying_printed, named_printed, no_constant}
use Rattle.sap_gen.proofs.Printable.Wider.{lemma_wider, name_wider, process_wider, restriction_wider, symbol_wider}

abbrev short : ℕ
short = MOST_FILE_NAME_BYTES

abbrev wide : ℕ
wide = MOST_NEW_NAME_BYTES

abbrev long : ℕ
long = MOST_THEORY_NAME_BYTES

le : short ≤ long
le = omega arith

within : wide ≤ long
within = omega arith

room : 330 ≤ long
room = omega arith

-- what is said of annotated processes
pub record SettledLaws : Type 0 where
  pub labels : (p q : Proc) → node_count p < 2 ^ 64 → IsAnnotation p q → HasSmallLabels q
  pub lookups : (g : Sig) (p q : Proc) → IsReady g p → IsAnnotation p q → HasPlainLookups q

module _ (laws : SettledLaws) (f : FileContent) (run : IsRunnable f) (fine : IsPrintableFile short wide f) where
  printed : ArePrinted long room f.signature (rules_of f.process)
  printed =
      let small : node_count run.process < 2 ^ 64 = omega (arith, run.small) in
      rules_printed long room f.signature f.process fine.levels (process_wider wide long within f.signature f.process fine.process) (laws.labels run.process f.process small run.annotation)
      (laws.lookups f.signature run.process f.process run.ready run.annotation)

  printable_rule : (r : Rule) → IsPrintedRule long f.signature r → IsPrintableRule long f.signature r
  printable_rule r h = record {
    name = h.name;
    left = all_of_each (IsPrintableFact long f.signature) r.left h.left;
    acts = all_of_each (IsPrintableFact long f.signature) r.acts (printed_acts long room f.signature r.acts h.acts);
    right = all_of_each (IsPrintableFact long f.signature) r.right h.right;
  }

  all_rules : All (IsPrintedRule long f.signature) (rules_of f.process)
  all_rules = all_of_each (IsPrintedRule long f.signature) (rules_of f.process) printed

  symbols : All (IsPrintableSymbol long) f.signature.symbols
  symbols = All-weaker (file.IsDeclarable short) (IsPrintableSymbol long) (symbol_wider short long le) f.signature.symbols fine.symbols

  restrictions : EachIn (IsPrintableRestriction long f.signature) (all_restrictions f)
  restrictions =
      let free = no_constant long f.signature (each_of_all (IsPrintableSymbol long) f.signature.symbols symbols) in
      each_both (IsPrintableRestriction long f.signature) (needed_restrictions f.process) f.restrictions (named_printed long room f.signature free (needed f.process))
      (each_of_all (IsPrintableRestriction long f.signature) f.restrictions
      (All-weaker (file.IsPrintableRestriction short f.signature) (IsPrintableRestriction long f.signature) (restriction_wider short long le f.signature) f.restrictions fine.restrictions))

  lemmas : All (IsPrintableLemma long f.signature) f.lemmas
  lemmas = All-weaker (file.IsPrintableLemma short f.signature) (IsPrintableLemma long f.signature) (lemma_wider short long le f.signature) f.lemmas fine.lemmas

  -- a theory of the file with these restrictions and lemmas
  printable : (rs : List RestrictionForm) (ls : List LemmaForm) → All (IsPrintableRestriction long f.signature) rs → All (IsPrintableLemma long f.signature) ls → IsPrintable long (record { name = f.name; signature = f.signature; rules = rules_of f.process; restrictions = rs; lemmas = ls })
  printable rs ls h k = record {
    room = omega arith;
    is_map = fine.is_map;
    pairs = fine.pairs;
    builtins = run.builtins;
    name = name_wider short long le f.name fine.name;
    symbols = All-filter (λ (s : Symbol). not (is_brought f.signature s.name)) (IsPrintableSymbol long) f.signature.symbols symbols;
    rules = All-weaker (IsPrintedRule long f.signature) (IsPrintableRule long f.signature) printable_rule (rules_of f.process) all_rules;
    restrictions = h;
    lemmas = k;
  }

  pub theory_printable : IsPrintable long (file_theory f)
  theory_printable = printable (all_restrictions f) f.lemmas (all_of_each (IsPrintableRestriction long f.signature) (all_restrictions f) restrictions) lemmas

  pub inlined_theory_printable : IsPrintable long (inlined_file_theory f)
  inlined_theory_printable =
      let each = carrying_printed long f.signature (all_restrictions f) restrictions f.lemmas (each_of_all (IsPrintableLemma long f.signature) f.lemmas lemmas) in
      printable [] (map (inlined_lemma (formulas (all_restrictions f))) f.lemmas) (All-nil (IsPrintableRestriction long f.signature))
      (all_of_each (IsPrintableLemma long f.signature) (map (inlined_lemma (formulas (all_restrictions f))) f.lemmas) each)

  -- what the rules show

  linear_rule : (r : Rule) → IsPrintedRule long f.signature r → All (λ (h : Fact). h.persistent ≡ false) r.acts
  linear_rule r h = All-weaker (IsPrintableAct long f.signature) (λ (a : Fact). a.persistent ≡ false) (λ a k. k.linear) r.acts (all_of_each (IsPrintableAct long f.signature) r.acts h.acts)

  pub rules_linear : All (λ (r : Rule). All (λ (h : Fact). h.persistent ≡ false) r.acts) (rules_of f.process)
  rules_linear = All-weaker (IsPrintedRule long f.signature) (λ (r : Rule). All (λ (h : Fact). h.persistent ≡ false) r.acts) linear_rule (rules_of f.process) all_rules
