-- The theories of a process.
use Rattle.std.specs.Prelude.{ℕ, List, [], ◌++◌, map}
use Rattle.sap_terms.specs.Signature.{Sig}
use Rattle.sap_formula.specs.Form.{Form, RestrictionForm, LemmaForm}
use Rattle.sap_process.specs.Proc.{Proc}
use Rattle.sap_restrict.specs.Inline.{formulas, inlined}
use Rattle.sap_restrict.specs.Restrictions.{needed_restrictions}
use Rattle.sap_rule.specs.declared.theory.Theory.{Theory}
use Rattle.sap_templates.specs.Templates.{rules_of}

-- the rules of the process; the restrictions that it needs, each under its name, before those of its file; and the lemmas of
-- its file
abbrev pub theory_of : List ℕ → Sig → Proc → List RestrictionForm → List LemmaForm → Theory
theory_of name sig p restrictions lemmas =
    record { name = name; signature = sig; rules = rules_of p; restrictions = needed_restrictions p ++ restrictions; lemmas = lemmas }

-- the lemma under these formulas, which it carries itself
abbrev pub inlined_lemma : List Form → LemmaForm → LemmaForm
inlined_lemma us l = record { name = l.name; attributes = l.attributes; mode = l.mode; formula = inlined l.mode us l.formula }

-- the same rules without restrictions: each lemma carries all of them itself
abbrev pub inlined_theory_of : List ℕ → Sig → Proc → List RestrictionForm → List LemmaForm → Theory
inlined_theory_of name sig p restrictions lemmas = record {
  name = name;
  signature = sig;
  rules = rules_of p;
  restrictions = [];
  lemmas = map (inlined_lemma (formulas (needed_restrictions p ++ restrictions))) lemmas;
}
