-- Short theories can be printed, and pass the checks of who reads them back, where the file's theory can and does.
use Rattle.std.proofs.Common.{◌≡◌, ℕ, Bool, true, false, List, Option, Some, None, if◌then◌else◌, refl, sym, ap, subst, ◌∙◌}
use Rattle.std.specs.Prelude.{All, Contains}
use Rattle.std.specs.List.{list_any}
use Rattle.std.specs.Str.{bytes_eq}
use Rattle.std.proofs.lemmas.List.Elements.{All-contains}
use Rattle.std.proofs.lemmas.Bool.{or_parts, or_from}
use Rattle.sap_terms.specs.declared.fact.Fact.{Fact}
use Rattle.sap_grammar.specs.Printable.{IsPrintableFact}
use Rattle.sap_process.specs.Proc.{Proc}
use Rattle.sap_read.specs.Files.{FileContent}
use Rattle.sap_rule.specs.WellMade.{IsRuleOver}
use Rattle.sap_rule.specs.declared.rule.Rule.{Rule}
use Rattle.sap_rule.specs.declared.theory.Theory.{Theory}
use Rattle.sap_theory.specs.PrintableTheory.{IsPrintable, IsPrintableRule}
use Rattle.sap_theory.specs.ReadAgain.{PassesChecks}
use Rattle.sap_theory.specs.TheoryCauses.{IsPlainRule, first_repeated, rule_names}
use Rattle.sap_translate.specs.PlaceRules.{IsOfPlace}
use Rattle.sap_translate.specs.Sound.{SoundPlaces}
use Rattle.sap_templates.specs.Templates.{rules_of}
use Rattle.sap_gen.specs.Kept.{file_theory}
use Rattle.sap_gen.specs.Settled.{IsSettled}
use Rattle.sap_gen.specs.Short.{AreShort, no_rules, drops, keeps}
use Rattle.sap_gen.specs.ShortTheories.{IsShortTheory}
use Rattle.sap_gen.specs.Silent.{IsSilentRule}
use Rattle.sap_gen.proofs.Kept.{over_kept, settled_all, shape_kept, short_all}
use Rattle.sap_gen.proofs.Places.Shortening.{silent_placed}

-- names of fewer rules are repeated no more

names_fewer : {p : Proc} {rs ss : List Rule} → AreShort p rs ss → (n : List ℕ) → list_any (λ y. bytes_eq y n) (rule_names rs) ≡ false → list_any (λ y. bytes_eq y n) (rule_names ss) ≡ false
names_fewer no_rules n h = h
names_fewer (drops {r} {rs} x s) n h = names_fewer s n (or_parts (bytes_eq r.name n) (list_any (λ y. bytes_eq y n) (rule_names rs)) h).1
names_fewer (keeps {r} {rs} {ss} u k s) n h =
    let parts = or_parts (bytes_eq r.name n) (list_any (λ y. bytes_eq y n) (rule_names rs)) h in
    or_from (bytes_eq r.name n) (list_any (λ y. bytes_eq y n) (rule_names ss)) parts.0 (names_fewer s n parts.1)

no_first : (b : Bool) (x : List ℕ) (o : Option (List ℕ)) → (if b then Some x else o) ≡ None → (b ≡ false) × (o ≡ None)
no_first true x o h = cc
no_first false x o h = (refl, h)

first_none : (b : Bool) (x : List ℕ) (o : Option (List ℕ)) → b ≡ false → o ≡ None → (if b then Some x else o) ≡ None
first_none b x o h k = ap (λ y. if y then Some x else o) h ∙ k

repeated_fewer : {p : Proc} {rs ss : List Rule} → AreShort p rs ss → first_repeated (rule_names rs) ≡ None → first_repeated (rule_names ss) ≡ None
repeated_fewer no_rules h = h
repeated_fewer (drops {r} {rs} x s) h = repeated_fewer s (no_first (list_any (λ y. bytes_eq y r.name) (rule_names rs)) r.name (first_repeated (rule_names rs)) h).1
repeated_fewer (keeps {r} {rs} {ss} u k s) h =
    let parts = no_first (list_any (λ y. bytes_eq y r.name) (rule_names rs)) r.name (first_repeated (rule_names rs)) h in
    first_none (list_any (λ y. bytes_eq y r.name) (rule_names ss)) r.name (first_repeated (rule_names ss)) (names_fewer s r.name parts.0) (repeated_fewer s parts.1)

module _ (f : FileContent) (sound : SoundPlaces f.signature f.process) (placed : (r : Rule) → IsOfPlace f.process r → Contains (rules_of f.process) r) where
  -- a silent rule is as the rules are
  silent_is : (R : Rule → Type 0) → All R (rules_of f.process) → (q : Rule) → IsSilentRule f.process q → R q
  silent_is R all q x = All-contains R (rules_of f.process) q all (placed q (silent_placed f.process q x))

  module _ (shorts : List Rule) (short : AreShort f.process (rules_of f.process) shorts) where
    pub short_printable : (most : ℕ) → IsPrintable most (file_theory f) → IsPrintable most (record (file_theory f) { rules = shorts })
    short_printable most h = record {
      room = h.room;
      is_map = h.is_map;
      pairs = h.pairs;
      builtins = h.builtins;
      name = h.name;
      symbols = h.symbols;
      rules = short_all (IsPrintableRule most f.signature) kept short h.rules;
      restrictions = h.restrictions;
      lemmas = h.lemmas;
    } where
      kept : (r : Rule) (right : List Fact) → IsPrintableRule most f.signature r → IsSettled (IsSilentRule f.process) r.right right → IsPrintableRule most f.signature (record r { right = right })
      kept r right k s = record {
        name = k.name;
        left = k.left;
        acts = k.acts;
        right = settled_all (IsPrintableFact most f.signature) (λ q a x l n. (silent_is (IsPrintableRule most f.signature) h.rules q x).right) s k.right;
      }

    pub short_passes : PassesChecks (file_theory f) → PassesChecks (record (file_theory f) { rules = shorts })
    short_passes h = record {
      rule_names = repeated_fewer short h.rule_names;
      names = h.names;
      over = short_all (IsRuleOver f.signature) (over_kept f.signature f.process sound f.signature (λ q x. (silent_is (IsRuleOver f.signature) h.over q x).right)) short h.over;
      plain = short_all IsPlainRule plain_kept short h.plain;
      restrictions = h.restrictions;
      lemmas = h.lemmas;
    } where
      plain_kept : (r : Rule) (right : List Fact) → IsPlainRule r → IsSettled (IsSilentRule f.process) r.right right → IsPlainRule (record r { right = right })
      plain_kept r right k s = record {
        shape = shape_kept f.signature f.process sound (λ q x. (silent_is IsPlainRule h.plain q x).shape.right) r right k.shape s;
        acts = k.acts;
      }

-- the same of every short theory
pub theory_printable : (f : FileContent) (t : Theory) (most : ℕ) → SoundPlaces f.signature f.process → ((r : Rule) → IsOfPlace f.process r → Contains (rules_of f.process) r) → IsShortTheory f t
    → IsPrintable most (file_theory f) → IsPrintable most t
theory_printable f t most sound placed s h = subst (IsPrintable most) (sym s.others) (short_printable f sound placed t.rules s.rules most h)

pub theory_passes : (f : FileContent) (t : Theory) → SoundPlaces f.signature f.process → ((r : Rule) → IsOfPlace f.process r → Contains (rules_of f.process) r) → IsShortTheory f t
    → PassesChecks (file_theory f) → PassesChecks t
theory_passes f t sound placed s h = subst PassesChecks (sym s.others) (short_passes f sound placed t.rules s.rules h)
