-- Rules looked up by their names, and one rule more.
use Rattle.std.proofs.Common.{◌≡◌, ◌+◌, ◌<◌, ℕ, Bool, true, false, List, [], ◌∷◌, ◌++◌, length, Some, None, option_map, if◌then◌else◌, get_or, take, refl, ap, ◌∙◌}
use Rattle.std.specs.List.{All}
use Rattle.std.specs.Str.{bytes_eq}
use Rattle.std.proofs.lemmas.List.Elements.{All-head, All-tail, All-push}
use Rattle.std.proofs.lemmas.List.{map-append, take_more}
use Rattle.sap_terms.specs.Signature.{Sig}
use Rattle.sap_rule.specs.Named.{rule_named}
use Rattle.sap_rule.specs.declared.rule.Rule.{Rule}
use Rattle.sap_steps.specs.code.Ready.{IsReady, rules_of, ready_named}
use Rattle.sap_steps.specs.declared.prepared.Prepared.{Prepared}

pub ready-rule : (ps : List Prepared) (n : List ℕ) → rule_named (rules_of ps) n ≡ option_map (λ (p : Prepared). p.rule) (ready_named ps n)
ready-rule [] n = refl
ready-rule (p ∷ ps) n = by (bytes_eq p.rule.name n) (ready-rule ps n) where
  by : (b : Bool) → rule_named (rules_of ps) n ≡ option_map (λ (p : Prepared). p.rule) (ready_named ps n) → (if b then Some p.rule else rule_named (rules_of ps) n) ≡ option_map (λ (p : Prepared). p.rule) (if b then Some p else ready_named ps n)
  by true later = refl
  by false later = later

pub ready-all : (P : Prepared → Type 0) (ps : List Prepared) (n : List ℕ) (p : Prepared) → All P ps → ready_named ps n ≡ Some p → P p
ready-all P [] n p all e = cc
ready-all P (q ∷ ps) n p all e = by (bytes_eq q.rule.name n) e (ready-all P ps n p (All-tail P q ps all)) where
  by : (b : Bool) → (if b then Some q else ready_named ps n) ≡ Some p → (ready_named ps n ≡ Some p → P p) → P p
  by true e later = let same : q ≡ p = cc in rw (← same) (All-head P q ps all)
  by false e later = later e

pub no_rule : (ps : List Prepared) (n : List ℕ) → ready_named ps n ≡ None → rule_named (rules_of ps) n ≡ None
no_rule ps n e = ready-rule ps n ∙ ap (option_map (λ (p : Prepared). p.rule)) e

pub its_rule : (ps : List Prepared) (n : List ℕ) (p : Prepared) → ready_named ps n ≡ Some p → rule_named (rules_of ps) n ≡ Some p.rule
its_rule ps n p e = ready-rule ps n ∙ ap (option_map (λ (q : Prepared). q.rule)) e

pub ready_more : (g : Sig) (ps after : List Prepared) (p : Prepared) (items : List Rule) (i : ℕ) (r : Rule) → All (IsReady g) ps × (rules_of ps ≡ take i items) → after ≡ ps ++ p ∷ [] → i < length items → r ≡ get_or items i r
    → IsReady g p → p.rule ≡ r → All (IsReady g) after × (rules_of after ≡ take (i + 1) items)
ready_more g ps after p items i r (ready, rules) e lt at one is =
    let grown : rules_of (ps ++ p ∷ []) ≡ take (i + 1) items = map-append (λ (q : Prepared). q.rule) ps (p ∷ []) ∙ rw (rules, is) (rw (take_more items i r lt, ← at) refl) in
    rw e (All-push (IsReady g) ps p ready one, grown)
