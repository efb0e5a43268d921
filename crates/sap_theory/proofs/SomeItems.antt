-- Words are items of a theory as they are written, or have a first fault.
use Rattle.std.proofs.Common.{◌≡◌, ℕ, Bool, true, false, List, [], ◌∷◌, Option, Some, None, inl, inr, refl, ap}
use Rattle.std.specs.Prelude.{◌⊎◌, codes}
use Rattle.sap_terms.specs.Signature.{Sig}
use Rattle.sap_rule.specs.declared.rule.Rule.{Rule}
use Rattle.sap_grammar.specs.Words.{Word, mark, starts}
use Rattle.sap_grammar.specs.Reading.{Read}
use Rattle.sap_grammar.specs.Cut.{Placed, words, first_line}
use Rattle.sap_grammar.specs.Declarations.{Declaration, Declares, declares_builtins, declares_functions}
use Rattle.sap_grammar.specs.Items.{Standing, items_end, items_more, no_end, bad_item, later_item}
use Rattle.sap_grammar.specs.ItemReading.{declared_in}
use Rattle.sap_statements.specs.declared.statement.Statement.{Statement}
use Rattle.sap_statements.specs.Statements.{IsStatement}
use Rattle.sap_theory.specs.declared.limits.TheConstants.{THEORY_LIMITS}
use Rattle.sap_theory.specs.TheoryGrammar.{TheoryItem, builtins, functions, rule, statement, IsWrittenItem, item_builtins, item_functions, item_statement}
use Rattle.sap_theory.specs.WrittenItems.{AreWrittenItems, IsSomeWrittenItem, IsFaultyTheory}
use Rattle.sap_grammar.specs.TermLaws.{AreRead, AreSpelled}
use Rattle.sap_grammar.specs.ItemLaws.{ItemLaws}
use Rattle.sap_statements.specs.StatementLaws.{StatementLaws}
use Rattle.sap_theory.specs.code.RuleReading.{a_rule}
use Rattle.sap_theory.proofs.ItemTurns.{no_ruled, no_other}
use Rattle.sap_grammar.proofs.ReadingLaws.Items.{ItemOrNone, ItemsOrFault, items_or_fault}
use Rattle.sap_theory.proofs.RulesRead.{rule_is, no_rule, no_other_rule}

-- what declares something is an item
declared_item : (g : Sig) {ws : List Word} {ds : List Declaration} → Declares ws ds → (v : TheoryItem) × IsWrittenItem g THEORY_LIMITS v ws
declared_item g (declares_builtins {bs = bs} r) = (builtins bs, item_builtins r)
declared_item g (declares_functions {ss = ss} r) = (functions ss, item_functions r)

module _ (facts : AreRead) (too : AreSpelled) (laws : ItemLaws) (stated : StatementLaws) where
  -- the words are an item under the signature, or under none
  abbrev OrNone : Sig → List Word → Type 0
  OrNone g ws = ItemOrNone (IsWrittenItem g THEORY_LIMITS) IsSomeWrittenItem ws

  rule_or_none : (g : Sig) (ws : List Word) → starts (codes "rule") ws ≡ true → OrNone g ws
  rule_or_none g ws s = by (a_rule g THEORY_LIMITS ws) refl
    where
      by : (o : Read Rule) → a_rule g THEORY_LIMITS ws ≡ o → OrNone g ws
      by None e = inr (λ it. no_ruled s (no_rule facts too g THEORY_LIMITS ws e) it.is)
      by (Some (r, [])) e = inl (rule r, rule_is facts g THEORY_LIMITS r ws e)
      by (Some (r, w ∷ b)) e = inr (λ it. no_ruled s (no_other_rule facts too g THEORY_LIMITS ws r (w ∷ b) e (λ none. absurd (cc (none)))) it.is)

  item_or_none : (g : Sig) (ws : List Word) → OrNone g ws
  item_or_none g ws = by_rule (starts (codes "rule") ws) refl
    where
      by_stated : starts (codes "rule") ws ≡ false → declared_in ws ≡ None
          → ((s : Statement) × IsStatement g THEORY_LIMITS s ws) ⊎ ((s : Statement) → IsStatement g THEORY_LIMITS s ws → ⊥) → OrNone g ws
      by_stated b e (inl r) = inl (statement r.0, item_statement r.1)
      by_stated b e (inr never) = inr (λ it. no_other laws b e (λ h s r. let t = stated.too h g THEORY_LIMITS s ws r in never t.0 t.1) it.is)

      by_declared : starts (codes "rule") ws ≡ false → (o : Option (List Declaration)) → declared_in ws ≡ o → OrNone g ws
      by_declared b None e = by_stated b e (stated.some g THEORY_LIMITS ws)
      by_declared b (Some ds) e = inl (declared_item g (laws.declares ws ds e))

      by_rule : (t : Bool) → starts (codes "rule") ws ≡ t → OrNone g ws
      by_rule true b = rule_or_none g ws b
      by_rule false b = by_declared b (declared_in ws) refl

  -- the pieces are items, or the first fault is on some line
  abbrev pub AreOrFault : Sig → ℕ → List (List Placed) → Type 0
  AreOrFault g last cut = ItemsOrFault (IsWrittenItem g THEORY_LIMITS) IsSomeWrittenItem last cut

  pub written_or_fault : (g : Sig) (last : ℕ) (cut : List (List Placed)) → AreOrFault g last cut
  written_or_fault g last cut = items_or_fault (IsWrittenItem g THEORY_LIMITS) IsSomeWrittenItem last (λ v ws r. record { sig = g; item = v; is = r }) (item_or_none g) cut
