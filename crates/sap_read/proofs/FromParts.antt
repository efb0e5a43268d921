-- From the parts of a file's entries to its process.
use Rattle.std.proofs.Common.{◌≡◌, ℕ, List, [], ◌∷◌, ◌++◌, Option, Some, None, inr, refl, sym, ap, subst, ◌∙◌, drop}
use Rattle.std.specs.Prelude.{is_none, Bool, true, false}
use Rattle.std.specs.Option.{option_to_list}
use Rattle.sap_terms.specs.Signature.{Sig}
use Rattle.sap_process.specs.Proc.{Proc}
use Rattle.sap_statements.specs.declared.statement.Statement.{Statement}
use Rattle.sap_grammar.specs.Reading.{name_at}
use Rattle.sap_grammar.specs.Words.{Word, mark, name, number, quoted}
use Rattle.sap_macro.specs.Expansion.{expansion}
use Rattle.sap_macro.specs.Sources.{definitions, written}
use Rattle.sap_macro.specs.Written.{Definition}
use Rattle.sap_uses.specs.FaultCauses.{Holds, IsMacroCause}
use Rattle.sap_uses.specs.declared.fault.MacroFault.{MacroFault}
use Rattle.sap_read.specs.Causes.{fault_of_uses, unlabelled}
use Rattle.sap_read.specs.FileProcess.{main_of}
use Rattle.sap_read.specs.Identifiers.{identifiers_of}
use Rattle.sap_read.specs.Item.{Body}
use Rattle.sap_read.specs.code.Judged.{IsRefusedBefore, IsWhole}
use Rattle.sap_read.specs.code.Parting.{AreParts}
use Rattle.sap_read.specs.declared.written.FileProcesses.{FileProcesses}
use Rattle.sap_read.specs.declared.fault.ReadFault.{ReadFault}

-- a file with a process has one that is its own
pub no_main : (bs : List Body) (b : Body) → unlabelled bs ≡ b ∷ [] → main_of bs ≡ None → ⊥
no_main [] b e h = absurd (cc (e))
no_main (c ∷ bs) b e h = by (is_none c.label) refl (no_main bs b) where
  by : (t : Bool) → is_none c.label ≡ t → (unlabelled bs ≡ b ∷ [] → main_of bs ≡ None → ⊥) → ⊥
  by true q later = let there : main_of (c ∷ bs) ≡ Some c.content = rw q refl in absurd (cc (there, h))
  by false q later = later (rw q at e) (rw q at h)

module _ (g : Sig) (clash : Option (List ℕ)) (bs : List Body) (ss : List Statement) (p : FileProcesses) (parts : AreParts bs ss clash p) where
  pub whole : (names : List (List ℕ)) (q : Proc) → q ≡ (expansion (definitions p.definitions) names (written p.main.value)).process
      → ((f : MacroFault) → ¬ Holds g (definitions p.definitions) (written p.main.value) f) → IsWhole g clash names bs ss q
  whole names q made none = record {
    nothing = parts.nothing;
    expanded = record {
      main = written p.main.value;
      is_main = parts.main_is;
      no_cause = λ f. subst (λ (es : List Definition). ¬ Holds g es (written p.main.value) f) parts.definitions_are (none f);
      whole = ap (λ (es : List Definition). (expansion es names (written p.main.value)).process) (sym parts.definitions_are) ∙ sym made;
    };
  }

  pub misused : (f : MacroFault) (e : ReadFault) → e ≡ fault_of_uses f → IsMacroCause g (definitions p.definitions) (written p.main.value) f → IsRefusedBefore g clash bs ss e
  misused f e told c = inr (record {
    nothing = parts.nothing;
    fault = f;
    is = told;
    unexpanded = record {
      main = written p.main.value;
      is_main = parts.main_is;
      cause = subst (λ (es : List Definition). IsMacroCause g es (written p.main.value) f) parts.definitions_are c;
    };
  })

-- the identifier that stands first, and those behind it
pub identifiers_turn : (ws : List Word) → identifiers_of ws ≡ option_to_list (name_at ws) ++ identifiers_of (drop 1 ws)
identifiers_turn [] = refl
identifiers_turn (mark s ∷ ws) = refl
identifiers_turn (name x ∷ ws) = refl
identifiers_turn (number n ∷ ws) = refl
identifiers_turn (quoted s ∷ ws) = refl
