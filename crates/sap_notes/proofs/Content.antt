-- What a file says is one, and is what is written.
use Rattle.std.proofs.Common.{◌≡◌, ℕ, List, Some, map, sym, ap, ◌∙◌, subst}
use Rattle.sap_text.specs.declared.token.Token.{Token}
use Rattle.sap_grammar.specs.Cut.{Placed}
use Rattle.sap_grammar.specs.Words.{words_of}
use Rattle.sap_macro.specs.Expansion.{expansion}
use Rattle.sap_macro.specs.Sources.{definitions, written}
use Rattle.sap_macro.specs.Written.{Definition, Written}
use Rattle.sap_process.specs.Proc.{Proc}
use Rattle.sap_read.specs.FileExpansions.{IsFileExpansion}
use Rattle.sap_read.specs.FileProcess.{IsExpanded, definitions_of, main_of}
use Rattle.sap_read.specs.Files.{IsFileProcess, IsParted}
use Rattle.sap_read.specs.FileTokens.{HasTokens}
use Rattle.sap_read.specs.Identifiers.{identifiers_of}
use Rattle.sap_read.specs.Item.{Standing, bodies, signature_of, statements}
use Rattle.sap_read.specs.ItemGrammar.{AreItems}
use Rattle.sap_read.specs.WrittenFiles.{IsWrittenFile}
use Rattle.sap_terms.specs.Signature.{Sig}
use Rattle.sap_uses.specs.FaultCauses.{Holds}
use Rattle.sap_read.specs.declared.written.WrittenFile.{WrittenFile}
use Rattle.sap_statements.specs.Statements.{formula_of}
use Rattle.sap_notes.specs.Contents.{Content, HasContent}

-- what is written says this
abbrev pub content_of : WrittenFile → Proc → Content
content_of w p = record { signature = w.declared.signature; definitions = definitions w.processes.definitions; process = written w.processes.main.value; whole = p; formulas = map formula_of w.statements }

-- its process is the file's
whole_there : (z : List ℕ) (w : WrittenFile) (p : Proc) (is : IsWrittenFile z w) → IsFileExpansion w p → IsFileProcess z is.tokens is.standing p
whole_there z w p is expanded = record {
  main = written w.processes.main.value;
  is_main = is.main_is;
  no_cause = λ e h.
      expanded.free e
      (subst (λ (s : Sig). Holds s (definitions w.processes.definitions) (written w.processes.main.value) e) (sym is.signature)
      (subst (λ (es : List Definition). Holds (signature_of is.standing) es (written w.processes.main.value) e) (sym is.definitions_are) h));
  whole = sym (λ i. (expansion (is.definitions_are i) (is.identifiers i) (written w.processes.main.value)).process) ∙ sym expanded.is;
}

pub has_content : (z : List ℕ) (ts : List Token) (w : WrittenFile) (p : Proc) → HasTokens z ts → IsWrittenFile z w → IsFileExpansion w p → HasContent z ts (content_of w p)
has_content z ts w p tokens is expanded = record {
  name = w.name;
  cut = is.cut;
  standing = is.standing;
  parted = subst (λ (us : List Token). IsParted z us w.name is.cut) (tokens.only is.tokens is.parted.tokens) is.parted;
  items = is.items;
  signature_is = is.signature;
  definitions_are = is.definitions_are;
  process_is = is.main_is;
  whole_is = subst (λ (us : List Token). IsFileProcess z us is.standing p) (tokens.only is.tokens is.parted.tokens) (whole_there z w p is expanded);
  formulas_are = ap (map formula_of) is.statements_are;
}

-- bytes are parted in one way, and pieces spell one list of items
pub record AreOnce : Type 0 where
  pub tokens : (z : List ℕ) (ts us : List Token) (x y : List ℕ) (cut other : List (List Placed)) → IsParted z ts x cut → IsParted z us y other → ts ≡ us
  pub cuts : (z : List ℕ) (ts us : List Token) (x y : List ℕ) (cut other : List (List Placed)) → IsParted z ts x cut → IsParted z us y other → cut ≡ other
  pub items : (cut : List (List Placed)) (is js : List Standing) → AreItems (signature_of is) cut is → AreItems (signature_of js) cut js → is ≡ js

same_some : (p q : Written) → Some p ≡ Some q → p ≡ q
same_some p q e = cc

same_content : (f h : Content) → f.signature ≡ h.signature → f.definitions ≡ h.definitions → f.process ≡ h.process → f.whole ≡ h.whole → f.formulas ≡ h.formulas → f ≡ h
same_content f h a b c w d = λ i. record { signature = a i; definitions = b i; process = c i; whole = w i; formulas = d i }

one_expansion : (g h : Sig) (names : List (List ℕ)) (is : List Standing) (p q : Proc) → IsExpanded g names (bodies is) p → IsExpanded h names (bodies is) q → p ≡ q
one_expansion g h names is p q a b =
    sym a.whole ∙ (ap (λ (m : Written). (expansion (definitions_of (bodies is)) names m).process) (same_some a.main b.main (sym a.is_main ∙ b.is_main)) ∙ b.whole)

module _ (once : AreOnce) (z : List ℕ) (ts us : List Token) (f h : Content) (a : HasContent z ts f) (b : HasContent z us h) where
  pub one_tokens : ts ≡ us
  one_tokens = once.tokens z ts us a.name b.name a.cut b.cut a.parted b.parted

  same_standing : a.standing ≡ b.standing
  same_standing =
      let cuts : a.cut ≡ b.cut = once.cuts z ts us a.name b.name a.cut b.cut a.parted b.parted in
      once.items b.cut a.standing b.standing (subst (λ (c : List (List Placed)). AreItems (signature_of a.standing) c a.standing) cuts a.items) b.items

  same_whole : f.whole ≡ h.whole
  same_whole = one_expansion (signature_of a.standing) (signature_of b.standing) (identifiers_of (words_of z us)) b.standing f.whole h.whole
      (subst (λ (is : List Standing). IsExpanded (signature_of a.standing) (identifiers_of (words_of z us)) (bodies is) f.whole) same_standing
      (subst (λ (vs : List Token). IsExpanded (signature_of a.standing) (identifiers_of (words_of z vs)) (bodies a.standing) f.whole) one_tokens a.whole_is)) b.whole_is

  pub one_content : f ≡ h
  one_content =
      let same = same_standing in
      same_content f h (a.signature_is ∙ (ap signature_of same ∙ sym b.signature_is))
      (a.definitions_are ∙ (ap (λ (is : List Standing). definitions_of (bodies is)) same ∙ sym b.definitions_are))
      (same_some f.process h.process (sym a.process_is ∙ (ap (λ (is : List Standing). main_of (bodies is)) same ∙ b.process_is))) same_whole
      (a.formulas_are ∙ (ap (λ (is : List Standing). map formula_of (statements is)) same ∙ sym b.formulas_are))
