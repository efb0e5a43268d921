-- From the parts of a theory to what it is read as.
use Rattle.std.proofs.Common.{◌≡◌, ℕ, List, drop, sym, ap, subst, ◌∙◌, Some, Option, Ok, Err, inl, inr}
use Rattle.sap_text.specs.declared.token.Token.{Token}
use Rattle.sap_terms.specs.Signature.{Sig, pairs_alone}
use Rattle.sap_formula.specs.Form.{RestrictionForm, LemmaForm}
use Rattle.sap_rule.specs.declared.rule.Rule.{Rule}
use Rattle.sap_grammar.specs.Words.{words_of}
use Rattle.sap_grammar.specs.Cut.{Placed, placed, IsCut, IsHeader, last_line}
use Rattle.sap_grammar.specs.Items.{Standing}
use Rattle.sap_grammar.specs.Signatures.{clash_from, signature_from}
use Rattle.sap_grammar.specs.ItemReading.{cut, header_of, declared_in_all}
use Rattle.sap_theory.specs.declared.fault.TheoryFault.{TheoryFault}
use Rattle.sap_theory.specs.TheoryGrammar.{TheoryItem, declarations, signature_of, items_of, rules_in, statements_in}
use Rattle.sap_theory.specs.WrittenItems.{AreWrittenItems}
use Rattle.sap_statements.specs.Stated.{restrictions_of, lemmas_of}
use Rattle.sap_theory.specs.TheoryCauses.{IsRefused, AreAccepted}
use Rattle.sap_theory.specs.ReadTheory.{AreTokens, IsParted, IsTheoryRead, theory_of, no_item, refused, accepted}
use Rattle.sap_grammar.specs.ItemLaws.{ItemLaws}
use Rattle.sap_theory.specs.code.Judged.{AreGood, IsRefusedCut}
use Rattle.sap_grammar.proofs.ReadingLaws.Items.{cut_is}
use Rattle.sap_theory.proofs.DeclaredItems.{written_declare}

-- the items of tokens with a header
abbrev pub pieces_of : List ℕ → List Token → List (List Placed)
pieces_of z ts = cut (placed z (drop 3 ts))

-- where the words have a header, it is found
abbrev pub HeaderFound : Type 0
HeaderFound = (z : List ℕ) (ts : List Token) (x : List ℕ) → header_of (words_of z ts) ≡ Some x → IsHeader x (placed z ts) (placed z (drop 3 ts))

pub parted : ItemLaws → HeaderFound → (z : List ℕ) (ts : List Token) (x : List ℕ) → AreTokens z ts → header_of (words_of z ts) ≡ Some x → IsParted z ts x (pieces_of z ts)
parted laws found z ts x t h = record { tokens = t; rest = placed z (drop 3 ts); header = found z ts x h; items = laws.is_cut (placed z (drop 3 ts)) }

-- what the items of these tokens declare
abbrev pub IsDeclared : List ℕ → List Token → Sig → Option (List ℕ) → Type 0
IsDeclared z ts g clash = (h : Sig) (is : List (List Placed)) (standing : List (Standing TheoryItem)) → IsCut (placed z (drop 3 ts)) is → AreWrittenItems h is standing
    → (g ≡ signature_of standing) × (clash ≡ clash_from pairs_alone (declarations standing))

-- what is read in the words of the items is what they declare
pub is_declared : ItemLaws → (z : List ℕ) (ts : List Token) (g : Sig) (clash : Option (List ℕ)) → g ≡ signature_from pairs_alone (declared_in_all (pieces_of z ts))
    → clash ≡ clash_from pairs_alone (declared_in_all (pieces_of z ts)) → IsDeclared z ts g clash
is_declared laws z ts g clash e f h is standing r a =
    let here : declarations standing ≡ declared_in_all (pieces_of z ts) = written_declare laws.declared a ∙ ap declared_in_all (sym (cut_is laws r)) in
    (rw here e, rw here f)

-- what is said of the items under a signature and a clash
module _ (laws : ItemLaws) (found : HeaderFound) (z : List ℕ) (ts : List Token) (x : List ℕ) (g : Sig) (clash : Option (List ℕ)) (t : AreTokens z ts)
    (h : header_of (words_of z ts) ≡ Some x) (d : IsDeclared z ts g clash) where
  module _ (is : List (Standing TheoryItem)) (i : AreWrittenItems g (pieces_of z ts) is) where
    told : (g ≡ signature_of is) × (clash ≡ clash_from pairs_alone (declarations is))
    told = d g (pieces_of z ts) is (laws.is_cut (placed z (drop 3 ts))) i

    own : AreWrittenItems (signature_of is) (pieces_of z ts) is
    own = subst (λ (s : Sig). AreWrittenItems s (pieces_of z ts) is) told.0 i

    own_bad : (e : TheoryFault) → IsRefused g clash (rules_in (items_of is)) (statements_in (items_of is)) e → IsTheoryRead z (Err e)
    own_bad e b =
        refused (parted laws found z ts x t h) own
        (subst (λ (s : Sig). IsRefused s (clash_from pairs_alone (declarations is)) (rules_in (items_of is)) (statements_in (items_of is)) e) told.0
        (subst (λ (o : Option (List ℕ)). IsRefused g o (rules_in (items_of is)) (statements_in (items_of is)) e) told.1 b))

    own_good : AreAccepted g clash (rules_in (items_of is)) (statements_in (items_of is)) → IsTheoryRead z (Ok (theory_of x is))
    own_good a =
        accepted (parted laws found z ts x t h) own
        (subst (λ (s : Sig). AreAccepted s (clash_from pairs_alone (declarations is)) (rules_in (items_of is)) (statements_in (items_of is))) told.0
        (subst (λ (o : Option (List ℕ)). AreAccepted g o (rules_in (items_of is)) (statements_in (items_of is))) told.1 a))

  pub is_refused : (e : TheoryFault) → IsRefusedCut g clash (last_line (placed z ts)) (pieces_of z ts) e → IsTheoryRead z (Err e)
  is_refused e (inl f) = subst (λ (q : TheoryFault). IsTheoryRead z (Err q)) (sym f.is) (no_item (parted laws found z ts x t h) f.faulty)
  is_refused e (inr b) = own_bad b.standing b.items e b.bad

  pub is_accepted : (rules : List Rule) (rs : List RestrictionForm) (ls : List LemmaForm) → AreGood g clash (pieces_of z ts) rules rs ls
      → IsTheoryRead z (Ok (record { name = x; signature = g; rules = rules; restrictions = rs; lemmas = ls }))
  is_accepted rules rs ls a =
      rw (a.rules_are, a.restrictions_are, a.lemmas_are)
      (subst (λ (s : Sig). IsTheoryRead z (Ok (record { name = x; signature = s; rules = rules_in (items_of a.standing); restrictions = restrictions_of (statements_in (items_of a.standing)); lemmas = lemmas_of (statements_in (items_of a.standing)) })))
      (sym (told a.standing a.items).0) (own_good a.standing a.items a.good))
