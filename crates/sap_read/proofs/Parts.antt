-- From the parts of a file to what it is read as.
use Rattle.std.proofs.Common.{◌≡◌, ◌⊎◌, ℕ, List, drop, sym, ap, subst, ◌∙◌, Some, Option, Ok, Err, inl, inr}
use Rattle.sap_text.specs.declared.token.Token.{Token}
use Rattle.sap_terms.specs.Signature.{Sig, pairs_alone}
use Rattle.sap_process.specs.Proc.{Proc}
use Rattle.sap_formula.specs.Form.{RestrictionForm, LemmaForm}
use Rattle.sap_read.specs.declared.fault.ReadFault.{ReadFault}
use Rattle.sap_grammar.specs.Words.{words_of}
use Rattle.sap_read.specs.Item.{Standing, declarations, bodies, statements}
use Rattle.sap_grammar.specs.Cut.{Placed, placed, IsCut}
use Rattle.sap_read.specs.ItemGrammar.{AreItems}
use Rattle.sap_read.specs.Item.{signature_of}
use Rattle.sap_read.specs.Identifiers.{identifiers_of}
use Rattle.sap_grammar.specs.Signatures.{clash_from, signature_from}
use Rattle.sap_read.specs.Files.{AreTokens, IsParted, IsRead, refused, unexpanded, ill, locked, unchecked, accepted}
use Rattle.sap_grammar.specs.ItemReading.{cut, declared_in_all}
use Rattle.sap_grammar.specs.ItemReading.{header_of}
use Rattle.sap_read.specs.code.Judged.{IsAccepted, IsFlawed, IsMislocked, IsRefused}
use Rattle.sap_grammar.specs.ItemLaws.{ItemLaws}
use Rattle.sap_grammar.proofs.ReadingLaws.Items.{cut_is}
use Rattle.sap_read.proofs.ItemsRead.{declared_are}

-- the items of tokens with a header
abbrev pub items_of : List ℕ → List Token → List (List Placed)
items_of z ts = cut (placed z (drop 3 ts))

pub items_are_cut : ItemLaws → (z : List ℕ) (ts : List Token) → IsCut (placed z (drop 3 ts)) (items_of z ts)
items_are_cut laws z ts = laws.is_cut (placed z (drop 3 ts))

pub parted : ItemLaws → (z : List ℕ) (ts : List Token) (x : List ℕ) → AreTokens z ts → header_of (words_of z ts) ≡ Some x → IsParted z ts x (items_of z ts)
parted laws z ts x t h = record { tokens = t; rest = placed z (drop 3 ts); header = laws.header_is z ts x h; items = items_are_cut laws z ts }

-- what the items of these tokens declare
abbrev pub IsDeclared : List ℕ → List Token → Sig → Option (List ℕ) → Type 0
IsDeclared z ts g clash = (h : Sig) (is : List (List Placed)) (standing : List Standing) → IsCut (placed z (drop 3 ts)) is → AreItems h is standing
    → (g ≡ signature_of standing) × (clash ≡ clash_from pairs_alone (declarations standing))

-- what is read in the words of the items is what they declare
pub is_declared : ItemLaws → (z : List ℕ) (ts : List Token) (g : Sig) (clash : Option (List ℕ)) → g ≡ signature_from pairs_alone (declared_in_all (items_of z ts))
    → clash ≡ clash_from pairs_alone (declared_in_all (items_of z ts)) → IsDeclared z ts g clash
is_declared laws z ts g clash e f h is standing r a =
    let here : declarations standing ≡ declared_in_all (items_of z ts) = declared_are laws a ∙ ap declared_in_all (sym (cut_is laws r)) in
    (rw here e, rw here f)

-- the identifiers of these tokens
abbrev pub names_in : List ℕ → List Token → List (List ℕ)
names_in z ts = identifiers_of (words_of z ts)

-- items under their own signature that are refused
pub own_refused : {z : List ℕ} {ts : List Token} {x : List ℕ} {cut : List (List Placed)} (is : List Standing) (e : ReadFault) → IsParted z ts x cut → AreItems (signature_of is) cut is
    → IsRefused (signature_of is) (clash_from pairs_alone (declarations is)) (names_in z ts) (bodies is) (statements is) e → IsRead z (Err e)
own_refused is e p i (inl (inl (inl first))) = refused p i first
own_refused {z = z} is e p i (inl (inl (inr m))) = subst (λ (q : ReadFault). IsRead z (Err q)) (sym m.is) (unexpanded p i m.nothing m.unexpanded)
own_refused {z = z} is e p i (inl (inr r)) = by r.unsound
  where
    by : IsFlawed (signature_of is) r.process e ⊎ IsMislocked (signature_of is) r.process e → IsRead z (Err e)
    by (inl f) = subst (λ (q : ReadFault). IsRead z (Err q)) (sym f.is) (ill p i r.whole.nothing r.whole.expanded f.flaw)
    by (inr f) = subst (λ (q : ReadFault). IsRead z (Err q)) (sym f.is) (locked p i r.whole.nothing r.whole.expanded f.well_formed f.flaw)
own_refused {z = z} is e p i (inr u) =
    let a = u.annotated in
    subst (λ (q : ReadFault). IsRead z (Err q)) (sym u.first.is) (unchecked p i a.whole.nothing a.whole.expanded a.sound.well_formed a.sound.annotation u.first.faulty)

-- items under their own signature that are accepted
pub own_accepted : {z : List ℕ} {ts : List Token} {x : List ℕ} {cut : List (List Placed)} (is : List Standing) (q : Proc) (rs : List RestrictionForm) (ls : List LemmaForm) → IsParted z ts x cut
    → AreItems (signature_of is) cut is → IsAccepted (signature_of is) (clash_from pairs_alone (declarations is)) (names_in z ts) (bodies is) (statements is) q rs ls
    → IsRead z (Ok (record { name = x; signature = signature_of is; process = q; restrictions = rs; lemmas = ls }))
own_accepted is q rs ls p i a =
    let b = a.annotated in
    rw (a.checked.restrictions, a.checked.lemmas) (accepted p i b.whole.nothing b.whole.expanded b.sound.well_formed b.sound.annotation a.checked.faultless)
