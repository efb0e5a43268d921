-- Turns of the loops over items and over what they declare.
use Rattle.std.proofs.Common.{◌≡◌, ◌<◌, ◌+◌, ℕ, suc, true, List, [], ◌∷◌, ◌++◌, length, take, drop, Option, Some, None, refl, sym, ap, ◌∙◌, arith}
use Rattle.std.specs.Prelude.{codes, map}
use Rattle.std.proofs.lemmas.List.{take-map, drop-map, map-append}
use Rattle.sap_terms.specs.Signature.{Sig, pairs_alone}
use Rattle.sap_text.specs.declared.token.Token.{Token}
use Rattle.sap_grammar.specs.Words.{Word, mark, word_of, words_of, starts}
use Rattle.sap_grammar.specs.Cut.{Placed, placed, words}
use Rattle.sap_grammar.specs.Declarations.{Declaration}
use Rattle.sap_grammar.specs.Items.{IsEnd}
use Rattle.sap_grammar.specs.Signatures.{clash_with, with_declaration, signature_from, clash_from}
use Rattle.sap_grammar.specs.ItemReading.{count_on, cut, kept, declared_in, declared_in_all, told}
use Rattle.sap_grammar.specs.declared.declaration.Declaration as code
use Rattle.sap_grammar.specs.code.DeclarationView.{declaration}
use Rattle.sap_grammar.proofs.ReadingLaws.Tokens.{words_placed}
use Rattle.sap_grammar.proofs.ReadingLaws.OnRead.{starts_is}
use Rattle.sap_grammar.proofs.Cuts.{cut_step}

abbrev on_line : List ℕ → Token → Placed
on_line z t = record { word = word_of z t; line = t.line }

placed-take : (z : List ℕ) (n : ℕ) (ts : List Token) → placed z (take n ts) ≡ take n (placed z ts)
placed-take z n ts = sym (take-map (on_line z) n ts)

placed-drop : (z : List ℕ) (n : ℕ) (ts : List Token) → placed z (drop n ts) ≡ drop n (placed z ts)
placed-drop z n ts = sym (drop-map (on_line z) n ts)

-- the first item is one token and those that go on with it
pub split_cut : (z : List ℕ) (ts : List Token) (n : ℕ) → 0 < length ts → n ≡ count_on (placed z (drop 1 ts))
    → cut (placed z ts) ≡ placed z (take (n + 1) ts) ∷ cut (placed z (drop (n + 1) ts))
split_cut z [] n some e = absurd (omega (arith, some))
split_cut z (t ∷ ts) n some e =
    let one : n + 1 ≡ suc n = omega arith in
    let step = cut_step (on_line z t) (placed z ts) in
    rw (one, placed-take z n ts, placed-drop z n ts, e) step

-- one token is `end` alone just where it is that mark
pub end_alone : (z : List ℕ) (ts : List Token) → length ts ≡ 1 → (starts (codes "end") (words_of z ts) ≡ true → IsEnd (placed z ts)) × (IsEnd (placed z ts) → starts (codes "end") (words_of z ts) ≡ true)
end_alone z ts one = (to, from)
  where
    rest : (ts : List Token) → length ts ≡ 1 → drop 1 (words_of z ts) ≡ []
    rest [] e = absurd (omega (arith, e))
    rest (t ∷ []) e = refl
    rest (t ∷ u ∷ ts) e = absurd (omega (arith, e))

    to : starts (codes "end") (words_of z ts) ≡ true → IsEnd (placed z ts)
    to s = words_placed z ts ∙ (starts_is (codes "end") (words_of z ts) s ∙ ap (λ (ws : List Word). mark (codes "end") ∷ ws) (rest ts one))

    from : IsEnd (placed z ts) → starts (codes "end") (words_of z ts) ≡ true
    from e = rw (← words_placed z ts, e) refl

-- Declarations, one after another.

kept_kept : (a b c : Option (List ℕ)) → kept (kept a b) c ≡ kept a (kept b c)
kept_kept None b c = refl
kept_kept (Some x) b c = refl

signature_append : (g : Sig) (ds es : List Declaration) → signature_from g (ds ++ es) ≡ signature_from (signature_from g ds) es
signature_append g [] es = refl
signature_append g (d ∷ ds) es = signature_append (with_declaration g d) ds es

clash_append : (g : Sig) (ds es : List Declaration) → clash_from g (ds ++ es) ≡ kept (clash_from g ds) (clash_from (signature_from g ds) es)
clash_append g [] es = refl
clash_append g (d ∷ ds) es =
    ap (λ (o : Option (List ℕ)). kept (clash_with g d) o) (clash_append (with_declaration g d) ds es)
    ∙ sym (kept_kept (clash_with g d) (clash_from (with_declaration g d) ds) (clash_from (signature_from (with_declaration g d) ds) es))

-- one more declaration
signature_push : (g h k : Sig) (ds : List Declaration) (d : Declaration) → h ≡ signature_from g ds → k ≡ with_declaration h d → k ≡ signature_from g (ds ++ (d ∷ []))
signature_push g h k ds d e f = rw (signature_append g ds (d ∷ []), ← e) f

kept_none : (a : Option (List ℕ)) → kept a None ≡ a
kept_none None = refl
kept_none (Some x) = refl

clash_push : (g h : Sig) (o a b : Option (List ℕ)) (ds : List Declaration) (d : Declaration) → h ≡ signature_from g ds → a ≡ kept o (clash_from g ds) → b ≡ kept a (clash_with h d)
    → b ≡ kept o (clash_from g (ds ++ (d ∷ [])))
clash_push g h o a b ds d e f s =
    let last : clash_from h (d ∷ []) ≡ clash_with h d = kept_none (clash_with h d) in
    rw (clash_append g ds (d ∷ []), ← e, last, ← kept_kept o (clash_from g ds) (clash_with h d), ← f) s

pub declared_push : (g h k : Sig) (o a b : Option (List ℕ)) (ds : List code.Declaration) (d : code.Declaration) → h ≡ signature_from g (map declaration ds) → k ≡ with_declaration h (declaration d)
    → a ≡ kept o (clash_from g (map declaration ds)) → b ≡ kept a (clash_with h (declaration d))
    → (k ≡ signature_from g (map declaration (ds ++ (d ∷ [])))) × (b ≡ kept o (clash_from g (map declaration (ds ++ (d ∷ [])))))
declared_push g h k o a b ds d e f s t =
    let all = map-append declaration ds (d ∷ []) in
    (rw all (signature_push g h k (map declaration ds) (declaration d) e f), rw all (clash_push g h o a b (map declaration ds) (declaration d) e s t))

-- the declarations of one more item, which come first of those that are left
signature_item : (g h : Sig) (z : List ℕ) (item : List Token) (cut : List (List Placed)) → h ≡ signature_from g (told (declared_in (words_of z item)))
    → signature_from g (declared_in_all (placed z item ∷ cut)) ≡ signature_from h (declared_in_all cut)
signature_item g h z item cut e =
    rw (words_placed z item, signature_append g (told (declared_in (words_of z item))) (declared_in_all cut), ← e) refl

clash_item : (g h : Sig) (a b : Option (List ℕ)) (z : List ℕ) (item : List Token) (cut : List (List Placed)) → h ≡ signature_from g (told (declared_in (words_of z item)))
    → b ≡ kept a (clash_from g (told (declared_in (words_of z item))))
    → kept a (clash_from g (declared_in_all (placed z item ∷ cut))) ≡ kept b (clash_from h (declared_in_all cut))
clash_item g h a b z item cut e f =
    rw (words_placed z item, clash_append g (told (declared_in (words_of z item))) (declared_in_all cut), ← e, ← kept_kept a (clash_from g (told (declared_in (words_of z item)))) (clash_from h (declared_in_all cut)), ← f) refl

-- one turn of the loop over items
pub turn_declared : (z : List ℕ) (ts rest item behind : List Token) → cut (placed z rest) ≡ placed z item ∷ cut (placed z behind) → (g h : Sig) (a b : Option (List ℕ))
    → signature_from pairs_alone (declared_in_all (cut (placed z ts))) ≡ signature_from g (declared_in_all (cut (placed z rest)))
    → clash_from pairs_alone (declared_in_all (cut (placed z ts))) ≡ kept a (clash_from g (declared_in_all (cut (placed z rest))))
    → h ≡ signature_from g (told (declared_in (words_of z item))) → b ≡ kept a (clash_from g (told (declared_in (words_of z item))))
    → (signature_from pairs_alone (declared_in_all (cut (placed z ts))) ≡ signature_from h (declared_in_all (cut (placed z behind))))
    × (clash_from pairs_alone (declared_in_all (cut (placed z ts))) ≡ kept b (clash_from h (declared_in_all (cut (placed z behind)))))
turn_declared z ts rest item behind split g h a b s k e f = (
  s ∙ ap (λ (y : List (List Placed)). signature_from g (declared_in_all y)) split ∙ signature_item g h z item (cut (placed z behind)) e,
  k ∙ ap (λ (y : List (List Placed)). kept a (clash_from g (declared_in_all y))) split ∙ clash_item g h a b z item (cut (placed z behind)) e f,
)

-- where no item is left, all is declared
pub all_declared : (z : List ℕ) (ts rest : List Token) (k : Sig) (o : Option (List ℕ)) → rest ≡ []
    → signature_from pairs_alone (declared_in_all (cut (placed z ts))) ≡ signature_from k (declared_in_all (cut (placed z rest)))
    → clash_from pairs_alone (declared_in_all (cut (placed z ts))) ≡ kept o (clash_from k (declared_in_all (cut (placed z rest))))
    → (k ≡ signature_from pairs_alone (declared_in_all (cut (placed z ts)))) × (o ≡ clash_from pairs_alone (declared_in_all (cut (placed z ts))))
all_declared z ts rest k o none e f =
    let over : declared_in_all (cut (placed z rest)) ≡ [] = rw none refl in
    let signature : signature_from pairs_alone (declared_in_all (cut (placed z ts))) ≡ k = rw over at e in
    let clash : clash_from pairs_alone (declared_in_all (cut (placed z ts))) ≡ kept o None = rw over at f in
    (sym signature, sym (clash ∙ kept_none o))
