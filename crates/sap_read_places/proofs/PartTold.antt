-- What is told of a fault of a formula is told of the file.
use Rattle.std.proofs.Common.{◌≡◌, ℕ, List, [], ◌∷◌, drop, Option, Some, None, Ok, Err, refl, sym, ap, subst, ◌∙◌}
use Rattle.std.specs.Prelude.{IfOk, IfSome, Result, option_map}
use Rattle.sap_terms.specs.Signature.{Sig}
use Rattle.sap_terms.specs.declared.mem.Mem.{Mem}
use Rattle.sap_text.specs.declared.token.Token.{Token}
use Rattle.sap_formula.specs.declared.fault.FormulaFault.{FormulaFault}
use Rattle.sap_grammar.specs.Cut.{IsCut, IsHeader, Placed, placed}
use Rattle.sap_grammar.specs.ItemReading.{cut}
use Rattle.sap_origin.specs.Origins.{words_left}
use Rattle.sap_origin.specs.declared.origin.FileWord.{FileWord}
use Rattle.sap_read.specs.Files.{AreTokens}
use Rattle.sap_read.specs.WrittenFiles.{IsWrittenFile}
use Rattle.sap_read.specs.declared.written.WrittenFile.{WrittenFile}
use Rattle.sap_read_places.specs.declared.told.Told.{Told}
use Rattle.sap_read_places.specs.Placed.{stretch_before}
use Rattle.sap_read_places.specs.PartPlaces.{IsFaultyWord, IsPartPlace, located_statements}
use Rattle.sap_read_places.specs.code.PartWalk.{IsFoundIn, IsToldIn, IsWordFound, told_of_word}
use Rattle.sap_read.specs.Item.{signature_of, statements}
use Rattle.sap_read.specs.ItemGrammar.{AreItems}
use Rattle.sap_read_places.proofs.PlacedFiles.{OneItems}

behind_header : (z : List ℕ) (ts : List Token) (x : List ℕ) (rest : List Placed) → IsHeader x (placed z ts) rest → rest ≡ placed z (drop 3 ts)
behind_header z [] x rest h = let e = h.spelled in absurd (cc (e))
behind_header z (a ∷ []) x rest h = let e = h.spelled in absurd (cc (e))
behind_header z (a ∷ b ∷ []) x rest h = let e = h.spelled in absurd (cc (e))
behind_header z (a ∷ b ∷ c ∷ ts) x rest h = let e = h.spelled in cc (e)

some_told : {s t : Told} → ◌≡◌ {A = Option Told} (Some s) (Some t) → s ≡ t
some_told e = cc (e)

abbrev OneCutOf : Type 0
OneCutOf = (ps : List Placed) (is js : List (List Placed)) → IsCut ps is → IsCut ps js → is ≡ js

module _ (z : List ℕ) (ts : List Token) (w : WrittenFile) (only : (us : List Token) → AreTokens z us → us ≡ ts) (is : IsWrittenFile z w)
    (cuts : (ps : List Placed) → IsCut ps (cut ps)) (one : OneCutOf) (y : List ℕ) (f : FormulaFault) where
  pieces_are : is.cut ≡ cut (placed z (drop 3 ts))
  pieces_are =
      one is.parted.rest is.cut (cut is.parted.rest) is.parted.items (cuts is.parted.rest)
      ∙ ap cut (behind_header z is.tokens w.name is.parted.rest is.parted.header ∙ ap (λ (us : List Token). placed z (drop 3 us)) (only is.tokens is.parted.tokens))

  found_word : (o : Option FileWord) → IsFoundIn w.declared.signature z (drop 3 ts) w.statements y f o → IsWordFound w.declared.signature (located_statements is.items) y f o
  found_word o found = found _ is.cut is.standing is.items pieces_are (sym is.statements_are)

  there : (v : Option FileWord) → IsWordFound w.declared.signature (located_statements is.items) y f v → (t : Told) → Some t ≡ (option_map (told_of_word ts) v) → IsPartPlace z y f t
  there None found t e = absurd (cc (e))
  there (Some v) found t e =
      let same : t ≡ told_of_word ts v = some_told e in
      record {
        tokens = is.tokens;
        name = w.name;
        cut = is.cut;
        standing = is.standing;
        parted = is.parted;
        items = is.items;
        nothing = is.nothing;
        word = words_left v;
        faulty = subst (λ (g : Sig). IsFaultyWord g (located_statements is.items) y f (words_left v)) is.signature found;
        word_is = ap (λ (t : Told). t.word) same ∙ ap (λ (us : List Token). stretch_before us (words_left v)) (sym (only is.tokens is.parted.tokens));
        uses_are = ap (λ (t : Told). t.uses) same;
      }

  pub part_there : (r : Result (Option Told) Mem) → IfOk r (IsToldIn w.declared.signature z ts (drop 3 ts) w.statements y f) → IfOk r (λ o. IfSome o (λ t. IsPartPlace z y f t))
  part_there (Ok None) h = tt
  part_there (Ok (Some t)) h = there h.word (found_word h.word h.found) t h.told_is
  part_there (Err m) h = tt

  module _ (items : OneItems) where
    not_there : (v : Option FileWord) → IsFoundIn w.declared.signature z (drop 3 ts) w.statements y f v → v ≡ None → (t : Told) → IsPartPlace z y f t → ⊥
    not_there (Some v) found e t a = absurd (cc (e))
    not_there None found e t a =
        let pieces : a.cut ≡ cut (placed z (drop 3 ts)) =
        one a.parted.rest a.cut (cut a.parted.rest) a.parted.items (cuts a.parted.rest)
        ∙ ap cut (behind_header z a.tokens a.name a.parted.rest a.parted.header ∙ ap (λ (us : List Token). placed z (drop 3 us)) (only a.tokens a.parted.tokens)) in
        let same : a.standing ≡ is.standing =
        items a.cut a.standing is.standing a.items (subst (λ (c : List (List Placed)). AreItems (signature_of is.standing) c is.standing) (pieces_are ∙ sym pieces) is.items) in
        let stated : statements a.standing ≡ w.statements = ap statements same ∙ sym is.statements_are in
        let sig : signature_of a.standing ≡ w.declared.signature = ap signature_of same ∙ sym is.signature in
        found _ a.cut a.standing a.items pieces stated a.word (subst (λ (g : Sig). IsFaultyWord g (located_statements a.items) y f a.word) sig a.faulty)

    no_word : (v : Option FileWord) → None ≡ option_map (told_of_word ts) v → v ≡ None
    no_word None e = refl
    no_word (Some v) e = absurd (cc (e))

    pub part_nowhere : (r : Result (Option Told) Mem) → IfOk r (IsToldIn w.declared.signature z ts (drop 3 ts) w.statements y f) → IfOk r (λ o. o ≡ None → (t : Told) → IsPartPlace z y f t → ⊥)
    part_nowhere (Ok None) h = λ e. not_there h.word h.found (no_word h.word h.told_is)
    part_nowhere (Ok (Some t)) h = λ e u a. absurd (cc (e))
    part_nowhere (Err m) h = tt
