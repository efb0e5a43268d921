-- A cause stands at one place.
use Rattle.std.proofs.Common.{◌≡◌, ◌≤◌, ◌<◌, ◌+◌, ℕ, zero, suc, List, [], ◌∷◌, ◌++◌, append_assoc, take, drop, refl, sym, ap, ◌∙◌, subst, arith, Some}
use Rattle.sap_terms.proofs.PlainLaws.Numbers.{same_number}
use Rattle.sap_text.specs.declared.token.Token.{Token}
use Rattle.sap_grammar.specs.Words.{Word, words_of}
use Rattle.sap_read.specs.Files.{AreTokens}
use Rattle.sap_read.specs.declared.fault.ReadFault.{ReadFault}
use Rattle.sap_where.specs.declared.find.Beginning.TheVariants.{Process}
use Rattle.sap_stretches.specs.declared.stretch.Stretch.{Stretch}
use Rattle.sap_expect.specs.FileWords.{IsFileWords}
use Rattle.sap_where.specs.Where.{BeginsAt, HoldsOnce, IsFirst, IsRepeatedAt, IsSecond, IsTakenAt, IsWhere, StartsFile, at_byte, at_declaration, at_header, at_item, at_name, at_parameter, at_process, one_byte, only_statement, second_definition, second_statement}
use Rattle.sap_stretches.specs.Stretches.{stretch_at}
use Rattle.sap_expect.specs.FirstWrong.{GoOn, IsFirstWrong}
use Rattle.sap_where.specs.FileDeclarations.{IsClashAt}
use Rattle.sap_where.proofs.Clashes.{one_clash}
use Rattle.sap_where.proofs.Seconds.{one_second}
use Rattle.sap_where.proofs.SecondParameter.{one_repeated}

pub one_first : (P : ℕ → Type 0) (j k : ℕ) → IsFirst P j → IsFirst P k → j ≡ k
one_first P j k a b = same_number j k (λ lt. b.none_before j lt a.is) (λ lt. a.none_before k lt b.is)

pub not_once : {A : Type 0} (P : ℕ → Type 0) (k : ℕ) → HoldsOnce P → IsSecond P k → A
not_once P k h a = absurd (h a.first k a.before a.is_first a.is)

pub one_taken : (z : List ℕ) (ts : List Token) (x : List ℕ) (j k : ℕ) → IsTakenAt z ts x j → IsTakenAt z ts x k → j ≡ k
one_taken z ts x j k (second_definition a) (second_definition b) = one_second _ j k a b
one_taken z ts x j k (second_definition a) (second_statement d b) = not_once _ j d a
one_taken z ts x j k (second_definition a) (only_statement d s b) = not_once _ j d a
one_taken z ts x j k (second_statement d a) (second_definition b) = not_once _ k d b
one_taken z ts x j k (second_statement d a) (second_statement e b) = one_second _ j k a b
one_taken z ts x j k (second_statement d a) (only_statement e s b) = not_once _ j s a
one_taken z ts x j k (only_statement d s a) (second_definition b) = not_once _ k d b
one_taken z ts x j k (only_statement d s a) (second_statement e b) = not_once _ k s b
one_taken z ts x j k (only_statement d s a) (only_statement e t b) = one_first _ j k a b

split : (m n : ℕ) (ws : List Word) → m ≤ n → take n ws ≡ take m ws ++ drop m (take n ws)
split zero n ws le = refl
split (suc m) zero ws le = absurd (omega (arith, le))
split (suc m) (suc n) [] le = refl
split (suc m) (suc n) (w ∷ ws) le = ap (λ (vs : List Word). w ∷ vs) (split m n ws (omega (arith, le)))

-- what goes on does so with fewer words
fewer : (Is : List Word → Type 0) (m n : ℕ) (ws : List Word) → m ≤ n → GoOn Is (take n ws) → GoOn Is (take m ws)
fewer Is m n ws le g =
    let cut : take n ws ++ g.0 ≡ take m ws ++ (drop m (take n ws) ++ g.0) =
    ap (λ (vs : List Word). vs ++ g.0) (split m n ws le) ∙ append_assoc (take m ws) (drop m (take n ws)) g.0 in
    (drop m (take n ws) ++ g.0, subst Is cut g.1)

not_wrong : (Is : List Word → Type 0) (ws : List Word) (j k : ℕ) → IsFirstWrong Is ws j → IsFirstWrong Is ws k → j < k → ⊥
not_wrong Is ws j k a b lt =
    let most = b.inside in
    a.wrong (omega (arith, lt, most)) (fewer Is (j + 1) k ws (omega (arith, lt)) b.before)

pub one_wrong : (Is : List Word → Type 0) (ws : List Word) (j k : ℕ) → IsFirstWrong Is ws j → IsFirstWrong Is ws k → j ≡ k
one_wrong Is ws j k a b = same_number j k (not_wrong Is ws j k a b) (not_wrong Is ws k j b a)

some_same : {a b : ℕ} → Some a ≡ Some b → a ≡ b
some_same e = cc

pub one_place_is : (z : List ℕ) (e : ReadFault) (s t : Stretch) → ((ts us : List Token) → AreTokens z ts → AreTokens z us → us ≡ ts) → IsWhere z e s → IsWhere z e t → s ≡ t
one_place_is z e s t only (at_byte a l f) (at_byte b m g) = f ∙ (ap one_byte (some_same (sym a ∙ b)) ∙ sym g)
one_place_is z e s t only (at_header {ts = ts} {k = j} a w f) (at_header {ts = us} {k = k} b v g) =
    let same = only ts us a b in
    let v' = subst (λ (us : List Token). IsFirstWrong StartsFile (words_of z us) k) same v in
    let n = one_wrong StartsFile (words_of z ts) j k w v' in
    f ∙ (ap (λ (k : ℕ). stretch_at ts k) n ∙ (ap (λ (us : List Token). stretch_at us k) (sym same) ∙ sym g))
one_place_is z e s t only (at_item {ts = ts} {k = j} a w f) (at_item {ts = us} {k = k} b v g) =
    let same = only ts us a b in
    let v' = subst (λ (us : List Token). IsFirstWrong IsFileWords (words_of z us) k) same v in
    let n = one_wrong IsFileWords (words_of z ts) j k w v' in
    f ∙ (ap (λ (k : ℕ). stretch_at ts k) n ∙ (ap (λ (us : List Token). stretch_at us k) (sym same) ∙ sym g))
one_place_is z e s t only (at_process {ts = ts} {k = j} a w f) (at_process {ts = us} {k = k} b v g) =
    let same = only ts us a b in
    let v' = subst (λ (us : List Token). IsSecond (BeginsAt z us Process []) k) same v in
    let n = one_second (BeginsAt z ts Process []) j k w v' in
    f ∙ (ap (λ (k : ℕ). stretch_at ts k) n ∙ (ap (λ (us : List Token). stretch_at us k) (sym same) ∙ sym g))
one_place_is z e s t only (at_name {ts = ts} {x = x} {k = j} a w f) (at_name {ts = us} {k = k} b v g) =
    let same = only ts us a b in
    let v' = subst (λ (us : List Token). IsTakenAt z us x k) same v in
    let n = one_taken z ts x j k w v' in
    f ∙ (ap (λ (k : ℕ). stretch_at ts (k + 1)) n ∙ (ap (λ (us : List Token). stretch_at us (k + 1)) (sym same) ∙ sym g))
one_place_is z e s t only (at_parameter {ts = ts} {x = x} {k = j} a w f) (at_parameter {ts = us} {k = k} b v g) =
    let same = only ts us a b in
    let v' = subst (λ (us : List Token). IsRepeatedAt z us x k) same v in
    let n = one_repeated z ts x one_second j k w v' in
    f ∙ (ap (λ (k : ℕ). stretch_at ts k) n ∙ (ap (λ (us : List Token). stretch_at us k) (sym same) ∙ sym g))
one_place_is z e s t only (at_declaration {ts = ts} {x = x} {k = j} a w f) (at_declaration {ts = us} {k = k} b v g) =
    let same = only ts us a b in
    let v' = subst (λ (us : List Token). IsClashAt z us x k) same v in
    let n = one_clash z ts x j k w v' in
    f ∙ (ap (λ (k : ℕ). stretch_at ts k) n ∙ (ap (λ (us : List Token). stretch_at us k) (sym same) ∙ sym g))
