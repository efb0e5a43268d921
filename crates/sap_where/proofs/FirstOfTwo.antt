-- The other place of a cause is one, and of two there is a first.
use Rattle.std.proofs.Common.{◌≡◌, ◌<◌, ◌+◌, ℕ, List, [], sym, ap, ◌∙◌, subst, arith}
use Rattle.sap_text.specs.declared.token.Token.{Token}
use Rattle.sap_read.specs.Files.{AreTokens}
use Rattle.sap_read.specs.declared.fault.ReadFault.{ReadFault}
use Rattle.sap_stretches.specs.Stretches.{stretch_at}
use Rattle.sap_stretches.specs.declared.stretch.Stretch.{Stretch}
use Rattle.sap_where.specs.declared.find.Beginning.TheVariants.{Definition, Process}
use Rattle.sap_where.specs.OtherPlaces.{DeclaresAt, IsDeclaredFirstAt, IsOtherWhere, IsRepeatedFirstAt, IsTakenFirstAt, first_declaration, first_definition, first_name, first_parameter, first_process, first_statement, its_definition}
use Rattle.sap_where.specs.Parameters.{IsParameter}
use Rattle.sap_where.specs.Where.{BeginsAt, IsFirst, IsSecond}
use Rattle.sap_where.proofs.OnePlace.{not_once, one_first}
use Rattle.sap_where.proofs.SecondParameter.{one_item}

-- before a second one it holds first of the other
pub first_of_second : (P : ℕ → Type 0) (k : ℕ) (h : IsSecond P k) → IsFirst P h.first
first_of_second P k h = record { is = h.is_first; none_before = none }
  where
    none : (i : ℕ) → i < h.first → P i → ⊥
    none i lt p =
        let before = h.before in
        let same = h.no_other i (omega (arith, lt, before)) p in
        absurd (omega (arith, same, lt))

pub one_taken_first : (z : List ℕ) (ts : List Token) (x : List ℕ) (j k : ℕ) → IsTakenFirstAt z ts x j → IsTakenFirstAt z ts x k → j ≡ k
one_taken_first z ts x j k (first_definition s a) (first_definition t b) = one_first _ j k a b
one_taken_first z ts x j k (first_definition s a) (first_statement d t b) = not_once _ _ d s
one_taken_first z ts x j k (first_statement d s a) (first_definition t b) = not_once _ _ d t
one_taken_first z ts x j k (first_statement d s a) (first_statement e t b) = one_first _ j k a b

pub one_repeated_first : (z : List ℕ) (ts : List Token) (x : List ℕ) (j k : ℕ) → IsRepeatedFirstAt z ts x j → IsRepeatedFirstAt z ts x k → j ≡ k
one_repeated_first z ts x j k a b =
    let same = one_item z ts x a.second b.second a.repeated b.repeated in
    one_first (IsParameter z ts x b.repeated.item) j k (subst (λ (i : ℕ). IsFirst (IsParameter z ts x i) j) same a.first) b.first

pub one_declared_first : (z : List ℕ) (ts : List Token) (x : List ℕ) (j k : ℕ) → IsDeclaredFirstAt z ts x j → IsDeclaredFirstAt z ts x k → j ≡ k
one_declared_first z ts x j k a b = one_first (DeclaresAt z ts x) j k a.first b.first

-- of two stretches of tokens that are the same the numbers decide
same_stretch : (at : ℕ → ℕ) (ts us : List Token) (j k : ℕ) (s t : Stretch) → us ≡ ts → j ≡ k → s ≡ stretch_at ts (at j) → t ≡ stretch_at us (at k) → s ≡ t
same_stretch at ts us j k s t same n f g =
    f ∙ (ap (λ (k : ℕ). stretch_at ts (at k)) n ∙ (ap (λ (us : List Token). stretch_at us (at k)) (sym same) ∙ sym g))

pub one_other_is : (z : List ℕ) (e : ReadFault) (s t : Stretch) → ((ts us : List Token) → AreTokens z ts → AreTokens z us → us ≡ ts) → IsOtherWhere z e s → IsOtherWhere z e t → s ≡ t
one_other_is z e s t only (first_process {ts = ts} {j = j} a w x f) (first_process {ts = us} {j = k} b v y g) =
    let same = only ts us a b in
    let y' = subst (λ (us : List Token). IsFirst (BeginsAt z us Process []) k) same y in
    same_stretch (λ n. n) ts us j k s t same (one_first (BeginsAt z ts Process []) j k x y') f g
one_other_is z e s t only (first_name {ts = ts} {x = x} {j = j} a w f) (first_name {ts = us} {j = k} b v g) =
    let same = only ts us a b in
    let v' = subst (λ (us : List Token). IsTakenFirstAt z us x k) same v in
    same_stretch (λ n. n + 1) ts us j k s t same (one_taken_first z ts x j k w v') f g
one_other_is z e s t only (first_parameter {ts = ts} {x = x} {j = j} a w f) (first_parameter {ts = us} {j = k} b v g) =
    let same = only ts us a b in
    let v' = subst (λ (us : List Token). IsRepeatedFirstAt z us x k) same v in
    same_stretch (λ n. n) ts us j k s t same (one_repeated_first z ts x j k w v') f g
one_other_is z e s t only (first_declaration {ts = ts} {x = x} {j = j} a w f) (first_declaration {ts = us} {j = k} b v g) =
    let same = only ts us a b in
    let v' = subst (λ (us : List Token). IsDeclaredFirstAt z us x k) same v in
    same_stretch (λ n. n) ts us j k s t same (one_declared_first z ts x j k w v') f g
one_other_is z e s t only (its_definition {ts = ts} {x = x} {j = j} a w f) (its_definition {ts = us} {j = k} b v g) =
    let same = only ts us a b in
    let v' = subst (λ (us : List Token). IsFirst (BeginsAt z us Definition x) k) same v in
    same_stretch (λ n. n + 1) ts us j k s t same (one_first (BeginsAt z ts Definition x) j k w v') f g
