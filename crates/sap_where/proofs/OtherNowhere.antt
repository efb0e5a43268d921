-- Where no other place is told there is none.
use Rattle.std.proofs.Common.{◌≡◌, ◌≤◌, ◌<◌, ◌+◌, ℕ, List, [], length, refl, subst, Option, Some, None, MatchOption, arith}
use Rattle.std.specs.Prelude.{IfOk, IfSome, Result, Ok, Err}
use Rattle.sap_terms.specs.Signature.{find_symbol, pairs_alone}
use Rattle.sap_grammar.specs.Signatures.{clash_from}
use Rattle.sap_text.specs.declared.fault.Lex.{Lex}
use Rattle.sap_text.specs.declared.token.Token.{Token}
use Rattle.sap_read.specs.declared.fault.ReadFault.{ReadFault}
use Rattle.sap_read.specs.declared.fault.ReadFault.TheVariants.{Arguments, DuplicateName, FunctionClash, Lex as LexFault, Parameters, TwoProcesses}
use Rattle.sap_stretches.specs.declared.stretch.Stretch.{Stretch}
use Rattle.sap_where.specs.declared.find.Beginning.TheVariants.{Definition, Process, Statement}
use Rattle.sap_where.specs.FileDeclarations.{IsClashAt, declared_before}
use Rattle.sap_where.specs.OtherPlaces.{DeclaresAt, HasOtherStretch, IsDeclaredFirstAt, IsOtherWhere, IsRepeatedFirstAt, IsTakenFirstAt, first_declaration, first_definition, first_name, first_parameter, first_process, first_statement, its_definition}
use Rattle.sap_where.specs.Parameters.{IsParameter}
use Rattle.sap_where.specs.Where.{BeginsAt, HoldsOnce, IsFirst, IsSecond}
use Rattle.sap_where.proofs.Clashes.{none_clashes, one_clash}
use Rattle.sap_where.proofs.FirstDeclared.{none_earlier}
use Rattle.sap_where.proofs.Nowhere.{AreOnly}
use Rattle.sap_where.proofs.SecondParameter.{low}

-- of two the first
pub first_is : (P : ℕ → Type 0) (k : ℕ) → IsSecond P k → (o : Option ℕ) → MatchOption o ((i : ℕ) → P i → ⊥) (λ j. IsFirst P j)
    → MatchOption o (HoldsOnce P) (λ j. (k : ℕ) × IsSecond P k × IsFirst P j)
first_is P k s None none = absurd (none k s.is)
first_is P k s (Some j) f = (k, s, f)

pub first_parameter_is : (z : List ℕ) (ts : List Token) (x : List ℕ) (i k : ℕ) → IsSecond (IsParameter z ts x i) k → (o : Option ℕ)
    → MatchOption o ((n : ℕ) → i + 3 ≤ n → IsParameter z ts x i n → ⊥)
    (λ j. (i + 3 ≤ j) × (j < length ts) × IsParameter z ts x i j × ((n : ℕ) → i + 3 ≤ n → n < j → IsParameter z ts x i n → ⊥))
    → MatchOption o (HoldsOnce (IsParameter z ts x i)) (λ j. (k : ℕ) × IsSecond (IsParameter z ts x i) k × IsFirst (IsParameter z ts x i) j)
first_parameter_is z ts x i k s None none = absurd (none k (low z ts i k s.is.can) s.is)
first_parameter_is z ts x i k s (Some j) f = (k, s, record { is = f.2; none_before = λ n lt p. f.3 n (low z ts i n p.can) lt p })

pub repeated_first_is : (z : List ℕ) (ts : List Token) (x : List ℕ) (i j k : ℕ) → IsSecond (IsParameter z ts x i) k → IsFirst (IsParameter z ts x i) j
    → ((h : ℕ) → h < i → HoldsOnce (IsParameter z ts x h)) → IsRepeatedFirstAt z ts x j
repeated_first_is z ts x i j k s f none = record {
  second = k;
  repeated = record { item = i; second = s; none_before = λ h m lt t. none h lt t.first m t.before t.is_first t.is };
  first = f;
}

pub no_process : (z : List ℕ) (ts : List Token) → AreOnly z ts → HoldsOnce (BeginsAt z ts Process []) → (line : ℕ) (s : Stretch) → IsOtherWhere z (TwoProcesses line) s → ⊥
no_process z ts only h line s (first_process {ts = us} {k = k} a w f e) =
    let v = subst (λ (vs : List Token). IsSecond (BeginsAt z vs Process []) k) (only us a) w in
    h v.first k v.before v.is_first v.is

pub none_taken : (z : List ℕ) (ts : List Token) (x : List ℕ) → HoldsOnce (BeginsAt z ts Definition x) → HoldsOnce (BeginsAt z ts Statement x) → (j : ℕ) → IsTakenFirstAt z ts x j → ⊥
none_taken z ts x d s j (first_definition a f) = d a.first _ a.before a.is_first a.is
none_taken z ts x d s j (first_statement e a f) = s a.first _ a.before a.is_first a.is

pub statement_first : (z : List ℕ) (ts : List Token) (x : List ℕ) (o : Option ℕ) → HoldsOnce (BeginsAt z ts Definition x)
    → MatchOption o (HoldsOnce (BeginsAt z ts Statement x)) (λ j. (k : ℕ) × IsSecond (BeginsAt z ts Statement x) k × IsFirst (BeginsAt z ts Statement x) j)
    → MatchOption o ((j : ℕ) → IsTakenFirstAt z ts x j → ⊥) (λ j. IsTakenFirstAt z ts x j)
statement_first z ts x None d s = none_taken z ts x d s
statement_first z ts x (Some j) d f = first_statement d f.1 f.2

pub no_name : (z : List ℕ) (ts : List Token) (x : List ℕ) → AreOnly z ts → ((j : ℕ) → IsTakenFirstAt z ts x j → ⊥) → (s : Stretch) → IsOtherWhere z (DuplicateName x) s → ⊥
no_name z ts x only none s (first_name {ts = us} {j = j} a w e) =
    none j (subst (λ (vs : List Token). IsTakenFirstAt z vs x j) (only us a) w)

pub no_parameter : (z : List ℕ) (ts : List Token) (x : List ℕ) → AreOnly z ts → ((i : ℕ) → HoldsOnce (IsParameter z ts x i)) → (s : Stretch) → IsOtherWhere z (Parameters x) s → ⊥
no_parameter z ts x only h s (first_parameter {ts = us} {j = j} a w e) =
    let v = subst (λ (vs : List Token). IsRepeatedFirstAt z vs x j) (only us a) w in
    let two = v.repeated.second in
    h v.repeated.item two.first v.second two.before two.is_first two.is

pub no_declaration : (z : List ℕ) (ts : List Token) (x : List ℕ) → AreOnly z ts → ((j : ℕ) → IsDeclaredFirstAt z ts x j → ⊥) → (s : Stretch) → IsOtherWhere z (FunctionClash x) s → ⊥
no_declaration z ts x only none s (first_declaration {ts = us} {j = j} a w e) =
    none j (subst (λ (vs : List Token). IsDeclaredFirstAt z vs x j) (only us a) w)

pub no_definition : (z : List ℕ) (ts : List Token) (x : List ℕ) → AreOnly z ts → ((j : ℕ) → BeginsAt z ts Definition x j → ⊥) → (s : Stretch) → IsOtherWhere z (Arguments x) s → ⊥
no_definition z ts x only none s (its_definition {ts = us} {j = j} a w e) =
    none j (subst (λ (vs : List Token). BeginsAt z vs Definition x j) (only us a) w.is)

pub no_other : (z : List ℕ) (e : ReadFault) → ((n : ℕ) → e ≡ TwoProcesses n → ⊥) → ((x : List ℕ) → e ≡ DuplicateName x → ⊥) → ((x : List ℕ) → e ≡ Parameters x → ⊥)
    → ((x : List ℕ) → e ≡ FunctionClash x → ⊥) → ((x : List ℕ) → e ≡ Arguments x → ⊥) → (s : Stretch) → IsOtherWhere z e s → ⊥
no_other z e p n q c u s (first_process a w f g) = p _ refl
no_other z e p n q c u s (first_name a w g) = n _ refl
no_other z e p n q c u s (first_parameter a w g) = q _ refl
no_other z e p n q c u s (first_declaration a w g) = c _ refl
no_other z e p n q c u s (its_definition a w g) = u _ refl

-- a fault of bytes has no other place
pub byte_alone : (z : List ℕ) (f : Lex) (s : Stretch) → IsOtherWhere z (LexFault f) s → ⊥
byte_alone z f s w = elim w [ ]

some_none : {j : ℕ} → ◌≡◌ {A = Option ℕ} (Some j) None → ⊥
some_none e = absurd (cc)

-- of a name that clashes at token k the first declaration before it, if there is one
module _ (z : List ℕ) (ts : List Token) (x : List ℕ) (k : ℕ) (c : IsClashAt z ts x k) where
  pub none_declared : ((i : ℕ) → i < k → DeclaresAt z ts x i → ⊥) → (j : ℕ) → IsDeclaredFirstAt z ts x j → ⊥
  none_declared none j h =
      let same : h.second ≡ k = one_clash z ts x h.second k h.clash c in
      let before = h.before in
      none j (omega (arith, same, before)) h.first.is

  pub declared_first_is : {E : Type 0} (r : Result (Option ℕ) E) → IfOk r (λ o. MatchOption o ((i : ℕ) → i < k → DeclaresAt z ts x i → ⊥) (λ j. (j < k) × IsFirst (DeclaresAt z ts x) j))
      → IfOk r (λ o. IfSome o (λ j. IsDeclaredFirstAt z ts x j))
  declared_first_is (Ok None) h = tt
  declared_first_is (Ok (Some j)) h = record { second = k; clash = c; first = h.1; before = h.0 }
  declared_first_is (Err m) h = tt

  pub declared_nowhere : {E : Type 0} (r : Result (Option ℕ) E) → IfOk r (λ o. MatchOption o ((i : ℕ) → i < k → DeclaresAt z ts x i → ⊥) (λ j. (j < k) × IsFirst (DeclaresAt z ts x) j))
      → IfOk r (λ o. o ≡ None → (j : ℕ) → IsDeclaredFirstAt z ts x j → ⊥)
  declared_nowhere (Ok None) h = λ e. none_declared h
  declared_nowhere (Ok (Some j)) h = λ e. absurd (some_none e)
  declared_nowhere (Err m) h = tt

  pub declared_somewhere : {E : Type 0} (r : Result (Option ℕ) E) → IfOk r (λ o. MatchOption o ((i : ℕ) → i < k → DeclaresAt z ts x i → ⊥) (λ j. (j < k) × IsFirst (DeclaresAt z ts x) j))
      → IfOk r (λ o. find_symbol pairs_alone.symbols x ≡ None → clash_from pairs_alone (declared_before z ts (length ts)) ≡ Some x → o ≡ None → ⊥)
  declared_somewhere (Ok None) h = λ pairs clash e. none_earlier z ts x k pairs c h
  declared_somewhere (Ok (Some j)) h = λ pairs clash e. some_none e
  declared_somewhere (Err m) h = tt

-- no declaration clashes at the name
pub no_clash : (z : List ℕ) (ts : List Token) (x : List ℕ) → (clash_from pairs_alone (declared_before z ts (length ts)) ≡ Some x → ⊥) → (j : ℕ) → IsDeclaredFirstAt z ts x j → ⊥
no_clash z ts x never j h = none_clashes z ts x h.second never h.clash

pub byte_has_none : (f : Lex) → HasOtherStretch (LexFault f) → ⊥
byte_has_none f h = elim h [ ]
