-- The first declaration that clashes is one, and the signature of what is declared before a word.
use Rattle.std.proofs.Common.{◌≡◌, ◌<◌, ◌+◌, ◌-◌, ℕ, zero, suc, false, List, [], ◌∷◌, ◌++◌, append_assoc, length, refl, sym, ap, subst, ◌∙◌, arith, Option, Some, None}
use Rattle.std.proofs.lemmas.List.{append-nil}
use Rattle.std.specs.Prelude.{if◌then◌else◌, is_some}
use Rattle.std.specs.Str.{bytes_eq}
use Rattle.sap_terms.proofs.PlainLaws.Known.{two_names}
use Rattle.sap_terms.proofs.PlainLaws.Numbers.{same_number}
use Rattle.sap_terms.specs.Signature.{Sig, pairs_alone}
use Rattle.sap_text.specs.declared.token.Token.{Token}
use Rattle.sap_grammar.specs.Declarations.{Declaration}
use Rattle.sap_grammar.specs.Signatures.{clash_from, clash_with, signature_from, with_declaration}
use Rattle.sap_where.specs.FileDeclarations.{IsClashAt, declared_at, declared_before, listed}
use Rattle.sap_where.specs.code.Declaring.{clash_of, with_given}

some_none : {A : Type 0} {x : A} → ◌≡◌ {A = Option A} (Some x) None → ⊥
some_none e = absurd (cc)

some_same : {x y : List ℕ} → ◌≡◌ {A = Option (List ℕ)} (Some x) (Some y) → x ≡ y
some_same e = cc

pub signature_more : (g : Sig) (xs ys : List Declaration) → signature_from g (xs ++ ys) ≡ signature_from (signature_from g xs) ys
signature_more g [] ys = refl
signature_more g (x ∷ xs) ys = signature_more (with_declaration g x) xs ys

clash_more : (g : Sig) (xs ys : List Declaration) → clash_from g xs ≡ None → clash_from g (xs ++ ys) ≡ clash_from (signature_from g xs) ys
clash_more g [] ys none = refl
clash_more g (x ∷ xs) ys none = by (clash_with g x) refl none (clash_more (with_declaration g x) xs ys)
  where
    by : (o : Option (List ℕ)) → clash_with g x ≡ o → (if is_some o then o else clash_from (with_declaration g x) xs) ≡ None
        → (clash_from (with_declaration g x) xs ≡ None → clash_from (with_declaration g x) (xs ++ ys) ≡ clash_from (signature_from (with_declaration g x) xs) ys)
        → clash_from g (x ∷ (xs ++ ys)) ≡ clash_from (signature_from (with_declaration g x) xs) ys
    by (Some y) e f more = absurd (some_none f)
    by None e f more = rw e (more f)

-- one that clashes tells the name
clash_first : (g : Sig) (d : Declaration) (ds : List Declaration) (x : List ℕ) → clash_with g d ≡ Some x → clash_from g (d ∷ ds) ≡ Some x
clash_first g d ds x e = rw e refl

module _ (z : List ℕ) (ts : List Token) where
  -- what is declared before a later word
  later : (k n : ℕ) → (rest : List Declaration) × (declared_before z ts (k + n) ≡ declared_before z ts k ++ rest)
  later k zero = ([], ap (λ (m : ℕ). declared_before z ts m) same ∙ sym (append-nil (declared_before z ts k)))
    where
      same : k + 0 ≡ k
      same = omega arith
  later k (suc n) =
      let h = later k n in (
        h.0 ++ listed (declared_at z ts (k + n)),
        ap (λ (m : ℕ). declared_before z ts m) shift ∙ ap (λ (ds : List Declaration). ds ++ listed (declared_at z ts (k + n))) h.1
            ∙ append_assoc (declared_before z ts k) h.0 (listed (declared_at z ts (k + n))),
      )
    where
      shift : k + suc n ≡ suc (k + n)
      shift = omega arith

  -- a clash is one of all that is declared
  pub clash_stays : (x : List ℕ) (k n : ℕ) → IsClashAt z ts x k → k < n → clash_from pairs_alone (declared_before z ts n) ≡ Some x
  clash_stays x k n c lt =
      let r = later (suc k) (n - suc k) in
      let split : n ≡ suc k + (n - suc k) = omega (arith, lt) in
      let here : declared_before z ts (suc k) ≡ declared_before z ts k ++ c.declaration ∷ [] = ap (λ (o : Option Declaration). declared_before z ts k ++ listed o) c.declared in
      let all : declared_before z ts n ≡ declared_before z ts k ++ (c.declaration ∷ r.0) =
      ap (λ (m : ℕ). declared_before z ts m) split ∙ r.1 ∙ ap (λ (ds : List Declaration). ds ++ r.0) here ∙ append_assoc (declared_before z ts k) (c.declaration ∷ []) r.0 in
      ap (λ (ds : List Declaration). clash_from pairs_alone ds) all ∙ clash_more pairs_alone (declared_before z ts k) (c.declaration ∷ r.0) c.none_before
      ∙ clash_first (signature_from pairs_alone (declared_before z ts k)) c.declaration r.0 x c.clashes

  pub one_clash : (x : List ℕ) (j k : ℕ) → IsClashAt z ts x j → IsClashAt z ts x k → j ≡ k
  one_clash x j k a b =
      same_number j k (λ lt. some_none (sym (clash_stays x j k a lt) ∙ b.none_before)) (λ lt. some_none (sym (clash_stays x k j b lt) ∙ a.none_before))

  -- what is found before a word
  pub clash_is : (x : List ℕ) (k : ℕ) (g : Sig) → k < length ts → g ≡ signature_from pairs_alone (declared_before z ts k) → clash_from pairs_alone (declared_before z ts k) ≡ None
      → Some x ≡ clash_of g (declared_at z ts k) → IsClashAt z ts x k
  clash_is x k g lt same none e = by (declared_at z ts k) refl (sym e)
    where
      by : (o : Option Declaration) → declared_at z ts k ≡ o → clash_of g o ≡ Some x → IsClashAt z ts x k
      by None is f = absurd (some_none (sym f))
      by (Some d) is f = record { inside = lt; declaration = d; declared = is; clashes = subst (λ (h : Sig). clash_with h d ≡ Some x) same f; none_before = none }

  pub next_signature : (k : ℕ) (g h : Sig) → g ≡ signature_from pairs_alone (declared_before z ts k) → h ≡ with_given g (declared_at z ts k)
      → h ≡ signature_from pairs_alone (declared_before z ts (k + 1))
  next_signature k g h same e = e ∙ by (declared_at z ts k) refl ∙ ap (λ (m : ℕ). signature_from pairs_alone (declared_before z ts m)) one
    where
      one : suc k ≡ k + 1
      one = omega arith

      by : (o : Option Declaration) → declared_at z ts k ≡ o → with_given g (declared_at z ts k) ≡ signature_from pairs_alone (declared_before z ts k ++ listed (declared_at z ts k))
      by None is = rw is (same ∙ ap (λ (ds : List Declaration). signature_from pairs_alone ds) (sym (append-nil (declared_before z ts k))))
      by (Some d) is = rw is (ap (λ (h : Sig). with_declaration h d) same ∙ sym (signature_more pairs_alone (declared_before z ts k) (d ∷ [])))

  pub next_none : (k : ℕ) (g : Sig) → g ≡ signature_from pairs_alone (declared_before z ts k) → clash_from pairs_alone (declared_before z ts k) ≡ None
      → None ≡ clash_of g (declared_at z ts k) → clash_from pairs_alone (declared_before z ts (k + 1)) ≡ None
  next_none k g same none e = ap (λ (m : ℕ). clash_from pairs_alone (declared_before z ts m)) one ∙ clash_more pairs_alone (declared_before z ts k) (listed (declared_at z ts k)) none ∙ by (declared_at z ts k) refl (sym e)
    where
      one : k + 1 ≡ suc k
      one = omega arith

      by : (o : Option Declaration) → declared_at z ts k ≡ o → clash_of g o ≡ None → clash_from (signature_from pairs_alone (declared_before z ts k)) (listed (declared_at z ts k)) ≡ None
      by None is f = rw is refl
      by (Some d) is f = rw is (subst (λ (h : Sig). clash_from h (d ∷ []) ≡ None) same (rw f refl))

  pub none_clashes : (x : List ℕ) (k : ℕ) → (clash_from pairs_alone (declared_before z ts (length ts)) ≡ Some x → ⊥) → IsClashAt z ts x k → ⊥
  none_clashes x k never c = never (clash_stays x k (length ts) c c.inside)

-- one that clashes at another name
pub other_clash : (z : List ℕ) (ts : List Token) (x y : List ℕ) (k : ℕ) → IsClashAt z ts y k → bytes_eq y x ≡ false
    → clash_from pairs_alone (declared_before z ts (length ts)) ≡ Some x → ⊥
other_clash z ts x y k c other e =
    let same : y ≡ x = some_same (sym (clash_stays z ts y k (length ts) c c.inside) ∙ e) in
    two_names y x other same
