-- The clauses that terms bring.
use Rattle.std.proofs.Common.{◌≡◌, ◌<◌, ℕ, Bool, true, List, [], ◌∷◌, ◌++◌, length, Some, None, refl, sym, ap, ◌∙◌, inl, inr, subst, IsTrue}
use Rattle.std.specs.Prelude.{slice_get, Result, Ok, Err, OnOk, OnErr, Option, All}
use Rattle.std.proofs.lemmas.List.Elements.{All-nil, All-cons}
use Rattle.std.proofs.lemmas.List.{length-map}
use Rattle.sap_terms.specs.Tree.{Tree, public, fresh, apply, trees_of, list_of, list_of-trees_of}
use Rattle.sap_terms.specs.Signature.{Sig, IsPublic, arity_of}
use Rattle.sap_terms.specs.Equal.{same}
use Rattle.sap_terms.specs.Equations.{equations, IsInstance, first, second, symmetric, asymmetric, revealed, app1, app2, pair_name, fst_name, snd_name, senc_name, sdec_name, aenc_name, adec_name, pk_name, reveal_sign_name, get_message_name}
use Rattle.sap_terms.specs.Normal.{IsNormal}
use Rattle.sap_rewrite.specs.Laws.{SymbolsReduceOnce}
use Rattle.sap_share.specs.Shared.{tree_at, trees_at, AreBelow}
use Rattle.sap_derive.specs.code.Lines.{premises_of}
use Rattle.sap_derive.specs.code.Brought.{Adds}
use Rattle.sap_derive.specs.code.Clauses.{CanApply, IsMaking, writes, composes, IsOpening, takes_first, takes_second, decrypts, decrypts_by_secret, reads_signed, IsLineOn, written, applied, IsNumbered, AreNumbered, HasClause}
use Rattle.sap_derive.specs.code.Openers.{IsOpener, AreOpeners}
use Rattle.sap_derive.specs.declared.clause.Clause.{Clause}
use Rattle.sap_derive.specs.declared.closure.Closure.{Closure}
use Rattle.sap_derive.specs.declared.line.Line.TheVariants.{Public, Apply}
use Rattle.sap_derive.specs.declared.openers.Openers.{Openers}
use Rattle.sap_derive.proofs.Gets.{get-last, get-last_cases}
use Rattle.sap_derive.proofs.Shaped.{differ}

-- where a clause is put last or refused, all are numbered still
pub added-numbered : {T E : Type 0} (g : Sig) (trees : List Tree) (old new : List Clause) (clause : Clause) (r : Result T E) → OnOk r (new ≡ old ++ clause ∷ []) → OnErr r (new ≡ old)
    → AreNumbered g trees old → IsNumbered g trees clause → AreNumbered g trees new
added-numbered g trees old new clause (Ok t) e f all this c k at =
    elim (get-last_cases old clause c k (subst (λ (ks : List Clause). slice_get ks c ≡ Some k) e at))
    [ inl x ↦ all c k x | inr x ↦ subst (λ (j : Clause). IsNumbered g trees j) (sym x.1) this ]
added-numbered g trees old new clause (Err t) e f all this c k at = all c k (subst (λ (ks : List Clause). slice_get ks c ≡ Some k) f at)

pub added-has : {T E : Type 0} (trees : List Tree) (old new : List Clause) (clause : Clause) (r : Result T E) → OnOk r (new ≡ old ++ clause ∷ [])
    → OnOk r (HasClause trees new (trees_at trees (premises_of clause.line)) (tree_at trees clause.gives))
added-has trees old new clause (Ok t) e =
    record { index = length old; clause = clause; at = subst (λ (ks : List Clause). slice_get ks (length old) ≡ Some clause) (sym e) (get-last old clause); asks = refl; gives = refl }
added-has trees old new clause (Err t) e = tt

-- clauses stay
pub has-kept : (trees : List Tree) (old new : Closure) (ts : List Tree) (t : Tree) → Adds old new → HasClause trees old.clauses ts t → HasClause trees new.clauses ts t
has-kept trees old new ts t a h = record { index = h.index; clause = h.clause; at = a.kept h.index h.clause h.at; asks = h.asks; gives = h.gives }

pub adds-then : (s t u : Closure) → Adds s t → Adds t u → Adds s u
adds-then s t u a b = record { kept = λ c k e. b.kept c k (a.kept c k e); known = b.known ∙ a.known; ways = b.ways ∙ a.ways }

pub adds-none : (s : Closure) → Adds s s
adds-none s = record { kept = λ c k e. e; known = refl; ways = refl }

-- a symbol that takes terms apart
pub opener-is : (g : Sig) (name : List ℕ) (count : ℕ) (on : Bool) (o : Option (List ℕ)) (n : List ℕ) → IsOpener g name count on o → o ≡ Some n → (n ≡ name) × IsTrue on × CanApply g name count
opener-is g name count on None n h e = cc
opener-is g name count on (Some m) n h e = let s : m ≡ n = cc in (sym s ∙ h.0, h.1, h.2)

pub opener-had : (g : Sig) (name : List ℕ) (count : ℕ) (on : Bool) (o : Option (List ℕ)) → IsOpener g name count on o → IsTrue on → CanApply g name count → (n : List ℕ) × (o ≡ Some n)
opener-had g name count on None h t can = absurd (h (t, can))
opener-had g name count on (Some m) h t can = (m, refl)

module _ (once : SymbolsReduceOnce) (g : Sig) (trees : List Tree) (o : Openers) (openers : AreOpeners g o) where
  -- an opening by a symbol is a numbered clause
  numbered : (name : List ℕ) (whole : ℕ) (rest : List ℕ) (gives : ℕ) → AreBelow (length trees) (whole ∷ rest) → gives < length trees
      → IsOpening g (tree_at trees whole) (trees_at trees rest) (tree_at trees gives) → CanApply g name (length (whole ∷ rest))
      → IsInstance (equations g) (apply name (trees_of (trees_at trees (whole ∷ rest)))) (tree_at trees gives)
      → All (IsNormal (equations g)) (trees_at trees (whole ∷ rest)) → IsNumbered g trees (record { line = Apply name (whole ∷ rest); gives = gives })
  numbered name whole rest gives below gives_below opening can inst normal = record {
    below = below;
    gives_below = gives_below;
    kind = inr (record { whole = whole; rest = rest; premises = refl; opening = opening });
    line = applied name (whole ∷ rest) (tree_at trees gives) can
        (once.right_side_is_form (equations g) name (trees_of (trees_at trees (whole ∷ rest))) (tree_at trees gives) (once.of_lists (equations g) (trees_at trees (whole ∷ rest)) normal) inst);
  }

  by_name : (m name : List ℕ) (ks : List ℕ) (gives : ℕ) → m ≡ name → IsNumbered g trees (record { line = Apply name ks; gives = gives }) → IsNumbered g trees (record { line = Apply m ks; gives = gives })
  by_name m name ks gives e h = subst (λ (i : List ℕ). IsNumbered g trees (record { line = Apply i ks; gives = gives })) (sym e) h

  one_below : (n : ℕ) → n < length trees → AreBelow (length trees) (n ∷ [])
  one_below n l = All-cons (λ k. k < length trees) n [] l (All-nil (λ k. k < length trees))

  two_below : (n k : ℕ) → n < length trees → k < length trees → AreBelow (length trees) (n ∷ k ∷ [])
  two_below n k l m = All-cons (λ k. k < length trees) n (k ∷ []) l (one_below k m)

  Normal : Tree → Type 0
  Normal t = IsNormal (equations g) t

  one_normal : (n : ℕ) → IsNormal (equations g) (tree_at trees n) → All (IsNormal (equations g)) (trees_at trees (n ∷ []))
  one_normal n h = All-cons (IsNormal (equations g)) (tree_at trees n) [] h (All-nil (IsNormal (equations g)))

  two_normal : (n k : ℕ) → IsNormal (equations g) (tree_at trees n) → IsNormal (equations g) (tree_at trees k) → All (IsNormal (equations g)) (trees_at trees (n ∷ k ∷ []))
  two_normal n k h i = All-cons (IsNormal (equations g)) (tree_at trees n) (tree_at trees k ∷ []) h (one_normal k i)

  module _ (n : ℕ) (below : n < length trees) (normal : IsNormal (equations g) (tree_at trees n)) where
    pub first-numbered : (x y : ℕ) → x < length trees → tree_at trees n ≡ app2 pair_name (tree_at trees x) (tree_at trees y)
        → (m : List ℕ) → o.first ≡ Some m → IsNumbered g trees (record { line = Apply m (n ∷ []); gives = x })
    first-numbered x y l e m q =
        let h = opener-is g fst_name 1 true o.first m openers.first q in
        by_name m fst_name (n ∷ []) x h.0
        (numbered fst_name n [] x (one_below n below) l (subst (λ (t : Tree). IsOpening g t [] (tree_at trees x)) (sym e) (takes_first (tree_at trees x) (tree_at trees y) h.2)) h.2
        (subst (λ (t : Tree). IsInstance (equations g) (app1 fst_name t) (tree_at trees x)) (sym e) first) (one_normal n normal))

    pub second-numbered : (x y : ℕ) → y < length trees → tree_at trees n ≡ app2 pair_name (tree_at trees x) (tree_at trees y)
        → (m : List ℕ) → o.second ≡ Some m → IsNumbered g trees (record { line = Apply m (n ∷ []); gives = y })
    second-numbered x y l e m q =
        let h = opener-is g snd_name 1 true o.second m openers.second q in
        by_name m snd_name (n ∷ []) y h.0
        (numbered snd_name n [] y (one_below n below) l (subst (λ (t : Tree). IsOpening g t [] (tree_at trees y)) (sym e) (takes_second (tree_at trees x) (tree_at trees y) h.2)) h.2
        (subst (λ (t : Tree). IsInstance (equations g) (app1 snd_name t) (tree_at trees y)) (sym e) second) (one_normal n normal))

    pub decrypts-numbered : (x k : ℕ) → x < length trees → k < length trees → tree_at trees n ≡ app2 senc_name (tree_at trees x) (tree_at trees k)
        → (m : List ℕ) → o.decrypts ≡ Some m → IsNumbered g trees (record { line = Apply m (n ∷ k ∷ []); gives = x })
    decrypts-numbered x k l j e m q =
        let h = opener-is g sdec_name 2 (equations g).symmetric o.decrypts m openers.decrypts q in
        let parts = subst (λ (t : Tree). IsNormal (equations g) t) e normal in
        by_name m sdec_name (n ∷ k ∷ []) x h.0
        (numbered sdec_name n (k ∷ []) x (two_below n k below j) l (subst (λ (t : Tree). IsOpening g t (tree_at trees k ∷ []) (tree_at trees x)) (sym e) (decrypts (tree_at trees x) (tree_at trees k) h.1 h.2)) h.2
        (subst (λ (t : Tree). IsInstance (equations g) (app2 sdec_name t (tree_at trees k)) (tree_at trees x)) (sym e) (symmetric h.1)) (two_normal n k normal parts.1.1.0))

    pub secret-numbered : (x k : ℕ) → x < length trees → k < length trees → tree_at trees n ≡ app2 aenc_name (tree_at trees x) (app1 pk_name (tree_at trees k))
        → (m : List ℕ) → o.decrypts_by_secret ≡ Some m → IsNumbered g trees (record { line = Apply m (n ∷ k ∷ []); gives = x })
    secret-numbered x k l j e m q =
        let h = opener-is g adec_name 2 (equations g).asymmetric o.decrypts_by_secret m openers.decrypts_by_secret q in
        let parts = subst (λ (t : Tree). IsNormal (equations g) t) e normal in
        by_name m adec_name (n ∷ k ∷ []) x h.0
        (numbered adec_name n (k ∷ []) x (two_below n k below j) l (subst (λ (t : Tree). IsOpening g t (tree_at trees k ∷ []) (tree_at trees x)) (sym e) (decrypts_by_secret (tree_at trees x) (tree_at trees k) h.1 h.2)) h.2
        (subst (λ (t : Tree). IsInstance (equations g) (app2 adec_name t (tree_at trees k)) (tree_at trees x)) (sym e) (asymmetric h.1)) (two_normal n k normal parts.1.1.0.1.0))

    pub reads-numbered : (x y : ℕ) → x < length trees → tree_at trees n ≡ app2 reveal_sign_name (tree_at trees x) (tree_at trees y)
        → (m : List ℕ) → o.reads ≡ Some m → IsNumbered g trees (record { line = Apply m (n ∷ []); gives = x })
    reads-numbered x y l e m q =
        let h = opener-is g get_message_name 1 (equations g).revealing o.reads m openers.reads q in
        by_name m get_message_name (n ∷ []) x h.0
        (numbered get_message_name n [] x (one_below n below) l (subst (λ (t : Tree). IsOpening g t [] (tree_at trees x)) (sym e) (reads_signed (tree_at trees x) (tree_at trees y) h.1 h.2)) h.2
        (subst (λ (t : Tree). IsInstance (equations g) (app1 get_message_name t) (tree_at trees x)) (sym e) (revealed h.1)) (one_normal n normal))

  module _ (cs : List Clause) (X Y : Tree) where
    pub pair-openings : (h : Tree) → h ≡ app2 pair_name X Y → ((m : List ℕ) → o.first ≡ Some m → HasClause trees cs (h ∷ []) X) → ((m : List ℕ) → o.second ≡ Some m → HasClause trees cs (h ∷ []) Y)
        → (rest : List Tree) (t : Tree) → IsOpening g h rest t → HasClause trees cs (h ∷ rest) t
    pair-openings _ e a b _ _ (takes_first x y can) =
        let n = opener-had g fst_name 1 true o.first openers.first refl can in
        let s : X ≡ x = cc in subst (λ (u : Tree). HasClause trees cs (app2 pair_name x y ∷ []) u) s (a n.0 n.1)
    pair-openings _ e a b _ _ (takes_second x y can) =
        let n = opener-had g snd_name 1 true o.second openers.second refl can in
        let s : Y ≡ y = cc in subst (λ (u : Tree). HasClause trees cs (app2 pair_name x y ∷ []) u) s (b n.0 n.1)
    pair-openings _ e a b _ _ (decrypts m k on can) = absurd (differ senc_name pair_name refl refl (cc))
    pair-openings _ e a b _ _ (decrypts_by_secret m k on can) = absurd (differ aenc_name pair_name refl refl (cc))
    pair-openings _ e a b _ _ (reads_signed m k on can) = absurd (differ reveal_sign_name pair_name refl refl (cc))

    pub encrypted-openings : (h : Tree) → h ≡ app2 senc_name X Y → ((m : List ℕ) → o.decrypts ≡ Some m → HasClause trees cs (h ∷ Y ∷ []) X)
        → (rest : List Tree) (t : Tree) → IsOpening g h rest t → HasClause trees cs (h ∷ rest) t
    encrypted-openings _ e a _ _ (takes_first x y can) = absurd (differ pair_name senc_name refl refl (cc))
    encrypted-openings _ e a _ _ (takes_second x y can) = absurd (differ pair_name senc_name refl refl (cc))
    encrypted-openings _ e a _ _ (decrypts m k on can) =
        let n = opener-had g sdec_name 2 (equations g).symmetric o.decrypts openers.decrypts on can in
        let s : X ≡ m = cc in
        let r : Y ≡ k = cc in
        subst (λ (u : Tree). HasClause trees cs (app2 senc_name m k ∷ u ∷ []) m) r (subst (λ (u : Tree). HasClause trees cs (app2 senc_name m k ∷ Y ∷ []) u) s (a n.0 n.1))
    encrypted-openings _ e a _ _ (decrypts_by_secret m k on can) = absurd (differ aenc_name senc_name refl refl (cc))
    encrypted-openings _ e a _ _ (reads_signed m k on can) = absurd (differ reveal_sign_name senc_name refl refl (cc))

    pub secret-openings : (h : Tree) → h ≡ app2 aenc_name X (app1 pk_name Y) → ((m : List ℕ) → o.decrypts_by_secret ≡ Some m → HasClause trees cs (h ∷ Y ∷ []) X)
        → (rest : List Tree) (t : Tree) → IsOpening g h rest t → HasClause trees cs (h ∷ rest) t
    secret-openings _ e a _ _ (takes_first x y can) = absurd (differ pair_name aenc_name refl refl (cc))
    secret-openings _ e a _ _ (takes_second x y can) = absurd (differ pair_name aenc_name refl refl (cc))
    secret-openings _ e a _ _ (decrypts m k on can) = absurd (differ senc_name aenc_name refl refl (cc))
    secret-openings _ e a _ _ (decrypts_by_secret m k on can) =
        let n = opener-had g adec_name 2 (equations g).asymmetric o.decrypts_by_secret openers.decrypts_by_secret on can in
        let s : X ≡ m = cc in
        let r : Y ≡ k = cc in
        subst (λ (u : Tree). HasClause trees cs (app2 aenc_name m (app1 pk_name k) ∷ u ∷ []) m) r (subst (λ (u : Tree). HasClause trees cs (app2 aenc_name m (app1 pk_name k) ∷ Y ∷ []) u) s (a n.0 n.1))
    secret-openings _ e a _ _ (reads_signed m k on can) = absurd (differ reveal_sign_name aenc_name refl refl (cc))

    pub signed-openings : (h : Tree) → h ≡ app2 reveal_sign_name X Y → ((m : List ℕ) → o.reads ≡ Some m → HasClause trees cs (h ∷ []) X)
        → (rest : List Tree) (t : Tree) → IsOpening g h rest t → HasClause trees cs (h ∷ rest) t
    signed-openings _ e a _ _ (takes_first x y can) = absurd (differ pair_name reveal_sign_name refl refl (cc))
    signed-openings _ e a _ _ (takes_second x y can) = absurd (differ pair_name reveal_sign_name refl refl (cc))
    signed-openings _ e a _ _ (decrypts m k on can) = absurd (differ senc_name reveal_sign_name refl refl (cc))
    signed-openings _ e a _ _ (decrypts_by_secret m k on can) = absurd (differ aenc_name reveal_sign_name refl refl (cc))
    signed-openings _ e a _ _ (reads_signed m k on can) =
        let n = opener-had g get_message_name 1 (equations g).revealing o.reads openers.reads on can in
        let s : X ≡ m = cc in subst (λ (u : Tree). HasClause trees cs (app2 reveal_sign_name m k ∷ []) u) s (a n.0 n.1)

-- how terms are made
pub makings-public : (g : Sig) (trees : List Tree) (cs : List Clause) (a : List ℕ) (t : Tree) → public a ≡ t → HasClause trees cs [] t → (ts : List Tree) → IsMaking g ts t → HasClause trees cs ts t
makings-public g trees cs a _ e h _ (writes n) = h
makings-public g trees cs a _ e h _ (composes f ts can) = absurd (cc)

pub makings-fresh : (g : Sig) (trees : List Tree) (cs : List Clause) (k : ℕ) (t : Tree) → fresh k ≡ t → (ts : List Tree) → IsMaking g ts t → HasClause trees cs ts t
makings-fresh g trees cs k _ e _ (writes n) = absurd (cc)
makings-fresh g trees cs k _ e _ (composes f ts can) = absurd (cc)

same_arguments : (us ts : List Tree) → trees_of us ≡ trees_of ts → us ≡ ts
same_arguments us ts e = sym (list_of-trees_of us) ∙ ap list_of e ∙ list_of-trees_of ts

pub makings-applied : (g : Sig) (trees : List Tree) (cs : List Clause) (f : List ℕ) (us : List Tree) (t : Tree) → apply f (trees_of us) ≡ t → (IsPublic g f → HasClause trees cs us t)
    → (ts : List Tree) → IsMaking g ts t → HasClause trees cs ts t
makings-applied g trees cs f us _ e h _ (writes n) = absurd (cc)
makings-applied g trees cs f us _ e h _ (composes d ts can) =
    let q : trees_of us ≡ trees_of ts = cc in
    let name : d ≡ f = cc in
    subst (λ (vs : List Tree). HasClause trees cs vs (apply d (trees_of ts))) (same_arguments us ts q) (h (subst (λ (n : List ℕ). IsPublic g n) name can.public_symbol))

pub written-numbered : (g : Sig) (trees : List Tree) (a : List ℕ) (n : ℕ) → n < length trees → public a ≡ tree_at trees n → IsNumbered g trees (record { line = Public a; gives = n })
written-numbered g trees a n l e = record {
  below = All-nil (λ k. k < length trees);
  gives_below = l;
  kind = inl (subst (λ (t : Tree). IsMaking g [] t) e (writes a));
  line = subst (λ (t : Tree). IsLineOn g trees (Public a) t) e (written a);
}

pub composed-numbered : (g : Sig) (trees : List Tree) (f ks : List ℕ) (n : ℕ) → n < length trees → AreBelow (length trees) ks → IsPublic g f → arity_of g f ≡ Some (length ks)
    → apply f (trees_of (trees_at trees ks)) ≡ tree_at trees n → IsNormal (equations g) (tree_at trees n) → IsNumbered g trees (record { line = Apply f ks; gives = n })
composed-numbered g trees f ks n l below p a e normal = record {
  below = below;
  gives_below = l;
  kind = inl (subst (λ (t : Tree). IsMaking g (trees_at trees ks) t) e (composes f (trees_at trees ks) (record { public_symbol = p; arity = a ∙ ap Some (sym (length-map ks (tree_at trees))) })));
  line = subst (λ (t : Tree). IsLineOn g trees (Apply f ks) t) e
      (applied f ks (apply f (trees_of (trees_at trees ks))) (record { public_symbol = p; arity = a }) (record { equal = same; normal = subst (λ (t : Tree). IsNormal (equations g) t) (sym e) normal }));
}
