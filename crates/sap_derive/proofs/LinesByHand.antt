-- Which lines are possible and what they give, and what is found of goals, by hand.
use Rattle.std.proofs.Common.{◌≡◌, ℕ, zero, suc, List, [], ◌∷◌, ◌++◌, length, map, Some, refl, sym, ap, ◌∙◌, inl, inr, arith, lit≤, subst}
use Rattle.std.specs.Prelude.{codes, slice_get, All}
use Rattle.std.proofs.lemmas.Bool.{false≢true}
use Rattle.std.proofs.lemmas.List.{same_from_push}
use Rattle.std.proofs.lemmas.List.Elements.{All-nil, All-cons, All-head}
use Rattle.sap_terms.proofs.PlainLaws.Items.{first_item, item_cases, cons_cases}
use Rattle.sap_terms.specs.Tree.{Tree, public, fresh, apply, trees_of}
use Rattle.sap_terms.specs.Signature.{Sig, IsPublic, arity_of}
use Rattle.sap_terms.specs.Equal.{forward, same, next}
use Rattle.sap_terms.specs.Equations.{Equations, IsInstance, first, second, symmetric, asymmetric, signing, revealing, revealed, equations, app2, pair_name, senc_name, sdec_name, adec_name}
use Rattle.sap_terms.specs.Normal.{IsNormal, IsNormalForm}
use Rattle.sap_rewrite.specs.Laws.{FormIsOne}
use Rattle.sap_derive.specs.Found.{IsFound, NoneTwice, NoneInBoth}
use Rattle.sap_derive.specs.LineExamples.{signature, term_a, term_b, secret, LinesByHand, by_lines, FoundByHand}
use Rattle.sap_derive.specs.Lines.{IsLine, writes, applies, Give, no_lines, one_more}
use Rattle.sap_derive.specs.Near.{IsNear, IsSubterm, whole, within}
use Rattle.sap_derive.specs.declared.line.Line.{Line}
use Rattle.sap_derive.specs.declared.line.Line.TheVariants.{Public, Apply}
use Rattle.sap_derive.proofs.ByHand.{not-fresh}
use Rattle.sap_derive.proofs.Gets.{append-none}
use Rattle.sap_derive.proofs.Openings.{public-own, fresh-own}
use Rattle.sap_derive.proofs.Shaped.{differ}

-- what lines of a given form give
not-empty : {X : Type 0} (xs : List X) (x : X) → xs ++ x ∷ [] ≡ [] → ⊥
not-empty [] x e = absurd (cc)
not-empty (y ∷ xs) x e = absurd (cc)

module _ (g : Sig) (ts : List Tree) where
  give-none : (ls : List Line) (us : List Tree) → ls ≡ [] → Give g ts ls us → us ≡ []
  give-none _ _ e no_lines = refl
  give-none _ _ e (one_more ls us l u h i) = absurd (not-empty ls l e)

  give-last : (ls : List Line) (us : List Tree) (ms : List Line) (m : Line) → ls ≡ ms ++ m ∷ [] → Give g ts ls us
      → (vs : List Tree) × (u : Tree) × (us ≡ vs ++ u ∷ []) × Give g ts ms vs × IsLine g (ts ++ vs) m u
  give-last _ _ ms m e no_lines = absurd (not-empty ms m (sym e))
  give-last _ _ ms m e (one_more ls us l u h i) =
      let q = same_from_push ls ms l m e in
      (us, u, refl, subst (λ (ks : List Line). Give g ts ks us) q.0 h, subst (λ (k : Line). IsLine g (ts ++ us) k u) q.1 i)

  give-one : (l : Line) (us : List Tree) → Give g ts (l ∷ []) us → (u : Tree) × (us ≡ u ∷ []) × IsLine g ts l u
  give-one l us h =
      let r = give-last (l ∷ []) us [] l refl h in
      let e = give-none [] r.0 refl r.3 in (
        r.1,
        r.2 ∙ ap (λ (vs : List Tree). vs ++ r.1 ∷ []) e,
        subst (λ (vs : List Tree). IsLine g vs l r.1) (sym (append-none ts)) (subst (λ (vs : List Tree). IsLine g (ts ++ vs) l r.1) e r.4),
      )

  line-written : (a : List ℕ) (l : Line) (t : Tree) → l ≡ Public a → IsLine g ts l t → t ≡ public a
  line-written a _ _ e (writes b) = cc
  line-written a _ _ e (applies f ks us t p n m form w) = absurd (cc)

  line-applied : (f ks : List ℕ) (l : Line) (t : Tree) → l ≡ Apply f ks → IsLine g ts l t
      → (us : List Tree) × IsPublic g f × (arity_of g f ≡ Some (length ks)) × (map (slice_get ts) ks ≡ map Some us) × IsNormalForm (equations g) (apply f (trees_of us)) t
  line-applied f ks _ _ e (writes b) = absurd (cc)
  line-applied f ks _ _ e (applies h js us t p n m form w) =
      let q : h ≡ f = cc in
      let r : js ≡ ks = cc in (
        us,
        subst (λ (x : List ℕ). IsPublic g x) q p,
        subst (λ (x : List ℕ). arity_of g x ≡ Some (length ks)) q (subst (λ (x : List ℕ). arity_of g h ≡ Some (length x)) r n),
        subst (λ (x : List ℕ). map (slice_get ts) x ≡ map Some us) r m,
        subst (λ (x : List ℕ). IsNormalForm (equations g) (apply x (trees_of us)) t) q form,
      )

-- what is read off equations
some-two : (x y : Tree) (us : List Tree) → map Some us ≡ Some x ∷ Some y ∷ [] → us ≡ x ∷ y ∷ []
some-two x y [] e = absurd (cc)
some-two x y (u ∷ []) e = absurd (cc)
some-two x y (u ∷ v ∷ []) e = let q : u ≡ x = cc in let r : v ≡ y = cc in λ i. q i ∷ r i ∷ []
some-two x y (u ∷ v ∷ w ∷ us) e = absurd (cc)

public-same : (m n : List ℕ) → public m ≡ public n → m ≡ n
public-same m n e = cc

pair-firsts : (m n : List ℕ) (x y : Tree) → app2 pair_name (public m) x ≡ app2 pair_name (public n) y → m ≡ n
pair-firsts m n x y e = let q : public m ≡ public n = cc in public-same m n q

none-there : (us : List Tree) → map (slice_get (term_a ∷ [])) (0 ∷ 1 ∷ []) ≡ map Some us → ⊥
none-there [] e = absurd (cc)
none-there (u ∷ []) e = absurd (cc)
none-there (u ∷ v ∷ us) e = absurd (cc)

some-differ : (m n : ℕ) → (m ≡ n → ⊥) → Some m ≡ Some n → ⊥
some-differ m n d e = d (cc)

two-not_one : arity_of signature pair_name ≡ Some 1 → ⊥
two-not_one e = some-differ 2 1 (λ (q : 2 ≡ 1). omega arith) e

not-public : IsPublic signature (codes "q") → ⊥
not-public e = false≢true (sym e)

-- a symbol on two terms that decrypts nothing is no left side
two-own : (f : List ℕ) (x y : Tree) → (f ≡ sdec_name → ⊥) → (f ≡ adec_name → ⊥) → (e : Equations) (l b : Tree) → l ≡ app2 f x y → IsInstance e l b → ⊥
two-own f x y s a e _ _ q first = absurd (cc)
two-own f x y s a e _ _ q second = absurd (cc)
two-own f x y s a e _ _ q (symmetric on) = s (cc)
two-own f x y s a e _ _ q (asymmetric on) = a (cc)
two-own f x y s a e _ _ q (signing on) = absurd (cc)
two-own f x y s a e _ _ q (revealing on) = absurd (cc)
two-own f x y s a e _ _ q (revealed on) = absurd (cc)

secret-normal : IsNormal (equations signature) secret
secret-normal = (
  λ b i. two-own senc_name (fresh 1) (fresh 2) (differ senc_name sdec_name refl refl) (differ senc_name adec_name refl refl) (equations signature) secret b refl i,
  (λ b i. fresh-own (equations signature) 1 (fresh 1) b refl i, (λ b i. fresh-own (equations signature) 2 (fresh 2) b refl i, tt)),
)

-- with another key nothing is opened
other-key : (e : Equations) (l b : Tree) → l ≡ app2 sdec_name secret (fresh 3) → IsInstance e l b → ⊥
other-key e _ _ q first = absurd (cc)
other-key e _ _ q second = absurd (cc)
other-key e _ _ q (symmetric {m} {k} on) =
    let one : k ≡ fresh 2 = cc in
    let two : k ≡ fresh 3 = cc in
    not-fresh 2 3 (λ (s : 2 ≡ 3). omega arith) (sym one ∙ two)
other-key e _ _ q (asymmetric on) = differ sdec_name adec_name refl refl (cc)
other-key e _ _ q (signing on) = absurd (cc)
other-key e _ _ q (revealing on) = absurd (cc)
other-key e _ _ q (revealed on) = absurd (cc)

still-closed : IsNormalForm (equations signature) (app2 sdec_name secret (fresh 3)) (app2 sdec_name secret (fresh 3))
still-closed = record {
  equal = same;
  normal = (λ b i. other-key (equations signature) (app2 sdec_name secret (fresh 3)) b refl i, (secret-normal, (λ b i. fresh-own (equations signature) 3 (fresh 3) b refl i, tt)));
}

public-normal : (n : List ℕ) → IsNormal (equations signature) (public n)
public-normal n b i = public-own (equations signature) n (public n) b refl i

pair-form : (m n : List ℕ) → IsNormalForm (equations signature) (app2 pair_name (public m) (public n)) (app2 pair_name (public m) (public n))
pair-form m n = record {
  equal = same;
  normal = (
    λ b i. two-own pair_name (public m) (public n) (differ pair_name sdec_name refl refl) (differ pair_name adec_name refl refl) (equations signature) (app2 pair_name (public m) (public n)) b refl i,
    (public-normal m, (public-normal n, tt)),
  );
}

open-form : IsNormalForm (equations signature) (app2 sdec_name secret (fresh 2)) (fresh 1)
open-form = record { equal = next (forward (symmetric refl)) same; normal = λ b i. fresh-own (equations signature) 1 (fresh 1) b refl i }

opened-line : IsLine signature (secret ∷ fresh 2 ∷ []) (Apply sdec_name (0 ∷ 1 ∷ [])) (fresh 1)
opened-line = applies sdec_name (0 ∷ 1 ∷ []) (secret ∷ fresh 2 ∷ []) (fresh 1) refl refl refl open-form (lit≤ tt)

opened-given : Give signature (secret ∷ fresh 2 ∷ []) (Apply sdec_name (0 ∷ 1 ∷ []) ∷ []) (fresh 1 ∷ [])
opened-given = one_more [] [] (Apply sdec_name (0 ∷ 1 ∷ [])) (fresh 1) no_lines opened-line

a-given : (ts : List Tree) (n : List ℕ) → Give signature ts (Public n ∷ []) (public n ∷ [])
a-given ts n = one_more [] [] (Public n) (public n) no_lines (writes n)

b-differs : codes "a" ≡ codes "b" → ⊥
b-differs = differ (codes "a") (codes "b") refl refl

pub lines-by_hand : FormIsOne → LinesByHand
lines-by_hand one = record {
  opened = opened-given;
  paired = one_more (Public (codes "a") ∷ Public (codes "b") ∷ []) (term_a ∷ term_b ∷ []) (Apply pair_name (1 ∷ 0 ∷ [])) (app2 pair_name term_b term_a)
      (one_more (Public (codes "a") ∷ []) (term_a ∷ []) (Public (codes "b")) term_b (a-given [] (codes "a")) (writes (codes "b")))
      (applies pair_name (1 ∷ 0 ∷ []) (term_b ∷ term_a ∷ []) (app2 pair_name term_b term_a) refl refl refl (pair-form (codes "b") (codes "a")) (lit≤ tt));
  wrong_key = λ h. wrong_key h;
  turned = λ h. turned h;
  behind = λ us h. behind us h;
  too_few = λ us h. too_few us h;
  private_symbol = λ us h. private us h;
  unwritten = λ us h. unwritten us h;
} where
  wrong_key : Give signature (secret ∷ fresh 3 ∷ []) (Apply sdec_name (0 ∷ 1 ∷ []) ∷ []) (fresh 1 ∷ []) → ⊥
  wrong_key h =
      let r = give-one signature (secret ∷ fresh 3 ∷ []) (Apply sdec_name (0 ∷ 1 ∷ [])) (fresh 1 ∷ []) h in
      let q : r.0 ≡ fresh 1 = cc in
      let a = line-applied signature (secret ∷ fresh 3 ∷ []) sdec_name (0 ∷ 1 ∷ []) (Apply sdec_name (0 ∷ 1 ∷ [])) r.0 refl r.2 in
      let us = some-two secret (fresh 3) a.0 (sym a.3) in
      let form = subst (λ (t : Tree). IsNormalForm (equations signature) (app2 sdec_name secret (fresh 3)) t) q (subst (λ (vs : List Tree). IsNormalForm (equations signature) (apply sdec_name (trees_of vs)) r.0) us a.4) in
      let e = one (equations signature) (app2 sdec_name secret (fresh 3)) (fresh 1) (app2 sdec_name secret (fresh 3)) form still-closed in
      absurd (cc)

  turned : Give signature (term_a ∷ term_b ∷ []) (Apply pair_name (1 ∷ 0 ∷ []) ∷ []) (app2 pair_name term_a term_b ∷ []) → ⊥
  turned h =
      let r = give-one signature (term_a ∷ term_b ∷ []) (Apply pair_name (1 ∷ 0 ∷ [])) (app2 pair_name term_a term_b ∷ []) h in
      let q : r.0 ≡ app2 pair_name term_a term_b = cc in
      let a = line-applied signature (term_a ∷ term_b ∷ []) pair_name (1 ∷ 0 ∷ []) (Apply pair_name (1 ∷ 0 ∷ [])) r.0 refl r.2 in
      let us = some-two term_b term_a a.0 (sym a.3) in
      let form = subst (λ (t : Tree). IsNormalForm (equations signature) (app2 pair_name term_b term_a) t) q (subst (λ (vs : List Tree). IsNormalForm (equations signature) (apply pair_name (trees_of vs)) r.0) us a.4) in
      let e = one (equations signature) (app2 pair_name term_b term_a) (app2 pair_name term_a term_b) (app2 pair_name term_b term_a) form (pair-form (codes "b") (codes "a")) in
      b-differs (pair-firsts (codes "a") (codes "b") term_b term_a e)

  behind : (us : List Tree) → Give signature (term_a ∷ []) (Apply pair_name (0 ∷ 1 ∷ []) ∷ []) us → ⊥
  behind us h =
      let r = give-one signature (term_a ∷ []) (Apply pair_name (0 ∷ 1 ∷ [])) us h in
      let a = line-applied signature (term_a ∷ []) pair_name (0 ∷ 1 ∷ []) (Apply pair_name (0 ∷ 1 ∷ [])) r.0 refl r.2 in
      none-there a.0 a.3

  too_few : (us : List Tree) → Give signature (term_a ∷ []) (Apply pair_name (0 ∷ []) ∷ []) us → ⊥
  too_few us h =
      let r = give-one signature (term_a ∷ []) (Apply pair_name (0 ∷ [])) us h in
      let a = line-applied signature (term_a ∷ []) pair_name (0 ∷ []) (Apply pair_name (0 ∷ [])) r.0 refl r.2 in
      two-not_one a.2

  private : (us : List Tree) → Give signature (term_a ∷ []) (Apply (codes "q") (0 ∷ []) ∷ []) us → ⊥
  private us h =
      let r = give-one signature (term_a ∷ []) (Apply (codes "q") (0 ∷ [])) us h in
      let a = line-applied signature (term_a ∷ []) (codes "q") (0 ∷ []) (Apply (codes "q") (0 ∷ [])) r.0 refl r.2 in
      not-public a.1

  unwritten : (us : List Tree) → Give signature [] (Public (codes "a") ∷ []) (term_b ∷ us) → ⊥
  unwritten us h =
      let r = give-one signature [] (Public (codes "a")) (term_b ∷ us) h in
      let q : r.0 ≡ term_b = cc in
      let w = line-written signature [] (codes "a") (Public (codes "a")) r.0 refl r.2 in
      b-differs (public-same (codes "a") (codes "b") (sym w ∙ q))

-- of one term
once-one : (t : Tree) → NoneTwice (t ∷ [])
once-one t zero zero u a b = refl
once-one t zero (suc j) u a b = absurd (cc)
once-one t (suc i) j u a b = absurd (cc)

none-once : NoneTwice []
none-once i j u a b = absurd (cc)

not-secret : (i : ℕ) → slice_get (secret ∷ fresh 2 ∷ []) i ≡ Some (fresh 1) → ⊥
not-secret zero e = let q : secret ≡ fresh 1 = cc in absurd (cc)
not-secret (suc zero) e = not-fresh 2 1 (λ (s : 2 ≡ 1). omega arith) (cc)
not-secret (suc (suc i)) e = absurd (cc)

entry-found : (k : ℕ) → slice_get (term_a ∷ term_b ∷ term_a ∷ []) k ≡ Some term_a → IsFound signature (term_a ∷ term_b ∷ term_a ∷ []) term_a (by_lines [] k)
entry-found k e = ([], record { lines = no_lines; goal_is = e; near = All-nil (IsNear (term_a ∷ term_b ∷ term_a ∷ []) term_a); once = none-once; new = λ i j t a b. absurd (cc) })

-- what is found where lines are known
given-none : (entries : List Tree) (goal : Tree) (k : ℕ) → IsFound signature entries goal (by_lines [] k) → slice_get entries k ≡ Some goal
given-none entries goal k f =
    let e = give-none signature entries [] f.0 refl f.1.lines in
    subst (λ (ts : List Tree). slice_get ts k ≡ Some goal) (sym (append-none entries)) (subst (λ (us : List Tree). slice_get (entries ++ us) k ≡ Some goal) e f.1.goal_is)

given-one : (entries : List Tree) (n : List ℕ) (us : List Tree) → Give signature entries (Public n ∷ []) us → us ≡ public n ∷ []
given-one entries n us h =
    let r = give-one signature entries (Public n) us h in
    let w = line-written signature entries n (Public n) r.0 refl r.2 in
    r.1 ∙ ap (λ (t : Tree). t ∷ []) w

given-two : (m n : List ℕ) (us : List Tree) → Give signature [] (Public m ∷ Public n ∷ []) us → us ≡ public m ∷ public n ∷ []
given-two m n us h =
    let r = give-last signature [] (Public m ∷ Public n ∷ []) us (Public m ∷ []) (Public n) refl h in
    let e = given-one [] m r.0 r.3 in
    let w = line-written signature ([] ++ r.0) n (Public n) r.1 refl r.4 in
    r.2 ∙ ap (λ (vs : List Tree). vs ++ r.1 ∷ []) e ∙ ap (λ (t : Tree). public m ∷ t ∷ []) w

in-public : (n : List ℕ) (t u : Tree) → u ≡ public n → IsSubterm t u → t ≡ public n
in-public n t _ e whole = e
in-public n t _ e (within i s) = absurd (cc)

not-b : term_a ≡ term_b → ⊥
not-b e = b-differs (public-same (codes "a") (codes "b") e)

pub found-by_hand : FoundByHand
found-by_hand = record {
  written = (
    term_a ∷ [],
    record {
      lines = a-given [] (codes "a");
      goal_is = refl;
      near = All-cons (IsNear [] term_a) term_a [] (record { above = term_a; among = first_item term_a []; stands = whole }) (All-nil (IsNear [] term_a));
      once = once-one term_a;
      new = λ i j t a b. absurd (cc);
    },
  );
  first_entry = entry-found 0 refl;
  last_entry = entry-found 2 refl;
  opened = (
    fresh 1 ∷ [],
    record {
      lines = opened-given;
      goal_is = refl;
      near = All-cons (IsNear (secret ∷ fresh 2 ∷ []) (fresh 1)) (fresh 1) [] (record { above = fresh 1; among = first_item (fresh 1) (secret ∷ fresh 2 ∷ []); stands = whole }) (All-nil (IsNear (secret ∷ fresh 2 ∷ []) (fresh 1)));
      once = once-one (fresh 1);
      new = λ i j t a b. opened-new i j t a b;
    },
  );
  other_entry = λ f. (let e = given-none (term_a ∷ term_b ∷ term_a ∷ []) term_a 1 f in let q : term_b ≡ term_a = cc in not-b (sym q));
  no_entry = λ f. (let e = given-none (term_a ∷ []) term_a 1 f in absurd (cc));
  twice = λ f. twice f;
  again = λ f. again f;
  far = λ f. far f;
} where
  opened-new : NoneInBoth (fresh 1 ∷ []) (secret ∷ fresh 2 ∷ [])
  opened-new zero j t a b = let q : fresh 1 ≡ t = cc in not-secret j (subst (λ (u : Tree). slice_get (secret ∷ fresh 2 ∷ []) j ≡ Some u) (sym q) b)
  opened-new (suc i) j t a b = absurd (cc)

  twice : IsFound signature [] term_a (by_lines (Public (codes "a") ∷ Public (codes "a") ∷ []) 0) → ⊥
  twice f =
      let e = given-two (codes "a") (codes "a") f.0 f.1.lines in
      let once = subst (λ (us : List Tree). NoneTwice us) e f.1.once in
      let q = once 0 1 term_a refl refl in
      omega arith

  again : IsFound signature (term_a ∷ []) term_a (by_lines (Public (codes "a") ∷ []) 0) → ⊥
  again f =
      let e = given-one (term_a ∷ []) (codes "a") f.0 f.1.lines in
      let new = subst (λ (us : List Tree). NoneInBoth us (term_a ∷ [])) e f.1.new in
      new 0 0 term_a refl refl

  far : IsFound signature (term_a ∷ []) term_a (by_lines (Public (codes "b") ∷ []) 0) → ⊥
  far f =
      let e = given-one (term_a ∷ []) (codes "b") f.0 f.1.lines in
      let near = subst (λ (us : List Tree). All (IsNear (term_a ∷ []) term_a) us) e f.1.near in
      let n = All-head (IsNear (term_a ∷ []) term_a) term_b [] near in
      let above : n.above ≡ term_a = elim (cons_cases term_a (term_a ∷ []) n.above n.among) [ inl x ↦ sym x | inr x ↦ sym (item_cases term_a n.above x) ] in
      not-b (sym (in-public (codes "a") term_b n.above above n.stands))
