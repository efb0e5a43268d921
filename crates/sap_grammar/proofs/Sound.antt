-- What is read is spelled so.
use Rattle.std.proofs.Common.{◌≡◌, ℕ, zero, suc, Bool, true, false, List, [], ◌∷◌, ◌++◌, length, drop, Option, Some, None, refl, sym, ap, subst, ◌∙◌}
use Rattle.std.specs.Prelude.{codes, if◌then◌else◌, ⊤}
use Rattle.std.specs.Str.{bytes_eq}
use Rattle.std.proofs.lemmas.List.{drop-drop}
use Rattle.std.proofs.lemmas.Slice.Eq.{bytes_eq-Decides}
use Rattle.sap_terms.specs.declared.fact.Fact.{Fact}
use Rattle.sap_terms.specs.declared.var.Sort.TheVariants.{Msg}
use Rattle.sap_terms.specs.Tree.{Tree, apply, none}
use Rattle.sap_terms.specs.Signature.{Sig, arity_of}
use Rattle.sap_grammar.specs.Words.{Word, mark, name, number, quoted, starts, is_lower, is_upper}
use Rattle.sap_grammar.specs.TermGrammar.{IsTerm, IsRest, IsList, IsArgs, sorted, args_none, args_some, list_last, list_more, rest_last, rest_more, term_constant, term_fresh, term_message, term_pub, term_quoted, term_symbol, term_tuple}
use Rattle.sap_grammar.specs.FactGrammar.{IsFact, fact, fact_linear, fact_persistent}
use Rattle.sap_grammar.specs.Reading.{Read, Reader, after, given, behind, name_at, quoted_at, list_of}
use Rattle.sap_grammar.specs.TermReading.{is_no_arity, plain, args, named, tuple, leaf, term_at, rest_at, term, rest, fact_from, fact_at}
use Rattle.sap_grammar.proofs.Complete.{no_zero}
use Rattle.sap_grammar.proofs.ReadingLaws.OnRead.{Says, OnRead, after_on, given_on, if_on, behind_on, starts_is, name_is}

quoted_is : (ts : List Word) (x : List ℕ) → quoted_at ts ≡ Some x → ts ≡ quoted x ∷ drop 1 ts
quoted_is [] x e = absurd (cc)
quoted_is (mark s ∷ ts) x e = absurd (cc)
quoted_is (name s ∷ ts) x e = absurd (cc)
quoted_is (number s ∷ ts) x e = absurd (cc)
quoted_is (quoted s ∷ ts) x e = cc

-- a mark and a name behind it
mark_name : (m x : List ℕ) (ts : List Word) → starts m ts ≡ true → name_at (drop 1 ts) ≡ Some x → ts ≡ mark m ∷ name x ∷ drop 1 (drop 1 ts)
mark_name m x ts e f = starts_is m ts e ∙ ap (λ q. mark m ∷ q) (name_is (drop 1 ts) x f)

-- a name and an opening parenthesis behind it
name_open : (x : List ℕ) (ts : List Word) → name_at ts ≡ Some x → starts (codes "(") (drop 1 ts) ≡ true → ts ≡ name x ∷ mark (codes "(") ∷ drop 1 (drop 1 ts)
name_open x ts e f = name_is ts x e ∙ ap (λ q. name x ∷ q) (starts_is (codes "(") (drop 1 ts) f)

-- an identifier without sign
pub plain_is : (g : Sig) (x : List ℕ) (a : List Word) → IsTerm g (plain g x) (name x ∷ a) a
plain_is g x a = go (arity_of g x) refl
  where
    go : (o : Option ℕ) → arity_of g x ≡ o → IsTerm g (if is_no_arity o then apply x none else sorted Msg x) (name x ∷ a) a
    go None e = term_message {x = x} (λ f. absurd (cc (e, f)))
    go (Some zero) e = term_constant e
    go (Some (suc n)) e = rw (no_zero n) (term_message {x = x} (λ f. absurd (cc (e, f))))

-- the rest of a spelling, rewritten
on : {g : Sig} {t : Tree} {a b c : List Word} → IsTerm g t a b → b ≡ c → IsTerm g t a c
on {g = g} {t = t} {a = a} r e = subst (λ (y : List Word). IsTerm g t a y) e r

-- its words, rewritten
from : {g : Sig} {t : Tree} {a b c : List Word} → IsTerm g t a b → c ≡ a → IsTerm g t c b
from {g = g} {t = t} {b = b} r e = subst (λ (y : List Word). IsTerm g t y b) (sym e) r

abbrev pub SoundTerms : Sig → Reader Tree → Type 0
SoundTerms g u = (ts : List Word) → OnRead (λ t b. IsTerm g t ts b) (u ts)

abbrev SoundRests : Sig → Reader Tree → Type 0
SoundRests g u = (ts : List Word) → OnRead (λ t b. IsRest g t ts b) (u ts)

module _ (g : Sig) (u : Reader Tree) (s : SoundTerms g u) where
  list_sound : (n : ℕ) (ts : List Word) → OnRead (λ us b. IsList g us ts b) (list_of (codes ")") u n ts)
  list_sound zero ts = tt
  list_sound (suc n) ts =
      let Q : Says (List Tree) = λ us b. IsList g us ts b in
      after_on (λ t b. IsTerm g t ts b) Q (u ts) _ (s ts) (λ t r h.
      if_on Q (starts (codes ")") r) _ _
      (λ e. list_last (on h (starts_is (codes ")") r e)))
      (λ e. if_on Q (starts (codes ",") r) _ _
      (λ c. behind_on (λ us b. IsList g us (drop 1 r) b) Q (t ∷ []) (list_of (codes ")") u n (drop 1 r)) (list_sound n (drop 1 r)) (λ us b k.
      list_more (on h (starts_is (codes ",") r c)) k))
      (λ c. tt)))

  pub args_sound : (ts : List Word) → OnRead (λ us b. IsArgs g us ts b) (args u ts)
  args_sound ts =
      let Q : Says (List Tree) = λ us b. IsArgs g us ts b in
      if_on Q (starts (codes ")") ts) _ _
      (λ e. subst (λ (y : List Word). IsArgs g [] y (drop 1 ts)) (sym (starts_is (codes ")") ts e)) args_none)
      (λ e. some (list_of (codes ")") u (length ts) ts) (list_sound (length ts) ts))
    where
      some : (r : Read (List Tree)) → OnRead (λ us b. IsList g us ts b) r → OnRead (λ us b. IsArgs g us ts b) r
      some None h = tt
      some (Some p) h = args_some h

  named_sound : (x : List ℕ) (ts : List Word) → OnRead (λ t b. IsTerm g t (name x ∷ ts) b) (named g u x ts)
  named_sound x ts =
      let Q : Says Tree = λ t b. IsTerm g t (name x ∷ ts) b in
      if_on Q (starts (codes "(") ts) _ _
      (λ e. if_on Q (is_lower x) _ _
      (λ low. after_on (λ us b. IsArgs g us (drop 1 ts) b) Q (args u (drop 1 ts)) _ (args_sound (drop 1 ts)) (λ us r h.
      from (term_symbol low h) (ap (λ q. name x ∷ q) (starts_is (codes "(") ts e))))
      (λ low. tt))
      (λ e. plain_is g x ts)

  leaf_sound : (ts : List Word) → OnRead (λ t b. IsTerm g t ts b) (leaf g u (quoted_at ts) ts)
  leaf_sound ts = by_word (quoted_at ts) refl
    where
      by_word : (o : Option (List ℕ)) → quoted_at ts ≡ o → OnRead (λ t b. IsTerm g t ts b) (leaf g u o ts)
      by_word (Some x) e = from term_quoted (quoted_is ts x e)
      by_word None e = given_on (λ t b. IsTerm g t ts b) (name_at ts) _ (λ x f.
          subst (λ (y : List Word). OnRead (λ t b. IsTerm g t y b) (named g u x (drop 1 ts))) (sym (name_is ts x f)) (named_sound x (drop 1 ts)))

  module _ (v : Reader Tree) (rs : SoundRests g v) where
    tuple_sound : (ts : List Word) → OnRead (λ t b. IsTerm g t (mark (codes "<") ∷ ts) b) (tuple u v ts)
    tuple_sound ts =
        let Q : Says Tree = λ t b. IsTerm g t (mark (codes "<") ∷ ts) b in
        after_on (λ t b. IsTerm g t ts b) Q (u ts) _ (s ts) (λ t r h.
        if_on Q (starts (codes ",") r) _ _
        (λ c. after_on (λ x b. IsRest g x (drop 1 r) b) Q (v (drop 1 r)) _ (rs (drop 1 r)) (λ x y k.
        term_tuple (on h (starts_is (codes ",") r c)) k))
        (λ c. tt))

    term_at_sound : SoundTerms g (term_at g u v)
    term_at_sound ts =
        let Q : Says Tree = λ t b. IsTerm g t ts b in
        if_on Q (starts (codes "~") ts) _ _
        (λ e. given_on Q (name_at (drop 1 ts)) _ (λ x f. from term_fresh (mark_name (codes "~") x ts e f)))
        (λ _. if_on Q (starts (codes "$") ts) _ _
        (λ e. given_on Q (name_at (drop 1 ts)) _ (λ x f. from term_pub (mark_name (codes "$") x ts e f)))
        (λ _. if_on Q (starts (codes "<") ts) _ _
        (λ e. subst (λ (y : List Word). OnRead (λ t b. IsTerm g t y b) (tuple u v (drop 1 ts))) (sym (starts_is (codes "<") ts e)) (tuple_sound (drop 1 ts)))
        (λ _. leaf_sound ts)))

rest_at_sound : (g : Sig) (here v : Reader Tree) → SoundTerms g here → SoundRests g v → SoundRests g (rest_at here v)
rest_at_sound g here v s rs ts =
    let Q : Says Tree = λ t b. IsRest g t ts b in
    after_on (λ t b. IsTerm g t ts b) Q (here ts) _ (s ts) (λ t r h.
    if_on Q (starts (codes ">") r) _ _
    (λ e. rest_last (on h (starts_is (codes ">") r e)))
    (λ _. if_on Q (starts (codes ",") r) _ _
    (λ c. after_on (λ x b. IsRest g x (drop 1 r) b) Q (v (drop 1 r)) _ (rs (drop 1 r)) (λ x y k.
    rest_more (on h (starts_is (codes ",") r c)) k))
    (λ _. tt)))

mutual
  unfolding term rest

  pub term_sound : (g : Sig) (d : ℕ) → SoundTerms g (term g d)
  term_sound g zero = λ ts. tt
  term_sound g (suc d) = term_at_sound g (term g d) (term_sound g d) (rest g d) (rest_sound g d)

  rest_sound : (g : Sig) (d : ℕ) → SoundRests g (rest g d)
  rest_sound g zero = λ ts. tt
  rest_sound g (suc d) =
      rest_at_sound g (term_at g (term g d) (rest g d)) (rest g d) (term_at_sound g (term g d) (term_sound g d) (rest g d) (rest_sound g d)) (rest_sound g d)

module _ (g : Sig) (u : Reader Tree) (s : SoundTerms g u) where
  -- a fact behind its sign, where `all` are the words from its sign on
  from_sound : (p : Bool) (ts all : List Word)
      → ((f : List ℕ) (us : List Tree) (a b : List Word) → ts ≡ name f ∷ mark (codes "(") ∷ a → is_upper f ≡ true → IsArgs g us a b → IsFact g (fact p f us) all b)
      → OnRead (λ f b. IsFact g f all b) (fact_from u p ts)
  from_sound p ts all made =
      let Q : Says Fact = λ f b. IsFact g f all b in
      given_on Q (name_at ts) _ (λ f e.
      if_on Q (is_upper f) _ _
      (λ up. if_on Q (starts (codes "(") (drop 1 ts)) _ _
      (λ o. after_on (λ us b. IsArgs g us (drop 2 ts) b) Q (args u (drop 2 ts)) _ (args_sound g u s (drop 2 ts)) (λ us b h.
      made f us (drop 2 ts) b (name_open f ts e o ∙ ap (λ q. name f ∷ mark (codes "(") ∷ q) (drop-drop 1 1 ts)) up h))
      (λ o. tt))
      (λ up. tt))

  pub fact_sound : (ts : List Word) → OnRead (λ f b. IsFact g f ts b) (fact_at u ts)
  fact_sound ts =
      let Q : Says Fact = λ f b. IsFact g f ts b in
      if_on Q (starts (codes "!") ts) _ _
      (λ e. from_sound true (drop 1 ts) ts (λ f us a b w up h.
      subst (λ (y : List Word). IsFact g (fact true f us) y b) (sym (starts_is (codes "!") ts e ∙ ap (λ q. mark (codes "!") ∷ q) w)) (fact_persistent up h)))
      (λ e. from_sound false ts ts (λ f us a b w up h.
      subst (λ (y : List Word). IsFact g (fact false f us) y b) (sym w) (fact_linear up h)))

-- what a read term is
pub term_is : (g : Sig) (d : ℕ) (ts : List Word) (t : Tree) (b : List Word) → term g d ts ≡ Some (t, b) → IsTerm g t ts b
term_is g d ts t b e = subst (λ (r : Read Tree). OnRead (λ x y. IsTerm g x ts y) r) e (term_sound g d ts)

pub fact_is : (g : Sig) (d : ℕ) (ts : List Word) (f : Fact) (b : List Word) → fact_at (term g d) ts ≡ Some (f, b) → IsFact g f ts b
fact_is g d ts f b e = subst (λ (r : Read Fact). OnRead (λ x y. IsFact g x ts y) r) e (fact_sound g (term g d) (term_sound g d) ts)
