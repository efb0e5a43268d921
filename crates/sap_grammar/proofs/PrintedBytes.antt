-- The bytes that are printed of terms and facts are the words that are printed.
use Rattle.std.proofs.Common.{◌≡◌, ℕ, Bool, true, false, List, [], ◌∷◌, ◌++◌, append_assoc, refl, sym, ap, subst, ◌∙◌, rules}
use Rattle.std.specs.Prelude.{codes, map, ◌==◌}
use Rattle.std.specs.Str.{bytes_eq}
use Rattle.std.specs.Char.{is_ascii_alphabetic}
use Rattle.sap_text.specs.declared.token.Kind.TheVariants as kind
use Rattle.sap_text.specs.Tokens.{IsToken, ident, stands_alone}
use Rattle.sap_terms.specs.declared.fact.Fact.{Fact}
use Rattle.sap_terms.specs.declared.var.Sort.{Sort}
use Rattle.sap_terms.specs.declared.var.Sort.TheVariants.{Msg, Fresh, Pub}
use Rattle.sap_terms.specs.Tree.{Tree, variable, public, fresh, apply, Trees, none, more, trees_of}
use Rattle.sap_grammar.specs.Words.{Word, mark, name, quoted}
use Rattle.sap_grammar.specs.Pieces.{joined}
use Rattle.sap_grammar.specs.TermText.{variable_text, term_text, term_texts, tree_text, applied}
use Rattle.sap_grammar.specs.FactText.{fact_text}
use Rattle.sap_grammar.specs.ByteWords.{AreWords, IsName, IsContent, Ends, AreWritten}
use Rattle.sap_grammar.specs.Printable.{HasNames, HaveNames, FactHasNames}
use Rattle.sap_grammar.specs.PrintedWords.{Before, variable_words, term_words, rest_words, list_words, fact_words}

-- by how many bytes there are
by_rest : (P : List ℕ → Type 0) → P [] → ((x : ℕ) → P (x ∷ [])) → ((x y : ℕ) (z : List ℕ) → P (x ∷ y ∷ z)) → (z : List ℕ) → P z
by_rest P a b c [] = a
by_rest P a b c (x ∷ []) = b x
by_rest P a b c (x ∷ y ∷ z) = c x y z

-- the symbol of this one byte stands before these bytes
abbrev Alone : ℕ → List ℕ → Type 0
Alone b z = stands_alone (b ∷ []) z ≡ true

alone_comma : (z : List ℕ) → Alone 44 z
alone_comma = by_rest (Alone 44) refl (λ x. refl) (λ x y z. refl)

alone_open : (z : List ℕ) → Alone 40 z
alone_open = by_rest (Alone 40) refl (λ x. refl) (λ x y z. refl)

alone_close : (z : List ℕ) → Alone 41 z
alone_close = by_rest (Alone 41) refl (λ x. refl) (λ x y z. refl)

alone_greater : (z : List ℕ) → Alone 62 z
alone_greater = by_rest (Alone 62) refl (λ x. refl) (λ x y z. refl)

alone_tilde : (z : List ℕ) → Alone 126 z
alone_tilde = by_rest (Alone 126) refl (λ x. refl) (λ x y z. refl)

alone_dollar : (z : List ℕ) → Alone 36 z
alone_dollar = by_rest (Alone 36) refl (λ x. refl) (λ x y z. refl)

alone_bang : (z : List ℕ) → Alone 33 z
alone_bang = by_rest (Alone 33) refl (λ x. refl) (λ x y z. refl)

-- this byte stands first
abbrev begins : ℕ → List ℕ → Bool
begins c [] = false
begins c (x ∷ z) = x == c

-- `<`, where no `=` stands behind it
alone_less : (z : List ℕ) → begins 61 z ≡ false → Alone 60 z
alone_less [] e = refl
alone_less (x ∷ []) e = rw e refl
alone_less (x ∷ y ∷ z) e = rw e refl

module _ (most : ℕ) (written : AreWritten most) where
  add_name : (x z : List ℕ) (k : List Word) → IsName most x → Ends z → AreWords most z k → AreWords most (x ++ z) (name x ∷ k)
  add_name = written.names

  add_quoted : (s z : List ℕ) (k : List Word) → IsContent most s → AreWords most z k → AreWords most (39 ∷ (s ++ (39 ∷ z))) (quoted s ∷ k)
  add_quoted = written.contents

  add_symbol : (b : ℕ) (s z : List ℕ) (k : List Word) → stands_alone (b ∷ s) z ≡ true → AreWords most z k → AreWords most (b ∷ (s ++ z)) (mark (b ∷ s) ∷ k)
  add_symbol b s z k e r = written.symbols (b ∷ s) z k e r

  -- this text is these words, before other text and words
  abbrev pub Writes : List ℕ → Before → Type 0
  Writes text words = (z : List ℕ) (k : List Word) → Ends z → AreWords most z k → AreWords most (text ++ z) (words k)

  name_begins : (x z : List ℕ) → IsToken kind.Ident x → begins 61 (x ++ z) ≡ false
  name_begins x z (ident {b = b} l w) = go (b == 61) refl
    where
      is : (m n : ℕ) → (m == n) ≡ true → m ≡ n
      is m n e = search rules

      go : (c : Bool) → (b == 61) ≡ c → (b == 61) ≡ false
      go false e = e
      go true e = absurd (let l : is_ascii_alphabetic 61 ≡ true = subst (λ (x : ℕ). is_ascii_alphabetic x ≡ true) (is b 61 e) l in cc (l))

  comma : (z : List ℕ) (k : List Word) → AreWords most z k → AreWords most (44 ∷ z) (mark (codes ",") ∷ k)
  comma z k r = add_symbol 44 [] z k (alone_comma z) r

  open_mark : (z : List ℕ) (k : List Word) → AreWords most z k → AreWords most (40 ∷ z) (mark (codes "(") ∷ k)
  open_mark z k r = add_symbol 40 [] z k (alone_open z) r

  close_mark : (z : List ℕ) (k : List Word) → AreWords most z k → AreWords most (41 ∷ z) (mark (codes ")") ∷ k)
  close_mark z k r = add_symbol 41 [] z k (alone_close z) r

  variable_writes : (s : Sort) (x : List ℕ) → IsName most x → Writes (variable_text (record { name = x; sort = s })) (variable_words s x)
  variable_writes Msg x h z k e r = add_name x z k h e r
  variable_writes Fresh x h z k e r = add_symbol 126 [] (x ++ z) (name x ∷ k) (alone_tilde (x ++ z)) (add_name x z k h e r)
  variable_writes Pub x h z k e r = add_symbol 36 [] (x ++ z) (name x ∷ k) (alone_dollar (x ++ z)) (add_name x z k h e r)

  variable_begins : (s : Sort) (x z : List ℕ) → IsName most x → begins 61 (variable_text (record { name = x; sort = s }) ++ z) ≡ false
  variable_begins Msg x z h = name_begins x z h.is
  variable_begins Fresh x z h = refl
  variable_begins Pub x z h = refl

  -- a symbol with arguments, whose first has this text
  symbol_writes : (f : List ℕ) (text : List ℕ) (texts : List (List ℕ)) (words : Before) → IsName most f → Writes (joined (codes ",") (text ∷ texts)) words
      → Writes (applied f (text ∷ texts)) (λ k. name f ∷ mark (codes "(") ∷ words (mark (codes ")") ∷ k))
  symbol_writes f text texts words h w z k e r =
      let inner : List ℕ = joined (codes ",") (text ∷ texts) in
      let same : (f ++ (codes "(" ++ (inner ++ codes ")"))) ++ z ≡ f ++ (40 ∷ (inner ++ (41 ∷ z))) =
      append_assoc f (codes "(" ++ (inner ++ codes ")")) z ∙ ap (λ (x : List ℕ). f ++ (40 ∷ x)) (append_assoc inner (codes ")") z) in
      subst (λ (x : List ℕ). AreWords most x (name f ∷ mark (codes "(") ∷ words (mark (codes ")") ∷ k))) (sym same)
      (add_name f (40 ∷ (inner ++ (41 ∷ z))) (mark (codes "(") ∷ words (mark (codes ")") ∷ k)) h refl (open_mark _ _ (w (41 ∷ z) (mark (codes ")") ∷ k) refl (close_mark z k r))))

  mutual
    pub term_writes : (t : Tree) → HasNames most t → Writes (term_text false t) (term_words false t)
    term_writes (variable v) h = variable_writes v.sort v.name h
    term_writes (public n) h = λ z k e r.
        subst (λ (x : List ℕ). AreWords most (39 ∷ x) (quoted n ∷ k)) (sym (append_assoc n (codes "'") z)) (add_quoted n z k h r)
    term_writes (fresh i) h = absurd h
    term_writes (apply f none) h = λ z k e r. add_name f z k (h.0 refl) e r
    term_writes (apply f (more t none)) h =
        symbol_writes f (term_text false t) [] (term_words false t) (h.0 refl) (λ z k e r. term_writes t h.1.0 z k e r)
    term_writes (apply f (more t (more u none))) h =
        by_pair (bytes_eq f (codes "pair")) refl (λ z k e r. term_writes t h.1.0 z k e r) (λ z k e r. open_writes u h.1.1.0 z k e r) (λ z k e r. term_writes u h.1.1.0 z k e r) (λ z. term_begins t h.1.0 z)
      where
        by_pair : (c : Bool) → bytes_eq f (codes "pair") ≡ c → Writes (term_text false t) (term_words false t) → Writes (term_text true u) (term_words true u)
            → Writes (term_text false u) (term_words false u) → ((z : List ℕ) → begins 61 (term_text false t ++ z) ≡ false)
            → Writes (term_text false (apply f (more t (more u none)))) (term_words false (apply f (more t (more u none))))
        by_pair true e first second last start z k ends r =
            let same : (term_text false t ++ (codes "," ++ term_text true u)) ++ (codes ">" ++ z) ≡ term_text false t ++ (44 ∷ (term_text true u ++ (62 ∷ z))) =
            append_assoc (term_text false t) (codes "," ++ term_text true u) (codes ">" ++ z) in
            let all : (codes "<" ++ ((term_text false t ++ (codes "," ++ term_text true u)) ++ codes ">")) ++ z ≡ 60 ∷ (term_text false t ++ (44 ∷ (term_text true u ++ (62 ∷ z)))) =
            ap (λ (x : List ℕ). 60 ∷ x) (append_assoc (term_text false t ++ (codes "," ++ term_text true u)) (codes ">") z ∙ same) in
            rw e (subst (λ (x : List ℕ). AreWords most x (mark (codes "<") ∷ term_words false t (mark (codes ",") ∷ term_words true u (mark (codes ">") ∷ k)))) (sym all)
            (add_symbol 60 [] (term_text false t ++ (44 ∷ (term_text true u ++ (62 ∷ z)))) (term_words false t (mark (codes ",") ∷ term_words true u (mark (codes ">") ∷ k)))
            (alone_less (term_text false t ++ (44 ∷ (term_text true u ++ (62 ∷ z)))) (start (44 ∷ (term_text true u ++ (62 ∷ z)))))
            (first (44 ∷ (term_text true u ++ (62 ∷ z))) (mark (codes ",") ∷ term_words true u (mark (codes ">") ∷ k)) refl
            (comma _ _ (second (62 ∷ z) (mark (codes ">") ∷ k) refl (add_symbol 62 [] z k (alone_greater z) r))))))
        by_pair false e first second last start z k ends r =
            rw e (symbol_writes f (term_text false t) (term_text false u ∷ []) (λ k. term_words false t (mark (codes ",") ∷ term_words false u k)) (h.0 (rw e refl))
            (λ z k e r. subst (λ (x : List ℕ). AreWords most x (term_words false t (mark (codes ",") ∷ term_words false u k))) (sym (append_assoc (term_text false t) (codes "," ++ term_text false u) z))
            (first (44 ∷ (term_text false u ++ z)) (mark (codes ",") ∷ term_words false u k) refl (comma _ _ (last z k e r)))) z k ends r)
    term_writes (apply f (more t (more u (more w ts)))) h =
        symbol_writes f (term_text false t) (term_text false u ∷ term_text false w ∷ term_texts ts) (λ k. term_words false t (mark (codes ",") ∷ term_words false u (mark (codes ",") ∷ term_words false w (rest_words ts k)))) (h.0 refl)
        (λ z k e r. subst (λ (x : List ℕ). AreWords most x (term_words false t (mark (codes ",") ∷ term_words false u (mark (codes ",") ∷ term_words false w (rest_words ts k))))) (sym (append_assoc (term_text false t) (codes "," ++ joined (codes ",") (term_text false u ∷ term_text false w ∷ term_texts ts)) z))
        (term_writes t h.1.0 _ _ refl (comma _ _
        (subst (λ (x : List ℕ). AreWords most x (term_words false u (mark (codes ",") ∷ term_words false w (rest_words ts k)))) (sym (append_assoc (term_text false u) (codes "," ++ joined (codes ",") (term_text false w ∷ term_texts ts)) z))
        (term_writes u h.1.1.0 _ _ refl (comma _ _ (further_writes ts h.1.1.1.1 (term_text false w) (term_words false w) (λ z k e r. term_writes w h.1.1.1.0 z k e r) z k e r)))))))

    -- the second part of a pair, inside the brackets of the first
    open_writes : (t : Tree) → HasNames most t → Writes (term_text true t) (term_words true t)
    open_writes (variable v) h = variable_writes v.sort v.name h
    open_writes (public n) h = λ z k e r.
        subst (λ (x : List ℕ). AreWords most (39 ∷ x) (quoted n ∷ k)) (sym (append_assoc n (codes "'") z)) (add_quoted n z k h r)
    open_writes (fresh i) h = absurd h
    open_writes (apply f none) h = λ z k e r. add_name f z k (h.0 refl) e r
    open_writes (apply f (more t none)) h =
        symbol_writes f (term_text false t) [] (term_words false t) (h.0 refl) (λ z k e r. term_writes t h.1.0 z k e r)
    open_writes (apply f (more t (more u none))) h =
        by_pair (bytes_eq f (codes "pair")) refl (λ z k e r. term_writes t h.1.0 z k e r) (λ z k e r. open_writes u h.1.1.0 z k e r) (λ z k e r. term_writes u h.1.1.0 z k e r)
      where
        by_pair : (c : Bool) → bytes_eq f (codes "pair") ≡ c → Writes (term_text false t) (term_words false t) → Writes (term_text true u) (term_words true u)
            → Writes (term_text false u) (term_words false u)
            → Writes (term_text true (apply f (more t (more u none)))) (term_words true (apply f (more t (more u none))))
        by_pair true e first second last z k ends r =
            rw e (subst (λ (x : List ℕ). AreWords most x (term_words false t (mark (codes ",") ∷ term_words true u k))) (sym (append_assoc (term_text false t) (codes "," ++ term_text true u) z))
            (first (44 ∷ (term_text true u ++ z)) (mark (codes ",") ∷ term_words true u k) refl (comma _ _ (second z k ends r))))
        by_pair false e first second last z k ends r =
            rw e (symbol_writes f (term_text false t) (term_text false u ∷ []) (λ k. term_words false t (mark (codes ",") ∷ term_words false u k)) (h.0 (rw e refl))
            (λ z k e r. subst (λ (x : List ℕ). AreWords most x (term_words false t (mark (codes ",") ∷ term_words false u k))) (sym (append_assoc (term_text false t) (codes "," ++ term_text false u) z))
            (first (44 ∷ (term_text false u ++ z)) (mark (codes ",") ∷ term_words false u k) refl (comma _ _ (last z k e r)))) z k ends r)
    open_writes (apply f (more t (more u (more w ts)))) h =
        symbol_writes f (term_text false t) (term_text false u ∷ term_text false w ∷ term_texts ts) (λ k. term_words false t (mark (codes ",") ∷ term_words false u (mark (codes ",") ∷ term_words false w (rest_words ts k)))) (h.0 refl)
        (λ z k e r. subst (λ (x : List ℕ). AreWords most x (term_words false t (mark (codes ",") ∷ term_words false u (mark (codes ",") ∷ term_words false w (rest_words ts k))))) (sym (append_assoc (term_text false t) (codes "," ++ joined (codes ",") (term_text false u ∷ term_text false w ∷ term_texts ts)) z))
        (term_writes t h.1.0 _ _ refl (comma _ _
        (subst (λ (x : List ℕ). AreWords most x (term_words false u (mark (codes ",") ∷ term_words false w (rest_words ts k)))) (sym (append_assoc (term_text false u) (codes "," ++ joined (codes ",") (term_text false w ∷ term_texts ts)) z))
        (term_writes u h.1.1.0 _ _ refl (comma _ _ (further_writes ts h.1.1.1.1 (term_text false w) (term_words false w) (λ z k e r. term_writes w h.1.1.1.0 z k e r) z k e r)))))))

    -- behind a text, further terms
    further_writes : (ts : Trees) → HaveNames most ts → (text : List ℕ) (words : Before) → Writes text words
        → Writes (joined (codes ",") (text ∷ term_texts ts)) (λ k. words (rest_words ts k))
    further_writes none h text words w = w
    further_writes (more u ts) h text words w = λ z k e r.
        subst (λ (x : List ℕ). AreWords most x (words (mark (codes ",") ∷ term_words false u (rest_words ts k)))) (sym (append_assoc text (codes "," ++ joined (codes ",") (term_text false u ∷ term_texts ts)) z))
        (w _ _ refl (comma _ _ (further_writes ts h.1 (term_text false u) (term_words false u) (λ z k e r. term_writes u h.0 z k e r) z k e r)))

    -- no term begins with `=`
    term_begins : (t : Tree) → HasNames most t → (z : List ℕ) → begins 61 (term_text false t ++ z) ≡ false
    term_begins (variable v) h z = variable_begins v.sort v.name z h
    term_begins (public n) h z = refl
    term_begins (fresh i) h z = absurd h
    term_begins (apply f none) h z = name_begins f z (h.0 refl).is
    term_begins (apply f (more t none)) h z = subst (λ (x : List ℕ). begins 61 x ≡ false) (sym (append_assoc f (codes "(" ++ (term_text false t ++ codes ")")) z)) (name_begins f _ (h.0 refl).is)
    term_begins (apply f (more t (more u none))) h z = by_pair (bytes_eq f (codes "pair")) refl
      where
        by_pair : (c : Bool) → bytes_eq f (codes "pair") ≡ c → begins 61 (term_text false (apply f (more t (more u none))) ++ z) ≡ false
        by_pair true e = rw e refl
        by_pair false e =
            let is : IsName most f = h.0 (rw e refl) in
            rw e (subst (λ (x : List ℕ). begins 61 x ≡ false) (sym (append_assoc f (codes "(" ++ (joined (codes ",") (term_text false t ∷ term_text false u ∷ []) ++ codes ")")) z)) (name_begins f _ is.is))
    term_begins (apply f (more t (more u (more w ts)))) h z =
        subst (λ (x : List ℕ). begins 61 x ≡ false) (sym (append_assoc f (codes "(" ++ (joined (codes ",") (term_text false t ∷ term_text false u ∷ term_text false w ∷ term_texts ts) ++ codes ")")) z)) (name_begins f _ (h.0 refl).is)

  -- arguments up to the closing parenthesis
  args_write : (ts : List Tree) → HaveNames most (trees_of ts) → (z : List ℕ) (k : List Word) → AreWords most z k → AreWords most ((joined (codes ",") (map tree_text ts) ++ codes ")") ++ z) (list_words ts k)
  args_write [] h z k r = close_mark z k r
  args_write (t ∷ ts) h z k r =
      let texts : map tree_text ts ≡ term_texts (trees_of ts) = same_texts ts in
      subst (λ (x : List (List ℕ)). AreWords most ((joined (codes ",") (tree_text t ∷ x) ++ codes ")") ++ z) (list_words (t ∷ ts) k)) (sym texts)
      (subst (λ (x : List ℕ). AreWords most x (list_words (t ∷ ts) k)) (sym (append_assoc (joined (codes ",") (tree_text t ∷ term_texts (trees_of ts))) (codes ")") z))
      (further_writes (trees_of ts) h.1 (term_text false t) (term_words false t) (term_writes t h.0) (41 ∷ z) (mark (codes ")") ∷ k) refl (close_mark z k r)))
    where
      same_texts : (ts : List Tree) → map tree_text ts ≡ term_texts (trees_of ts)
      same_texts [] = refl
      same_texts (t ∷ ts) = ap (λ (x : List (List ℕ)). term_text false t ∷ x) (same_texts ts)

  -- behind the sign
  linear_writes : (f : List ℕ) (ts : List Tree) → IsName most f → HaveNames most (trees_of ts) → (z : List ℕ) (k : List Word) → AreWords most z k
      → AreWords most ((f ++ (codes "(" ++ (joined (codes ",") (map tree_text ts) ++ codes ")"))) ++ z) (name f ∷ mark (codes "(") ∷ list_words ts k)
  linear_writes f ts h hs z k r =
      subst (λ (x : List ℕ). AreWords most x (name f ∷ mark (codes "(") ∷ list_words ts k)) (sym (append_assoc f (codes "(" ++ (joined (codes ",") (map tree_text ts) ++ codes ")")) z))
      (add_name f _ _ h refl (open_mark _ _ (args_write ts hs z k r)))

  pub fact_writes : (f : Fact) → FactHasNames most f → (z : List ℕ) (k : List Word) → AreWords most z k → AreWords most (fact_text f ++ z) (fact_words f k)
  fact_writes f h z k r = by_sign f.persistent refl
    where
      by_sign : (c : Bool) → f.persistent ≡ c → AreWords most (fact_text f ++ z) (fact_words f k)
      by_sign true e = rw e (add_symbol 33 [] _ _ (alone_bang _) (linear_writes f.name f.args h.0 h.1 z k r))
      by_sign false e = rw e (linear_writes f.name f.args h.0 h.1 z k r)
