-- What the words of a file in the grammar declare are the declarations of its items.
use Rattle.std.proofs.Common.{◌≡◌, ◌≤◌, ◌+◌, ◌-◌, ℕ, zero, suc, Bool, true, false, List, [], ◌∷◌, ◌++◌, append_assoc, length, drop, refl, sym, ap, subst, ◌∙◌, arith, Option, Some, None}
use Rattle.std.proofs.lemmas.List.{append-nil, drop_all, length-drop}
use Rattle.std.specs.Prelude.{codes, if◌then◌else◌, ◌||◌, map}
use Rattle.std.specs.Str.{bytes_eq}
use Rattle.sap_terms.proofs.PlainLaws.Known.{clash, one_name}
use Rattle.sap_terms.specs.Signature.{Sig}
use Rattle.sap_terms.specs.declared.limits.TheConstants.{MOST_ARITY}
use Rattle.sap_terms.specs.declared.signature.Symbol.{Symbol}
use Rattle.sap_terms.specs.declared.signature.Builtin.{Builtin}
use Rattle.sap_text.specs.declared.token.Token.{Token}
use Rattle.sap_grammar.specs.Words.{Word, mark, name, number, is_mark, starts, words_of}
use Rattle.sap_grammar.specs.Words as words_mod
use Rattle.sap_grammar.specs.Reading.{given}
use Rattle.sap_grammar.specs.Cut.{AreNoItemWords, IsCut, NoItemWord, Placed, StartsItem, cut_none, cut_one, is_item_word, words}
use Rattle.sap_grammar.specs.Declarations.{AreBuiltins, AreSymbols, Declaration, IsBuiltin, IsSymbol, builtins_last, builtins_more, of_builtin, of_symbol, spells_asymmetric, spells_hashing, spells_private, spells_public, spells_revealing, spells_signing, spells_symmetric, symbols_last, symbols_more, value}
use Rattle.sap_grammar.specs.ItemReading.{arity_of_digits, declaration_at, is_joined}
use Rattle.sap_grammar.specs.Items.{items_end, items_more}
use Rattle.sap_grammar.proofs.ReadingLaws.Limits.{fits}
use Rattle.sap_grammar.proofs.ReadingLaws.Tokens.{length-words, words_placed}
use Rattle.sap_statements.specs.Statements.{is_lemma, is_restriction}
use Rattle.sap_where.specs.Beginnings.{begins_item}
use Rattle.sap_read.specs.Files.{IsParted}
use Rattle.sap_read.specs.Item.{Item, Standing, declarations, declared_by}
use Rattle.sap_read.specs.ItemGrammar.{AreItems, IsItem, item_builtins, item_definition, item_functions, item_process, item_statement}
use Rattle.sap_where.specs.TokenWords.{stands}
use Rattle.sap_where.specs.FileDeclarations.{alone, declared_at, declared_before, in_item, is_next, listed}
use Rattle.sap_where.proofs.CutWords.{no_items, words-append, words_behind}

-- what is spelled is read, whatever is behind it
builtin_read : {b : Builtin} {a c : List Word} → IsBuiltin b a c → (m : List Word) → alone (declaration_at true (a ++ m)) ≡ Some (of_builtin b)
builtin_read spells_hashing m = refl
builtin_read spells_symmetric m = refl
builtin_read spells_asymmetric m = refl
builtin_read spells_signing m = refl
builtin_read spells_revealing m = refl

arity_read : (ds : List ℕ) → value ds ≤ MOST_ARITY → arity_of_digits ds ≡ Some (value ds)
arity_read ds le = rw (fits (value ds) MOST_ARITY le) refl

symbol_read : {s : Symbol} {a c : List Word} → IsSymbol s a c → (m : List Word) → starts (codes "[") (c ++ m) ≡ false → alone (declaration_at false (a ++ m)) ≡ Some (of_symbol s)
unfolding given
symbol_read (spells_public {f = f} {n = n} {a = a} low le) m follows = rw (arity_read n le, low, follows) refl
symbol_read (spells_private {f = f} {n = n} {a = a} low le) m follows = rw (arity_read n le, low) refl

-- no declaration begins with a word of the grammar, and none where no word is
mark_none : (c : Bool) (s : List ℕ) (ws : List Word) → alone (declaration_at c (mark s ∷ ws)) ≡ None
unfolding given
mark_none true s ws = by (is_joined (codes "encryption") ws) (is_joined (codes "signing") ws) refl refl
  where
    by : (b c : Bool) → is_joined (codes "encryption") ws ≡ b → is_joined (codes "signing") ws ≡ c → alone (declaration_at true (mark s ∷ ws)) ≡ None
    by true c e f = rw e refl
    by false true e f = rw (e, f) refl
    by false false e f = rw (e, f) refl
mark_none false s ws = refl

nothing_none : (c : Bool) → alone (declaration_at c []) ≡ None
unfolding given
nothing_none true = refl
nothing_none false = refl

abbrev is_separator : Word → Bool
is_separator w = is_mark (codes ":") w || is_mark (codes ",") w

module _ (z : List ℕ) (ts : List Token) where
  abbrev from : ℕ → List Word
  from k = words_of z (drop k ts)

  next_word : (k : ℕ) (w : Word) (ws : List Word) → from k ≡ w ∷ ws → from (suc k) ≡ ws
  next_word k w ws e = subst (λ (n : ℕ). from n ≡ ws) one (words_behind z ts k 1 (w ∷ ws) e)
    where
      one : k + 1 ≡ suc k
      one = omega arith

  -- what is known before token number k: what is declared before it, in what item it stands, and whether behind a colon or a comma
  record At (k : ℕ) (ds : List Declaration) (b f s : Bool) : Type 0 where
    pub builtins : in_item z ts (codes "builtins") k ≡ b
    pub functions : in_item z ts (codes "functions") k ≡ f
    pub next : is_next z ts k ≡ s
    pub declared : declared_before z ts k ≡ ds

  next_is : (k : ℕ) (w : Word) (ws : List Word) → from k ≡ w ∷ ws → is_next z ts (suc k) ≡ is_separator w
  next_is k w ws e = ap (λ (vs : List Word). starts (codes ":") vs || starts (codes ",") vs) e

  stays : (m : List ℕ) (k : ℕ) (w : Word) (ws : List Word) → from k ≡ w ∷ ws → is_item_word w ≡ false → in_item z ts m (suc k) ≡ in_item z ts m k
  stays m k w ws e never = ap (λ (c : Bool). if c then stands z ts m k else in_item z ts m k) (ap (λ (vs : List Word). begins_item vs) e ∙ never)

  turns : (m : List ℕ) (k : ℕ) (w : Word) (ws : List Word) → from k ≡ w ∷ ws → is_item_word w ≡ true → in_item z ts m (suc k) ≡ is_mark m w
  turns m k w ws e begins =
      ap (λ (c : Bool). if c then stands z ts m k else in_item z ts m k) (ap (λ (vs : List Word). begins_item vs) e ∙ begins) ∙ ap (λ (vs : List Word). starts m vs) e

  module _ {k : ℕ} {ds : List Declaration} {b f s : Bool} {w : Word} {ws : List Word} (at : At k ds b f s) (e : from k ≡ w ∷ ws) where
    nothing_more : declared_at z ts k ≡ None → declared_before z ts (suc k) ≡ ds
    nothing_more none = ap (λ (o : Option Declaration). declared_before z ts k ++ listed o) none ∙ append-nil (declared_before z ts k) ∙ at.declared

    within_item : is_item_word w ≡ false → {es : List Declaration} → declared_before z ts (suc k) ≡ es → At (suc k) es b f (is_separator w)
    within_item never more = record {
      builtins = stays (codes "builtins") k w ws e never ∙ at.builtins;
      functions = stays (codes "functions") k w ws e never ∙ at.functions;
      next = next_is k w ws e;
      declared = more;
    }

  -- a word behind neither a colon nor a comma
  pass : {k : ℕ} {ds : List Declaration} {b f : Bool} {w : Word} {ws : List Word} → At k ds b f false → from k ≡ w ∷ ws → is_item_word w ≡ false → At (suc k) ds b f (is_separator w)
  pass {k = k} at e never = within_item at e never (nothing_more at e (rw at.next refl))

  -- a word of an item that declares nothing
  pass_other : {k : ℕ} {ds : List Declaration} {s : Bool} {w : Word} {ws : List Word} → At k ds false false s → from k ≡ w ∷ ws → is_item_word w ≡ false → At (suc k) ds false false (is_separator w)
  pass_other {k = k} at e never = within_item at e never (nothing_more at e (by (is_next z ts k) refl))
    where
      by : (c : Bool) → is_next z ts k ≡ c → declared_at z ts k ≡ None
      by true g = rw (g, at.builtins, at.functions) refl
      by false g = rw g refl

  -- the first word of an item
  begin : {k : ℕ} {ds : List Declaration} {b f s : Bool} {m : List ℕ} {ws : List Word} → At k ds b f s → from k ≡ mark m ∷ ws → is_item_word (mark m) ≡ true
      → At (suc k) ds (is_mark (codes "builtins") (mark m)) (is_mark (codes "functions") (mark m)) (is_separator (mark m))
  begin {k = k} {m = m} {ws = ws} at e is = record {
    builtins = turns (codes "builtins") k (mark m) ws e is;
    functions = turns (codes "functions") k (mark m) ws e is;
    next = next_is k (mark m) ws e;
    declared = nothing_more at e (by (is_next z ts k) (in_item z ts (codes "builtins") k) (in_item z ts (codes "functions") k) refl refl refl);
  }
    where
      of_mark : (c : Bool) → alone (declaration_at c (from k)) ≡ None
      of_mark c = subst (λ (vs : List Word). alone (declaration_at c vs) ≡ None) (sym e) (mark_none c m ws)

      by : (c b f : Bool) → is_next z ts k ≡ c → in_item z ts (codes "builtins") k ≡ b → in_item z ts (codes "functions") k ≡ f → declared_at z ts k ≡ None
      by true true f g h i = rw (g, h) (of_mark true)
      by true false true g h i = rw (g, h, i) (of_mark false)
      by true false false g h i = rw (g, h, i) refl
      by false b f g h i = rw g refl

  one_more : {k : ℕ} {ds : List Declaration} {b f s : Bool} (d : Declaration) → At k ds b f s → declared_at z ts k ≡ Some d → declared_before z ts (suc k) ≡ ds ++ d ∷ []
  one_more {k = k} d at is = ap (λ (o : Option Declaration). declared_before z ts k ++ listed o) is ∙ ap (λ (es : List Declaration). es ++ d ∷ []) at.declared

  -- the first word of a builtin, and of a symbol
  add_builtin : {k : ℕ} {ds : List Declaration} {f : Bool} {w : Word} {ws : List Word} (d : Declaration) → At k ds true f true → from k ≡ w ∷ ws → is_item_word w ≡ false
      → alone (declaration_at true (w ∷ ws)) ≡ Some d → At (suc k) (ds ++ d ∷ []) true f (is_separator w)
  add_builtin {k = k} d at e never read =
      within_item at e never (one_more d at (rw (at.next, at.builtins) (subst (λ (vs : List Word). alone (declaration_at true vs) ≡ Some d) (sym e) read)))

  add_symbol : {k : ℕ} {ds : List Declaration} {w : Word} {ws : List Word} (d : Declaration) → At k ds false true true → from k ≡ w ∷ ws → is_item_word w ≡ false
      → alone (declaration_at false (w ∷ ws)) ≡ Some d → At (suc k) (ds ++ d ∷ []) false true (is_separator w)
  add_symbol {k = k} d at e never read =
      within_item at e never (one_more d at (rw (at.next, at.builtins, at.functions) (subst (λ (vs : List Word). alone (declaration_at false vs) ≡ Some d) (sym e) read)))

  -- behind these words this is known
  record Behind (ws : List Word) (ds : List Declaration) (b f s : Bool) : Type 0 where
    pub number : ℕ
    pub at : At number ds b f s
    pub words : from number ≡ ws

  builtin_passes : {x : Builtin} {a c : List Word} → IsBuiltin x a c → (m : List Word) (k : ℕ) (ds : List Declaration) (f : Bool) → At k ds true f true → from k ≡ a ++ m
      → Behind (c ++ m) (ds ++ of_builtin x ∷ []) true f false
  builtin_passes spells_hashing m k ds f at e =
      record { number = _; at = add_builtin _ at e refl refl; words = next_word k _ _ e }
  builtin_passes spells_signing m k ds f at e =
      record { number = _; at = add_builtin _ at e refl refl; words = next_word k _ _ e }
  builtin_passes spells_symmetric m k ds f at e =
      let e1 = next_word k _ _ e in
      let e2 = next_word (suc k) _ _ e1 in
      record { number = _; at = pass (pass (add_builtin _ at e refl refl) e1 refl) e2 refl; words = next_word (suc (suc k)) _ _ e2 }
  builtin_passes spells_asymmetric m k ds f at e =
      let e1 = next_word k _ _ e in
      let e2 = next_word (suc k) _ _ e1 in
      record { number = _; at = pass (pass (add_builtin _ at e refl refl) e1 refl) e2 refl; words = next_word (suc (suc k)) _ _ e2 }
  builtin_passes spells_revealing m k ds f at e =
      let e1 = next_word k _ _ e in
      let e2 = next_word (suc k) _ _ e1 in
      record { number = _; at = pass (pass (add_builtin _ at e refl refl) e1 refl) e2 refl; words = next_word (suc (suc k)) _ _ e2 }

  symbol_passes : {x : Symbol} {a c : List Word} → IsSymbol x a c → (m : List Word) (k : ℕ) (ds : List Declaration) → starts (codes "[") (c ++ m) ≡ false → At k ds false true true
      → from k ≡ a ++ m → Behind (c ++ m) (ds ++ of_symbol x ∷ []) false true false
  symbol_passes (spells_public {f = f} {n = n} {a = a} low le) m k ds follows at e =
      let e1 = next_word k _ _ e in
      let e2 = next_word (suc k) _ _ e1 in
      record {
        number = _;
        at = pass (pass (add_symbol _ at e refl (symbol_read (spells_public {f = f} {n = n} {a = a} low le) m follows)) e1 refl) e2 refl;
        words = next_word (suc (suc k)) _ _ e2;
      }
  symbol_passes (spells_private {f = f} {n = n} {a = a} low le) m k ds follows at e =
      let e1 = next_word k _ _ e in
      let e2 = next_word (suc k) _ _ e1 in
      let e3 = next_word (suc (suc k)) _ _ e2 in
      let e4 = next_word (suc (suc (suc k))) _ _ e3 in
      let e5 = next_word (suc (suc (suc (suc k)))) _ _ e4 in
      record {
        number = _;
        at = pass (pass (pass (pass (pass (add_symbol _ at e refl (symbol_read (spells_private {f = f} {n = n} {a = a} low le) m follows)) e1 refl) e2 refl) e3 refl) e4 refl) e5 refl;
        words = next_word (suc (suc (suc (suc (suc k))))) _ _ e5;
      }

  builtins_pass : {xs : List Builtin} {a : List Word} → AreBuiltins xs a → (m : List Word) (k : ℕ) (ds : List Declaration) (f : Bool) → At k ds true f true → from k ≡ a ++ m
      → Behind m (ds ++ map of_builtin xs) true f false
  builtins_pass (builtins_last s) m k ds f at e = builtin_passes s m k ds f at e
  builtins_pass (builtins_more {b = x} {bs = xs} s q) m k ds f at e =
      let h = builtin_passes s m k ds f at e in
      let g = builtins_pass q m (suc h.number) (ds ++ of_builtin x ∷ []) f (pass h.at h.words refl) (next_word h.number _ _ h.words) in
      subst (λ (es : List Declaration). Behind m es true f false) (append_assoc ds (of_builtin x ∷ []) (map of_builtin xs)) g

  symbols_pass : {xs : List Symbol} {a : List Word} → AreSymbols xs a → (m : List Word) (k : ℕ) (ds : List Declaration) → starts (codes "[") m ≡ false → At k ds false true true → from k ≡ a ++ m
      → Behind m (ds ++ map of_symbol xs) false true false
  symbols_pass (symbols_last s) m k ds follows at e = symbol_passes s m k ds follows at e
  symbols_pass (symbols_more {s = x} {ss = xs} s q) m k ds follows at e =
      let h = symbol_passes s m k ds refl at e in
      let g = symbols_pass q m (suc h.number) (ds ++ of_symbol x ∷ []) follows (pass h.at h.words refl) (next_word h.number _ _ h.words) in
      subst (λ (es : List Declaration). Behind m es false true false) (append_assoc ds (of_symbol x ∷ []) (map of_symbol xs)) g

  -- behind these words this is declared
  record Declared (ws : List Word) (ds : List Declaration) : Type 0 where
    pub builtins : Bool
    pub functions : Bool
    pub next : Bool
    pub behind : Behind ws ds builtins functions next

  others_pass : (ws m : List Word) (k : ℕ) (ds : List Declaration) (s : Bool) → AreNoItemWords ws → At k ds false false s → from k ≡ ws ++ m → Declared m ds
  others_pass [] m k ds s never at e = record { builtins = false; functions = false; next = s; behind = record { number = k; at = at; words = e } }
  others_pass (w ∷ ws) m k ds s never at e = others_pass ws m (suc k) ds (is_separator w) never.1 (pass_other at e never.0) (next_word k w (ws ++ m) e)

  none_more : {m : List Word} (ds : List Declaration) → Declared m ds → Declared m (ds ++ [])
  none_more {m = m} ds h = subst (λ (es : List Declaration). Declared m es) (sym (append-nil ds)) h

  item_passes : {g : Sig} {v : Item} {ws : List Word} → IsItem g v ws → AreNoItemWords (drop 1 ws) → (m : List Word) (k : ℕ) (ds : List Declaration) (b f s : Bool) → starts (codes "[") m ≡ false
      → At k ds b f s → from k ≡ ws ++ m → Declared m (ds ++ declared_by v)
  item_passes (item_builtins q) never m k ds b f s follows at e =
      let e1 = next_word k _ _ e in
      let h = builtins_pass q m (suc (suc k)) ds false (pass (begin at e refl) e1 refl) (next_word (suc k) _ _ e1) in
      record { builtins = true; functions = false; next = false; behind = h }
  item_passes (item_functions q) never m k ds b f s follows at e =
      let e1 = next_word k _ _ e in
      let h = symbols_pass q m (suc (suc k)) ds follows (pass (begin at e refl) e1 refl) (next_word (suc k) _ _ e1) in
      record { builtins = false; functions = true; next = false; behind = h }
  item_passes (item_definition {x = x} {a = a} r q) never m k ds b f s follows at e =
      none_more ds (others_pass (name x ∷ a) m (suc k) ds false never (begin at e refl) (next_word k _ _ e))
  item_passes (item_process {a = a} q) never m k ds b f s follows at e =
      none_more ds (others_pass (mark (codes ":") ∷ a) m (suc k) ds false never (begin at e refl) (next_word k _ _ e))
  item_passes (item_statement (is_restriction {x = x} {a = a} q)) never m k ds b f s follows at e =
      none_more ds (others_pass (name x ∷ mark (codes ":") ∷ mark (codes "\"") ∷ a) m (suc k) ds false never (begin at e refl) (next_word k _ _ e))
  item_passes (item_statement (is_lemma {x = x} {a = a} h d q)) never m k ds b f s follows at e =
      none_more ds (others_pass (name x ∷ a) m (suc k) ds false never (begin at e refl) (next_word k _ _ e))

  no_item_words : (ps : List Placed) → NoItemWord ps → AreNoItemWords (words ps)
  no_item_words [] h = tt
  no_item_words (p ∷ ps) h = (h.0, no_item_words ps h.1)

  not_bracket : (w : Word) → is_item_word w ≡ true → is_mark (codes "[") w ≡ false
  not_bracket (mark s) h = by (bytes_eq s (codes "[")) refl
    where
      by : (b : Bool) → bytes_eq s (codes "[") ≡ b → bytes_eq s (codes "[") ≡ false
      by true e = clash true refl (sym (subst (λ (v : List ℕ). is_item_word (mark v) ≡ true) (one_name s (codes "[") e) h))
      by false e = e
  not_bracket (name s) h = refl
  not_bracket (number s) h = refl
  not_bracket (words_mod.quoted s) h = refl

  begins_next : (ps : List Placed) → StartsItem ps → starts (codes "[") (words ps) ≡ false
  begins_next [] h = refl
  begins_next (p ∷ ps) h = not_bracket p.word h

  cut_nothing : {ps : List Placed} {cut : List (List Placed)} → IsCut ps cut → ◌≡◌ {A = List (List Placed)} cut [] → ps ≡ []
  cut_nothing cut_none e = refl
  cut_nothing (cut_one p ps rest never s c) e = absurd (cc)

  cut_passes : {g : Sig} {ps : List Placed} {cut : List (List Placed)} {is : List Standing} → IsCut ps cut → AreItems g cut is → (k : ℕ) (ds : List Declaration) (b f s : Bool)
      → At k ds b f s → from k ≡ words ps → Declared [] (ds ++ declarations is)
  cut_passes cut_none h k ds b f s at e = absurd (no_items h refl)
  cut_passes (cut_one p ps rest never starts c) (items_end is) k ds b f s at e =
      let none : words rest ≡ [] = ap words (cut_nothing c refl) in
      let whole : from k ≡ mark (codes "end") ∷ [] = e ∙ words-append (p ∷ ps) rest ∙ ap (λ (vs : List Word). words (p ∷ ps) ++ vs) none ∙ append-nil (words (p ∷ ps)) ∙ is in
      none_more ds (record { builtins = false; functions = false; next = false; behind = record { number = suc k; at = begin at whole refl; words = next_word k _ _ whole } })
  cut_passes (cut_one p ps rest never starts c) (items_more {v = v} {vs = vs} s q) k ds b f t at e =
      let h = item_passes s (no_item_words ps never) (words rest) k ds b f t (begins_next rest starts) at (e ∙ words-append (p ∷ ps) rest) in
      let all = cut_passes c q h.behind.number (ds ++ declared_by v) h.builtins h.functions h.next h.behind.at h.behind.words in
      subst (λ (es : List Declaration). Declared [] es) (append_assoc ds (declared_by v) (declarations vs)) all

  -- behind the last word nothing is declared
  none_past : (k : ℕ) → from k ≡ [] → declared_at z ts k ≡ None
  none_past k e = by (is_next z ts k) (in_item z ts (codes "builtins") k) (in_item z ts (codes "functions") k) refl refl refl
    where
      of_nothing : (c : Bool) → alone (declaration_at c (from k)) ≡ None
      of_nothing c = subst (λ (vs : List Word). alone (declaration_at c vs) ≡ None) (sym e) (nothing_none c)

      by : (c b f : Bool) → is_next z ts k ≡ c → in_item z ts (codes "builtins") k ≡ b → in_item z ts (codes "functions") k ≡ f → declared_at z ts k ≡ None
      by true true f g h i = rw (g, h) (of_nothing true)
      by true false true g h i = rw (g, h, i) (of_nothing false)
      by true false false g h i = rw (g, h, i) refl
      by false b f g h i = rw g refl

  past : (n : ℕ) → declared_before z ts (length ts + n) ≡ declared_before z ts (length ts)
  past zero = ap (λ (k : ℕ). declared_before z ts k) same
    where
      same : length ts + 0 ≡ length ts
      same = omega arith
  past (suc n) =
      let none = none_past (length ts + n) (ap (λ (us : List Token). words_of z us) (drop_all (length ts + n) ts (omega arith))) in
      ap (λ (k : ℕ). declared_before z ts k) shift ∙ ap (λ (o : Option Declaration). declared_before z ts (length ts + n) ++ listed o) none
      ∙ append-nil (declared_before z ts (length ts + n)) ∙ past n
    where
      shift : length ts + suc n ≡ suc (length ts + n)
      shift = omega arith

  whole : (ds : List Declaration) → Declared [] ds → declared_before z ts (length ts) ≡ ds
  whole ds h =
      let j = h.behind.number in
      let none : length (from j) ≡ 0 = ap (λ (ws : List Word). length ws) h.behind.words in
      let same = length-words z (drop j ts) in
      let left = length-drop j ts in
      let split : j ≡ length ts + (j - length ts) = omega (arith, none, same, left) in
      sym (past (j - length ts)) ∙ ap (λ (k : ℕ). declared_before z ts k) (sym split) ∙ h.behind.at.declared

  pub file_declares : {g : Sig} {x : List ℕ} {cut : List (List Placed)} {is : List Standing} → IsParted z ts x cut → AreItems g cut is
      → declared_before z ts (length ts) ≡ declarations is
  file_declares {is = is} p q =
      let h = p.header in
      let e = sym (words_placed z ts) ∙ ap words h.spelled in
      let e1 = next_word 0 _ _ e in
      let e2 = next_word 1 _ _ e1 in
      let e3 = next_word 2 _ _ e2 in
      let start : At 0 [] false false false = record { builtins = refl; functions = refl; next = refl; declared = refl } in
      whole (declarations is) (cut_passes p.items q 3 [] false false false (pass (pass (pass start e refl) e1 refl) e2 refl) e3)
