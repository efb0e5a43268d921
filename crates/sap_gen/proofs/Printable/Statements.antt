-- The seven restrictions can be printed, and so can lemmas that carry restrictions.
use Rattle.std.proofs.Common.{◌≡◌, ◌≤◌, ℕ, Bool, true, false, cond, List, [], ◌∷◌, length, map, Option, Some, None, refl, sym, ap, ◌∙◌, arith}
use Rattle.std.specs.List.{list_all}
use Rattle.std.specs.Option.{option_map}
use Rattle.std.specs.Prelude.{codes}
use Rattle.std.specs.Str.{bytes_eq}
use Rattle.std.proofs.lemmas.Slice.Eq.{bytes_eq-Decides}
use Rattle.sap_terms.specs.AdversaryFacts.{linear}
use Rattle.sap_terms.specs.FactNames.{delete_name, eq_name, event_name, in_event_name, init_name, insert_name, is_in_name, is_not_set_name, k_name, lock_name, not_eq_name, unlock_name}
use Rattle.sap_terms.specs.Signature.{Sig, find_symbol}
use Rattle.sap_terms.specs.Tree.{variable}
use Rattle.sap_terms.specs.declared.signature.Symbol.{Symbol}
use Rattle.sap_formula.specs.Form.{Form, LemmaForm, RestrictionForm, action, both, implies, truth}
use Rattle.sap_formula.specs.Truth.{EachIn}
use Rattle.sap_formula.specs.declared.lemma.Mode.{Mode}
use Rattle.sap_formula.specs.declared.lemma.Mode.TheVariants.{AllTraces, ExistsTrace}
use Rattle.sap_restrict.specs.Inline.{formulas, inlined, joined}
use Rattle.sap_restrict.specs.Restrictions.{named, restriction_name}
use Rattle.sap_restrict.specs.Formulas.{any_message}
use Rattle.sap_restrict.specs.Standard.{standard}
use Rattle.sap_restrict.specs.declared.which.Which.{Which}
use Rattle.sap_restrict.specs.declared.which.Which.TheVariants.{Eq, In, InEv, Init, Lock, NotEq, NotIn}
use Rattle.sap_text.specs.Tokens.{is_word}
use Rattle.sap_grammar.specs.Words.{is_grammar_word, is_lower, is_upper}
use Rattle.sap_grammar.specs.ByteWords.{IsName}
use Rattle.sap_grammar.specs.TermGrammar.{IsConstant}
use Rattle.sap_statements.specs.Printable.{FormHasNames, IsPrintableForm, IsTidyForm}
use Rattle.sap_theory.specs.PrintableTheory.{IsPrintableLemma, IsPrintableRestriction, IsPrintableSymbol}
use Rattle.sap_gen.specs.Theories.{inlined_lemma}
use Rattle.sap_gen.proofs.Printable.Names.{begins_letter, letters_name}

-- a symbol that can be declared begins with a small letter

none_named : (most : ℕ) (ss : List Symbol) (n : List ℕ) → EachIn (IsPrintableSymbol most) ss → is_lower n ≡ false → find_symbol ss n ≡ None
none_named most [] n h e = refl
none_named most (s ∷ ss) n h e = go (bytes_eq s.name n) refl (none_named most ss n h.1 e)
  where
    go : (b : Bool) → bytes_eq s.name n ≡ b → find_symbol ss n ≡ None → find_symbol (s ∷ ss) n ≡ None
    go true same rest =
        let is : s.name ≡ n = (bytes_eq-Decides s.name n).0 same in
        absurd (let z : true ≡ false = sym h.0.lower ∙ ap is_lower is ∙ e in cc)
    go false same rest = ap (λ b. cond b (Some s) (find_symbol ss n)) same ∙ rest

pub no_constant : (most : ℕ) (g : Sig) → EachIn (IsPrintableSymbol most) g.symbols → (n : List ℕ) → is_lower n ≡ false → IsConstant g n → ⊥
no_constant most g h n e is =
    let none : find_symbol g.symbols n ≡ None = none_named most g.symbols n h e in
    let z : ◌≡◌ {A = Option ℕ} None (Some 0) = sym (ap (option_map (λ (s : Symbol). s.arity)) none) ∙ is in
    cc

module _ (most : ℕ) (room : 330 ≤ most) (g : Sig) (free : (n : List ℕ) → is_lower n ≡ false → IsConstant g n → ⊥) where
  -- what a restriction says at a time; which time it is doesn't count

  none_tidy : (name : List ℕ) → is_upper name ≡ true → IsTidyForm g (action (linear name []) [])
  none_tidy name upper = (refl, (upper, tt))

  one_tidy : (name x : List ℕ) → is_upper name ≡ true → is_lower x ≡ false → IsTidyForm g (action (linear name (variable (any_message x) ∷ [])) [])
  one_tidy name x upper e = (refl, (upper, (free x e, tt)))

  two_tidy : (name x y : List ℕ) → is_upper name ≡ true → is_lower x ≡ false → is_lower y ≡ false → IsTidyForm g (action (linear name (variable (any_message x) ∷ variable (any_message y) ∷ [])) [])
  two_tidy name x y upper e k = (refl, (upper, (free x e, (free y k, tt))))

  standard_tidy : (w : Which) → IsTidyForm g (standard w)
  standard_tidy Init = (tt, ((none_tidy init_name refl, none_tidy init_name refl), tt))
  standard_tidy Eq = (tt, (two_tidy eq_name _ _ refl refl refl, (refl, free (codes "X") refl, free (codes "Y") refl)))
  standard_tidy NotEq = (tt, (two_tidy not_eq_name _ _ refl refl refl, (refl, free (codes "X") refl, free (codes "Y") refl)))
  standard_tidy In = (
    tt,
    (
      two_tidy is_in_name _ _ refl refl refl,
      (tt, (((two_tidy insert_name _ _ refl refl refl, tt), (tt, (one_tidy delete_name _ refl refl, (tt, tt)))), (tt, (two_tidy insert_name _ _ refl refl refl, ((tt, tt), tt))))),
    ),
  )
  standard_tidy NotIn = (
    tt,
    (
      ((one_tidy is_not_set_name _ refl refl, two_tidy insert_name _ _ refl refl refl), tt),
      (tt, ((one_tidy delete_name _ refl refl, tt), tt)),
    ),
  )
  standard_tidy Lock = (
    tt,
    (
      ((two_tidy lock_name _ _ refl refl refl, two_tidy lock_name _ _ refl refl refl), tt),
      (tt, ((two_tidy unlock_name _ _ refl refl refl, tt), tt)),
    ),
  )
  standard_tidy InEv = (
    tt,
    (
      one_tidy in_event_name _ refl refl,
      (
        tt,
        (
          (((one_tidy k_name _ refl refl, tt), (tt, (one_tidy k_name _ refl refl, ((tt, tt), tt)))), (tt, (none_tidy event_name refl, (tt, tt)))),
          (tt, (one_tidy in_event_name _ refl refl, ((tt, tt), tt))),
        ),
      ),
    ),
  )

  word : (x : List ℕ) → begins_letter x ≡ true → list_all is_word x ≡ true → is_grammar_word x ≡ false → length x ≤ 30 → IsName most x
  word x letter words none short = letters_name most x letter words none (omega (arith, short, room))

  name_X : IsName most (codes "X")
  name_X = word _ refl refl refl (omega arith)

  name_Y : IsName most (codes "Y")
  name_Y = word _ refl refl refl (omega arith)

  name_Z : IsName most (codes "Z")
  name_Z = word _ refl refl refl (omega arith)

  name_L : IsName most (codes "L")
  name_L = word _ refl refl refl (omega arith)

  name_M : IsName most (codes "M")
  name_M = word _ refl refl refl (omega arith)

  time_i : IsName most (codes "i")
  time_i = word _ refl refl refl (omega arith)

  time_j : IsName most (codes "j")
  time_j = word _ refl refl refl (omega arith)

  time_k : IsName most (codes "k")
  time_k = word _ refl refl refl (omega arith)

  none_names : (name t : List ℕ) → IsName most name → IsName most t → FormHasNames most (action (linear name []) t)
  none_names name t h k = ((h, tt), k)

  one_names : (name x t : List ℕ) → IsName most name → IsName most x → IsName most t → FormHasNames most (action (linear name (variable (any_message x) ∷ [])) t)
  one_names name x t h a k = ((h, (a, tt)), k)

  two_names : (name x y t : List ℕ) → IsName most name → IsName most x → IsName most y → IsName most t → FormHasNames most (action (linear name (variable (any_message x) ∷ variable (any_message y) ∷ [])) t)
  two_names name x y t h a b k = ((h, (a, (b, tt))), k)

  inserts : (y t : List ℕ) → IsName most y → IsName most t → FormHasNames most (action (linear insert_name (variable (any_message (codes "X")) ∷ variable (any_message y) ∷ [])) t)
  inserts y t h k = two_names insert_name (codes "X") y t (word insert_name refl refl refl (omega arith)) name_X h k

  deletes : FormHasNames most (action (linear delete_name (variable (any_message (codes "X")) ∷ [])) (codes "k"))
  deletes = one_names delete_name (codes "X") (codes "k") (word delete_name refl refl refl (omega arith)) name_X time_k

  locks : (x t : List ℕ) → IsName most x → IsName most t → FormHasNames most (action (linear lock_name (variable (any_message x) ∷ variable (any_message (codes "X")) ∷ [])) t)
  locks x t h k = two_names lock_name x (codes "X") t (word lock_name refl refl refl (omega arith)) h name_X k

  serves : (x t : List ℕ) → IsName most x → IsName most t → FormHasNames most (action (linear in_event_name (variable (any_message x) ∷ [])) t)
  serves x t h k = one_names in_event_name x t (word in_event_name refl refl refl (omega arith)) h k

  knows : (x t : List ℕ) → IsName most x → IsName most t → FormHasNames most (action (linear k_name (variable (any_message x) ∷ [])) t)
  knows x t h k = one_names k_name x t (word k_name refl refl refl (omega arith)) h k

  starts : (t : List ℕ) → IsName most t → FormHasNames most (action (linear init_name []) t)
  starts t k = none_names init_name t (word init_name refl refl refl (omega arith)) k

  standard_names : (w : Which) → FormHasNames most (standard w)
  standard_names Init = ((time_i, (time_j, tt)), ((starts _ time_i, starts _ time_j), (time_i, time_j)))
  standard_names Eq = ((name_X, (name_Y, (time_i, tt))), (two_names eq_name _ _ _ (word eq_name refl refl refl (omega arith)) name_X name_Y time_i, (name_X, name_Y)))
  standard_names NotEq = ((name_X, (name_Y, (time_i, tt))), (two_names not_eq_name _ _ _ (word not_eq_name refl refl refl (omega arith)) name_X name_Y time_i, (name_X, name_Y)))
  standard_names In = (
    (name_X, (name_Y, (time_i, tt))),
    (
      two_names is_in_name _ _ _ (word is_in_name refl refl refl (omega arith)) name_X name_Y time_i,
      (
        (time_j, tt),
        (
          ((inserts _ _ name_Y time_j, (time_j, time_i)), ((time_k, tt), (deletes, ((time_k, time_j), (time_i, time_k))))),
          ((name_Z, (time_k, tt)), (inserts _ _ name_Z time_k, (((time_k, time_j), (time_k, time_j)), (time_i, time_k)))),
        ),
      ),
    ),
  )
  standard_names NotIn = (
    (name_X, (name_Y, (time_i, (time_j, tt)))),
    (
      ((one_names is_not_set_name _ _ (word is_not_set_name refl refl refl (omega arith)) name_X time_i, inserts _ _ name_Y time_j), (time_j, time_i)),
      ((time_k, tt), ((deletes, (time_j, time_k)), (time_k, time_i))),
    ),
  )
  standard_names Lock = (
    (name_L, (name_M, (name_X, (time_i, (time_j, tt))))),
    (
      ((locks _ _ name_L time_i, locks _ _ name_M time_j), (time_i, time_j)),
      (
        (time_k, tt),
        ((two_names unlock_name _ _ _ (word unlock_name refl refl refl (omega arith)) name_L name_X time_k, (time_i, time_k)), (time_k, time_j)),
      ),
    ),
  )
  standard_names InEv = (
    (name_X, (time_i, tt)),
    (
      serves _ _ name_X time_i,
      (
        (time_j, tt),
        (
          (
            ((knows _ _ name_X time_j, (time_j, time_i)), ((name_Y, (time_k, tt)), (knows _ _ name_Y time_k, (((time_k, time_j), (time_k, time_j)), (time_i, time_k))))),
            ((time_k, tt), (none_names event_name _ (word event_name refl refl refl (omega arith)) time_k, ((time_k, time_j), (time_i, time_k)))),
          ),
          ((name_Y, (time_k, tt)), (serves _ _ name_Y time_k, (((time_k, time_j), (time_k, time_i)), (time_i, time_k)))),
        ),
      ),
    ),
  )

  standard_printed : (w : Which) → IsPrintableForm most g (standard w)
  standard_printed Init = record { tidy = standard_tidy Init; names = standard_names Init; sorted = refl }
  standard_printed Eq = record { tidy = standard_tidy Eq; names = standard_names Eq; sorted = refl }
  standard_printed NotEq = record { tidy = standard_tidy NotEq; names = standard_names NotEq; sorted = refl }
  standard_printed In = record { tidy = standard_tidy In; names = standard_names In; sorted = refl }
  standard_printed NotIn = record { tidy = standard_tidy NotIn; names = standard_names NotIn; sorted = refl }
  standard_printed Lock = record { tidy = standard_tidy Lock; names = standard_names Lock; sorted = refl }
  standard_printed InEv = record { tidy = standard_tidy InEv; names = standard_names InEv; sorted = refl }

  standard_name : (w : Which) → IsName most (restriction_name w)
  standard_name Init = word _ refl refl refl (omega arith)
  standard_name Eq = word _ refl refl refl (omega arith)
  standard_name NotEq = word _ refl refl refl (omega arith)
  standard_name In = word _ refl refl refl (omega arith)
  standard_name NotIn = word _ refl refl refl (omega arith)
  standard_name Lock = word _ refl refl refl (omega arith)
  standard_name InEv = word _ refl refl refl (omega arith)

  pub named_printed : (ws : List Which) → EachIn (IsPrintableRestriction most g) (map named ws)
  named_printed [] = tt
  named_printed (w ∷ ws) = (record { name = standard_name w; formula = standard_printed w }, named_printed ws)

-- lemmas that carry restrictions

module _ (most : ℕ) (g : Sig) where
  both_printed : (f h : Form) → IsPrintableForm most g f → IsPrintableForm most g h → IsPrintableForm most g (both f h)
  both_printed f h a b = record { tidy = (a.tidy, b.tidy); names = (a.names, b.names); sorted = λ i. both (a.sorted i) (b.sorted i) }

  implied_printed : (f h : Form) → IsPrintableForm most g f → IsPrintableForm most g h → IsPrintableForm most g (implies f h)
  implied_printed f h a b = record { tidy = (a.tidy, b.tidy); names = (a.names, b.names); sorted = λ i. implies (a.sorted i) (b.sorted i) }

  truth_printed : IsPrintableForm most g truth
  truth_printed = record { tidy = tt; names = tt; sorted = refl }

  joined_printed : (f : Form) (rs : List RestrictionForm) → IsPrintableForm most g f → EachIn (IsPrintableRestriction most g) rs → IsPrintableForm most g (joined f (formulas rs))
  joined_printed f [] h k = h
  joined_printed f (r ∷ rs) h k = joined_printed (both f r.formula) rs (both_printed f r.formula h k.0.formula) k.1

  inlined_printed : (m : Mode) (rs : List RestrictionForm) (f : Form) → EachIn (IsPrintableRestriction most g) rs → IsPrintableForm most g f → IsPrintableForm most g (inlined m (formulas rs) f)
  inlined_printed AllTraces [] f k h = implied_printed truth f truth_printed h
  inlined_printed AllTraces (r ∷ rs) f k h = implied_printed (joined r.formula (formulas rs)) f (joined_printed r.formula rs k.0.formula k.1) h
  inlined_printed ExistsTrace [] f k h = both_printed truth f truth_printed h
  inlined_printed ExistsTrace (r ∷ rs) f k h = both_printed (joined r.formula (formulas rs)) f (joined_printed r.formula rs k.0.formula k.1) h

  pub carrying_printed : (rs : List RestrictionForm) → EachIn (IsPrintableRestriction most g) rs → (ls : List LemmaForm) → EachIn (IsPrintableLemma most g) ls → EachIn (IsPrintableLemma most g) (map (inlined_lemma (formulas rs)) ls)
  carrying_printed rs k [] h = tt
  carrying_printed rs k (l ∷ ls) h = (record { name = h.0.name; attributes = h.0.attributes; formula = inlined_printed l.mode rs l.formula k h.0.formula }, carrying_printed rs k ls h.1)
