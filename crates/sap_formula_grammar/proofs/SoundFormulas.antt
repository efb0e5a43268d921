-- What is read is spelled so: formulas.
use Rattle.std.proofs.Common.{◌≡◌, ◌≤◌, max, ℕ, zero, suc, ◌+◌, Bool, true, false, List, [], ◌∷◌, length, drop, Option, Some, None, refl, sym, ap, subst, ◌∙◌, arith}
use Rattle.std.specs.Prelude.{codes, ⊤, ◌&&◌, not, nat_le}
use Rattle.std.proofs.lemmas.List.{drop-drop}
use Rattle.sap_terms.specs.declared.fact.Fact.{Fact}
use Rattle.sap_terms.specs.Tree.{Tree}
use Rattle.sap_terms.specs.Signature.{Sig}
use Rattle.sap_formula.specs.Form.{Form, both, either, implies, equivalent, every, exists}
use Rattle.sap_formula.specs.declared.binder.Binder.{Binder}
use Rattle.sap_grammar.specs.declared.limits.Limits.{Limits}
use Rattle.sap_grammar.specs.Words.{Word, mark, name, number, quoted, starts, is_upper}
use Rattle.sap_grammar.specs.TermGrammar.{IsTerm, IsShort}
use Rattle.sap_grammar.specs.FactGrammar.{IsFact, IsShortFact}
use Rattle.sap_grammar.specs.Reading.{Reader, bare, name_at, names}
use Rattle.sap_grammar.specs.TermReading.{short_term, short_fact}
use Rattle.sap_formula_grammar.specs.FormulaGrammar.{begins_truth, IsTime, time_signed, time_plain, IsAtom, atom_true, atom_false, atom_action, atom_equal, atom_same, atom_earlier, IsBinder, binds_message, binds_fresh, binds_pub, binds_time, AreBinders, binders_last, binders_more, Reach, closed, reaching, IsUn, IsAnd, IsOr, IsImp, IsIff, un_atom, un_not, un_every, un_exists, un_parentheses, and_one, and_more, or_one, or_more, imp_one, imp_more, iff_one, iff_more, IsSmallForm}
use Rattle.sap_formula_grammar.specs.FormulaReading.{time, placed, equation, later, timed, named, atom, binder, binders, Levelled, joined, second, turns, chain, imp_at, ors, quantified, un_at, un, imp, iff_at, formula}
use Rattle.sap_grammar.specs.TermLaws.{AreRead}
use Rattle.sap_grammar.proofs.ReadingLaws.Limits.{le_of}
use Rattle.sap_grammar.proofs.ReadingLaws.OnRead.{Says, OnRead, on_all, on_read, after_on, bare_sound, behind_on, given_on, if_on, past_on, starts_is, name_is, named_is}
use Rattle.sap_formula_grammar.proofs.Formulas.{NoSign}

time_from : {i : List ℕ} {a b c : List Word} → IsTime i a b → c ≡ a → IsTime i c b
time_from {i = i} {b = b} r e = subst (λ (y : List Word). IsTime i y b) (sym e) r

-- a name behind a mark
marked_sound : (w : List ℕ) (ts : List Word) → starts w ts ≡ true → OnRead (λ x b. ts ≡ mark w ∷ name x ∷ b) (bare (drop 1 ts))
marked_sound w ts e =
    given_on (λ x b. ts ≡ mark w ∷ name x ∷ b) (name_at (drop 1 ts)) _ (λ x f. starts_is w ts e ∙ ap (λ (q : List Word). mark w ∷ q) (name_is (drop 1 ts) x f))

time_sound : (ts : List Word) → OnRead (λ i b. IsTime i ts b) (time ts)
time_sound ts =
    if_on (λ i b. IsTime i ts b) (starts (codes "#") ts) _ _
    (λ e. on_all (λ i b. IsTime i ts b) (bare (drop 1 ts)) (λ i b r. time_from time_signed (on_read (λ x b. ts ≡ mark (codes "#") ∷ name x ∷ b) i b r (marked_sound (codes "#") ts e))))
    (λ e. on_all (λ i b. IsTime i ts b) (bare ts) (λ i b r. time_from time_plain (on_read (λ x b. ts ≡ name x ∷ b) i b r (bare_sound ts))))

never : (b : Bool) → (not b && false) ≡ false
never true = refl
never false = refl

-- an atom with terms within the limits
abbrev pub Atoms : Sig → Limits → List Word → Says Form
Atoms g m ts f b = IsAtom g f ts b × IsSmallForm m f

module _ (laws : AreRead) (g : Sig) (m : Limits) where
  short_sound : (ts : List Word) → OnRead (λ t b. IsShort g m t ts b) (short_term g m ts)
  short_sound ts = on_all (λ t b. IsShort g m t ts b) (short_term g m ts) (λ t b e. laws.term_is g m t ts b e)

  short_fact_sound : (ts : List Word) → OnRead (λ f b. IsShortFact g m false f ts b) (short_fact g m false ts)
  short_fact_sound ts = on_all (λ f b. IsShortFact g m false f ts b) (short_fact g m false ts) (λ f b e. laws.fact_is g m false f ts b e)

  atom_from : {f : Form} {a b c : List Word} → IsAtom g f a b → c ≡ a → IsAtom g f c b
  atom_from {f = f} {b = b} r e = subst (λ (y : List Word). IsAtom g f y b) (sym e) r

  term_on : {t : Tree} {a b c : List Word} → IsTerm g t a b → b ≡ c → IsTerm g t a c
  term_on {t = t} {a = a} r e = subst (λ (y : List Word). IsTerm g t a y) e r

  fact_on : {f : Fact} {a b c : List Word} → IsFact g f a b → b ≡ c → IsFact g f a c
  fact_on {f = f} {a = a} r e = subst (λ (y : List Word). IsFact g f a y) e r

  linear : (persistent : Bool) → (persistent ≡ true → false ≡ true) → persistent ≡ false
  linear false f = refl
  linear true f = sym (f refl)

  placed_sound : (ts : List Word) → OnRead (Atoms g m ts) (placed g m ts)
  placed_sound ts =
      let Q : Says Form = Atoms g m ts in
      after_on (λ f b. IsShortFact g m false f ts b) Q (short_fact g m false ts) _ (short_fact_sound ts) (λ f r h.
      past_on Q (codes "@") r _ (λ e.
      after_on (λ i b. IsTime i (drop 1 r) b) Q (time (drop 1 r)) _ (time_sound (drop 1 r)) (λ i b k.
      (atom_action (fact_on h.spelled e) (linear f.persistent h.sign) k, h.small))))

  equation_sound : (ts : List Word) → begins_truth ts ≡ false → OnRead (Atoms g m ts) (equation g m ts)
  equation_sound ts plain =
      let Q : Says Form = Atoms g m ts in
      after_on (λ t b. IsShort g m t ts b) Q (short_term g m ts) _ (short_sound ts) (λ t r h.
      past_on Q (codes "=") r _ (λ e.
      after_on (λ u b. IsShort g m u (drop 1 r) b) Q (short_term g m (drop 1 r)) _ (short_sound (drop 1 r)) (λ u b k.
      (atom_equal plain (term_on h.spelled e) k.spelled, (h.small, k.small)))))

  -- behind a time variable and `<`, where `all` are the words from that variable on
  later_sound : (i : List ℕ) (ts all : List Word) → begins_truth all ≡ false → IsTime i all (mark (codes "<") ∷ ts) → OnRead (Atoms g m all) (later i ts)
  later_sound i ts all plain r =
      after_on (λ j b. IsTime j ts b) (Atoms g m all) (time ts) _ (time_sound ts) (λ j b k. (atom_earlier plain r k, tt))

  timed_sound : (ts : List Word) → OnRead (Atoms g m (mark (codes "#") ∷ ts)) (timed ts)
  timed_sound ts =
      let all : List Word = mark (codes "#") ∷ ts in
      let Q : Says Form = Atoms g m all in
      after_on (λ i b. ts ≡ name i ∷ b) Q (bare ts) _ (bare_sound ts) (λ i r e.
      if_on Q (starts (codes "=") r) _ _
      (λ f. past_on Q (codes "#") (drop 1 r) _ (λ s.
      after_on (λ j b. drop 1 (drop 1 r) ≡ name j ∷ b) Q (bare (drop 1 (drop 1 r))) _ (bare_sound (drop 1 (drop 1 r))) (λ j z h. (
        atom_from atom_same (ap (λ (q : List Word). mark (codes "#") ∷ q) (e ∙ ap (λ (q : List Word). name i ∷ q)
            (starts_is (codes "=") r f ∙ ap (λ (q : List Word). mark (codes "=") ∷ q) (s ∙ ap (λ (q : List Word). mark (codes "#") ∷ q) h)))),
        tt,
      ))))
      (λ _. if_on Q (starts (codes "<") r) _ _
      (λ l. later_sound i (drop 1 r) all (never (starts (codes "(") ts))
      (time_from time_signed (ap (λ (q : List Word). mark (codes "#") ∷ q) (e ∙ ap (λ (q : List Word). name i ∷ q) (starts_is (codes "<") r l)))))
      (λ _. tt)))

  none_truth : (ts : List Word) → name_at ts ≡ None → begins_truth ts ≡ false
  none_truth [] e = refl
  none_truth (mark s ∷ ts) e = never (starts (codes "(") ts)
  none_truth (name s ∷ ts) e = absurd (cc (e))
  none_truth (number s ∷ ts) e = never (starts (codes "(") ts)
  none_truth (quoted s ∷ ts) e = never (starts (codes "(") ts)

  open_truth : (ts : List Word) → starts (codes "(") (drop 1 ts) ≡ true → begins_truth ts ≡ false
  open_truth [] e = refl
  open_truth (w ∷ ts) e = rw e refl

  other_truth : (ts : List Word) → starts (codes "(") (drop 1 ts) ≡ false → names (codes "T") ts ≡ false → names (codes "F") ts ≡ false → begins_truth ts ≡ false
  other_truth [] o t f = refl
  other_truth (mark s ∷ ts) o t f = never (starts (codes "(") ts)
  other_truth (name s ∷ ts) o t f = rw (o, t, f) refl
  other_truth (number s ∷ ts) o t f = never (starts (codes "(") ts)
  other_truth (quoted s ∷ ts) o t f = never (starts (codes "(") ts)

  named_sound : (ts : List Word) → OnRead (Atoms g m ts) (named g m (name_at ts) ts)
  named_sound ts = by_word (name_at ts) refl
    where
      by_word : (o : Option (List ℕ)) → name_at ts ≡ o → OnRead (Atoms g m ts) (named g m o ts)
      by_word None e = equation_sound ts (none_truth ts e)
      by_word (Some x) e =
          let Q : Says Form = Atoms g m ts in
          if_on Q (starts (codes "(") (drop 1 ts)) _ _
          (λ o. if_on Q (is_upper x) _ _ (λ up. placed_sound ts) (λ up. equation_sound ts (open_truth ts o)))
          (λ o. if_on Q (names (codes "T") ts) _ _
          (λ t. (atom_from (atom_true o) (named_is (codes "T") ts t), tt))
          (λ t. if_on Q (names (codes "F") ts) _ _
          (λ f. (atom_from (atom_false o) (named_is (codes "F") ts f), tt))
          (λ f. if_on Q (starts (codes "<") (drop 1 ts)) _ _
          (λ l. later_sound x (drop 2 ts) ts (other_truth ts o t f)
          (time_from time_plain (name_is ts x e ∙ ap (λ (q : List Word). name x ∷ q) (starts_is (codes "<") (drop 1 ts) l ∙ ap (λ (q : List Word). mark (codes "<") ∷ q) (drop-drop 1 1 ts)))))
          (λ l. equation_sound ts (other_truth ts o t f)))))

  atom_sound : (ts : List Word) → OnRead (Atoms g m ts) (atom g m ts)
  atom_sound ts =
      if_on (Atoms g m ts) (starts (codes "#") ts) _ _
      (λ e. subst (λ (y : List Word). OnRead (Atoms g m y) (timed (drop 1 ts))) (sym (starts_is (codes "#") ts e)) (timed_sound (drop 1 ts)))
      (λ e. named_sound ts)

binder_from : {v : Binder} {a b c : List Word} → IsBinder v a b → c ≡ a → IsBinder v c b
binder_from {v = v} {b = b} r e = subst (λ (y : List Word). IsBinder v y b) (sym e) r

binder_sound : (ts : List Word) → OnRead (λ v b. IsBinder v ts b) (binder ts)
binder_sound ts =
    let Q : Says Binder = λ v b. IsBinder v ts b in
    if_on Q (starts (codes "~") ts) _ _
    (λ e. after_on (λ x b. ts ≡ mark (codes "~") ∷ name x ∷ b) Q (bare (drop 1 ts)) _ (marked_sound (codes "~") ts e) (λ x b h. binder_from binds_fresh h))
    (λ _. if_on Q (starts (codes "$") ts) _ _
    (λ e. after_on (λ x b. ts ≡ mark (codes "$") ∷ name x ∷ b) Q (bare (drop 1 ts)) _ (marked_sound (codes "$") ts e) (λ x b h. binder_from binds_pub h))
    (λ _. if_on Q (starts (codes "#") ts) _ _
    (λ e. after_on (λ x b. ts ≡ mark (codes "#") ∷ name x ∷ b) Q (bare (drop 1 ts)) _ (marked_sound (codes "#") ts e) (λ x b h. binder_from binds_time h))
    (λ _. after_on (λ x b. ts ≡ name x ∷ b) Q (bare ts) _ (bare_sound ts) (λ x b h. binder_from binds_message h))))

binders_sound : (n : ℕ) (ts : List Word) → OnRead (λ vs b. AreBinders vs ts b) (binders n ts)
binders_sound zero ts = tt
binders_sound (suc n) ts =
    let Q : Says (List Binder) = λ vs b. AreBinders vs ts b in
    after_on (λ v b. IsBinder v ts b) Q (binder ts) _ (binder_sound ts) (λ v r h.
    if_on Q (starts (codes ".") r) _ _
    (λ e. binders_last (subst (λ (y : List Word). IsBinder v ts y) (starts_is (codes ".") r e) h))
    (λ e. behind_on (λ vs b. AreBinders vs r b) Q (v ∷ []) (binders n r) (binders_sound n r) (λ vs b k. binders_more h k)))

abbrev pub Spelling : Type 1
Spelling = Reach → Form → ℕ → List Word → List Word → Type 0

-- spelled so, within levels, and what follows is none of the signs that a quantifier at its end would take in
abbrev pub Stands : Spelling → (List Word → Type 0) → ℕ → Limits → List Word → Says Levelled
Stands R X d m a w b = (e : Reach) × R e w.0 w.1 a b × NoSign e b × (w.1 ≤ d) × IsSmallForm m w.0 × X b

-- a sign ends no part that reaches to the right
abbrev Closes : List ℕ → Type 0
Closes sign = (e : Reach) (b : List Word) → NoSign e b → starts sign b ≡ true → e ≡ closed

abbrev Keeps : (Form → Form → Form) → Type 0
Keeps made = (m : Limits) (f h : Form) → IsSmallForm m f → IsSmallForm m h → IsSmallForm m (made f h)

joined_on : (Q : Says Levelled) (d : ℕ) (made : Form → Form → Form) (f h : Levelled) (ts : List Word)
    → (max f.1 h.1 + 1 ≤ d → Q (made f.0 h.0, max f.1 h.1 + 1) ts) → OnRead Q (joined d made f h ts)
joined_on Q d made f h ts t = if_on Q (nat_le (max f.1 h.1 + 1) d) _ _ (λ le. t (le_of (max f.1 h.1 + 1) d le)) (λ le. tt)

-- two sides of these kinds, with this sign between them
module _ (L R S : Spelling) (sign : List ℕ) (made : Form → Form → Form) (closes : Closes sign) (keeps : Keeps made)
    (more : (e : Reach) (f h : Form) (n k : ℕ) (a b c : List Word) → L closed f n a (mark sign ∷ b) → R e h k b c → S e (made f h) (max n k + 1) a c)
    (Y X : List Word → Type 0) (d k : ℕ) (m : Limits) (part : Reader Levelled) (sound : (ts : List Word) → OnRead (Stands R X k m ts) (part ts)) where
  before_sign : (e : Reach) (f : Form) (n : ℕ) (a b : List Word) → L e f n a b → NoSign e b → starts sign b ≡ true → L closed f n a (mark sign ∷ drop 1 b)
  before_sign e f n a b r free s =
      subst (λ (y : List Word). L closed f n a y) (starts_is sign b s) (subst (λ (x : Reach). L x f n a b) (closes e b free s) r)

  second_sound : (w : Levelled) (all ts : List Word) → Stands L Y d m all w ts → starts sign ts ≡ true → OnRead (Stands S X d m all) (second part d made w (drop 1 ts))
  second_sound w all ts h s =
      let Q : Says Levelled = Stands S X d m all in
      after_on (Stands R X k m (drop 1 ts)) Q (part (drop 1 ts)) _ (sound (drop 1 ts)) (λ v r l.
      joined_on Q d made w v r (λ le.
      (l.0, more l.0 w.0 v.0 w.1 v.1 all (drop 1 ts) r (before_sign h.0 w.0 w.1 all ts h.1 h.2 s) l.1, l.2, le, keeps m w.0 v.0 h.4 l.4, l.5)))

module _ (R S : Spelling) (sign : List ℕ) (made : Form → Form → Form) (closes : Closes sign) (keeps : Keeps made)
    (one : (e : Reach) (f : Form) (n : ℕ) (a b : List Word) → R e f n a b → S e f n a b)
    (more : (e : Reach) (f h : Form) (n k : ℕ) (a b c : List Word) → S closed f n a (mark sign ∷ b) → R e h k b c → S e (made f h) (max n k + 1) a c)
    (X : List Word → Type 0) (d : ℕ) (m : Limits) (part : Reader Levelled) (sound : (ts : List Word) → OnRead (Stands R X d m ts) (part ts)) where
  abbrev pub NoMore : List Word → Type 0
  NoMore b = X b × (starts sign b ≡ false)

  turns_sound : (n : ℕ) (w : Levelled) (all ts : List Word) → Stands S X d m all w ts → OnRead (Stands S NoMore d m all) (turns part d made sign n w ts)
  turns_sound zero w all ts h =
      if_on (Stands S NoMore d m all) (starts sign ts) _ _ (λ s. tt) (λ s. (h.0, h.1, h.2, h.3, h.4, (h.5, s)))
  turns_sound (suc n) w all ts h =
      let Q : Says Levelled = Stands S NoMore d m all in
      if_on Q (starts sign ts) _ _
      (λ s. after_on (Stands S X d m all) Q (second part d made w (drop 1 ts)) _ (second_sound S R S sign made closes keeps more X X d d m part sound w all ts h s) (λ v r k.
      turns_sound n v all r k))
      (λ s. (h.0, h.1, h.2, h.3, h.4, (h.5, s)))

  chain_sound : (ts : List Word) → OnRead (Stands S NoMore d m ts) (chain part d made sign ts)
  chain_sound ts =
      after_on (Stands R X d m ts) (Stands S NoMore d m ts) (part ts) _ (sound ts) (λ w r h.
      turns_sound (length ts) w ts r (h.0, one h.0 w.0 w.1 ts r h.1, h.2, h.3, h.4, h.5))

closes_and : Closes (codes "&")
closes_and closed b free s = refl
closes_and reaching b free s = absurd (let t = free.0 in cc (s, t))

closes_or : Closes (codes "|")
closes_or closed b free s = refl
closes_or reaching b free s = absurd (let t = free.1 in cc (s, t))

closes_imp : Closes (codes "==>")
closes_imp closed b free s = refl
closes_imp reaching b free s = absurd (let t = free.2 in cc (s, t))

closes_iff : Closes (codes "<=>")
closes_iff closed b free s = refl
closes_iff reaching b free s = absurd (let t = free.3 in cc (s, t))

-- the signs that don't follow a part of each kind
abbrev pub AfterAnd : List Word → Type 0
AfterAnd b = ⊤ × (starts (codes "&") b ≡ false)

abbrev pub AfterOr : List Word → Type 0
AfterOr b = AfterAnd b × (starts (codes "|") b ≡ false)

abbrev pub AfterImp : List Word → Type 0
AfterImp b = AfterOr b × (starts (codes "==>") b ≡ false)

abbrev pub AfterIff : List Word → Type 0
AfterIff b = AfterImp b × (starts (codes "<=>") b ≡ false)

module _ (laws : AreRead) (g : Sig) (m : Limits) where
  abbrev pub SoundUn : ℕ → Reader Levelled → Type 0
  SoundUn d u = (ts : List Word) → OnRead (Stands (IsUn g) (λ _. ⊤) d m ts) (u ts)

  abbrev pub SoundImp : ℕ → Reader Levelled → Type 0
  SoundImp d u = (ts : List Word) → OnRead (Stands (IsImp g) AfterImp d m ts) (u ts)

  abbrev pub SoundIff : ℕ → Reader Levelled → Type 0
  SoundIff d u = (ts : List Word) → OnRead (Stands (IsIff g) AfterIff d m ts) (u ts)

  ors_sound : (d : ℕ) (u : Reader Levelled) → SoundUn d u → (ts : List Word) → OnRead (Stands (IsOr g) AfterOr d m ts) (ors u d ts)
  ors_sound d u s =
      chain_sound (IsAnd g) (IsOr g) (codes "|") either closes_or (λ m f h x y. (x, y)) (λ e f n a b r. or_one r) (λ e f h n k a b c r t. or_more r t) AfterAnd d m (chain u d both (codes "&"))
      (chain_sound (IsUn g) (IsAnd g) (codes "&") both closes_and (λ m f h x y. (x, y)) (λ e f n a b r. and_one r) (λ e f h n k a b c r t. and_more r t) (λ _. ⊤) d m u s)

  imp_at_sound : (d k : ℕ) (left right : Reader Levelled) → ((ts : List Word) → OnRead (Stands (IsOr g) AfterOr d m ts) (left ts)) → SoundImp k right
      → SoundImp d (imp_at left right d)
  imp_at_sound d k left right s t ts =
      let Q : Says Levelled = Stands (IsImp g) AfterImp d m ts in
      after_on (Stands (IsOr g) AfterOr d m ts) Q (left ts) _ (s ts) (λ w r h.
      if_on Q (starts (codes "==>") r) _ _
      (λ e. second_sound (IsOr g) (IsImp g) (IsImp g) (codes "==>") implies closes_imp (λ m f h x y. (x, y)) (λ e f h n k a b c r t. imp_more r t) AfterOr AfterImp d k m right t w ts r h e)
      (λ e. (h.0, imp_one h.1, h.2, h.3, h.4, (h.5, e))))

  iff_at_sound : (d : ℕ) (part : Reader Levelled) → SoundImp d part → SoundIff d (iff_at part d)
  iff_at_sound d part s ts =
      let Q : Says Levelled = Stands (IsIff g) AfterIff d m ts in
      let P : Says Levelled = Stands (IsIff g) AfterImp d m ts in
      after_on (Stands (IsImp g) AfterImp d m ts) Q (part ts) _ (s ts) (λ w r h.
      if_on Q (starts (codes "<=>") r) _ _
      (λ e. after_on P Q (second part d equivalent w (drop 1 r)) _
      (second_sound (IsImp g) (IsImp g) (IsIff g) (codes "<=>") equivalent closes_iff (λ m f h x y. (x, y)) (λ e f h n k a b c r t. iff_more r t) AfterImp AfterImp d d m part s w ts r h e)
      (λ v z l. if_on Q (starts (codes "<=>") z) _ _ (λ again. tt) (λ again. (l.0, l.1, l.2, l.3, l.4, (l.5, again)))))
      (λ e. (h.0, iff_one h.1, h.2, h.3, h.4, (h.5, e))))

  no_signs : (b : List Word) → AfterIff b → NoSign reaching b
  no_signs b x = (x.0.0.0.1, x.0.0.1, x.0.1, x.1)

  module _ (d : ℕ) (u iff : Reader Levelled) (s : SoundUn d u) (t : SoundIff d iff) where
    quantified_sound : (w : List ℕ) (made : List Binder → Form → Form)
        → ((e : Reach) (vs : List Binder) (f : Form) (n : ℕ) (a b c : List Word) → AreBinders vs a b → IsIff g e f n b c → IsUn g reaching (made vs f) (n + 1) (mark w ∷ a) c)
        → ((vs : List Binder) (f : Form) → IsSmallForm m f → IsSmallForm m (made vs f))
        → (ts : List Word) → OnRead (Stands (IsUn g) (λ _. ⊤) (d + 1) m (mark w ∷ ts)) (quantified iff made ts)
    quantified_sound w made spelled keeps ts =
        let Q : Says Levelled = Stands (IsUn g) (λ _. ⊤) (d + 1) m (mark w ∷ ts) in
        after_on (λ vs b. AreBinders vs ts b) Q (binders (length ts) ts) _ (binders_sound (length ts) ts) (λ vs r h.
        after_on (Stands (IsIff g) AfterIff d m r) Q (iff r) _ (t r) (λ f z k.
        (reaching, spelled k.0 vs f.0 f.1 ts r z h k.1, no_signs z k.5, omega (arith, k.3), keeps vs f.0 k.4, tt)))

    un_from : {e : Reach} {f : Form} {n : ℕ} {a b c : List Word} → IsUn g e f n a b → c ≡ a → IsUn g e f n c b
    un_from {e = e} {f = f} {n = n} {b = b} r q = subst (λ (y : List Word). IsUn g e f n y b) (sym q) r

    un_at_sound : SoundUn (d + 1) (un_at (atom g m) u iff)
    un_at_sound ts =
        let Q : Says Levelled = Stands (IsUn g) (λ _. ⊤) (d + 1) m ts in
        if_on Q (starts (codes "not") ts) _ _
        (λ e. after_on (Stands (IsUn g) (λ _. ⊤) d m (drop 1 ts)) Q (u (drop 1 ts)) _ (s (drop 1 ts)) (λ f r h.
        (h.0, un_from (un_not h.1) (starts_is (codes "not") ts e), h.2, omega (arith, h.3), h.4, tt)))
        (λ _. if_on Q (starts (codes "All") ts) _ _
        (λ e. subst (λ (y : List Word). OnRead (Stands (IsUn g) (λ _. ⊤) (d + 1) m y) (quantified iff every (drop 1 ts))) (sym (starts_is (codes "All") ts e))
        (quantified_sound (codes "All") every (λ e vs f n a b c r q. un_every r q) (λ vs f small. small) (drop 1 ts)))
        (λ _. if_on Q (starts (codes "Ex") ts) _ _
        (λ e. subst (λ (y : List Word). OnRead (Stands (IsUn g) (λ _. ⊤) (d + 1) m y) (quantified iff exists (drop 1 ts))) (sym (starts_is (codes "Ex") ts e))
        (quantified_sound (codes "Ex") exists (λ e vs f n a b c r q. un_exists r q) (λ vs f small. small) (drop 1 ts)))
        (λ _. if_on Q (starts (codes "(") ts) _ _
        (λ e. after_on (Stands (IsIff g) AfterIff d m (drop 1 ts)) Q (iff (drop 1 ts)) _ (t (drop 1 ts)) (λ f r h.
        past_on Q (codes ")") r _ (λ c.
        (closed, un_from (un_parentheses (subst (λ (y : List Word). IsIff g h.0 f.0 f.1 (drop 1 ts) y) c h.1)) (starts_is (codes "(") ts e), tt, omega (arith, h.3), h.4, tt))))
        (λ _. after_on (Atoms g m ts) Q (atom g m ts) _ (atom_sound laws g m ts) (λ f r h.
        (closed, un_atom h.0, tt, omega arith, h.1, tt))))))

  mutual
    unfolding un imp

    un_sound : (d : ℕ) → SoundUn d (un g m d)
    un_sound zero ts = tt
    un_sound (suc d) ts =
        let same : d + 1 ≡ suc d = omega arith in
        subst (λ (k : ℕ). OnRead (Stands (IsUn g) (λ _. ⊤) k m ts) (un g m (suc d) ts)) same
        (un_at_sound d (un g m d) (iff_at (imp g m d) d) (un_sound d) (iff_at_sound d (imp g m d) (imp_sound d)) ts)

    imp_sound : (d : ℕ) → SoundImp d (imp g m d)
    imp_sound zero ts = tt
    imp_sound (suc d) ts =
        let same : d + 1 ≡ suc d = omega arith in
        let part : Reader Levelled = un_at (atom g m) (un g m d) (iff_at (imp g m d) d) in
        imp_at_sound (suc d) d (ors part (suc d)) (imp g m d)
        (ors_sound (suc d) part (λ ys. subst (λ (k : ℕ). OnRead (Stands (IsUn g) (λ _. ⊤) k m ys) (part ys)) same
        (un_at_sound d (un g m d) (iff_at (imp g m d) d) (un_sound d) (iff_at_sound d (imp g m d) (imp_sound d)) ys)))
        (imp_sound d) ts

  pub formula_sound : (d : ℕ) → SoundIff d (formula g m d)
  formula_sound d = iff_at_sound d (imp g m d) (imp_sound d)
