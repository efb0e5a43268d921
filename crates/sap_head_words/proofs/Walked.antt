-- What is found past the first part of a head, and in it.
use Rattle.std.proofs.Common.{◌≡◌, ◌<◌, ◌+◌, ℕ, zero, suc, Bool, true, false, List, [], ◌∷◌, ◌++◌, length, drop, Option, Some, None, refl, sym, ap, subst, ◌∙◌, arith}
use Rattle.std.specs.Prelude.{codes, slice_get}
use Rattle.std.proofs.lemmas.Option.{slice_get_past}
use Rattle.sap_text.specs.declared.token.Token.{Token}
use Rattle.sap_terms.specs.declared.fact.Fact.{Fact}
use Rattle.sap_terms.specs.Signature.{Sig}
use Rattle.sap_terms.specs.Tree.{Tree}
use Rattle.sap_grammar.specs.Words.{Word, starts, words_of}
use Rattle.sap_grammar.proofs.ReadingLaws.Tokens.{words-drop, length-words}
use Rattle.sap_node_words.specs.NodeWords.{term_words}
use Rattle.sap_node_words.specs.FactWords.{facts_words}
use Rattle.sap_head_words.specs.code.Shapes.{OneTerm, TwoTerms, TermAndName, Arguments, UseOf, RightSide, Shown, ArrowIs, ThreeSides}

-- behind the first tokens
pub moved : (P : List Word → Type 0) (bytes : List ℕ) (n : ℕ) (ts us : List Token) → us ≡ drop n ts → P (drop n (words_of bytes ts)) → P (words_of bytes us)
moved P bytes n ts us e h = subst P (sym (ap (λ z. words_of bytes z) e ∙ words-drop bytes n ts)) h

pub no_more : (ns : List ℕ) (k j : ℕ) → j + length ns ≡ k → None ≡ slice_get ns k
no_more ns k j e = sym (slice_get_past ns k (omega (arith, e)))

first_got : (ns ms : List ℕ) (k n : ℕ) → slice_get ns k ≡ Some n → slice_get (ns ++ ms) k ≡ Some n
first_got [] ms k n e = absurd (cc (e))
first_got (x ∷ ns) ms zero n e = e
first_got (x ∷ ns) ms (suc k) n e = first_got ns ms k n e

later_got : (ns ms : List ℕ) (k j : ℕ) → j + length ns ≡ k → slice_get (ns ++ ms) k ≡ slice_get ms j
later_got [] ms k j e = let is : k ≡ j = omega (arith, e) in ap (λ z. slice_get ms z) is
later_got (x ∷ ns) ms zero j e = absurd (omega (arith, e))
later_got (x ∷ ns) ms (suc k) j e = later_got ns ms k j (omega (arith, e))

-- in the first part, and past it
found_first : (xs before after ns : List ℕ) (k n : ℕ) → xs ≡ before → before ++ after ≡ ns → slice_get xs k ≡ Some n → Some n ≡ slice_get ns k
found_first xs before after ns k n is all e = sym (first_got xs after k n e) ∙ (ap (λ z. slice_get (z ++ after) k) is ∙ ap (λ z. slice_get z k) all)

found_later : (xs before after ns : List ℕ) (k j : ℕ) (o : Option ℕ) → xs ≡ before → before ++ after ≡ ns → j + length xs ≡ k → o ≡ slice_get after j → o ≡ slice_get ns k
found_later xs before after ns k j o is all e h = h ∙ (sym (later_got xs after k j e) ∙ (ap (λ z. slice_get (z ++ after) k) is ∙ ap (λ z. slice_get z k) all))

pub two_found : {g : Sig} {t u : Tree} {a : List Word} {ns : List ℕ} (h : TwoTerms g t u a ns) (k n : ℕ) → slice_get (term_words h.first) k ≡ Some n → Some n ≡ slice_get ns k
two_found {ns = ns} h k n e = found_first (term_words h.first) (term_words h.first) (term_words h.second) ns k n refl h.numbers e

pub two_later : {g : Sig} {t u : Tree} {a : List Word} {ns : List ℕ} (h : TwoTerms g t u a ns) (k j : ℕ) (rest : List Word) (o : Option ℕ)
    → (j + length (term_words h.first) ≡ k) × (rest ≡ h.word ∷ h.middle) → ((ms : List ℕ) → OneTerm g u (drop 1 rest) ms → o ≡ slice_get ms j) → o ≡ slice_get ns k
two_later {g} {t} {u} {a} {ns} h k j rest o past go =
    let at : h.middle ≡ drop 1 rest = sym (ap (λ ws. drop 1 ws) past.1) in
    let second : OneTerm g u (drop 1 rest) (term_words h.second) =
    subst (λ z. OneTerm g u z (term_words h.second)) at (record { behind = h.behind; spelled = h.second; numbers = refl }) in
    found_later (term_words h.first) (term_words h.first) (term_words h.second) ns k j o refl h.numbers past.0 (go (term_words h.second) second)

pub name_found : {g : Sig} {t : Tree} {a : List Word} {ns : List ℕ} (h : TermAndName g t a ns) (k n : ℕ) → slice_get (term_words h.first) k ≡ Some n → Some n ≡ slice_get ns k
name_found {ns = ns} h k n e = found_first (term_words h.first) (term_words h.first) (length h.middle ∷ []) ns k n refl h.numbers e

pub name_later : {g : Sig} {t : Tree} {a : List Word} {ns : List ℕ} (h : TermAndName g t a ns) (bytes : List ℕ) (k j : ℕ) (rest us : List Token) (o : Option ℕ) → us ≡ drop 1 rest
    → (j + length (term_words h.first) ≡ k) × (words_of bytes rest ≡ h.word ∷ h.middle) → o ≡ slice_get (length us ∷ []) j → o ≡ slice_get ns k
name_later {ns = ns} h bytes k j rest us o e past is =
    let words : words_of bytes us ≡ h.middle = ap (λ z. words_of bytes z) e ∙ (words-drop bytes 1 rest ∙ ap (λ ws. drop 1 ws) past.1) in
    let long : length us ≡ length h.middle = sym (length-words bytes us) ∙ ap (λ ws. length ws) words in
    found_later (term_words h.first) (term_words h.first) (length h.middle ∷ []) ns k j o refl h.numbers past.0 (is ∙ ap (λ z. slice_get (z ∷ []) j) long)

pub shown_found : {g : Sig} {e r : List Fact} {a : List Word} {ns : List ℕ} (h : Shown g e r a ns) (k n : ℕ) → slice_get (facts_words h.shown.spelled) k ≡ Some n → Some n ≡ slice_get ns k
shown_found {ns = ns} h k n e = found_first (facts_words h.shown.spelled) h.before h.after ns k n h.shown.numbers h.numbers e

pub shown_later : {g : Sig} {e r : List Fact} {a : List Word} {ns : List ℕ} (h : Shown g e r a ns) (k j : ℕ) (rest : List Word) (o : Option ℕ)
    → (j + length (facts_words h.shown.spelled) ≡ k) × (rest ≡ h.middle) → ((ms : List ℕ) → RightSide g r (drop 1 rest) ms → o ≡ slice_get ms j) → o ≡ slice_get ns k
shown_later {g} {e} {r} {a} {ns} h k j rest o past go =
    let added = subst (λ z. RightSide g r (drop 1 z) h.after) (sym past.1) h.added in
    found_later (facts_words h.shown.spelled) h.before h.after ns k j o h.shown.numbers h.numbers past.0 (go h.after added)

pub taken_found : {g : Sig} {l e r : List Fact} {a : List Word} {ns : List ℕ} (h : ThreeSides g l e r a ns) (k n : ℕ) → slice_get (facts_words h.taken.spelled) k ≡ Some n → Some n ≡ slice_get ns k
taken_found {ns = ns} h k n e = found_first (facts_words h.taken.spelled) h.before h.after ns k n h.taken.numbers h.numbers e

pub taken_later : {g : Sig} {l e r : List Fact} {a : List Word} {ns : List ℕ} (h : ThreeSides g l e r a ns) (k j : ℕ) (rest : List Word) (o : Option ℕ)
    → (j + length (facts_words h.taken.spelled) ≡ k) × (rest ≡ h.middle) → ((ms : List ℕ) → ArrowIs (starts (codes "-->") rest) g e r rest ms → o ≡ slice_get ms j) → o ≡ slice_get ns k
taken_later {g} {l} {e} {r} {a} {ns} h k j rest o past go =
    let others = subst (λ z. ArrowIs (starts (codes "-->") z) g e r z h.after) (sym past.1) h.others in
    found_later (facts_words h.taken.spelled) h.before h.after ns k j o h.taken.numbers h.numbers past.0 (go h.after others)

-- which arrow it is
pub plain_arrow : (x : Bool) (g : Sig) (e r : List Fact) (a : List Word) (ns : List ℕ) → x ≡ true → ArrowIs x g e r a ns → RightSide g r (drop 2 a) ns
plain_arrow true g e r a ns is h = h
plain_arrow false g e r a ns is h = absurd (cc (is))

pub shown_arrow : (x : Bool) (g : Sig) (e r : List Fact) (a : List Word) (ns : List ℕ) → x ≡ false → ArrowIs x g e r a ns → Shown g e r (drop 1 a) ns
shown_arrow true g e r a ns is h = absurd (cc (is))
shown_arrow false g e r a ns is h = h

-- a use that has arguments
pub use_some : (g : Sig) (ts : List Tree) (a : List Word) (ns : List ℕ) → 0 < length ts → UseOf g ts a ns → Arguments g ts (drop 2 a) ns
use_some g [] a ns some h = absurd (omega (arith, some))
use_some g (t ∷ ts) a ns some h = h
