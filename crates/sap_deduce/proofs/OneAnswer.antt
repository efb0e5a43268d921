-- A symbol on entries is possible, in one way, or refused, for one cause.
use Rattle.std.proofs.Common.{◌≡◌, ◌<◌, ◌≤◌, ℕ, Bool, true, false, List, [], ◌∷◌, ◌++◌, length, map, find, nat_le, Option, Some, None, slice_get, arith, rules, refl, sym, ap, subst, ◌∙◌, ◌⊎◌, inl, inr, if◌then◌else◌}
use Rattle.std.specs.Prelude.{MatchOption}
use Rattle.std.proofs.lemmas.Bool.{cases_lt}
use Rattle.std.proofs.lemmas.List.{length-map}
use Rattle.std.proofs.lemmas.Option.{slice_get_within, slice_get-get_or, same_Some}
use Rattle.sap_terms.specs.Equations.{equations}
use Rattle.sap_terms.specs.Signature.{Sig, arity_of, find_symbol}
use Rattle.sap_terms.specs.Tree.{Tree, fresh, apply, trees_of, node_count}
use Rattle.sap_terms.specs.declared.limits.TheConstants.{MOST_TERM_NODES}
use Rattle.sap_terms.specs.declared.signature.Symbol.{Symbol}
use Rattle.sap_rewrite.specs.Laws.{EachHasForm, FormIsOne}
use Rattle.sap_deduce.specs.Answers.{ApplicationsHaveOneOutcome, ApplicationsHaveOneAnswer, CausesAreOne, ApplicationsHaveSomeAnswer}
use Rattle.sap_deduce.specs.Entries.{Entry, Entries, terms_of, AreTermsAt, IsApplication, Gains}
use Rattle.sap_deduce.specs.declared.deny.Deny.TheVariants.{Mem, NotPublic, Arity, NoEntry, TermLarge}
use Rattle.sap_deduce.specs.declared.origin.Origin.TheVariants.{Apply}

-- where each number is an entry's, none is unknown
known_test : (n k : ℕ) → k < n → nat_le n k ≡ false
known_test n k h = by (nat_le n k) refl where
  by : (t : Bool) → nat_le n k ≡ t → t ≡ false
  by true e = let le : n ≤ k = search (rules, e) in absurd (omega (arith, h, le))
  by false e = refl

none_unknown : (xs : List Tree) (ks : List ℕ) (ts : List Tree) → map (slice_get xs) ks ≡ map Some ts → find (nat_le (length xs)) ks ≡ None
none_unknown xs [] ts h = refl
none_unknown xs (k ∷ ks) [] h = cc
none_unknown xs (k ∷ ks) (t ∷ ts) h =
    let head : slice_get xs k ≡ Some t = cc in
    let tail : map (slice_get xs) ks ≡ map Some ts = cc in
    rw (known_test (length xs) k (slice_get_within xs k t head)) (none_unknown xs ks ts tail)

never_unknown : (es : List Entry) (ks : List ℕ) (ts : List Tree) (k : ℕ) → AreTermsAt es ks ts → find (nat_le (length es)) ks ≡ Some k → ⊥
never_unknown es ks ts k at h =
    let l : length (terms_of es) ≡ length es = length-map es (λ (e : Entry). e.term) in
    let none : find (nat_le (length es)) ks ≡ None = subst (λ n. find (nat_le n) ks ≡ None) l (none_unknown (terms_of es) ks ts at) in
    cc

-- and they have one list of terms
same_terms : (ts us : List Tree) → map Some ts ≡ map Some us → ts ≡ us
same_terms [] [] h = refl
same_terms [] (u ∷ us) h = cc
same_terms (t ∷ ts) [] h = cc
same_terms (t ∷ ts) (u ∷ us) h =
    let head : t ≡ u = cc in
    let rest = same_terms ts us (cc) in
    λ i. head i ∷ rest i

-- so the symbol on them gives one term
one_term : FormIsOne → (g : Sig) (es : List Entry) (f ks : List ℕ) (t u : Tree) → IsApplication g es f ks t → IsApplication g es f ks u → t ≡ u
one_term one g es f ks t u a b =
    let args : a.args ≡ b.args = same_terms a.args b.args (sym a.at_numbers ∙ b.at_numbers) in
    one (equations g) (apply f (trees_of b.args)) t u (rw args at a.form) b.form

pub one_outcome : FormIsOne → ApplicationsHaveOneOutcome
one_outcome one k y z f ks a b =
    let same = one_term one k.sig k.entries f ks a.term b.term a.application b.application in
    let line : Tree → Entry = λ t. record { term = t; origin = Apply f ks } in (
      a.gains.sig ∙ sym b.gains.sig,
      a.gains.entries ∙ ap (λ t. k.entries ++ line t ∷ []) same ∙ sym b.gains.entries,
    )

large_small : (n : Tree) → MOST_TERM_NODES < node_count n → node_count n ≤ MOST_TERM_NODES → ⊥
large_small n a b = omega (arith, a, b)

-- no cause is left where it is possible
pub one_answer : FormIsOne → ApplicationsHaveOneAnswer
one_answer one k z f ks Mem a h = refl
one_answer one k z f ks (NotPublic n) a h = absurd (h.1 a.application.public_symbol)
one_answer one k z f ks (Arity n) a h = absurd (h.2 a.application.arity)
one_answer one k z f ks (NoEntry n) a h = absurd (never_unknown k.entries ks a.application.args n a.application.at_numbers h.2)
one_answer one k z f ks TermLarge a h =
    let same = one_term one k.sig k.entries f ks h.0 a.term h.1 a.application in
    absurd (large_small a.term (subst (λ t. MOST_TERM_NODES < node_count t) same h.2) a.within)

-- of two causes
pub one_cause : CausesAreOne
one_cause k f ks Mem e a b = inl refl
one_cause k f ks d Mem a b = inr (inl refl)
one_cause k f ks (NotPublic n) (NotPublic m) a b = inr (inr (ap NotPublic (a.0 ∙ sym b.0)))
one_cause k f ks (NotPublic n) (Arity m) a b = absurd (a.1 b.1)
one_cause k f ks (NotPublic n) (NoEntry m) a b = absurd (a.1 b.0)
one_cause k f ks (NotPublic n) TermLarge a b = absurd (a.1 b.1.public_symbol)
one_cause k f ks (Arity n) (NotPublic m) a b = absurd (b.1 a.1)
one_cause k f ks (Arity n) (Arity m) a b = inr (inr (ap Arity (a.0 ∙ sym b.0)))
one_cause k f ks (Arity n) (NoEntry m) a b = absurd (a.2 b.1)
one_cause k f ks (Arity n) TermLarge a b = absurd (a.2 b.1.arity)
one_cause k f ks (NoEntry n) (NotPublic m) a b = absurd (b.1 a.0)
one_cause k f ks (NoEntry n) (Arity m) a b = absurd (b.2 a.1)
one_cause k f ks (NoEntry n) (NoEntry m) a b = inr (inr (ap NoEntry (same_Some n m (sym a.2 ∙ b.2))))
one_cause k f ks (NoEntry n) TermLarge a b = absurd (never_unknown k.entries ks b.1.args n b.1.at_numbers a.2)
one_cause k f ks TermLarge (NotPublic m) a b = absurd (b.1 a.1.public_symbol)
one_cause k f ks TermLarge (Arity m) a b = absurd (b.2 a.1.arity)
one_cause k f ks TermLarge (NoEntry m) a b = absurd (never_unknown k.entries ks a.1.args m a.1.at_numbers b.2)
one_cause k f ks TermLarge TermLarge a b = inr (inr refl)

-- each test comes out
bool_or_not : (b : Bool) → (b ≡ false) ⊎ (¬ (b ≡ false))
bool_or_not false = inl refl
bool_or_not true = inr (λ e. cc)

public_or_not : (o : Option Symbol) → MatchOption o ⊥ (λ (s : Symbol). s.private ≡ false) ⊎ (¬ MatchOption o ⊥ (λ (s : Symbol). s.private ≡ false))
public_or_not None = inr (λ h. h)
public_or_not (Some s) = bool_or_not s.private

nat_or_not : (m n : ℕ) → (m ≡ n) ⊎ (¬ (m ≡ n))
nat_or_not m n = elim (cases_lt m n) [
  | inl less ↦ inr (λ e. omega (arith, less, e))
  | inr most ↦ elim (cases_lt n m) [
    | inl less ↦ inr (λ e. omega (arith, less, e))
    | inr least ↦ inl (omega (arith, most, least))
  ]
]

arity_or_not : (o : Option ℕ) (n : ℕ) → (o ≡ Some n) ⊎ (¬ (o ≡ Some n))
arity_or_not None n = inr (λ e. cc)
arity_or_not (Some m) n = elim (nat_or_not m n) [ inl is ↦ inl (ap (λ k. Some k) is) | inr other ↦ inr (λ e. other (cc)) ]

known_or_not : (xs : List Tree) (ks : List ℕ) → ((ts : List Tree) × (map (slice_get xs) ks ≡ map Some ts)) ⊎ ((k : ℕ) × (find (nat_le (length xs)) ks ≡ Some k))
known_or_not xs [] = inl ([], refl)
known_or_not xs (k ∷ ks) = at (nat_le (length xs) k) refl (known_or_not xs ks) where
  there : nat_le (length xs) k ≡ false → (o : Option Tree) → slice_get xs k ≡ o → (t : Tree) × (slice_get xs k ≡ Some t)
  there e (Some t) s = (t, s)
  there e None s =
      let less : k < length xs = search (rules, e) in
      let found = slice_get-get_or xs k (fresh 0) less in
      absurd (cc)

  at : (b : Bool) → nat_le (length xs) k ≡ b → ((ts : List Tree) × (map (slice_get xs) ks ≡ map Some ts)) ⊎ ((j : ℕ) × (find (nat_le (length xs)) ks ≡ Some j)) → ((ts : List Tree) × (slice_get xs k ∷ map (slice_get xs) ks ≡ map Some ts)) ⊎ ((j : ℕ) × ((if nat_le (length xs) k then Some k else find (nat_le (length xs)) ks) ≡ Some j))
  at true e rest = inr (k, rw e refl)
  at false e (inr r) = inr (r.0, rw e r.1)
  at false e (inl r) = let h = there e (slice_get xs k) refl in inl (h.0 ∷ r.0, λ i. h.1 i ∷ r.1 i)

entries_or_not : (es : List Entry) (ks : List ℕ) → ((ts : List Tree) × AreTermsAt es ks ts) ⊎ ((k : ℕ) × (find (nat_le (length es)) ks ≡ Some k))
entries_or_not es ks =
    let l : length (terms_of es) ≡ length es = length-map es (λ (e : Entry). e.term) in
    subst (λ n. ((ts : List Tree) × AreTermsAt es ks ts) ⊎ ((k : ℕ) × (find (nat_le n) ks ≡ Some k))) l (known_or_not (terms_of es) ks)

-- the entries with a term more
abbrev more : Entries → List ℕ → List ℕ → Tree → Entries
more k f ks t = record { sig = k.sig; entries = k.entries ++ record { term = t; origin = Apply f ks } ∷ []; numbers = k.numbers ++ 0 ∷ [] }

gains : (k : Entries) (f ks : List ℕ) (t : Tree) → Gains k (more k f ks t) (Apply f ks) t
gains k f ks t = record { sig = refl; entries = refl; number = 0; numbers = refl }

pub some_answer : EachHasForm → ApplicationsHaveSomeAnswer
some_answer each k f ks = elim (public_or_not (find_symbol k.sig.symbols f)) [
  | inr private ↦ inr (NotPublic f, (refl, private), λ is. cc)
  | inl open_ ↦ elim (arity_or_not (arity_of k.sig f) (length ks)) [
    | inr other ↦ inr (Arity f, (refl, open_, other), λ is. cc)
    | inl arity ↦ elim (entries_or_not k.entries ks) [
      | inr n ↦ inr (NoEntry n.0, (open_, arity, n.1), λ is. cc)
      | inl ts ↦ (let n = each (equations k.sig) (apply f (trees_of ts.0)) in
          let application : IsApplication k.sig k.entries f ks n.0 = record { args = ts.0; public_symbol = open_; arity = arity; at_numbers = ts.1; form = n.1 } in
          elim (cases_lt MOST_TERM_NODES (node_count n.0)) [
            | inl large ↦ inr (TermLarge, (n.0, application, large), λ is. cc)
            | inr small ↦ inl (more k f ks n.0, record { term = n.0; application = application; within = small; gains = gains k f ks n.0 })
          ])
    ]
  ]
]
