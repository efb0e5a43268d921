-- Hiding facts keeps the truth of a formula that doesn't speak of them.
use Rattle.std.proofs.Common.{◌++◌, not, ◌≡◌, ℕ, zero, suc, ◌+◌, ◌<◌, List, [], ◌∷◌, Bool, true, false, length, refl, sym, ap, subst, ◌∙◌, ◌⊎◌, inl, inr, if◌then◌else◌, ◌↔◌, arith, cond}
use Rattle.std.specs.Prelude.{filter}
use Rattle.std.specs.List.{flat_map}
use Rattle.std.proofs.lemmas.Bool.{cases_lt}
use Rattle.sap_formula.specs.Form.{Form}
use Rattle.sap_formula.specs.Times.{IsTime}
use Rattle.sap_formula.specs.Truth.{AnyIn, EachIn, IsTrueOn, facts_at}
use Rattle.sap_terms.specs.Message.{IsMessage}
use Rattle.sap_terms.specs.Signature.{Sig}
use Rattle.sap_terms.specs.Equations.{equations}
use Rattle.sap_terms.specs.Trace.{Trace, shown}
use Rattle.sap_terms.specs.Tree.{Tree, trees_of, variable}
use Rattle.sap_terms.specs.declared.fact.Fact.{Fact}
use Rattle.sap_formula.proofs.Alike.{alike}
use Rattle.sap_formula.proofs.Goods.{goods_at}
use Rattle.sap_formula.specs.Messages.{HasMessages}
use Rattle.sap_formula.proofs.Law.{AllSeen, Among, Seen, Within, each_both, law}
use Rattle.sap_formula.proofs.Plain.{NormalLaws, leaf-normal}
use Rattle.sap_formula.proofs.Slimmer.{hidden_binder_law, renamed, slim_checked, slim_once, weaker}
use Rattle.sap_formula.proofs.Subterms.{each_within}
use Rattle.sap_formula.specs.Checked.{BindsOnce, IsChecked}
use Rattle.sap_formula.specs.Hide.{is_hidden}
use Rattle.sap_formula.specs.Laws.{HideLaw}
use Rattle.sap_terms.specs.Message.{IsMessageTrace}
use Rattle.sap_formula.specs.Slim.{slim}

-- the facts of a time whose names pass the test
abbrev pub facts_with : (List ℕ → Bool) → List Fact → List Fact
facts_with vis time = filter (λ f. vis f.name) time

-- the times with those facts alone, but for times that have none
abbrev pub keeps : (List ℕ → Bool) → Trace → Trace
keeps vis tr = flat_map (λ time. shown (facts_with vis time)) tr

abbrev is_filled : List Fact → Bool
is_filled [] = false
is_filled (f ∷ p) = true

abbrev kept_by : (List ℕ → Bool) → Trace → Trace
kept_by vis [] = []
kept_by vis (p ∷ tr) = if is_filled (facts_with vis p) then facts_with vis p ∷ kept_by vis tr else kept_by vis tr

shown_first : (p : List Fact) (tr : Trace) → (if is_filled p then p ∷ tr else tr) ≡ shown p ++ tr
shown_first [] tr = refl
shown_first (f ∷ p) tr = refl

kept_is : (vis : List ℕ → Bool) (tr : Trace) → kept_by vis tr ≡ keeps vis tr
kept_is vis [] = refl
kept_is vis (p ∷ tr) = shown_first (facts_with vis p) (kept_by vis tr) ∙ ap (λ z. shown (facts_with vis p) ++ z) (kept_is vis tr)

any_visible : (vis : List ℕ → Bool) (Q : Fact → Type 0) → ((x : Fact) → Q x → vis x.name ≡ true) → (p : List Fact) → AnyIn Q p ↔ AnyIn Q (facts_with vis p)
any_visible vis Q q [] = (λ h. h, λ h. h)
any_visible vis Q q (f ∷ p) =
    let r = any_visible vis Q q p in
    elim (vis f.name) as (λ b. vis f.name ≡ b → (Q f ⊎ AnyIn Q p) ↔ AnyIn Q (cond b (f ∷ facts_with vis p) (facts_with vis p))) [
      | true ↦ λ e. (λ h. elim h [ inl x ↦ inl x | inr x ↦ inr (r.0 x) ], λ h. elim h [ inl x ↦ inl x | inr x ↦ inr (r.1 x) ])
      | false ↦ λ e. (λ h. elim h [ inl x ↦ let t = q f x in absurd (cc) | inr x ↦ r.0 x ], λ h. inr (r.1 h))
    ] refl

abbrev IsFilled : (List ℕ → Bool) → List Fact → Type 0
IsFilled vis p = is_filled (facts_with vis p) ≡ true

filled_head : (vis : List ℕ → Bool) (f : Fact) (p : List Fact) → vis f.name ≡ true → IsFilled vis (f ∷ p)
filled_head vis f p h = subst (λ b. is_filled (cond b (f ∷ facts_with vis p) (facts_with vis p)) ≡ true) (sym h) refl

filled_tail : (vis : List ℕ → Bool) (f : Fact) (p : List Fact) → IsFilled vis p → IsFilled vis (f ∷ p)
filled_tail vis f p h = elim (vis f.name) as (λ b. is_filled (cond b (f ∷ facts_with vis p) (facts_with vis p)) ≡ true) [ true ↦ refl | false ↦ h ]

each_filled : (vis : List ℕ → Bool) (S : Type 0) (p : List Fact) → (IsFilled vis p → S) → EachIn (λ f. vis f.name ≡ true → S) p
each_filled vis S [] h = tt
each_filled vis S (f ∷ p) h = (λ e. h (filled_head vis f p e), each_filled vis S p (λ e. h (filled_tail vis f p e)))

abbrev weight : Bool → ℕ
weight true = 1
weight false = 0

-- how many visible times stand before
abbrev rank : (List ℕ → Bool) → Trace → ℕ → ℕ
rank vis [] k = 0
rank vis (p ∷ tr) zero = 0
rank vis (p ∷ tr) (suc k) = weight (is_filled (facts_with vis p)) + rank vis tr k

rank_facts : (vis : List ℕ → Bool) (tr : Trace) (k : ℕ) → IsFilled vis (facts_at tr k) → facts_at (kept_by vis tr) (rank vis tr k) ≡ facts_with vis (facts_at tr k)
rank_facts vis [] k h = absurd (cc)
rank_facts vis (p ∷ tr) zero h = ap (λ (b : Bool). facts_at (if b then facts_with vis p ∷ kept_by vis tr else kept_by vis tr) 0) h
rank_facts vis (p ∷ tr) (suc k) h =
    let r = rank_facts vis tr k h in
    elim (is_filled (facts_with vis p)) as (λ b. facts_at (if b then facts_with vis p ∷ kept_by vis tr else kept_by vis tr) (weight b + rank vis tr k) ≡ facts_with vis (facts_at tr k)) [
      | true ↦ let e : 1 + rank vis tr k ≡ suc (rank vis tr k) = omega arith in rw e r
      | false ↦ let e : 0 + rank vis tr k ≡ rank vis tr k = omega arith in rw e r
    ]

rank_below : (vis : List ℕ → Bool) (tr : Trace) (k : ℕ) → IsFilled vis (facts_at tr k) → rank vis tr k < length (kept_by vis tr)
rank_below vis [] k h = absurd (cc)
rank_below vis (p ∷ tr) zero h = subst (λ (b : Bool). 0 < length (if b then facts_with vis p ∷ kept_by vis tr else kept_by vis tr)) (sym h) (omega arith)
rank_below vis (p ∷ tr) (suc k) h =
    let r = rank_below vis tr k h in
    elim (is_filled (facts_with vis p)) as (λ b. weight b + rank vis tr k < length (if b then facts_with vis p ∷ kept_by vis tr else kept_by vis tr)) [ true ↦ omega arith | false ↦ omega arith ]

rank_less : (vis : List ℕ → Bool) (tr : Trace) (i j : ℕ) → IsFilled vis (facts_at tr i) → i < j → rank vis tr i < rank vis tr j
rank_less vis [] i j h l = absurd (cc)
rank_less vis (p ∷ tr) i zero h l = absurd (omega arith)
rank_less vis (p ∷ tr) zero (suc j) h l = let e = ap weight h in omega arith
rank_less vis (p ∷ tr) (suc i) (suc j) h l = let k : i < j = omega arith in let r = rank_less vis tr i j h k in omega arith

record Source (vis : List ℕ → Bool) (tr : Trace) (k' : ℕ) : Type 0 where
  time : ℕ
  below : time < length tr
  filled : IsFilled vis (facts_at tr time)
  is : k' ≡ rank vis tr time

source : (vis : List ℕ → Bool) (tr : Trace) (k' : ℕ) → k' < length (kept_by vis tr) → Source vis tr k'
source vis [] k' l = absurd (omega arith)
source vis (p ∷ tr) k' l = at (is_filled (facts_with vis p)) refl k' (source vis tr) l where
  at : (b : Bool) → is_filled (facts_with vis p) ≡ b → (k' : ℕ) → ((j : ℕ) → j < length (kept_by vis tr) → Source vis tr j) → k' < length (if b then facts_with vis p ∷ kept_by vis tr else kept_by vis tr) → Source vis (p ∷ tr) k'
  at true e zero f l = record { time = 0; below = omega arith; filled = e; is = refl }
  at true e (suc j) f l =
      let w = f j (omega arith) in
      let b = w.below in
      let i = w.is in
      let c = ap weight e in
      record { time = suc w.time; below = omega arith; filled = w.filled; is = omega arith }
  at false e j f l =
      let w = f j l in
      let b = w.below in
      let i = w.is in
      let c = ap weight e in
      record { time = suc w.time; below = omega arith; filled = w.filled; is = omega arith }

filled_below : (vis : List ℕ → Bool) (tr : Trace) (k : ℕ) → IsFilled vis (facts_at tr k) → k < length tr
filled_below vis [] k h = absurd (cc)
filled_below vis (p ∷ tr) zero h = omega arith
filled_below vis (p ∷ tr) (suc k) h = let r = filled_below vis tr k h in omega arith

-- a visible time and its number after hiding
abbrev Moved : (List ℕ → Bool) → Trace → ℕ → ℕ → Type 0
Moved vis tr k k' = IsFilled vis (facts_at tr k) × (k' ≡ rank vis tr k)

moved_order : (vis : List ℕ → Bool) (tr : Trace) (i j i' j' : ℕ) → Moved vis tr i i' → Moved vis tr j j' → (i < j) ↔ (i' < j')
moved_order vis tr i j i' j' m n =
    let p = m.1 in
    let q = n.1 in (
      λ l. let r = rank_less vis tr i j m.0 l in omega arith,
      λ l. elim (cases_lt i j) [
        | inl k ↦ k
        | inr k ↦ elim (cases_lt j i) [
          | inl o ↦ let r = rank_less vis tr j i n.0 o in absurd (omega arith)
          | inr o ↦ let e : i ≡ j = omega arith in let r = ap (rank vis tr) e in absurd (omega arith)
        ]
      ],
    )

moved_one : (vis : List ℕ → Bool) (tr : Trace) (i j i' j' : ℕ) → Moved vis tr i i' → Moved vis tr j j' → (i ≡ j) ↔ (i' ≡ j')
moved_one vis tr i j i' j' m n =
    let p = m.1 in
    let q = n.1 in (
      λ e. p ∙ ap (rank vis tr) e ∙ sym q,
      λ e. elim (cases_lt i j) [
        | inl k ↦ let r = rank_less vis tr i j m.0 k in absurd (omega arith)
        | inr k ↦ elim (cases_lt j i) [ inl o ↦ let r = rank_less vis tr j i n.0 o in absurd (omega arith) | inr o ↦ omega arith ]
      ],
    )

moved_facts : (vis : List ℕ → Bool) (tr : Trace) (k k' : ℕ) → Moved vis tr k k' → (Q : Fact → Type 0) → ((x : Fact) → Q x → vis x.name ≡ true) → AnyIn Q (facts_at tr k) ↔ AnyIn Q (facts_at (kept_by vis tr) k')
moved_facts vis tr k k' m Q q =
    let e = ap (facts_at (kept_by vis tr)) m.1 ∙ rank_facts vis tr k m.0 in
    let r = any_visible vis Q q (facts_at tr k) in
    (λ h. subst (AnyIn Q) (sym e) (r.0 h), λ h. r.1 (subst (AnyIn Q) e h))

abbrev Nothing : Tree → Type 0
Nothing t = Unit {0}

seen_visible : (vis : List ℕ → Bool) (g : Sig) (tr : Trace) → IsMessageTrace g tr → AllSeen g (λ n. vis n ≡ true) Nothing (λ k. IsFilled vis (facts_at tr k)) tr
seen_visible vis g tr m k =
    let R = λ (k : ℕ). IsFilled vis (facts_at tr k) in
    each_both (HasMessages g) (λ f. vis f.name ≡ true → R k) (Seen g (λ n. vis n ≡ true) Nothing R k) (facts_at tr k) (λ f d e. record { normal = d.2; terms = λ v. each_within Nothing (trees_of f.args) (λ u i. tt); time = e }) (goods_at g tr m k) (each_filled vis (R k) (facts_at tr k) (λ e. e))

once_law : NormalLaws → (vis : List ℕ → Bool) (g : Sig) (f : Form) (tr : Trace) → IsMessageTrace g tr → IsChecked g (λ n. vis n ≡ true) [] f → BindsOnce f → IsTrueOn g f tr ↔ IsTrueOn g f (kept_by vis tr)
once_law w vis g f tr m c o =
    let V = λ (n : List ℕ). vis n ≡ true in
    let R = λ (k : ℕ). IsFilled vis (facts_at tr k) in
    let l = law w g V Nothing R tr (seen_visible vis g tr m) (IsMessage g) (IsTime tr) (λ s t d. d.normal) f [] (λ v. variable v) (λ n. 0) c o (λ v. leaf-normal w (equations g) v) in
    let a = alike g V tr (kept_by vis tr) (Within (IsMessage g) Nothing) (IsMessage g) (Among (IsTime tr) R) (IsTime (kept_by vis tr)) (Moved vis tr)
    (λ s t. (λ d. d.0, λ d. (d, tt)))
    (λ k p. (rank vis tr k, rank_below vis tr k p.1, (p.1, refl)))
    (λ k' p. let w = source vis tr k' p in (w.time, (w.below, w.filled), (w.filled, w.is)))
    (moved_one vis tr) (moved_order vis tr) (moved_facts vis tr)
    f [] (λ v. variable v) (λ n. 0) (λ v. variable v) (λ n. 0) c (record { terms = λ v h. refl; times = λ n h. absurd (cc) }) (equations g) in
    (λ h. a.0 (l.0 h), λ h. l.1 (a.1 h))

-- leaving out facts of which a formula doesn't speak keeps its truth
pub keep_law : NormalLaws → (vis : List ℕ → Bool) (g : Sig) (f : Form) (tr : Trace) → IsMessageTrace g tr → IsChecked g (λ n. vis n ≡ true) [] f → IsTrueOn g f tr ↔ IsTrueOn g f (keeps vis tr)
keep_law w vis g f tr m c =
    let V = λ (n : List ℕ). vis n ≡ true in
    let p = hidden_binder_law w g f tr (weaker g V f [] c) in
    let r = once_law w vis g (slim f) tr m (slim_checked g V f [] [] (λ n a. refl) c) (slim_once f) in
    let q = hidden_binder_law w g f (kept_by vis tr) (weaker g V f [] c) in
    let e = kept_is vis tr in
    (λ h. subst (IsTrueOn g f) e (q.1 (r.0 (p.0 h))), λ h. p.1 (r.1 (q.0 (subst (IsTrueOn g f) (sym e) h))))

not_false : (b : Bool) → b ≡ false → not b ≡ true
not_false true e = absurd (cc)
not_false false e = refl

pub hide_law : NormalLaws → HideLaw
hide_law w g f tr m c = keep_law w (λ name. not (is_hidden name)) g f tr m (renamed g (λ n. is_hidden n ≡ false) (λ n. not (is_hidden n) ≡ true) (λ n e. not_false (is_hidden n) e) f [] c)
