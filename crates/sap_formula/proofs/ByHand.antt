-- The worked examples of truth.
use Rattle.std.proofs.Common.{◌≡◌, ◌<◌, ◌∙◌, ℕ, zero, suc, sym, [], ◌∷◌, Bool, true, false, refl, ap, subst, inl, inr, lit<, arith}
use Rattle.std.specs.Str.{bytes_eq}
use Rattle.std.specs.Prelude.{codes, IsTrue}
use Rattle.sap_terms.specs.Tree.{Tree, variable}
use Rattle.sap_terms.specs.Same.{same_tree}
use Rattle.sap_terms.specs.Choice.{fits_sort}
use Rattle.sap_terms.specs.Signature.{Sig}
use Rattle.sap_terms.specs.Equations.{equations, first}
use Rattle.sap_terms.specs.Equal.{IsTheoryEqual, same, next, forward, backward}
use Rattle.sap_terms.specs.declared.var.Sort.TheVariants.{Msg, Fresh, Pub}
use Rattle.sap_terms.specs.Laws.{NamesAreMessages}
use Rattle.sap_terms.specs.Message.{IsMessage}
use Rattle.sap_terms.specs.Normal.{IsNormal}
use Rattle.sap_rewrite.specs.Laws.{NormalTermsDecide}
use Rattle.sap_terms.specs.Trace.{Trace}
use Rattle.sap_formula.specs.Truth.{AnyIn, EachIn, Shows, facts_at, IsTrueOn}
use Rattle.sap_formula.specs.HoldsOf.{AreTrueOn}
use Rattle.sap_formula.specs.Examples.{a, b, x, fresh_x, public_x, fact, other_fact, trace_a, trace_aa, trace_ab, IsEither, only_a, some_time, two_times, some_b, two_binders, first_of_pair, first_is, one_time_alone, true_ones, false_ones}

abbrev is_b : Tree → Bool
is_b t = same_tree t b

message_a : NamesAreMessages → (g : Sig) → IsMessage g Msg a
message_a names g = names.public_name g Msg (codes "a") refl

message_b : NamesAreMessages → (g : Sig) → IsMessage g Msg b
message_b names g = names.public_name g Msg (codes "b") refl

-- messages that are theory-equal are the same
same_message : NormalTermsDecide → (g : Sig) (t u : Tree) → IsNormal (equations g) t → IsNormal (equations g) u → IsTheoryEqual (equations g) t u → t ≡ u
same_message decide g t u m n h = (decide (equations g) t u m n).0 h

pub other_time : NamesAreMessages → NormalTermsDecide → (g : Sig) → ¬ IsTrueOn g only_a trace_ab
other_time names decide g h =
    let e = h b (message_b names g) 1 (lit< tt) (inl (refl, (same, tt))) in
    let p = same_message decide g b a (message_b names g).normal (message_a names g).normal e in
    let q : true ≡ false = ap is_b p in
    cc

pub tables_true : (g : Sig) (tr : Trace) → EachIn (λ f. IsTrueOn g f tr) true_ones
tables_true g shown = (tt, ((λ z. z), ((tt, tt), (inl tt, (inl tt, (inr tt, ((λ _. tt), ((λ _. tt), ((λ z. z), (((λ z. z), (λ z. z)), (((λ z. z), (λ z. z)), tt)))))))))))

pub tables_false : (g : Sig) (tr : Trace) → EachIn (λ f. ¬ IsTrueOn g f tr) false_ones
tables_false g shown = ((λ z. z), ((λ h. h tt), ((λ h. h.1), ((λ h. h.0), ((λ h. h.0), ((λ h. elim h [ inl y ↦ y | inr z ↦ z ]), ((λ h. h tt), ((λ h. h.0 tt), ((λ h. h.1 tt), tt)))))))))

pub equal_up_to_theory : (g : Sig) → IsTrueOn g (first_is a) []
equal_up_to_theory g = next (forward first) same

pub equal_to_no_other : NamesAreMessages → NormalTermsDecide → (g : Sig) → ¬ IsTrueOn g (first_is b) []
equal_to_no_other names decide g h =
    let p = same_message decide g a b (message_a names g).normal (message_b names g).normal (next (backward first) h) in
    let q : false ≡ true = ap is_b p in
    cc

shows_a : NamesAreMessages → NormalTermsDecide → (g : Sig) (k : ℕ) → AnyIn (Shows (equations g) (λ v. variable v) (fact false (a ∷ []))) (facts_at trace_ab k) → k ≡ 0
shows_a names decide g zero h = refl
shows_a names decide g (suc zero) (inl h) =
    let p = same_message decide g a b (message_a names g).normal (message_b names g).normal h.1.0 in
    let q : false ≡ true = ap is_b p in
    cc
shows_a names decide g (suc zero) (inr h) = absurd h
shows_a names decide g (suc (suc k)) h = absurd h

pub same_time : NamesAreMessages → NormalTermsDecide → (g : Sig) → IsTrueOn g one_time_alone trace_ab
same_time names decide g k l j m h = shows_a names decide g k h.0 ∙ sym (shows_a names decide g j h.1)

pub another_time : (g : Sig) → ¬ IsTrueOn g one_time_alone trace_aa
another_time g h = let e : 0 ≡ 1 = h 0 (lit< tt) 1 (lit< tt) (inl (refl, (same, tt)), inl (refl, (same, tt))) in let P : ℕ → Type 0 = λ n. elim n [ zero ↦ Unit {0} | suc m ↦ ⊥ ] in subst P e tt

pub public_names : NamesAreMessages → (g : Sig) → IsTrueOn g (some_b public_x) []
public_names names g = (b, names.public_name g Pub (codes "b") refl, same)

pub up_to_theory : (g : Sig) → IsTrueOn g (some_time first_of_pair) trace_a
up_to_theory g = (0, lit< tt, inl (refl, (next (forward first) same, tt)))

pub persistent : (g : Sig) → IsTrueOn g (some_time a) ((fact true (a ∷ []) ∷ []) ∷ [])
persistent g = (0, lit< tt, inl (refl, (same, tt)))

never : true ≡ false → ⊥
never q = cc

pub other_name : (g : Sig) → ¬ IsTrueOn g (some_time a) ((other_fact ∷ []) ∷ [])
other_name g (zero, l, inl h) = never (ap (λ n. bytes_eq n (codes "A")) h.0)
other_name g (zero, l, inr h) = absurd h
other_name g (suc k, l, h) = absurd h

pub any_fact : (g : Sig) → IsTrueOn g (some_time a) ((other_fact ∷ fact false (a ∷ []) ∷ []) ∷ [])
any_fact g = (0, lit< tt, inr (inl (refl, (same, tt))))

pub all_terms : NamesAreMessages → (g : Sig) → IsTrueOn g (some_b x) []
all_terms names g = (b, message_b names g, same)

pub sorts : NamesAreMessages → NormalTermsDecide → (g : Sig) → ¬ IsTrueOn g (some_b fresh_x) []
sorts names decide g h =
    let p = same_message decide g h.0 b h.1.normal (message_b names g).normal h.2 in
    let s = subst (λ t. IsTrue (fits_sort Fresh t)) p h.1.sorted in
    cc

pub innermost : NamesAreMessages → (g : Sig) → IsTrueOn g two_binders trace_ab
innermost names g =
    (a, message_a names g, (0, lit< tt, (inl (refl, (same, tt)), (b, message_b names g, (1, lit< tt, (inl (refl, (same, tt)), lit< tt))))))

not_two_times : (g : Sig) → ¬ AreTrueOn g (two_times ∷ []) trace_a
not_two_times g h =
    let k = h.0.0 in
    let j = h.0.2.0 in
    let p : k < 1 = h.0.1 in
    let q : j < 1 = h.0.2.1 in
    let r : k < j = h.0.2.2 in
    omega arith

pub some_restricted : (g : Sig) (tr : Trace) → ¬ IsTrueOn g only_a trace_ab → IsEither tr → AreTrueOn g (two_times ∷ []) tr → IsTrueOn g only_a tr → ⊥
some_restricted g tr never either two only =
    elim either [
      | inl p ↦ not_two_times g (subst (λ s. AreTrueOn g (two_times ∷ []) s) p two)
      | inr p ↦ never (subst (λ s. IsTrueOn g only_a s) p only)
    ]
