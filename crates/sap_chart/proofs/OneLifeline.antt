-- Each thread that acts in a row has one lifeline.
use Rattle.std.proofs.Common.{◌≡◌, ◌+◌, ◌||◌, ℕ, Bool, true, false, cond, List, [], ◌∷◌, ◌++◌, map, fold, flat_map, nat_eq, refl, sym, ap, subst, ◌∙◌, arith, if◌then◌else◌}
use Rattle.std.proofs.lemmas.Bool.{eqb-true}
use Rattle.std.proofs.lemmas.List.{map-append}
use Rattle.std.proofs.lemmas.List.Folds.{list_any-append}
use Rattle.std.proofs.lemmas.List.Sums.{sum_by-append}
use Rattle.std.specs.List.{count_by, list_any}
use Rattle.sap_tell.specs.ToldText.{thread_text}
use Rattle.sap_chart.specs.ChartLaws.{ThreadsHaveOneLifeline, acts_in}
use Rattle.sap_chart.specs.ChartText.{Lifeline, drawn_threads, named_threads, with_lifeline}
use Rattle.sap_chart.specs.Rows.{Row, threads_of}
use Rattle.sap_chart.proofs.Found.{comes_if, stays_if}

abbrev one : Bool → ℕ
one b = if b then 1 else 0

or_false : (b : Bool) → b ≡ (b || false)
or_false true = refl
or_false false = refl

or_assoc : (a b c : Bool) → ((a || b) || c) ≡ (a || (b || c))
or_assoc true b c = refl
or_assoc false b c = refl

-- how many lifelines the thread has, and whether it has one
abbrev many : ℕ → List Lifeline → ℕ
many t ls = count_by (nat_eq t) (drawn_threads ls)

abbrev has : ℕ → List Lifeline → Bool
has t ls = list_any (nat_eq t) (drawn_threads ls)

many_pushed : (t : ℕ) (ls : List Lifeline) (a : Lifeline) → many t (ls ++ a ∷ []) ≡ many t ls + one (nat_eq t a.0)
many_pushed t ls a =
    let last : 0 + one (nat_eq t a.0) ≡ one (nat_eq t a.0) = omega arith in
    ap (count_by (nat_eq t)) (map-append (λ (l : Lifeline). l.0) ls (a ∷ [])) ∙ sum_by-append (λ n. cond (nat_eq t n) 1 0) (drawn_threads ls) (a.0 ∷ []) ∙ ap (λ n. many t ls + n) last

has_pushed : (t : ℕ) (ls : List Lifeline) (a : Lifeline) → has t (ls ++ a ∷ []) ≡ (has t ls || nat_eq t a.0)
has_pushed t ls a =
    ap (list_any (nat_eq t)) (map-append (λ (l : Lifeline). l.0) ls (a ∷ [])) ∙ list_any-append (nat_eq t) (drawn_threads ls) (a.0 ∷ [])
    ∙ ap (λ b. has t ls || b) (sym (or_false (nat_eq t a.0)))

-- one more thread has a lifeline, if it had none
record HasOneMore (t : ℕ) (ls : List Lifeline) (a : Lifeline) (ks : List Lifeline) : Type 0 where
  once : many t ks ≡ one (has t ks)
  also : has t ks ≡ (has t ls || nat_eq t a.0)

stays : (t : ℕ) (ls : List Lifeline) (a : Lifeline) → many t ls ≡ one (has t ls) → list_any (nat_eq a.0) (drawn_threads ls) ≡ true → HasOneMore t ls a ls
stays t ls a h e = record { once = h; also = at (nat_eq t a.0) refl } where
  at : (b : Bool) → nat_eq t a.0 ≡ b → has t ls ≡ (has t ls || b)
  at true k =
      let same : t ≡ a.0 = eqb-true t a.0 k in
      let is : has t ls ≡ true = subst (λ n. list_any (nat_eq n) (drawn_threads ls) ≡ true) (sym same) e in
      is ∙ ap (λ c. c || true) (sym is)
  at false k = or_false (has t ls)

comes : (t : ℕ) (ls : List Lifeline) (a : Lifeline) → many t ls ≡ one (has t ls) → list_any (nat_eq a.0) (drawn_threads ls) ≡ false → HasOneMore t ls a (ls ++ a ∷ [])
comes t ls a h e = record { once = many_pushed t ls a ∙ at (nat_eq t a.0) refl ∙ ap one (sym (has_pushed t ls a)); also = has_pushed t ls a } where
  at : (b : Bool) → nat_eq t a.0 ≡ b → many t ls + one b ≡ one (has t ls || b)
  at true k =
      let same : t ≡ a.0 = eqb-true t a.0 k in
      let is : has t ls ≡ false = subst (λ n. list_any (nat_eq n) (drawn_threads ls) ≡ false) (sym same) e in
      let none : many t ls ≡ 0 = h ∙ ap one is in
      rw (none, is) refl
  at false k =
      let more : many t ls + 0 ≡ many t ls = omega arith in
      more ∙ h ∙ ap one (or_false (has t ls))

one_more : (t : ℕ) (ls : List Lifeline) (a : Lifeline) → many t ls ≡ one (has t ls) → HasOneMore t ls a (with_lifeline ls a)
one_more t ls a h = at (list_any (nat_eq a.0) (drawn_threads ls)) refl where
  at : (b : Bool) → list_any (nat_eq a.0) (drawn_threads ls) ≡ b → HasOneMore t ls a (with_lifeline ls a)
  at true e = subst (HasOneMore t ls a) (stays_if ls a e) (stays t ls a h e)
  at false e = subst (HasOneMore t ls a) (comes_if ls a e) (comes t ls a h e)

all_once : (t : ℕ) (more ls : List Lifeline) → many t ls ≡ one (has t ls) → many t (fold with_lifeline ls more) ≡ one (has t ls || has t more)
all_once t [] ls h = h ∙ ap one (or_false (has t ls))
all_once t (a ∷ more) ls h =
    let first = one_more t ls a h in
    all_once t more (with_lifeline ls a) first.once ∙ ap (λ b. one (b || has t more)) first.also ∙ ap one (or_assoc (has t ls) (nat_eq t a.0) (has t more))

-- the threads of named threads
unnamed : (name : ℕ → List ℕ) (ts : List ℕ) → drawn_threads (map (λ t. (t, name t)) ts) ≡ ts
unnamed name [] = refl
unnamed name (t ∷ ts) = ap (λ us. t ∷ us) (unnamed name ts)

acting : (t : ℕ) (rows : List Row) → has t (flat_map named_threads rows) ≡ acts_in rows t
acting t [] = refl
acting t (r ∷ rs) =
    ap (list_any (nat_eq t)) (map-append (λ (l : Lifeline). l.0) (named_threads r) (flat_map named_threads rs))
    ∙ list_any-append (nat_eq t) (drawn_threads (named_threads r)) (drawn_threads (flat_map named_threads rs))
    ∙ (λ i. list_any (nat_eq t) (unnamed (thread_text r.stage) (threads_of r.figure) i) || acting t rs i)

pub one_lifeline : ThreadsHaveOneLifeline
one_lifeline rows t = all_once t (flat_map named_threads rows) [] refl ∙ ap one (acting t rows)
