-- The least names for locks and tags.
use Rattle.std.proofs.Common.{◌≡◌, ℕ, zero, suc, ◌+◌, ◌<◌, ◌≤◌, Bool, true, false, ◌||◌, List, [], ◌∷◌, ◌++◌, refl, sym, ap, ◌∙◌, subst, arith, append-nil}
use Rattle.std.specs.Prelude.{not, nat_eq}
use Rattle.std.proofs.lemmas.Bool.Decides.{Decides-eqb}
use Rattle.std.proofs.lemmas.Grind.{flat_map-append}
use Rattle.std.proofs.lemmas.List.Elements.{filter-append}
use Rattle.sap_runs.specs.declared.rule_step.RStep.{RStep}
use Rattle.sap_runs.specs.declared.process_step.PStep.{PStep}
use Rattle.sap_rule_lines.specs.Least.{is_among, drawn_by, names_drawn, made_by, names_made, not_drawn, numbers_below, IsNext}

abbrev top : List ℕ → ℕ
top [] = 0
top (m ∷ ms) = m + top ms

or_cases : (b c : Bool) → b ≡ false → c ≡ false → (b || c) ≡ false
or_cases b c e h = rw (e, h) refl

-- two numbers are the same or apart
pub data Cases (m n : ℕ) : Type 0 where
  same : nat_eq m n ≡ true → m ≡ n → Cases m n
  apart : nat_eq m n ≡ false → (m ≡ n → ⊥) → Cases m n

pub cases : (m n : ℕ) → Cases m n
cases m n = by (nat_eq m n) refl where
  by : (b : Bool) → nat_eq m n ≡ b → Cases m n
  by true e = same e ((Decides-eqb m n).0 e)
  by false e = apart e (λ is. absurd (let z : false ≡ true = sym e ∙ (Decides-eqb m n).1 is in cc))

nat_apart : (m n : ℕ) → m < n → nat_eq m n ≡ false
nat_apart m n h = elim (cases m n) [ same e is ↦ absurd (omega arith) | apart e differ ↦ e ]

above_all : (ms : List ℕ) (n : ℕ) → top ms < n → is_among ms n ≡ false
above_all [] n h = refl
above_all (m ∷ ms) n h = let k : m + top ms < n = h in or_cases (nat_eq m n) (is_among ms n) (nat_apart m n (omega arith)) (above_all ms n (omega arith))

strict : (k l : ℕ) → k ≤ l → (k ≡ l → ⊥) → k + 1 ≤ l
strict k l a differ = omega (arith, a, differ)

search_from : (drawn : List ℕ) (fuel bound : ℕ) → is_among drawn (bound + fuel) ≡ false → (n : ℕ) × IsNext drawn bound n
search_from drawn zero bound e = (bound, record { from = omega arith; free = subst (λ n. is_among drawn n ≡ false) (let s : bound + zero ≡ bound = omega arith in s) e; least = λ m a b. absurd (omega arith) })
search_from drawn (suc fuel) bound e = by (is_among drawn bound) refl (search_from drawn fuel (bound + 1) (subst (λ n. is_among drawn n ≡ false) (let s : bound + suc fuel ≡ bound + 1 + fuel = omega arith in s) e)) where
  same_or_above : (m n : ℕ) → is_among drawn bound ≡ true → IsNext drawn (bound + 1) n → bound ≤ m → m < n → is_among drawn m ≡ true
  same_or_above m n t h a b = elim (cases bound m) [
    | same e is ↦ subst (λ k. is_among drawn k ≡ true) is t
    | apart e differ ↦ h.least m (strict bound m a differ) b
  ]

  by : (b : Bool) → is_among drawn bound ≡ b → (n : ℕ) × IsNext drawn (bound + 1) n → (n : ℕ) × IsNext drawn bound n
  by true t (n, h) = (n, record { from = let f = h.from in omega arith; free = h.free; least = λ m a b. same_or_above m n t h a b })
  by false f r = (bound, record { from = omega arith; free = f; least = λ m a b. absurd (omega arith) })

-- there is a least number
pub next_from : (drawn : List ℕ) (bound : ℕ) → (n : ℕ) × IsNext drawn bound n
next_from drawn bound = search_from drawn (top drawn + 1) bound (above_all drawn (bound + (top drawn + 1)) (omega arith))

pub drawn_one : (drawn : List ℕ) (n : ℕ) → is_among drawn n ≡ true → not_drawn drawn (n ∷ []) ≡ []
drawn_one drawn n e = rw e refl

pub free_one : (drawn : List ℕ) (n : ℕ) → is_among drawn n ≡ false → not_drawn drawn (n ∷ []) ≡ n ∷ []
free_one drawn n e = rw e refl

pub not_drawn_join : (drawn ns ms : List ℕ) → not_drawn drawn (ns ++ ms) ≡ not_drawn drawn ns ++ not_drawn drawn ms
not_drawn_join drawn ns ms = filter-append (λ n. not (is_among drawn n)) ns ms

between : (drawn : List ℕ) (bound d : ℕ) → ((m : ℕ) → bound ≤ m → m < bound + d → is_among drawn m ≡ true) → not_drawn drawn (numbers_below (d + bound)) ≡ not_drawn drawn (numbers_below bound)
between drawn bound zero h = let e : 0 + bound ≡ bound = omega arith in ap (λ k. not_drawn drawn (numbers_below k)) e
between drawn bound (suc d) h =
    (let e : suc d + bound ≡ suc (d + bound) = omega arith in ap (λ k. not_drawn drawn (numbers_below k)) e) ∙ not_drawn_join drawn (numbers_below (d + bound)) ((d + bound) ∷ []) ∙ ap (λ x. not_drawn drawn (numbers_below (d + bound)) ++ x) (drawn_one drawn (d + bound) (h (d + bound) (omega arith) (omega arith)))
    ∙ append-nil (not_drawn drawn (numbers_below (d + bound))) ∙ between drawn bound d (λ m a b. h m a (omega arith))

distance : (a b : ℕ) → a ≤ b → (d : ℕ) × (d + a ≡ b)
distance zero b h = (b, omega arith)
distance (suc a) zero h = absurd (omega arith)
distance (suc a) (suc b) h = let r = distance a b (omega arith) in (r.0, let e = r.1 in omega arith)

-- one more name is given
pub next_given : (drawn : List ℕ) (bound n : ℕ) → IsNext drawn bound n → not_drawn drawn (numbers_below (n + 1)) ≡ not_drawn drawn (numbers_below bound) ++ n ∷ []
next_given drawn bound n h =
    let d = distance bound n h.from in
    let is : d.0 + bound ≡ n = d.1 in
    let next : n + 1 ≡ suc n = omega arith in
    ap (λ k. not_drawn drawn (numbers_below k)) next ∙ not_drawn_join drawn (numbers_below n) (n ∷ [])
    ∙ (λ i. (ap (λ k. not_drawn drawn (numbers_below k)) (sym is) ∙ between drawn bound d.0 (λ m a b. h.least m a (omega arith))) i ++ free_one drawn n h.free i)

-- a name that is drawn isn't one of them
pub drawn_given : (drawn : List ℕ) (bound n : ℕ) → is_among drawn n ≡ true → not_drawn drawn (numbers_below bound) ≡ not_drawn drawn (numbers_below bound) ++ not_drawn drawn (n ∷ [])
drawn_given drawn bound n e = sym (append-nil (not_drawn drawn (numbers_below bound))) ∙ ap (λ x. not_drawn drawn (numbers_below bound) ++ x) (sym (drawn_one drawn n e))

pub made_join : (lines more : List RStep) → names_made (lines ++ more) ≡ names_made lines ++ names_made more
made_join lines more = flat_map-append made_by lines more

pub drawn_join : (lines more : List PStep) → names_drawn (lines ++ more) ≡ names_drawn lines ++ names_drawn more
drawn_join lines more = flat_map-append drawn_by lines more

pub among_join : (ns ms : List ℕ) (n : ℕ) → is_among (ns ++ ms) n ≡ (is_among ns n || is_among ms n)
among_join [] ms n = refl
among_join (k ∷ ns) ms n = by (nat_eq k n) (among_join ns ms n) where
  by : (b : Bool) → is_among (ns ++ ms) n ≡ (is_among ns n || is_among ms n) → (b || is_among (ns ++ ms) n) ≡ ((b || is_among ns n) || is_among ms n)
  by true h = refl
  by false h = h

pub among_self : (n : ℕ) → is_among (n ∷ []) n ≡ true
among_self n = ap (λ b. b || false) ((Decides-eqb n n).1 refl)

pub or_left : (a b : Bool) → a ≡ true → (a || b) ≡ true
or_left a b e = rw e refl

pub or_right : (a b : Bool) → b ≡ true → (a || b) ≡ true
or_right true b e = refl
or_right false b e = e
